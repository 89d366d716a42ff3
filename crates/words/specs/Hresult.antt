-- An HRESULT.
use Rattle.std.specs.Prelude.{ℕ, Bool, ltb}

-- 01 "Completions": success is the top bit clear
abbrev pub succeeded : ℕ → Bool
succeeded result = ltb result 0x8000_0000
