-- Bytes written into a buffer.
use Rattle.std.specs.Prelude.{ℕ, ◌+◌, ◌/◌, ◌%◌, List, [], ◌∷◌, set}

-- a buffer with bytes written into it from a place on
unfoldable pub written : List ℕ → ℕ → List ℕ → List ℕ
written buf at [] = buf
written buf at (b ∷ bs) = written (set buf at b) (at + 1) bs

-- the four bytes of a number, little-endian
abbrev pub word_bytes : ℕ → List ℕ
word_bytes n = n % 256 ∷ n / 256 % 256 ∷ n / 65536 % 256 ∷ n / 16777216 % 256 ∷ []
