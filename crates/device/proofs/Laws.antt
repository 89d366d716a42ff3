-- What the rows say of a message: the field that a row names is the word at the row's offset, and capabilities are allowed by what the bytes are.
use Rattle.std.specs.Prelude.{Result, Ok, Err}
use Prim.Native.Nat.{ℕ, ◌+◌}
use native.Mathlib.Nat.{add-zero}
use native.Mathlib.Omega.{arith}
use mathlib.Core.Path.{◌≡◌}
use mathlib.Core.List.{List, map}
use mathlib.Core.Bool.{Bool, true, false, cond, ◌&&◌}
use lib.Dec.{ltb}
use Rattle.words.specs.Words.{word_at}
use Rattle.words.specs.Layout.{left}
use Rattle.words.proofs.Steps.{ok_value}
use Rattle.device.specs.DeviceCapabilities.{capabilities_of, capability_rows, capabilities_allowed, rows_allow, field_by, word_by, speed_suits_bus}
use Rattle.device.specs.declared.device_capabilities.DeviceCapabilities.{DeviceCapabilities}
use Rattle.words.specs.declared.layout.Fault.{Fault}

-- a reading that fits is that of the seven words
fitted : (b : Bool) (f : Fault) (d c : DeviceCapabilities) (behind end : ℕ) → cond {A = Result (DeviceCapabilities × ℕ) Fault} b (Err f) (Ok (d, behind)) ≡ Ok (c, end) → d ≡ c
fitted true f d c behind end e = let z : ◌≡◌ {A = ℕ} 0 1 = cc in absurd (omega arith)
fitted false f d c behind end e = ok_value d c behind end e

pub read_at_offsets : (m : List ℕ) (at end : ℕ) (c : DeviceCapabilities) → capabilities_of m at ≡ Ok (c, end)
    → map (field_by c) capability_rows ≡ map (word_by m at) capability_rows
unfolding capabilities_of capability_rows
read_at_offsets m at end c e = rw (← (fitted (ltb (left m at) 28) _ _ c (at + 28) end e), add-zero at)

pub allowed_by_bytes : (m : List ℕ) (at end : ℕ) (c : DeviceCapabilities) → capabilities_of m at ≡ Ok (c, end) → capabilities_allowed c ≡ rows_allow (word_by m at) capability_rows && speed_suits_bus (word_at m (at + 4)) (word_at m (at + 20))
unfolding capabilities_of capability_rows capabilities_allowed
allowed_by_bytes m at end c e = rw (← (fitted (ltb (left m at) 28) _ _ c (at + 28) end e), add-zero at)
