-- A text and the capabilities that were read end where their fields say, within the message.
use Rattle.std.specs.Prelude.{Result, Ok, Err}
use Prim.Native.Nat.{ℕ, ◌+◌, ◌*◌, ◌≤◌}
use native.Mathlib.Omega.{arith}
use mathlib.Core.Path.{◌≡◌, refl}
use mathlib.Core.List.{List}
use lib.ListN.{length}
use lib.Dec.{ltb}
use borrow.Author.Tests.{ltb-false}
use Rattle.words.specs.Words.{word_at}
use Rattle.words.specs.Layout.{left, Within}
use Rattle.wire_laws.specs.Device.{text_size}
use Rattle.texts.specs.Text.{text_of, units_of}
use Rattle.device.specs.DeviceCapabilities.{capabilities_of}
use Rattle.words.proofs.Steps.{by_test, field_by}
use Rattle.words.specs.declared.layout.Fault.{Fault}
use Rattle.texts.specs.declared.text.Text.{Text}
use Rattle.device.specs.declared.device_capabilities.DeviceCapabilities.{DeviceCapabilities}

abbrev pub TextGood : List ℕ → ℕ → Result (Text × ℕ) Fault → Type 0
TextGood m at (Ok (t, end)) = (end ≡ at + text_size t) × (end ≤ length m) × (8 ≤ at → Within (length m) t.units)
TextGood m at (Err f) = Unit {0}

abbrev pub CapabilitiesGood : List ℕ → ℕ → Result (DeviceCapabilities × ℕ) Fault → Type 0
CapabilitiesGood m at (Ok (c, end)) = (end ≡ at + 28) × (end ≤ length m)
CapabilitiesGood m at (Err f) = Unit {0}

pub text_good : (m : List ℕ) (at : ℕ) → TextGood m at (text_of m at)
unfolding text_of units_of
text_good m at =
    field_by (TextGood m at) (λ f. tt) m at 4 _ λ a. field_by (TextGood m at) (λ f. tt) m (at + 4) (2 * word_at m at) _ λ b.
    (omega arith, omega arith, λ h. (omega arith, omega arith))

pub capabilities_good : (m : List ℕ) (at : ℕ) → CapabilitiesGood m at (capabilities_of m at)
unfolding capabilities_of
capabilities_good m at = by_test (CapabilitiesGood m at) (λ f. tt) (ltb (left m at) 28) _ _ (λ e. let z = ltb-false (left m at) 28 e in (refl, omega arith))
