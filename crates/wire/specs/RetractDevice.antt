-- 000 2.2.6.9, kind 14.
use Rattle.std.specs.Prelude.{ℕ, List, Bool, eqb, Result, Ok}
use Rattle.words.specs.Words.{word_at}
use Rattle.words.specs.Layout.{field, ended}
use Rattle.wire.specs.declared.retract_device.RetractDevice.{RetractDevice}
use Rattle.words.specs.declared.layout.Fault.{Fault}

unfoldable pub retract_device_of : List ℕ → Result RetractDevice Fault
retract_device_of m =
    field m 12 4
    (ended m 16
    (Ok (record { reason = word_at m 12 })))

abbrev pub retract_device_allowed : RetractDevice → Bool
retract_device_allowed b = eqb b.reason 1
