-- 000 2.2.3.1, kind 1.
use Rattle.std.specs.Prelude.{ℕ, List, Bool, eqb, Result, Ok}
use Rattle.words.specs.Words.{word_at}
use Rattle.words.specs.Layout.{field, ended}
use Rattle.wire.specs.declared.capability_request.CapabilityRequest.{CapabilityRequest}
use Rattle.words.specs.declared.layout.Fault.{Fault}

unfoldable pub capability_request_of : List ℕ → Result CapabilityRequest Fault
capability_request_of m =
    field m 12 4
    (ended m 16
    (Ok (record { capability = word_at m 12 })))

abbrev pub capability_request_allowed : CapabilityRequest → Bool
capability_request_allowed b = eqb b.capability 1
