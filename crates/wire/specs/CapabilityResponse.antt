-- 000 2.2.3.2, kind 2: its body starts at 8.
use Rattle.std.specs.Prelude.{ℕ, List, Bool, ◌&&◌, eqb, Result, Ok}
use Rattle.words.specs.Hresult.{succeeded}
use Rattle.words.specs.Words.{word_at}
use Rattle.words.specs.Layout.{field, ended}
use Rattle.wire.specs.declared.capability_response.CapabilityResponse.{CapabilityResponse}
use Rattle.words.specs.declared.layout.Fault.{Fault}

unfoldable pub capability_response_of : List ℕ → Result CapabilityResponse Fault
capability_response_of m =
    field m 8 4
    (field m 12 4
    (ended m 16
    (Ok (record { capability = word_at m 8; result = word_at m 12 }))))

-- CapabilityValue 1; Result with its top bit clear
abbrev pub capability_response_allowed : CapabilityResponse → Bool
capability_response_allowed b = eqb b.capability 1 && succeeded b.result
