-- TRANSFER_IN_REQUEST (000 2.2.6.7), kind 10.
use Rattle.std.specs.Prelude.{ℕ, List, Bool, Result, Ok, Err}
use Rattle.words.specs.Layout.{ended, filled}
use Rattle.wire.specs.Transfer.{transfer_of}
use Rattle.urb_values.specs.Values.{incoming_allowed}
use Rattle.wire.specs.declared.transfer_in_request.TransferInRequest.{TransferInRequest}
use Rattle.words.specs.declared.layout.Fault.{Fault}
use Rattle.wire.specs.declared.transfer.Transfer.{Transfer}

-- left-over bytes come last, those inside the TsUrb first
abbrev pub incoming_from : List ℕ → Result Transfer Fault → Result TransferInRequest Fault
incoming_from m (Ok t) =
    filled t.last t.end
    (ended m t.after
    (Ok (record { urb = t.urb; size = t.size })))
incoming_from m (Err fault) = Err fault

unfoldable pub transfer_in_request_of : List ℕ → Result TransferInRequest Fault
transfer_in_request_of m = incoming_from m (transfer_of m)

-- no NoAck; a function and counts that 01 allows; OutputBufferSize 0 where the function says so
unfoldable pub transfer_in_request_allowed : TransferInRequest → Bool
transfer_in_request_allowed b = incoming_allowed b.urb.noack b.urb.urb b.size
