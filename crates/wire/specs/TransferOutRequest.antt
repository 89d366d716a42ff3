-- TRANSFER_OUT_REQUEST (000 2.2.6.8), kind 11.
use Rattle.std.specs.Prelude.{ℕ, ◌+◌, List, Bool, Result, Ok, Err}
use Rattle.words.specs.Layout.{field, ended, filled}
use Rattle.wire.specs.Transfer.{transfer_of}
use Rattle.urb_values.specs.Values.{outgoing_allowed}
use Rattle.wire.specs.declared.transfer.Transfer.{Transfer}
use Rattle.wire.specs.declared.transfer_out_request.TransferOutRequest.{TransferOutRequest}
use Rattle.words.specs.declared.layout.Fault.{Fault}

-- OutputBufferSize bytes behind it; left-over bytes come last, those inside the TsUrb first
unfoldable pub outgoing_of : List ℕ → Transfer → Result TransferOutRequest Fault
outgoing_of m t =
    field m t.after t.size
    (filled t.last t.end
    (ended m (t.after + t.size)
    (Ok (record { urb = t.urb; size = t.size; output = record { start = t.after; size = t.size } }))))

abbrev pub outgoing_from : List ℕ → Result Transfer Fault → Result TransferOutRequest Fault
outgoing_from m (Ok t) = outgoing_of m t
outgoing_from m (Err fault) = Err fault

unfoldable pub transfer_out_request_of : List ℕ → Result TransferOutRequest Fault
transfer_out_request_of m = outgoing_from m (transfer_of m)

-- a function and counts that 01 allows, none of those that come only in kind 10; NoAck only with function 0x000A
unfoldable pub transfer_out_request_allowed : TransferOutRequest → Bool
transfer_out_request_allowed b = outgoing_allowed b.urb.noack b.urb.urb
