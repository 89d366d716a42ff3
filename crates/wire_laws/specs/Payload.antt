-- Where the input or output bytes of a message lie, by what it asks and by its body. No contract cites this file: the laws do.
use Rattle.std.specs.Prelude.{ℕ, ◌+◌, ◌<◌, ◌≤◌, ◌≡◌, List, length, Result, Ok, Err}
use Rattle.words.specs.Words.{byte_at}
use Rattle.wire.specs.Message.{empty_part}
use Rattle.wire.specs.Reading.{Body, capability_request_body, capability_response_body, channel_created_body, add_virtual_channel_body, add_device_body, cancel_request_body, register_request_callback_body, io_control_body, transfer_in_request_body, transfer_out_request_body, retract_device_body, io_control_completion_body, urb_completion_body, urb_completion_no_data_body}
use Rattle.words.specs.declared.layout.Part.{Part}
use Rattle.wire.specs.declared.message.Asked.TheVariants.{Step, Device, Callback, IoControl, TransferIn, TransferOut, Cancel, Retract, IoCompletion, UrbCompletion, UrbCompletionNoData}
use Rattle.wire.specs.declared.message.Asked.{Asked}
use Rattle.wire.specs.declared.message.Unfit.{Unfit}
use Rattle.wire.specs.declared.message.Unfit.TheVariants as unfit

abbrev pub payload_part : Result Asked Unfit → Part
payload_part (Err (unfit.Sizes fault)) = empty_part
payload_part (Err unfit.Value) = empty_part
payload_part (Ok Step) = empty_part
payload_part (Ok (Device id ms)) = empty_part
payload_part (Ok (Callback known)) = empty_part
payload_part (Ok (IoControl r)) = r.payload
payload_part (Ok (TransferIn r)) = r.payload
payload_part (Ok (TransferOut r)) = r.payload
payload_part (Ok (Cancel id)) = empty_part
payload_part (Ok Retract) = empty_part
payload_part (Ok (IoCompletion c)) = c.payload
payload_part (Ok (UrbCompletion c)) = c.payload
payload_part (Ok (UrbCompletionNoData c)) = c.payload

-- where the data run of a body lies: its input or output bytes, or the empty part
abbrev pub data_run : Body → Part
data_run (capability_request_body b) = empty_part
data_run (capability_response_body b) = empty_part
data_run (channel_created_body b) = empty_part
data_run add_virtual_channel_body = empty_part
data_run (add_device_body b) = empty_part
data_run (cancel_request_body b) = empty_part
data_run (register_request_callback_body b) = empty_part
data_run (io_control_body b) = b.input
data_run (transfer_in_request_body b) = empty_part
data_run (transfer_out_request_body b) = b.output
data_run (retract_device_body b) = empty_part
data_run (io_control_completion_body b) = b.output
data_run (urb_completion_body b) = b.output
data_run (urb_completion_no_data_body b) = empty_part

-- two messages of one length that differ in no byte outside a part
abbrev pub AgreeOutside : Part → List ℕ → List ℕ → Type 0
AgreeOutside p m n =
    (length m ≡ length n) ×
    ((i : ℕ) → i < p.start → byte_at m i ≡ byte_at n i) ×
    ((i : ℕ) → p.start + p.size ≤ i → byte_at m i ≡ byte_at n i)
