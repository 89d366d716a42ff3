-- What a message of each kind asks: answer 7 where its sizes fail, then answer 8 where a value does, then what the table needs of its body.
use Rattle.std.specs.Prelude.{ℕ, List, Bool, false, cond, Result, Ok, Err}
use Rattle.answers.specs.declared.kind.Kind.{Kind}
use Rattle.words.specs.declared.layout.Part.{Part}
use Rattle.wire.specs.CapabilityRequest.{capability_request_allowed}
use Rattle.wire.specs.CapabilityResponse.{capability_response_allowed}
use Rattle.wire.specs.ChannelCreated.{channel_created_allowed}
use Rattle.wire.specs.AddDevice.{add_device_allowed}
use Rattle.wire.specs.RegisterRequestCallback.{register_request_callback_allowed}
use Rattle.wire.specs.TransferInRequest.{transfer_in_request_allowed}
use Rattle.wire.specs.TransferOutRequest.{transfer_out_request_allowed}
use Rattle.wire.specs.RetractDevice.{retract_device_allowed}
use Rattle.wire.specs.UrbCompletion.{urb_completion_allowed}
use Rattle.wire.specs.Reading.{Body, Reading, reading_of, capability_request_body, capability_response_body, channel_created_body, add_virtual_channel_body, add_device_body, cancel_request_body, register_request_callback_body, io_control_body, transfer_in_request_body, transfer_out_request_body, retract_device_body, io_control_completion_body, urb_completion_body, urb_completion_no_data_body}
use Rattle.wire.specs.declared.message.Asked.TheVariants.{Step, Device, Callback, IoControl, TransferIn, TransferOut, Cancel, Retract, IoCompletion, UrbCompletion, UrbCompletionNoData}
use Rattle.wire.specs.declared.message.Asked.{Asked}
use Rattle.wire.specs.declared.message.Unfit.{Unfit}
use Rattle.wire.specs.declared.message.Unfit.TheVariants as unfit

-- the empty part, at the message's start
abbrev pub empty_part : Part
empty_part = record { start = 0; size = 0 }

-- 8 where a field is outside the values that 01 states
abbrev pub fitting : Bool → Asked → Result Asked Unfit
fitting allowed asked = cond allowed (Ok asked) (Err unfit.Value)

-- of a message whose sizes add up: 8 where a field is outside the values that 01 states, else what its body asks
abbrev pub asks_with : Body → Result Asked Unfit
asks_with (capability_request_body b) = fitting (capability_request_allowed b) Step
asks_with (capability_response_body b) = fitting (capability_response_allowed b) Step
asks_with (channel_created_body b) = fitting (channel_created_allowed b) Step
asks_with add_virtual_channel_body = Ok Step
asks_with (add_device_body b) = fitting (add_device_allowed b) (Device b.device b.capabilities.jitter)
asks_with (cancel_request_body b) = Ok (Cancel b.request)
asks_with (register_request_callback_body b) = fitting (register_request_callback_allowed b) (Callback b.callback)
asks_with (io_control_body b) = Ok (IoControl (record { request = b.request; size = b.size; noack = false; payload = b.input }))
asks_with (transfer_in_request_body b) = fitting (transfer_in_request_allowed b) (TransferIn (record { request = b.urb.request; size = b.size; noack = b.urb.noack; payload = empty_part }))
asks_with (transfer_out_request_body b) = fitting (transfer_out_request_allowed b) (TransferOut (record { request = b.urb.request; size = b.size; noack = b.urb.noack; payload = b.output }))
asks_with (retract_device_body b) = fitting (retract_device_allowed b) Retract
asks_with (io_control_completion_body b) = Ok (IoCompletion (record { request = b.request; result = b.result; information = b.information; size = b.size; payload = b.output }))
asks_with (urb_completion_body b) = fitting (urb_completion_allowed b) (UrbCompletion (record { request = b.request; size = b.size; payload = b.output }))
asks_with (urb_completion_no_data_body b) = Ok (UrbCompletionNoData (record { request = b.request; size = b.size; payload = empty_part }))

-- 7 is tried before any 8
abbrev pub asks_by : Reading → Result Asked Unfit
asks_by (Ok b) = asks_with b
asks_by (Err fault) = Err (unfit.Sizes fault)

unfoldable pub asked_of : Kind → List ℕ → Result Asked Unfit
asked_of k m = asks_by (reading_of k m)
