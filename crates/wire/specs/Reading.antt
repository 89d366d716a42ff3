-- The bodies of all kinds as one type, and what the size reader of each kind says of a message: its body, or at which byte the sizes fail (answer 7).
use Rattle.std.specs.Prelude.{ℕ, List, Result, Ok, Err}
use Rattle.wire.specs.CapabilityRequest.{capability_request_of}
use Rattle.wire.specs.CapabilityResponse.{capability_response_of}
use Rattle.wire.specs.ChannelCreated.{channel_created_of}
use Rattle.wire.specs.AddVirtualChannel.{add_virtual_channel_of}
use Rattle.wire.specs.AddDevice.{add_device_of}
use Rattle.wire.specs.CancelRequest.{cancel_request_of}
use Rattle.wire.specs.RegisterRequestCallback.{register_request_callback_of}
use Rattle.wire.specs.IoControl.{io_control_of}
use Rattle.wire.specs.TransferInRequest.{transfer_in_request_of}
use Rattle.wire.specs.TransferOutRequest.{transfer_out_request_of}
use Rattle.wire.specs.RetractDevice.{retract_device_of}
use Rattle.wire.specs.IoControlCompletion.{io_control_completion_of}
use Rattle.wire.specs.UrbCompletion.{urb_completion_of}
use Rattle.wire.specs.UrbCompletionNoData.{urb_completion_no_data_of}
use Rattle.wire.specs.declared.capability_request.CapabilityRequest.{CapabilityRequest}
use Rattle.wire.specs.declared.capability_response.CapabilityResponse.{CapabilityResponse}
use Rattle.wire.specs.declared.channel_created.ChannelCreated.{ChannelCreated}
use Rattle.wire.specs.declared.add_device.AddDevice.{AddDevice}
use Rattle.wire.specs.declared.cancel_request.CancelRequest.{CancelRequest}
use Rattle.wire.specs.declared.register_request_callback.RegisterRequestCallback.{RegisterRequestCallback}
use Rattle.wire.specs.declared.io_control.IoControl.{IoControl}
use Rattle.wire.specs.declared.transfer_in_request.TransferInRequest.{TransferInRequest}
use Rattle.wire.specs.declared.transfer_out_request.TransferOutRequest.{TransferOutRequest}
use Rattle.wire.specs.declared.retract_device.RetractDevice.{RetractDevice}
use Rattle.wire.specs.declared.io_control_completion.IoControlCompletion.{IoControlCompletion}
use Rattle.wire.specs.declared.urb_completion.UrbCompletion.{UrbCompletion}
use Rattle.wire.specs.declared.urb_completion_no_data.UrbCompletionNoData.{UrbCompletionNoData}
use Rattle.words.specs.declared.layout.Fault.{Fault}
use Rattle.answers.specs.declared.kind.Kind.{Kind}
use Rattle.answers.specs.declared.kind.Kind.TheVariants as kind
use Rattle.wire.specs.declared.add_virtual_channel.AddVirtualChannel.{AddVirtualChannel}

pub data Body : Type 0 where
  capability_request_body : CapabilityRequest → Body
  capability_response_body : CapabilityResponse → Body
  channel_created_body : ChannelCreated → Body
  add_virtual_channel_body : Body
  add_device_body : AddDevice → Body
  cancel_request_body : CancelRequest → Body
  register_request_callback_body : RegisterRequestCallback → Body
  io_control_body : IoControl → Body
  transfer_in_request_body : TransferInRequest → Body
  transfer_out_request_body : TransferOutRequest → Body
  retract_device_body : RetractDevice → Body
  io_control_completion_body : IoControlCompletion → Body
  urb_completion_body : UrbCompletion → Body
  urb_completion_no_data_body : UrbCompletionNoData → Body

abbrev pub Reading : Type 0
Reading = Result Body Fault

-- a body among those of all kinds
abbrev pub read_as : {B : Type 0} → (B → Body) → Result B Fault → Reading
read_as body (Ok b) = Ok (body b)
read_as body (Err fault) = Err fault

abbrev pub capability_request_reading : Result CapabilityRequest Fault → Reading
capability_request_reading r = read_as capability_request_body r

abbrev pub capability_response_reading : Result CapabilityResponse Fault → Reading
capability_response_reading r = read_as capability_response_body r

abbrev pub channel_created_reading : Result ChannelCreated Fault → Reading
channel_created_reading r = read_as channel_created_body r

abbrev pub add_virtual_channel_reading : Result AddVirtualChannel Fault → Reading
add_virtual_channel_reading r = read_as (λ b. add_virtual_channel_body) r

abbrev pub add_device_reading : Result AddDevice Fault → Reading
add_device_reading r = read_as add_device_body r

abbrev pub cancel_request_reading : Result CancelRequest Fault → Reading
cancel_request_reading r = read_as cancel_request_body r

abbrev pub register_request_callback_reading : Result RegisterRequestCallback Fault → Reading
register_request_callback_reading r = read_as register_request_callback_body r

abbrev pub io_control_reading : Result IoControl Fault → Reading
io_control_reading r = read_as io_control_body r

abbrev pub transfer_in_request_reading : Result TransferInRequest Fault → Reading
transfer_in_request_reading r = read_as transfer_in_request_body r

abbrev pub transfer_out_request_reading : Result TransferOutRequest Fault → Reading
transfer_out_request_reading r = read_as transfer_out_request_body r

abbrev pub retract_device_reading : Result RetractDevice Fault → Reading
retract_device_reading r = read_as retract_device_body r

abbrev pub io_control_completion_reading : Result IoControlCompletion Fault → Reading
io_control_completion_reading r = read_as io_control_completion_body r

abbrev pub urb_completion_reading : Result UrbCompletion Fault → Reading
urb_completion_reading r = read_as urb_completion_body r

abbrev pub urb_completion_no_data_reading : Result UrbCompletionNoData Fault → Reading
urb_completion_no_data_reading r = read_as urb_completion_no_data_body r

-- what the reader of each kind says
unfoldable pub reading_of : Kind → List ℕ → Reading
reading_of kind.CapabilityRequest m = capability_request_reading (capability_request_of m)
reading_of kind.CapabilityResponse m = capability_response_reading (capability_response_of m)
reading_of kind.ChannelCreatedByServer m = channel_created_reading (channel_created_of m)
reading_of kind.ChannelCreatedByClient m = channel_created_reading (channel_created_of m)
reading_of kind.AddVirtualChannel m = add_virtual_channel_reading (add_virtual_channel_of m)
reading_of kind.AddDevice m = add_device_reading (add_device_of m)
reading_of kind.CancelRequest m = cancel_request_reading (cancel_request_of m)
reading_of kind.RegisterRequestCallback m = register_request_callback_reading (register_request_callback_of m)
reading_of kind.IoControl m = io_control_reading (io_control_of m)
reading_of kind.InternalIoControl m = io_control_reading (io_control_of m)
reading_of kind.TransferInRequest m = transfer_in_request_reading (transfer_in_request_of m)
reading_of kind.TransferOutRequest m = transfer_out_request_reading (transfer_out_request_of m)
reading_of kind.RetractDevice m = retract_device_reading (retract_device_of m)
reading_of kind.IoControlCompletion m = io_control_completion_reading (io_control_completion_of m)
reading_of kind.UrbCompletion m = urb_completion_reading (urb_completion_of m)
reading_of kind.UrbCompletionNoData m = urb_completion_no_data_reading (urb_completion_no_data_of m)
