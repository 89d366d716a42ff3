-- 02 R-1: what a writer gives for the fields of a message.
use Rattle.std.specs.Prelude.{ℕ, ◌≤◌, List, Bool, true, cond, length, Result, Err}
use Rattle.header.specs.declared.ids.MessageId.{MessageId}
use Rattle.wire.specs.CapabilityRequest.{capability_request_allowed}
use Rattle.wire.specs.CapabilityResponse.{capability_response_allowed}
use Rattle.wire.specs.ChannelCreated.{channel_created_allowed}
use Rattle.wire.specs.Message.{empty_part}
use Rattle.pieces.specs.Pieces as pieces
use Rattle.pieces.specs.declared.piece.Piece.{Piece}
use Rattle.writer.specs.SharedMsgHeader.{interface_allowed}
use Rattle.writer.specs.CapabilityRequest.{capability_request_pieces}
use Rattle.writer.specs.CapabilityResponse.{capability_response_pieces}
use Rattle.writer.specs.ChannelCreated.{channel_created_pieces}
use Rattle.writer.specs.AddVirtualChannel.{add_virtual_channel_pieces}
use Rattle.writer.specs.AddDevice.{add_device_given, add_device_pieces}
use Rattle.writer.specs.RegisterRequestCallback.{register_request_callback_given, register_request_callback_pieces}
use Rattle.writer.specs.IoControl.{io_control_given, io_control_pieces}
use Rattle.writer.specs.TsUrb.{Small}
use Rattle.writer.specs.Transfer.{transfer_in_given, transfer_out_given, transfer_pieces}
use Rattle.writer.specs.CancelRequest.{cancel_request_pieces}
use Rattle.writer.specs.RetractDevice.{retract_device_given, retract_device_pieces}
use Rattle.writer.specs.IoControlCompletion.{io_control_completion_given, io_control_completion_pieces}
use Rattle.writer.specs.UrbCompletion.{completion_pieces, result_given, urb_completion_given}
use Rattle.writer.specs.declared.message.Fields.{Fields}
use Rattle.writer.specs.declared.message.Fields.TheVariants.{CapabilityRequest, CapabilityResponse, ChannelCreatedByServer, ChannelCreatedByClient, AddVirtualChannel, AddDevice, RegisterRequestCallback, IoControl, InternalIoControl, TransferInRequest, TransferOutRequest, CancelRequest, RetractDevice, IoControlCompletion, UrbCompletion, UrbCompletionNoData}
use Rattle.pieces.specs.declared.piece.Unwritten.{Unwritten}
use Rattle.pieces.specs.declared.piece.Unwritten.TheVariants as unwritten

-- every field is within its values, and every part in the lent bytes s
unfoldable pub given_in : List ℕ → Fields → Bool
given_in s (CapabilityRequest b) = capability_request_allowed b
given_in s (CapabilityResponse b) = capability_response_allowed b
given_in s (ChannelCreatedByServer b) = channel_created_allowed b
given_in s (ChannelCreatedByClient b) = channel_created_allowed b
given_in s AddVirtualChannel = true
given_in s (AddDevice b) = add_device_given s b
given_in s (RegisterRequestCallback i b) = register_request_callback_given i b
given_in s (IoControl i b) = io_control_given s i b
given_in s (InternalIoControl i b) = io_control_given s i b
given_in s (TransferInRequest i b) = transfer_in_given s i b
given_in s (TransferOutRequest i b) = transfer_out_given s i b
given_in s (CancelRequest i b) = interface_allowed i
given_in s (RetractDevice i b) = retract_device_given i b
given_in s (IoControlCompletion i b) = io_control_completion_given s i b
given_in s (UrbCompletion i b) = urb_completion_given s i b
given_in s (UrbCompletionNoData i b) = result_given s i b.urb

-- the pieces of a message: its fields in message order
unfoldable pub pieces_of : MessageId → Fields → List Piece
pieces_of id (CapabilityRequest b) = capability_request_pieces id b
pieces_of id (CapabilityResponse b) = capability_response_pieces id b
pieces_of id (ChannelCreatedByServer b) = channel_created_pieces id 3 b
pieces_of id (ChannelCreatedByClient b) = channel_created_pieces id 2 b
pieces_of id AddVirtualChannel = add_virtual_channel_pieces id
pieces_of id (AddDevice b) = add_device_pieces id b
pieces_of id (RegisterRequestCallback i b) = register_request_callback_pieces id i b
pieces_of id (IoControl i b) = io_control_pieces id i 0x102 b
pieces_of id (InternalIoControl i b) = io_control_pieces id i 0x103 b
pieces_of id (TransferInRequest i b) = transfer_pieces id i 0x105 b.urb b.size empty_part
pieces_of id (TransferOutRequest i b) = transfer_pieces id i 0x106 b.urb b.output.size b.output
pieces_of id (CancelRequest i b) = cancel_request_pieces id i b
pieces_of id (RetractDevice i b) = retract_device_pieces id i b
pieces_of id (IoControlCompletion i b) = io_control_completion_pieces id i b
pieces_of id (UrbCompletion i b) = completion_pieces id i 0x101 b.urb b.output.size b.output
pieces_of id (UrbCompletionNoData i b) = completion_pieces id i 0x102 b.urb b.size empty_part

-- the bytes of the message
abbrev pub bytes_of : MessageId → Fields → List ℕ → List ℕ
bytes_of id f s = pieces.encode s (pieces_of id f)

-- 15: a field outside its values, or a message over 65,535 bytes; then 16: the room is shorter than the message
unfoldable pub written_of : MessageId → Fields → List ℕ → ℕ → Result ℕ Unwritten
written_of id f s room = cond (given_in s f) (pieces.written_of s room (pieces_of id f)) (Err unwritten.Value)

-- both leave the buffer as lent; else only the message's bytes change
unfoldable pub buffer_of : MessageId → Fields → List ℕ → List ℕ → List ℕ
buffer_of id f s buf = pieces.buffer_by (bytes_of id f s) buf (written_of id f s (length buf))

-- the parts whose sizes the code adds to are not longer than a message
abbrev pub SmallFields : Fields → Type 0
SmallFields (CapabilityRequest b) = Unit {0}
SmallFields (CapabilityResponse b) = Unit {0}
SmallFields (ChannelCreatedByServer b) = Unit {0}
SmallFields (ChannelCreatedByClient b) = Unit {0}
SmallFields AddVirtualChannel = Unit {0}
SmallFields (AddDevice b) = Unit {0}
SmallFields (RegisterRequestCallback i b) = Unit {0}
SmallFields (IoControl i b) = Unit {0}
SmallFields (InternalIoControl i b) = Unit {0}
SmallFields (TransferInRequest i b) = Small b.urb.structure
SmallFields (TransferOutRequest i b) = Small b.urb.structure
SmallFields (CancelRequest i b) = Unit {0}
SmallFields (RetractDevice i b) = Unit {0}
SmallFields (IoControlCompletion i b) = Unit {0}
SmallFields (UrbCompletion i b) = b.urb.rest.size ≤ 65535
SmallFields (UrbCompletionNoData i b) = b.urb.rest.size ≤ 65535
