-- What a theorem says of what is written: the reader finds in it the fields that were given, a part by its bytes and not by its place.
use Rattle.std.specs.Prelude.{ℕ, ◌+◌, ◌*◌, ◌/◌, ◌<◌, ◌≡◌, List, [], ◌∷◌, Bool, true, false, cond, get_or, eqb, Option, Some, None, Ok}
use Rattle.words.specs.declared.layout.Part.{Part}
use Rattle.answers.specs.declared.kind.Kind.{Kind}
use Rattle.answers.specs.declared.kind.Kind.TheVariants as kind
use Rattle.header.specs.Ids.{interface_in, message_in}
use Rattle.header.specs.declared.ids.InterfaceId.{InterfaceId}
use Rattle.header.specs.declared.ids.MessageId.{MessageId}
use Rattle.urb.specs.declared.ts_urb.TsUrb.{TsUrb}
use Rattle.urb.specs.declared.ts_urb.Urb.{Urb}
use Rattle.urb.specs.declared.ts_urb.Urb.TheVariants as urb
use Rattle.wire.specs.Message.{asks_with}
use Rattle.wire.specs.Reading.{Body, capability_request_body, capability_response_body, channel_created_body, add_virtual_channel_body, add_device_body, cancel_request_body, register_request_callback_body, io_control_body, transfer_in_request_body, transfer_out_request_body, retract_device_body, io_control_completion_body, urb_completion_body, urb_completion_no_data_body, reading_of}
use Rattle.pieces.specs.Pieces.{cut}
use Rattle.writer.specs.declared.ts_urb.Structure.{Structure}
use Rattle.writer.specs.declared.ts_urb.Structure.TheVariants as structure
use Rattle.writer.specs.declared.ts_urb.TsUrbFields.{TsUrbFields}
use Rattle.writer.specs.declared.message.Fields.{Fields}
use Rattle.writer.specs.declared.message.Fields.TheVariants.{CapabilityRequest, CapabilityResponse, ChannelCreatedByServer, ChannelCreatedByClient, AddVirtualChannel, AddDevice, RegisterRequestCallback, IoControl, InternalIoControl, TransferInRequest, TransferOutRequest, CancelRequest, RetractDevice, IoControlCompletion, UrbCompletion, UrbCompletionNoData}
use Rattle.words.specs.Words.{word_at}
use Rattle.answers.specs.Phase.{phases_of}
use Rattle.kinds.specs.Kinds.{client, server}
use Rattle.channel.specs.declared.channel.Channel.{Channel}
use Rattle.writer_laws.specs.Layout.{cleared_rows}
use Rattle.writer_laws.specs.Rebuilt.{asks_some}

-- the kind of a message that fields are of
abbrev pub kind_of : Fields → Kind
kind_of (CapabilityRequest b) = kind.CapabilityRequest
kind_of (CapabilityResponse b) = kind.CapabilityResponse
kind_of (ChannelCreatedByServer b) = kind.ChannelCreatedByServer
kind_of (ChannelCreatedByClient b) = kind.ChannelCreatedByClient
kind_of AddVirtualChannel = kind.AddVirtualChannel
kind_of (AddDevice b) = kind.AddDevice
kind_of (RegisterRequestCallback i b) = kind.RegisterRequestCallback
kind_of (IoControl i b) = kind.IoControl
kind_of (InternalIoControl i b) = kind.InternalIoControl
kind_of (TransferInRequest i b) = kind.TransferInRequest
kind_of (TransferOutRequest i b) = kind.TransferOutRequest
kind_of (CancelRequest i b) = kind.CancelRequest
kind_of (RetractDevice i b) = kind.RetractDevice
kind_of (IoControlCompletion i b) = kind.IoControlCompletion
kind_of (UrbCompletion i b) = kind.UrbCompletion
kind_of (UrbCompletionNoData i b) = kind.UrbCompletionNoData

abbrev pub completion_numbers : Option ℕ → List ℕ
completion_numbers None = []
completion_numbers (Some word) = word ∷ []

abbrev pub structure_numbers : Structure → List ℕ
structure_numbers (structure.SelectConfiguration b) = b.flag ∷ b.count ∷ []
structure_numbers (structure.SelectInterface b) = b.handle ∷ []
structure_numbers structure.GetCurrentFrameNumber = []
structure_numbers (structure.PipeRequest b) = b.pipe ∷ []
structure_numbers (structure.BulkOrInterruptTransfer b) = b.pipe ∷ b.flags ∷ []
structure_numbers (structure.ControlTransfer b) = b.pipe ∷ b.flags ∷ []
structure_numbers (structure.IsochTransfer b) = b.pipe ∷ b.flags ∷ b.start ∷ b.errors ∷ []

abbrev pub bit : Bool → ℕ
bit b = cond b 1 0

abbrev pub urb_numbers : TsUrbFields → List ℕ
urb_numbers t = t.function ∷ t.request.0 ∷ bit t.noack ∷ structure_numbers t.structure

-- the numbers among the fields, in the order in which the fields are declared
unfoldable pub numbers_of : Fields → List ℕ
numbers_of (CapabilityRequest b) = b.capability ∷ []
numbers_of (CapabilityResponse b) = b.capability ∷ b.result ∷ []
numbers_of (ChannelCreatedByServer b) = b.major ∷ b.minor ∷ b.capabilities ∷ []
numbers_of (ChannelCreatedByClient b) = b.major ∷ b.minor ∷ b.capabilities ∷ []
numbers_of AddVirtualChannel = []
numbers_of (AddDevice b) = b.count ∷ b.device ∷ b.capabilities.size ∷ b.capabilities.bus ∷ b.capabilities.usbdi ∷ b.capabilities.usb ∷ b.capabilities.host ∷ b.capabilities.speed ∷ b.capabilities.jitter ∷ []
numbers_of (RegisterRequestCallback i b) = i ∷ b.count ∷ completion_numbers b.completion
numbers_of (IoControl i b) = i ∷ b.code ∷ b.size ∷ b.request.0 ∷ []
numbers_of (InternalIoControl i b) = i ∷ b.code ∷ b.size ∷ b.request.0 ∷ []
numbers_of (TransferInRequest i b) = i ∷ b.size ∷ urb_numbers b.urb
numbers_of (TransferOutRequest i b) = i ∷ urb_numbers b.urb
numbers_of (CancelRequest i b) = i ∷ b.request.0 ∷ []
numbers_of (RetractDevice i b) = i ∷ b.reason ∷ []
numbers_of (IoControlCompletion i b) = i ∷ b.request.0 ∷ b.result ∷ b.information ∷ []
numbers_of (UrbCompletion i b) = i ∷ b.urb.request.0 ∷ b.urb.status ∷ b.urb.result ∷ []
numbers_of (UrbCompletionNoData i b) = i ∷ b.urb.request.0 ∷ b.urb.status ∷ b.urb.result ∷ b.size ∷ []

-- an interface list by its bytes, with its padding 0, since that is no field
abbrev pub list_bytes : List ℕ → Part → List ℕ
list_bytes s p = cleared_rows s (p.size / 12) 0 p.start

abbrev pub structure_parts : List ℕ → Structure → List (List ℕ)
structure_parts s (structure.SelectConfiguration b) = list_bytes s b.interfaces ∷ cut s b.descriptor ∷ []
structure_parts s (structure.SelectInterface b) = list_bytes s b.interface ∷ []
structure_parts s structure.GetCurrentFrameNumber = []
structure_parts s (structure.PipeRequest b) = []
structure_parts s (structure.BulkOrInterruptTransfer b) = []
structure_parts s (structure.ControlTransfer b) = cut s b.setup ∷ []
structure_parts s (structure.IsochTransfer b) = cut s b.list ∷ []

-- the parts among the fields by their bytes, in that order: of the lent bytes s
unfoldable pub parts_of : List ℕ → Fields → List (List ℕ)
parts_of s (CapabilityRequest b) = []
parts_of s (CapabilityResponse b) = []
parts_of s (ChannelCreatedByServer b) = []
parts_of s (ChannelCreatedByClient b) = []
parts_of s AddVirtualChannel = []
parts_of s (AddDevice b) = cut s b.instance ∷ cut s b.hardware ∷ cut s b.compatible ∷ cut s b.container ∷ []
parts_of s (RegisterRequestCallback i b) = []
parts_of s (IoControl i b) = cut s b.input ∷ []
parts_of s (InternalIoControl i b) = cut s b.input ∷ []
parts_of s (TransferInRequest i b) = structure_parts s b.urb.structure
parts_of s (TransferOutRequest i b) = cut s b.output ∷ structure_parts s b.urb.structure
parts_of s (CancelRequest i b) = []
parts_of s (RetractDevice i b) = []
parts_of s (IoControlCompletion i b) = cut s b.output ∷ []
parts_of s (UrbCompletion i b) = cut s b.urb.rest ∷ cut s b.output ∷ []
parts_of s (UrbCompletionNoData i b) = cut s b.urb.rest ∷ []

-- every number has 32 bits, as the code's have
abbrev pub Wide32 : MessageId → Fields → Type 0
Wide32 id f = (id.0 < 4294967296) × ((j : ℕ) → get_or (numbers_of f) j 0 < 4294967296)

-- the same of what the reader found in a message m: of a body the fields of 000, without what the reader keeps beside them for the value rules
abbrev pub found_structure_numbers : Urb → List ℕ
found_structure_numbers (urb.SelectConfiguration b) = b.flag ∷ b.count ∷ []
found_structure_numbers (urb.SelectInterface b) = b.handle ∷ []
found_structure_numbers urb.GetCurrentFrameNumber = []
found_structure_numbers (urb.PipeRequest b) = b.pipe ∷ []
found_structure_numbers (urb.BulkOrInterruptTransfer b) = b.pipe ∷ b.flags ∷ []
found_structure_numbers (urb.ControlTransfer b) = b.pipe ∷ b.flags ∷ []
found_structure_numbers (urb.IsochTransfer b) = b.pipe ∷ b.flags ∷ b.start ∷ b.errors ∷ []
found_structure_numbers urb.Unknown = []

abbrev pub found_urb_numbers : TsUrb → List ℕ
found_urb_numbers t = t.function ∷ t.request.0 ∷ bit t.noack ∷ found_structure_numbers t.urb

-- an interface and the two bits above it are one field
abbrev pub whole : InterfaceId → ℕ → ℕ
whole id top = id.0 + 0x4000_0000 * top

abbrev pub found_callback : Option InterfaceId → ℕ → List ℕ
found_callback None top = []
found_callback (Some id) top = whole id top ∷ []

-- i is the interface of the header
abbrev pub found_numbers : ℕ → Body → List ℕ
found_numbers i (capability_request_body b) = b.capability ∷ []
found_numbers i (capability_response_body b) = b.capability ∷ b.result ∷ []
found_numbers i (channel_created_body b) = b.major ∷ b.minor ∷ b.capabilities ∷ []
found_numbers i add_virtual_channel_body = []
found_numbers i (add_device_body b) = b.count ∷ whole b.device b.top ∷ b.capabilities.size ∷ b.capabilities.bus ∷ b.capabilities.usbdi ∷ b.capabilities.usb ∷ b.capabilities.host ∷ b.capabilities.speed ∷ b.capabilities.jitter ∷ []
found_numbers i (cancel_request_body b) = i ∷ b.request.0 ∷ []
found_numbers i (register_request_callback_body b) = i ∷ b.count ∷ found_callback b.callback b.top
found_numbers i (io_control_body b) = i ∷ b.code ∷ b.size ∷ b.request.0 ∷ []
found_numbers i (transfer_in_request_body b) = i ∷ b.size ∷ found_urb_numbers b.urb
found_numbers i (transfer_out_request_body b) = i ∷ found_urb_numbers b.urb
found_numbers i (retract_device_body b) = i ∷ b.reason ∷ []
found_numbers i (io_control_completion_body b) = i ∷ b.request.0 ∷ b.result ∷ b.information ∷ []
found_numbers i (urb_completion_body b) = i ∷ b.request.0 ∷ b.urb.status ∷ b.result ∷ []
found_numbers i (urb_completion_no_data_body b) = i ∷ b.request.0 ∷ b.urb.status ∷ b.result ∷ b.size ∷ []

abbrev pub found_structure_parts : List ℕ → Urb → List (List ℕ)
found_structure_parts m (urb.SelectConfiguration b) = list_bytes m b.interfaces ∷ cut m b.descriptor.part ∷ []
found_structure_parts m (urb.SelectInterface b) = list_bytes m b.interface ∷ []
found_structure_parts m urb.GetCurrentFrameNumber = []
found_structure_parts m (urb.PipeRequest b) = []
found_structure_parts m (urb.BulkOrInterruptTransfer b) = []
found_structure_parts m (urb.ControlTransfer b) = cut m b.setup ∷ []
found_structure_parts m (urb.IsochTransfer b) = cut m b.list ∷ []
found_structure_parts m urb.Unknown = []

abbrev pub found_parts : List ℕ → Body → List (List ℕ)
found_parts m (capability_request_body b) = []
found_parts m (capability_response_body b) = []
found_parts m (channel_created_body b) = []
found_parts m add_virtual_channel_body = []
found_parts m (add_device_body b) = cut m b.instance.units ∷ cut m b.hardware.units ∷ cut m b.compatible.units ∷ cut m b.container.units ∷ []
found_parts m (cancel_request_body b) = []
found_parts m (register_request_callback_body b) = []
found_parts m (io_control_body b) = cut m b.input ∷ []
found_parts m (transfer_in_request_body b) = found_structure_parts m b.urb.urb
found_parts m (transfer_out_request_body b) = cut m b.output ∷ found_structure_parts m b.urb.urb
found_parts m (retract_device_body b) = []
found_parts m (io_control_completion_body b) = cut m b.output ∷ []
found_parts m (urb_completion_body b) = cut m b.urb.rest ∷ cut m b.output ∷ []
found_parts m (urb_completion_no_data_body b) = cut m b.urb.rest ∷ []

-- in what is written, w, the reader of the kind finds a body that no value rule refuses, and whose numbers and parts, and the MessageId before it, are those that were given
pub record ReadBack (id : MessageId) (f : Fields) (s : List ℕ) (w : List ℕ) : Type 0 where
  pub body : Body
  pub reads : reading_of (kind_of f) w ≡ Ok body
  pub asks : asks_some (asks_with body) ≡ true
  pub message : message_in (word_at w 4) ≡ id
  pub numbers : found_numbers (interface_in (word_at w 0)).0 body ≡ numbers_of f
  pub parts : found_parts w body ≡ parts_of s f

-- the side that sends a message
abbrev pub side_of : Fields → ℕ
side_of (CapabilityRequest b) = server
side_of (CapabilityResponse b) = client
side_of (ChannelCreatedByServer b) = server
side_of (ChannelCreatedByClient b) = client
side_of AddVirtualChannel = client
side_of (AddDevice b) = client
side_of (RegisterRequestCallback i b) = server
side_of (IoControl i b) = server
side_of (InternalIoControl i b) = server
side_of (TransferInRequest i b) = server
side_of (TransferOutRequest i b) = server
side_of (CancelRequest i b) = server
side_of (RetractDevice i b) = server
side_of (IoControlCompletion i b) = client
side_of (UrbCompletion i b) = client
side_of (UrbCompletionNoData i b) = client

-- a channel knows the interface that a message goes to
abbrev pub Knows : Option InterfaceId → ℕ → Type 0
Knows k i = k ≡ Some (record { 0 = i })

abbrev pub Goes : Channel → Fields → Type 0
Goes c (CapabilityRequest b) = Unit {0}
Goes c (CapabilityResponse b) = Unit {0}
Goes c (ChannelCreatedByServer b) = Unit {0}
Goes c (ChannelCreatedByClient b) = Unit {0}
Goes c AddVirtualChannel = Unit {0}
Goes c (AddDevice b) = Unit {0}
Goes c (RegisterRequestCallback i b) = Knows c.device i
Goes c (IoControl i b) = Knows c.device i
Goes c (InternalIoControl i b) = Knows c.device i
Goes c (TransferInRequest i b) = Knows c.device i
-- NoAck only where the device's milliseconds are not 0
Goes c (TransferOutRequest i b) = Knows c.device i × (b.urb.noack ≡ true → eqb c.jitter 0 ≡ false)
Goes c (CancelRequest i b) = Knows c.device i
Goes c (RetractDevice i b) = Knows c.device i
Goes c (IoControlCompletion i b) = Knows c.callback i
Goes c (UrbCompletion i b) = Knows c.callback i
Goes c (UrbCompletionNoData i b) = Knows c.callback i

-- a channel allows a message: its phase, its device or callback, its milliseconds
abbrev pub Allows : Channel → Fields → Type 0
Allows c f = (c.phase ≡ (phases_of (kind_of f)).before) × Goes c f
