-- 01 "Header and kinds": the table of kinds, and the kind of a message.
use Rattle.std.specs.Prelude.{ℕ, List, [], ◌∷◌, Bool, false, cond, ◌&&◌, eqb, Option, Some, None, Result, Ok, Err}
use Rattle.header.specs.declared.shared_msg_header.Header.{Header}
use Rattle.answers.specs.declared.kind.Kind.{Kind}
use Rattle.answers.specs.declared.kind.Kind.TheVariants.{CapabilityRequest, CapabilityResponse, ChannelCreatedByServer, ChannelCreatedByClient, AddVirtualChannel, AddDevice, CancelRequest, RegisterRequestCallback, IoControl, InternalIoControl, TransferInRequest, TransferOutRequest, RetractDevice, IoControlCompletion, UrbCompletion, UrbCompletionNoData}
use Rattle.header.specs.declared.ids.InterfaceId.{InterfaceId}
use Rattle.kinds.specs.declared.kind.Row.{Row}
use Rattle.kinds.specs.declared.kind.Side.{Side}
use Rattle.kinds.specs.declared.kind.Side.TheVariants.{Server, Client}
use Rattle.kinds.specs.declared.kind.NoSide.{NoSide}
use Rattle.kinds.specs.declared.kind.Goes.{Goes}
use Rattle.kinds.specs.declared.kind.Goes.TheVariants as goes

-- a message of a side goes to an interface, by the side and with the mask of a kind
abbrev pub goes_to : Header → ℕ → ℕ → ℕ → ℕ → Bool
goes_to h side interface by mask = eqb h.interface.0 interface && (eqb side by && eqb h.mask mask)

abbrev pub calls_at : Header → ℕ → ℕ → ℕ → ℕ → ℕ → Bool
calls_at h side interface by mask function = goes_to h side interface by mask && eqb h.function function

-- an interface that is not known matches nothing
abbrev pub calls_known : Header → ℕ → Option InterfaceId → ℕ → ℕ → ℕ → Bool
calls_known h side None by mask function = false
calls_known h side (Some id) by mask function = calls_at h side id.0 by mask function

-- 01 "Journal": side 1 is the server, 2 the client
abbrev pub server : ℕ
server = 1

abbrev pub client : ℕ
client = 2

abbrev pub side_number : Side → ℕ
side_number Server = server
side_number Client = client

-- the side of a number, if it is one's
abbrev pub side_of : ℕ → Result Side NoSide
side_of n = cond (eqb n server) (Ok Server) (cond (eqb n client) (Ok Client) (Err (record {})))

abbrev pub fits_by : Goes → ℕ → ℕ → Header → ℕ → Option InterfaceId → Option InterfaceId → Bool
fits_by (goes.Default interface function) by mask h side d c = calls_at h side interface by mask function
fits_by (goes.Nameless interface) by mask h side d c = goes_to h side interface by mask
fits_by (goes.Device function) by mask h side d c = calls_known h side d by mask function
fits_by (goes.Callback function) by mask h side d c = calls_known h side c by mask function

-- whether a message fits a row, on a channel that knows a device d and a callback c
abbrev pub fits : Row → Header → ℕ → Option InterfaceId → Option InterfaceId → Bool
fits row h side d c = fits_by row.goes (side_number row.by) row.mask h side d c

-- 01's table. Mask is 1 except for kinds 1 and 2, where it is 0
abbrev pub capability_request : Row
capability_request = record { kind = CapabilityRequest; by = Server; mask = 0; goes = goes.Default 0 0x100 }

abbrev pub capability_response : Row
capability_response = record { kind = CapabilityResponse; by = Client; mask = 0; goes = goes.Nameless 0 }

abbrev pub channel_created_by_server : Row
channel_created_by_server = record { kind = ChannelCreatedByServer; by = Server; mask = 1; goes = goes.Default 3 0x100 }

abbrev pub channel_created_by_client : Row
channel_created_by_client = record { kind = ChannelCreatedByClient; by = Client; mask = 1; goes = goes.Default 2 0x100 }

abbrev pub add_virtual_channel : Row
add_virtual_channel = record { kind = AddVirtualChannel; by = Client; mask = 1; goes = goes.Default 1 0x100 }

abbrev pub add_device : Row
add_device = record { kind = AddDevice; by = Client; mask = 1; goes = goes.Default 1 0x101 }

abbrev pub cancel_request : Row
cancel_request = record { kind = CancelRequest; by = Server; mask = 1; goes = goes.Device 0x100 }

abbrev pub register_request_callback : Row
register_request_callback = record { kind = RegisterRequestCallback; by = Server; mask = 1; goes = goes.Device 0x101 }

abbrev pub io_control : Row
io_control = record { kind = IoControl; by = Server; mask = 1; goes = goes.Device 0x102 }

abbrev pub internal_io_control : Row
internal_io_control = record { kind = InternalIoControl; by = Server; mask = 1; goes = goes.Device 0x103 }

abbrev pub transfer_in_request : Row
transfer_in_request = record { kind = TransferInRequest; by = Server; mask = 1; goes = goes.Device 0x105 }

abbrev pub transfer_out_request : Row
transfer_out_request = record { kind = TransferOutRequest; by = Server; mask = 1; goes = goes.Device 0x106 }

abbrev pub retract_device : Row
retract_device = record { kind = RetractDevice; by = Server; mask = 1; goes = goes.Device 0x107 }

abbrev pub io_control_completion : Row
io_control_completion = record { kind = IoControlCompletion; by = Client; mask = 1; goes = goes.Callback 0x100 }

abbrev pub urb_completion : Row
urb_completion = record { kind = UrbCompletion; by = Client; mask = 1; goes = goes.Callback 0x101 }

abbrev pub urb_completion_no_data : Row
urb_completion_no_data = record { kind = UrbCompletionNoData; by = Client; mask = 1; goes = goes.Callback 0x102 }

-- its rows in its order, of which the first that fits is the kind
abbrev pub kinds : List Row
kinds =
    capability_request ∷ capability_response ∷ channel_created_by_server ∷ channel_created_by_client ∷ add_virtual_channel ∷ add_device ∷
    cancel_request ∷ register_request_callback ∷ io_control ∷ internal_io_control ∷ transfer_in_request ∷ transfer_out_request ∷ retract_device ∷
    io_control_completion ∷ urb_completion ∷ urb_completion_no_data ∷ []

abbrev pub first_fitting : List Row → Header → ℕ → Option InterfaceId → Option InterfaceId → Option Kind
first_fitting [] h side d c = None
first_fitting (row ∷ rows) h side d c = cond (fits row h side d c) (Some row.kind) (first_fitting rows h side d c)
