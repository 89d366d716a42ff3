-- Laws of the size reader: a message that fits is as long as its fields add up to, and its parts lie within it.
use Rattle.std.specs.Prelude.{Result, Ok, Err}
use Prim.Native.Nat.{ℕ, ◌+◌, ◌≤◌}
use native.Mathlib.Omega.{arith}
use mathlib.Core.Path.{◌≡◌, refl, subst}
use mathlib.Core.List.{List}
use lib.ListN.{length, take}
use lib.Seq.{length-take-le}
use lib.Dec.{eqb}
use Rattle.words.specs.Words.{half_at, word_at}
use Rattle.words.specs.Layout.{left, Within}
use Rattle.wire_laws.specs.Device.{text_size}
use Rattle.wire_laws.specs.Urb.{UrbWithin, urb_length}
use Rattle.wire_laws.specs.Sizes.{result_length, length_of, PartsWithin}
use Rattle.wire.specs.CapabilityRequest.{capability_request_of}
use Rattle.wire.specs.CapabilityResponse.{capability_response_of}
use Rattle.wire.specs.ChannelCreated.{channel_created_of}
use Rattle.wire.specs.AddVirtualChannel.{add_virtual_channel_of}
use Rattle.texts.specs.Text.{text_of}
use Rattle.device.specs.DeviceCapabilities.{capabilities_of}
use Rattle.wire.specs.AddDevice.{pair_with, pair_from, pair_of, device_with, device_of, classes_from, names_from, add_device_of}
use Rattle.wire.specs.CancelRequest.{cancel_request_of}
use Rattle.wire.specs.RegisterRequestCallback.{register_request_callback_of}
use Rattle.wire.specs.IoControl.{io_control_of, io_control_with}
use Rattle.urb.specs.TsUrb.{ts_urb_of}
use Rattle.wire.specs.Transfer.{output_of, transfer_from, transfer_with, transfer_of}
use Rattle.wire.specs.TransferInRequest.{incoming_from, transfer_in_request_of}
use Rattle.wire.specs.TransferOutRequest.{outgoing_of, outgoing_from, transfer_out_request_of}
use Rattle.wire.specs.RetractDevice.{retract_device_of}
use Rattle.wire.specs.IoControlCompletion.{io_control_completion_with, io_control_completion_of}
use Rattle.wire.specs.TsUrbResult.{completed_of, completion_with, completion_of}
use Rattle.wire.specs.UrbCompletion.{with_output_of, with_output_from, urb_completion_of}
use Rattle.wire.specs.UrbCompletionNoData.{no_data_from, urb_completion_no_data_of}
use Rattle.wire.specs.Reading.{Body, Reading, reading_of, capability_request_reading, capability_response_reading, channel_created_reading, add_virtual_channel_reading, add_device_reading, cancel_request_reading, register_request_callback_reading, io_control_reading, transfer_in_request_reading, transfer_out_request_reading, retract_device_reading, io_control_completion_reading, urb_completion_reading, urb_completion_no_data_reading}
use Rattle.answers.specs.declared.kind.Kind.{Kind}
use Rattle.answers.specs.declared.kind.Kind.TheVariants as kind
use Rattle.texts.specs.declared.text.Text.{Text}
use Rattle.wire.specs.declared.add_device.TextPair.{TextPair}
use Rattle.words.proofs.Steps.{either, field_by, agrees_by, at_least_by, ended_by, filled_by}
use Rattle.wire_laws.proofs.Device.{TextGood, CapabilitiesGood, text_good, capabilities_good}
use Rattle.wire_laws.proofs.Urb.{TsUrbGood, ts_urb_good, urb_wider}
use Rattle.words.specs.declared.layout.Fault.{Fault}
use Rattle.wire.specs.declared.capability_request.CapabilityRequest.{CapabilityRequest}
use Rattle.wire.specs.declared.capability_response.CapabilityResponse.{CapabilityResponse}
use Rattle.wire.specs.declared.channel_created.ChannelCreated.{ChannelCreated}
use Rattle.wire.specs.declared.add_virtual_channel.AddVirtualChannel.{AddVirtualChannel}
use Rattle.wire.specs.declared.add_device.AddDevice.{AddDevice}
use Rattle.wire.specs.declared.cancel_request.CancelRequest.{CancelRequest}
use Rattle.wire.specs.declared.register_request_callback.RegisterRequestCallback.{RegisterRequestCallback}
use Rattle.wire.specs.declared.io_control.IoControl.{IoControl}
use Rattle.wire.specs.declared.transfer_in_request.TransferInRequest.{TransferInRequest}
use Rattle.wire.specs.declared.transfer_out_request.TransferOutRequest.{TransferOutRequest}
use Rattle.wire.specs.declared.retract_device.RetractDevice.{RetractDevice}
use Rattle.wire.specs.declared.io_control_completion.IoControlCompletion.{IoControlCompletion}
use Rattle.wire.specs.declared.urb_completion.UrbCompletion.{UrbCompletion}
use Rattle.wire.specs.declared.urb_completion_no_data.UrbCompletionNoData.{UrbCompletionNoData}
use Rattle.device.specs.declared.device_capabilities.DeviceCapabilities.{DeviceCapabilities}
use Rattle.urb.specs.declared.ts_urb.TsUrb.{TsUrb}
use Rattle.wire.specs.declared.transfer.Transfer.{Transfer}
use Rattle.wire.specs.declared.ts_urb_result.Completion.{Completion}

-- What is shown of each reading.
abbrev pub Good : List ℕ → Reading → Type 0
Good m (Ok b) = (12 ≤ length m → length m ≡ length_of b) × PartsWithin (length m) b
Good m (Err f) = Unit {0}

abbrev pub GoodCapabilityRequest : List ℕ → Result CapabilityRequest Fault → Type 0
GoodCapabilityRequest m r = Good m (capability_request_reading r)

abbrev pub GoodCapabilityResponse : List ℕ → Result CapabilityResponse Fault → Type 0
GoodCapabilityResponse m r = Good m (capability_response_reading r)

abbrev pub GoodChannelCreated : List ℕ → Result ChannelCreated Fault → Type 0
GoodChannelCreated m r = Good m (channel_created_reading r)

abbrev pub GoodAddVirtualChannel : List ℕ → Result AddVirtualChannel Fault → Type 0
GoodAddVirtualChannel m r = Good m (add_virtual_channel_reading r)

abbrev pub GoodAddDevice : List ℕ → Result AddDevice Fault → Type 0
GoodAddDevice m r = Good m (add_device_reading r)

abbrev pub GoodCancelRequest : List ℕ → Result CancelRequest Fault → Type 0
GoodCancelRequest m r = Good m (cancel_request_reading r)

abbrev pub GoodRegisterRequestCallback : List ℕ → Result RegisterRequestCallback Fault → Type 0
GoodRegisterRequestCallback m r = Good m (register_request_callback_reading r)

abbrev pub GoodIoControl : List ℕ → Result IoControl Fault → Type 0
GoodIoControl m r = Good m (io_control_reading r)

abbrev pub GoodTransferInRequest : List ℕ → Result TransferInRequest Fault → Type 0
GoodTransferInRequest m r = Good m (transfer_in_request_reading r)

abbrev pub GoodTransferOutRequest : List ℕ → Result TransferOutRequest Fault → Type 0
GoodTransferOutRequest m r = Good m (transfer_out_request_reading r)

abbrev pub GoodRetractDevice : List ℕ → Result RetractDevice Fault → Type 0
GoodRetractDevice m r = Good m (retract_device_reading r)

abbrev pub GoodIoControlCompletion : List ℕ → Result IoControlCompletion Fault → Type 0
GoodIoControlCompletion m r = Good m (io_control_completion_reading r)

abbrev pub GoodUrbCompletion : List ℕ → Result UrbCompletion Fault → Type 0
GoodUrbCompletion m r = Good m (urb_completion_reading r)

abbrev pub GoodUrbCompletionNoData : List ℕ → Result UrbCompletionNoData Fault → Type 0
GoodUrbCompletionNoData m r = Good m (urb_completion_no_data_reading r)

abbrev PairGood : List ℕ → ℕ → Result (TextPair × ℕ) Fault → Type 0
PairGood m at (Ok (p, end)) = (end ≡ at + text_size p.first + text_size p.second) × (end ≤ length m) × Within (length m) p.first.units × Within (length m) p.second.units
PairGood m at (Err f) = Unit {0}

abbrev TransferGood : List ℕ → Result Transfer Fault → Type 0
TransferGood m (Ok t) =
    (t.after ≡ t.end + 4) × (t.after ≤ length m) × UrbWithin (length m) t.urb.urb ×
    (t.last ≡ 16 + urb_length t.urb.size t.urb.urb) × (t.last ≤ t.end) × (16 ≤ t.end)
TransferGood m (Err f) = Unit {0}

abbrev CompletionGood : List ℕ → Result Completion Fault → Type 0
CompletionGood m (Ok c) = (c.after ≡ 20 + result_length c.urb + 8) × (c.after ≤ length m) × Within (length m) c.urb.rest
CompletionGood m (Err f) = Unit {0}

-- the fixed layouts
pub capability_request_good : (m : List ℕ) → GoodCapabilityRequest m (capability_request_of m)
unfolding capability_request_of
capability_request_good m = field_by (GoodCapabilityRequest m) (λ f. tt) m 12 4 _ λ a. ended_by (GoodCapabilityRequest m) (λ f. tt) m 16 _ λ z. (λ h. omega arith, tt)

pub capability_response_good : (m : List ℕ) → GoodCapabilityResponse m (capability_response_of m)
unfolding capability_response_of
capability_response_good m = field_by (GoodCapabilityResponse m) (λ f. tt) m 8 4 _ λ a. field_by (GoodCapabilityResponse m) (λ f. tt) m 12 4 _ λ b. ended_by (GoodCapabilityResponse m) (λ f. tt) m 16 _ λ z. (λ h. omega arith, tt)

pub channel_created_good : (m : List ℕ) → GoodChannelCreated m (channel_created_of m)
unfolding channel_created_of
channel_created_good m = field_by (GoodChannelCreated m) (λ f. tt) m 12 4 _ λ a. field_by (GoodChannelCreated m) (λ f. tt) m 16 4 _ λ b. field_by (GoodChannelCreated m) (λ f. tt) m 20 4 _ λ c. ended_by (GoodChannelCreated m) (λ f. tt) m 24 _ λ z. (λ h. omega arith, tt)

pub add_virtual_channel_good : (m : List ℕ) → GoodAddVirtualChannel m (add_virtual_channel_of m)
unfolding add_virtual_channel_of
add_virtual_channel_good m = ended_by (GoodAddVirtualChannel m) (λ f. tt) m 12 _ λ z. (λ h. omega arith, tt)

pub cancel_request_good : (m : List ℕ) → GoodCancelRequest m (cancel_request_of m)
unfolding cancel_request_of
cancel_request_good m = field_by (GoodCancelRequest m) (λ f. tt) m 12 4 _ λ a. ended_by (GoodCancelRequest m) (λ f. tt) m 16 _ λ z. (λ h. omega arith, tt)

pub retract_device_good : (m : List ℕ) → GoodRetractDevice m (retract_device_of m)
unfolding retract_device_of
retract_device_good m = field_by (GoodRetractDevice m) (λ f. tt) m 12 4 _ λ a. ended_by (GoodRetractDevice m) (λ f. tt) m 16 _ λ z. (λ h. omega arith, tt)

pub register_request_callback_good : (m : List ℕ) → GoodRegisterRequestCallback m (register_request_callback_of m)
unfolding register_request_callback_of
register_request_callback_good m =
    field_by (GoodRegisterRequestCallback m) (λ f. tt) m 12 4 _ λ a. either (GoodRegisterRequestCallback m) (eqb (word_at m 12) 0) _ _
    (λ e. ended_by (GoodRegisterRequestCallback m) (λ f. tt) m 16 _ λ z. (λ h. rw e (omega arith), tt))
    (λ e. field_by (GoodRegisterRequestCallback m) (λ f. tt) m 16 4 _ λ b. ended_by (GoodRegisterRequestCallback m) (λ f. tt) m 20 _ λ z. (λ h. rw e (omega arith), tt))

-- layouts with one counted run
pub io_control_good : (m : List ℕ) → GoodIoControl m (io_control_of m)
unfolding io_control_of io_control_with
io_control_good m =
    field_by (GoodIoControl m) (λ f. tt) m 12 4 _ λ a. field_by (GoodIoControl m) (λ f. tt) m 16 4 _ λ b. field_by (GoodIoControl m) (λ f. tt) m 20 (word_at m 16) _ λ c.
    field_by (GoodIoControl m) (λ f. tt) m (20 + word_at m 16) 4 _ λ d. field_by (GoodIoControl m) (λ f. tt) m (20 + word_at m 16 + 4) 4 _ λ e.
    ended_by (GoodIoControl m) (λ f. tt) m (20 + word_at m 16 + 8) _ λ z. (λ h. omega arith, (omega arith, omega arith))

pub io_control_completion_good : (m : List ℕ) → GoodIoControlCompletion m (io_control_completion_of m)
unfolding io_control_completion_of io_control_completion_with
io_control_completion_good m =
    field_by (GoodIoControlCompletion m) (λ f. tt) m 12 4 _ λ a. field_by (GoodIoControlCompletion m) (λ f. tt) m 16 4 _ λ b. field_by (GoodIoControlCompletion m) (λ f. tt) m 20 4 _ λ c. field_by (GoodIoControlCompletion m) (λ f. tt) m 24 4 _ λ d.
    field_by (GoodIoControlCompletion m) (λ f. tt) m 28 (word_at m 24) _ λ e. ended_by (GoodIoControlCompletion m) (λ f. tt) m (28 + word_at m 24) _ λ z. (λ h. omega arith, (omega arith, omega arith))

-- ADD_DEVICE
pair_with_good : (m : List ℕ) (at middle : ℕ) (first : Text) (r : Result (Text × ℕ) Fault) → 8 ≤ at → middle ≡ at + text_size first → Within (length m) first.units → TextGood m middle r → PairGood m at (pair_with first r)
pair_with_good m at middle first (Ok (second, end)) h e w g = (omega arith, g.1, w, g.2 (omega arith))
pair_with_good m at middle first (Err f) h e w g = tt

pair_from_good : (m : List ℕ) (at : ℕ) (r : Result (Text × ℕ) Fault) → 8 ≤ at → TextGood m at r → PairGood m at (pair_from m r)
pair_from_good m at (Ok (first, middle)) h g = pair_with_good m at middle first (text_of m middle) h g.0 (g.2 h) (text_good m middle)
pair_from_good m at (Err f) h g = tt

pair_good : (m : List ℕ) (at : ℕ) → 8 ≤ at → PairGood m at (pair_of m at)
unfolding pair_of
pair_good m at h = pair_from_good m at (text_of m at) h (text_good m at)

device_with_good : (m : List ℕ) (names classes : TextPair) (middle at : ℕ) (r : Result (DeviceCapabilities × ℕ) Fault) → PairGood m 20 (Ok (names, middle)) → PairGood m middle (Ok (classes, at)) → CapabilitiesGood m at r → GoodAddDevice m (device_with m names classes r)
device_with_good m names classes middle at (Ok (c, end)) n k g = ended_by (GoodAddDevice m) (λ f. tt) m end _ λ z. (λ h. omega (arith, n.0, k.0, g.0, g.1), (n.2, n.3, k.2, k.3))
device_with_good m names classes middle at (Err f) n k g = tt

device_good : (m : List ℕ) (names classes : TextPair) (middle at : ℕ) → PairGood m 20 (Ok (names, middle)) → PairGood m middle (Ok (classes, at)) → GoodAddDevice m (device_of m names classes at)
unfolding device_of
device_good m names classes middle at n k = device_with_good m names classes middle at (capabilities_of m at) n k (capabilities_good m at)

classes_good : (m : List ℕ) (names : TextPair) (middle : ℕ) (r : Result (TextPair × ℕ) Fault) → PairGood m 20 (Ok (names, middle)) → PairGood m middle r → GoodAddDevice m (classes_from m names r)
classes_good m names middle (Ok (classes, at)) n g = device_good m names classes middle at n g
classes_good m names middle (Err f) n g = tt

names_good : (m : List ℕ) (r : Result (TextPair × ℕ) Fault) → PairGood m 20 r → GoodAddDevice m (names_from m r)
names_good m (Ok (names, middle)) g = classes_good m names middle (pair_of m middle) g (pair_good m middle (omega (arith, g.0)))
names_good m (Err f) g = tt

pub add_device_good : (m : List ℕ) → GoodAddDevice m (add_device_of m)
unfolding add_device_of
add_device_good m = field_by (GoodAddDevice m) (λ f. tt) m 12 4 _ λ a. field_by (GoodAddDevice m) (λ f. tt) m 16 4 _ λ b. names_good m (pair_of m 20) (pair_good m 20 (omega arith))

-- the transfers
transfer_from_good : (m : List ℕ) (n : ℕ) (r : Result (TsUrb × ℕ) Fault) → 8 ≤ n → n ≤ left m 16 → TsUrbGood (take (16 + n) m) r → TransferGood m (transfer_from m (16 + n) r)
unfolding output_of
transfer_from_good m n (Ok (t, last)) a b g =
    let l = length-take-le (16 + n) m (omega arith) in
    field_by (TransferGood m) (λ f. tt) m (16 + n) 4 _ λ c.
    let k = g.2 (omega arith) in
    (refl, omega arith, urb_wider (length (take (16 + n) m)) (length m) t.urb (omega arith) g.1, rw g.0 k.0, omega (arith, k.1), omega arith)
transfer_from_good m n (Err f) a b g = tt

transfer_good : (m : List ℕ) → TransferGood m (transfer_of m)
unfolding transfer_of transfer_with
transfer_good m =
    field_by (TransferGood m) (λ f. tt) m 12 4 _ λ a. at_least_by (TransferGood m) (λ f. tt) 8 (word_at m 12) 12 _ λ b. field_by (TransferGood m) (λ f. tt) m 16 (word_at m 12) _ λ c.
    transfer_from_good m (word_at m 12) (ts_urb_of (take (16 + word_at m 12) m)) b c (ts_urb_good (take (16 + word_at m 12) m))

incoming_good : (m : List ℕ) (r : Result Transfer Fault) → TransferGood m r → GoodTransferInRequest m (incoming_from m r)
incoming_good m (Ok t) g = filled_by (GoodTransferInRequest m) (λ f. tt) t.last t.end _ λ a. ended_by (GoodTransferInRequest m) (λ f. tt) m t.after _ λ z. (λ h. omega (arith, g.0, g.1, g.3, g.4), g.2)
incoming_good m (Err f) g = tt

pub transfer_in_request_good : (m : List ℕ) → GoodTransferInRequest m (transfer_in_request_of m)
unfolding transfer_in_request_of
transfer_in_request_good m = incoming_good m (transfer_of m) (transfer_good m)

outgoing_good : (m : List ℕ) (r : Result Transfer Fault) → TransferGood m r → GoodTransferOutRequest m (outgoing_from m r)
unfolding outgoing_of
outgoing_good m (Ok t) g =
    field_by (GoodTransferOutRequest m) (λ f. tt) m t.after t.size _ λ a. filled_by (GoodTransferOutRequest m) (λ f. tt) t.last t.end _ λ b. ended_by (GoodTransferOutRequest m) (λ f. tt) m (t.after + t.size) _ λ z.
    (λ h. omega (arith, g.0, g.1, g.3, g.4), (g.2, (omega (arith, g.0, g.5), omega (arith, g.1))))
outgoing_good m (Err f) g = tt

pub transfer_out_request_good : (m : List ℕ) → GoodTransferOutRequest m (transfer_out_request_of m)
unfolding transfer_out_request_of
transfer_out_request_good m = outgoing_good m (transfer_of m) (transfer_good m)

-- the URB completions
completion_good : (m : List ℕ) → CompletionGood m (completion_of m)
unfolding completion_of completion_with completed_of
completion_good m =
    field_by (CompletionGood m) (λ f. tt) m 12 4 _ λ a. field_by (CompletionGood m) (λ f. tt) m 16 4 _ λ b.
    at_least_by (CompletionGood m) (λ f. tt) 8 (word_at m 16) 16 _ λ c. field_by (CompletionGood m) (λ f. tt) m 20 (word_at m 16) _ λ d.
    agrees_by (CompletionGood m) (λ f. tt) (half_at m 20) (word_at m 16) 20 _ λ e.
    field_by (CompletionGood m) (λ f. tt) m (20 + word_at m 16) 4 _ λ g. field_by (CompletionGood m) (λ f. tt) m (20 + word_at m 16 + 4) 4 _ λ k.
    (omega arith, omega arith, (omega arith, omega arith))

with_output_good : (m : List ℕ) (r : Result Completion Fault) → CompletionGood m r → GoodUrbCompletion m (with_output_from m r)
unfolding with_output_of
with_output_good m (Ok c) g =
    field_by (GoodUrbCompletion m) (λ f. tt) m c.after c.size _ λ a. ended_by (GoodUrbCompletion m) (λ f. tt) m (c.after + c.size) _ λ z.
    (λ h. omega (arith, g.0, g.1), (g.2, (omega (arith, g.0), omega (arith, g.1))))
with_output_good m (Err f) g = tt

pub urb_completion_good : (m : List ℕ) → GoodUrbCompletion m (urb_completion_of m)
unfolding urb_completion_of
urb_completion_good m = with_output_good m (completion_of m) (completion_good m)

no_data_good : (m : List ℕ) (r : Result Completion Fault) → CompletionGood m r → GoodUrbCompletionNoData m (no_data_from m r)
no_data_good m (Ok c) g = ended_by (GoodUrbCompletionNoData m) (λ f. tt) m c.after _ λ z. (λ h. omega (arith, g.0, g.1), g.2)
no_data_good m (Err f) g = tt

pub urb_completion_no_data_good : (m : List ℕ) → GoodUrbCompletionNoData m (urb_completion_no_data_of m)
unfolding urb_completion_no_data_of
urb_completion_no_data_good m = no_data_good m (completion_of m) (completion_good m)

pub good : (k : Kind) (m : List ℕ) → Good m (reading_of k m)
unfolding reading_of
good kind.CapabilityRequest m = capability_request_good m
good kind.CapabilityResponse m = capability_response_good m
good kind.ChannelCreatedByServer m = channel_created_good m
good kind.ChannelCreatedByClient m = channel_created_good m
good kind.AddVirtualChannel m = add_virtual_channel_good m
good kind.AddDevice m = add_device_good m
good kind.CancelRequest m = cancel_request_good m
good kind.RegisterRequestCallback m = register_request_callback_good m
good kind.IoControl m = io_control_good m
good kind.InternalIoControl m = io_control_good m
good kind.TransferInRequest m = transfer_in_request_good m
good kind.TransferOutRequest m = transfer_out_request_good m
good kind.RetractDevice m = retract_device_good m
good kind.IoControlCompletion m = io_control_completion_good m
good kind.UrbCompletion m = urb_completion_good m
good kind.UrbCompletionNoData m = urb_completion_no_data_good m

-- Of a message that fits its kind, every part lies within it: a part's start and size reach no further than its length.
pub parts_within : (k : Kind) (m : List ℕ) (b : Body) → reading_of k m ≡ Ok b → PartsWithin (length m) b
parts_within k m b e = (subst (Good m) e (good k m)).1

-- A message of at least 12 bytes that fits its kind is exactly as long as its fields add up to.
pub exact_length : (k : Kind) (m : List ℕ) (b : Body) → 12 ≤ length m → reading_of k m ≡ Ok b → length m ≡ length_of b
exact_length k m b h e = (subst (Good m) e (good k m)).0 h
