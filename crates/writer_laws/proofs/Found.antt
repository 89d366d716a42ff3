-- The fields that are found at their places are those that the reader finds.
use Rattle.std.specs.Prelude.{Result, Ok, Err}
use Prim.Native.Nat.{ℕ, ◌+◌, ◌*◌, ◌/◌, ◌%◌, ◌≤◌}
use native.Mathlib.Omega.{arith}
use mathlib.Core.Path.{◌≡◌, refl, ap}
use mathlib.Core.List.{List, [], ◌∷◌}
use lib.ListN.{length, take}
use lib.Dec.{eqb, ltb}
use Rattle.words.specs.Words.{half_at, word_at}
use Rattle.words.specs.Layout.{left}
use Rattle.words.proofs.Steps.{agrees_by, at_least_by, by_test, either, ended_by, field_by, filled_by}
use Rattle.header.specs.Ids.{interface_in}
use Rattle.answers.specs.declared.kind.Kind.{Kind}
use Rattle.answers.specs.declared.kind.Kind.TheVariants as kind
use Rattle.device.specs.DeviceCapabilities.{capabilities_of}
use Rattle.urb.specs.TsUrb.{ts_urb_of}
use Rattle.urb.specs.declared.ts_urb.Urb.{Urb}
use Rattle.urb.specs.declared.ts_urb.Urb.TheVariants as urb
use Rattle.wire.specs.CapabilityRequest.{capability_request_of}
use Rattle.wire.specs.CapabilityResponse.{capability_response_of}
use Rattle.wire.specs.ChannelCreated.{channel_created_of}
use Rattle.wire.specs.AddVirtualChannel.{add_virtual_channel_of}
use Rattle.wire.specs.AddDevice.{add_device_of, classes_from, device_of, device_with, names_from}
use Rattle.wire.specs.CancelRequest.{cancel_request_of}
use Rattle.wire.specs.RegisterRequestCallback.{register_request_callback_of}
use Rattle.wire.specs.IoControl.{io_control_of, io_control_with}
use Rattle.wire.specs.Transfer.{output_of, transfer_from, transfer_of, transfer_with}
use Rattle.wire.specs.TransferInRequest.{incoming_from, transfer_in_request_of}
use Rattle.wire.specs.TransferOutRequest.{outgoing_from, outgoing_of, transfer_out_request_of}
use Rattle.wire.specs.RetractDevice.{retract_device_of}
use Rattle.wire.specs.IoControlCompletion.{io_control_completion_of, io_control_completion_with}
use Rattle.wire.specs.TsUrbResult.{completed_of, completion_of, completion_with}
use Rattle.wire.specs.UrbCompletion.{urb_completion_of, with_output_from, with_output_of}
use Rattle.wire.specs.UrbCompletionNoData.{no_data_from, urb_completion_no_data_of}
use Rattle.wire.specs.Reading.{Reading, reading_of, capability_request_reading, capability_response_reading, channel_created_reading, add_virtual_channel_reading, add_device_reading, cancel_request_reading, register_request_callback_reading, io_control_reading, transfer_in_request_reading, transfer_out_request_reading, retract_device_reading, io_control_completion_reading, urb_completion_reading, urb_completion_no_data_reading}
use Rattle.pieces.specs.Pieces.{cut}
use Rattle.fields.specs.AddDevice.{add_device_in}
use Rattle.fields.specs.Message.{fields_in}
use Rattle.fields.specs.Transfer.{structure_in, transfer_in, transfer_out}
use Rattle.fields.specs.UrbCompletion.{no_data_in, urb_completion_in}
use Rattle.writer_laws.specs.ReadBack.{bit, found_numbers, found_parts, found_structure_numbers, found_structure_parts, numbers_of, parts_of, structure_numbers, structure_parts}
use Rattle.writer_laws.proofs.RebuiltDevice.{pair_by, text_at}
use Rattle.words.specs.declared.layout.Fault.{Fault}
use Rattle.urb.specs.declared.ts_urb.TsUrb.{TsUrb}

structure_same : (m : List ℕ) (x : Urb) → (found_structure_numbers x ≡ structure_numbers (structure_in x)) × (found_structure_parts m x ≡ structure_parts m (structure_in x))
structure_same m (urb.SelectConfiguration b) = (refl, refl)
structure_same m (urb.SelectInterface b) = (refl, refl)
structure_same m urb.GetCurrentFrameNumber = (refl, refl)
structure_same m (urb.PipeRequest b) = (refl, refl)
structure_same m (urb.BulkOrInterruptTransfer b) = (refl, refl)
structure_same m (urb.ControlTransfer b) = (refl, refl)
structure_same m (urb.IsochTransfer b) = (refl, refl)
structure_same m urb.Unknown = (refl, refl)

-- what is shown of each reading
abbrev pub Same : Kind → List ℕ → Reading → Type 0
Same k m (Ok b) = (found_numbers (interface_in (word_at m 0)).0 b ≡ numbers_of (fields_in k m)) × (found_parts m b ≡ parts_of m (fields_in k m))
Same k m (Err fault) = Unit {0}

word_whole : (w : ℕ) → w % 0x4000_0000 + 0x4000_0000 * (w / 0x4000_0000) ≡ w
word_whole w = omega arith

capability_request_found : (m : List ℕ) → Same kind.CapabilityRequest m (capability_request_reading (capability_request_of m))
unfolding capability_request_of fields_in numbers_of parts_of
capability_request_found m = field_by (λ r. Same kind.CapabilityRequest m (capability_request_reading r)) (λ f. tt) m 12 4 _ λ a. ended_by (λ r. Same kind.CapabilityRequest m (capability_request_reading r)) (λ f. tt) m 16 _ λ z. (refl, refl)

capability_response_found : (m : List ℕ) → Same kind.CapabilityResponse m (capability_response_reading (capability_response_of m))
unfolding capability_response_of fields_in numbers_of parts_of
capability_response_found m = field_by (λ r. Same kind.CapabilityResponse m (capability_response_reading r)) (λ f. tt) m 8 4 _ λ a. field_by (λ r. Same kind.CapabilityResponse m (capability_response_reading r)) (λ f. tt) m 12 4 _ λ b. ended_by (λ r. Same kind.CapabilityResponse m (capability_response_reading r)) (λ f. tt) m 16 _ λ z. (refl, refl)

channel_created_by_server_found : (m : List ℕ) → Same kind.ChannelCreatedByServer m (channel_created_reading (channel_created_of m))
unfolding channel_created_of fields_in numbers_of parts_of
channel_created_by_server_found m = field_by (λ r. Same kind.ChannelCreatedByServer m (channel_created_reading r)) (λ f. tt) m 12 4 _ λ a. field_by (λ r. Same kind.ChannelCreatedByServer m (channel_created_reading r)) (λ f. tt) m 16 4 _ λ b. field_by (λ r. Same kind.ChannelCreatedByServer m (channel_created_reading r)) (λ f. tt) m 20 4 _ λ c. ended_by (λ r. Same kind.ChannelCreatedByServer m (channel_created_reading r)) (λ f. tt) m 24 _ λ z. (refl, refl)

channel_created_by_client_found : (m : List ℕ) → Same kind.ChannelCreatedByClient m (channel_created_reading (channel_created_of m))
unfolding channel_created_of fields_in numbers_of parts_of
channel_created_by_client_found m = field_by (λ r. Same kind.ChannelCreatedByClient m (channel_created_reading r)) (λ f. tt) m 12 4 _ λ a. field_by (λ r. Same kind.ChannelCreatedByClient m (channel_created_reading r)) (λ f. tt) m 16 4 _ λ b. field_by (λ r. Same kind.ChannelCreatedByClient m (channel_created_reading r)) (λ f. tt) m 20 4 _ λ c. ended_by (λ r. Same kind.ChannelCreatedByClient m (channel_created_reading r)) (λ f. tt) m 24 _ λ z. (refl, refl)

add_virtual_channel_found : (m : List ℕ) → Same kind.AddVirtualChannel m (add_virtual_channel_reading (add_virtual_channel_of m))
unfolding add_virtual_channel_of fields_in numbers_of parts_of
add_virtual_channel_found m = ended_by (λ r. Same kind.AddVirtualChannel m (add_virtual_channel_reading r)) (λ f. tt) m 12 _ λ z. (refl, refl)

cancel_request_found : (m : List ℕ) → Same kind.CancelRequest m (cancel_request_reading (cancel_request_of m))
unfolding cancel_request_of fields_in numbers_of parts_of
cancel_request_found m = field_by (λ r. Same kind.CancelRequest m (cancel_request_reading r)) (λ f. tt) m 12 4 _ λ a. ended_by (λ r. Same kind.CancelRequest m (cancel_request_reading r)) (λ f. tt) m 16 _ λ z. (refl, refl)

retract_device_found : (m : List ℕ) → Same kind.RetractDevice m (retract_device_reading (retract_device_of m))
unfolding retract_device_of fields_in numbers_of parts_of
retract_device_found m = field_by (λ r. Same kind.RetractDevice m (retract_device_reading r)) (λ f. tt) m 12 4 _ λ a. ended_by (λ r. Same kind.RetractDevice m (retract_device_reading r)) (λ f. tt) m 16 _ λ z. (refl, refl)

io_control_found : (m : List ℕ) → Same kind.IoControl m (io_control_reading (io_control_of m))
unfolding io_control_of io_control_with fields_in numbers_of parts_of
io_control_found m = field_by (λ r. Same kind.IoControl m (io_control_reading r)) (λ f. tt) m 12 4 _ λ a. field_by (λ r. Same kind.IoControl m (io_control_reading r)) (λ f. tt) m 16 4 _ λ b. field_by (λ r. Same kind.IoControl m (io_control_reading r)) (λ f. tt) m 20 (word_at m 16) _ λ c. field_by (λ r. Same kind.IoControl m (io_control_reading r)) (λ f. tt) m (20 + word_at m 16) 4 _ λ d. field_by (λ r. Same kind.IoControl m (io_control_reading r)) (λ f. tt) m (20 + word_at m 16 + 4) 4 _ λ g. ended_by (λ r. Same kind.IoControl m (io_control_reading r)) (λ f. tt) m (20 + word_at m 16 + 8) _ λ z. (refl, refl)

internal_io_control_found : (m : List ℕ) → Same kind.InternalIoControl m (io_control_reading (io_control_of m))
unfolding io_control_of io_control_with fields_in numbers_of parts_of
internal_io_control_found m = field_by (λ r. Same kind.InternalIoControl m (io_control_reading r)) (λ f. tt) m 12 4 _ λ a. field_by (λ r. Same kind.InternalIoControl m (io_control_reading r)) (λ f. tt) m 16 4 _ λ b. field_by (λ r. Same kind.InternalIoControl m (io_control_reading r)) (λ f. tt) m 20 (word_at m 16) _ λ c. field_by (λ r. Same kind.InternalIoControl m (io_control_reading r)) (λ f. tt) m (20 + word_at m 16) 4 _ λ d. field_by (λ r. Same kind.InternalIoControl m (io_control_reading r)) (λ f. tt) m (20 + word_at m 16 + 4) 4 _ λ g. ended_by (λ r. Same kind.InternalIoControl m (io_control_reading r)) (λ f. tt) m (20 + word_at m 16 + 8) _ λ z. (refl, refl)

io_control_completion_found : (m : List ℕ) → Same kind.IoControlCompletion m (io_control_completion_reading (io_control_completion_of m))
unfolding io_control_completion_of io_control_completion_with fields_in numbers_of parts_of
io_control_completion_found m = field_by (λ r. Same kind.IoControlCompletion m (io_control_completion_reading r)) (λ f. tt) m 12 4 _ λ a. field_by (λ r. Same kind.IoControlCompletion m (io_control_completion_reading r)) (λ f. tt) m 16 4 _ λ b. field_by (λ r. Same kind.IoControlCompletion m (io_control_completion_reading r)) (λ f. tt) m 20 4 _ λ c. field_by (λ r. Same kind.IoControlCompletion m (io_control_completion_reading r)) (λ f. tt) m 24 4 _ λ d. field_by (λ r. Same kind.IoControlCompletion m (io_control_completion_reading r)) (λ f. tt) m 28 (word_at m 24) _ λ g. ended_by (λ r. Same kind.IoControlCompletion m (io_control_completion_reading r)) (λ f. tt) m (28 + word_at m 24) _ λ z. (refl, refl)

callback_found : (m : List ℕ) → Same kind.RegisterRequestCallback m (register_request_callback_reading (register_request_callback_of m))
unfolding register_request_callback_of fields_in numbers_of parts_of
callback_found m =
    field_by (λ r. Same kind.RegisterRequestCallback m (register_request_callback_reading r)) (λ f. tt) m 12 4 _ λ a. either (λ r. Same kind.RegisterRequestCallback m (register_request_callback_reading r)) (eqb (word_at m 12) 0) _ _
    (λ t. ended_by (λ r. Same kind.RegisterRequestCallback m (register_request_callback_reading r)) (λ f. tt) m 16 _ λ z. (rw t refl, refl))
    (λ t. field_by (λ r. Same kind.RegisterRequestCallback m (register_request_callback_reading r)) (λ f. tt) m 16 4 _ λ b. ended_by (λ r. Same kind.RegisterRequestCallback m (register_request_callback_reading r)) (λ f. tt) m 20 _ λ z. (rw t (ap (λ x. (interface_in (word_at m 0)).0 ∷ word_at m 12 ∷ x ∷ []) (word_whole (word_at m 16))), refl))

urb_completion_found : (m : List ℕ) → Same kind.UrbCompletion m (urb_completion_reading (urb_completion_of m))
unfolding urb_completion_of with_output_of completion_of completion_with completed_of fields_in urb_completion_in no_data_in numbers_of parts_of
urb_completion_found m =
    field_by (λ r. Same kind.UrbCompletion m (urb_completion_reading (with_output_from m r))) (λ f. tt) m 12 4 _ λ a. field_by (λ r. Same kind.UrbCompletion m (urb_completion_reading (with_output_from m r))) (λ f. tt) m 16 4 _ λ b. at_least_by (λ r. Same kind.UrbCompletion m (urb_completion_reading (with_output_from m r))) (λ f. tt) 8 (word_at m 16) 16 _ λ c. field_by (λ r. Same kind.UrbCompletion m (urb_completion_reading (with_output_from m r))) (λ f. tt) m 20 (word_at m 16) _ λ d.
    agrees_by (λ r. Same kind.UrbCompletion m (urb_completion_reading (with_output_from m r))) (λ f. tt) (half_at m 20) (word_at m 16) 20 _ λ g. field_by (λ r. Same kind.UrbCompletion m (urb_completion_reading (with_output_from m r))) (λ f. tt) m (20 + word_at m 16) 4 _ λ j. field_by (λ r. Same kind.UrbCompletion m (urb_completion_reading (with_output_from m r))) (λ f. tt) m (20 + word_at m 16 + 4) 4 _ λ l.
    field_by (λ r. Same kind.UrbCompletion m (urb_completion_reading r)) (λ f. tt) m (20 + word_at m 16 + 8) (word_at m (20 + word_at m 16 + 4)) _ λ n. ended_by (λ r. Same kind.UrbCompletion m (urb_completion_reading r)) (λ f. tt) m (20 + word_at m 16 + 8 + word_at m (20 + word_at m 16 + 4)) _ λ z. (refl, refl)

no_data_found : (m : List ℕ) → Same kind.UrbCompletionNoData m (urb_completion_no_data_reading (urb_completion_no_data_of m))
unfolding urb_completion_no_data_of completion_of completion_with completed_of fields_in urb_completion_in no_data_in numbers_of parts_of
no_data_found m =
    field_by (λ r. Same kind.UrbCompletionNoData m (urb_completion_no_data_reading (no_data_from m r))) (λ f. tt) m 12 4 _ λ a. field_by (λ r. Same kind.UrbCompletionNoData m (urb_completion_no_data_reading (no_data_from m r))) (λ f. tt) m 16 4 _ λ b. at_least_by (λ r. Same kind.UrbCompletionNoData m (urb_completion_no_data_reading (no_data_from m r))) (λ f. tt) 8 (word_at m 16) 16 _ λ c. field_by (λ r. Same kind.UrbCompletionNoData m (urb_completion_no_data_reading (no_data_from m r))) (λ f. tt) m 20 (word_at m 16) _ λ d.
    agrees_by (λ r. Same kind.UrbCompletionNoData m (urb_completion_no_data_reading (no_data_from m r))) (λ f. tt) (half_at m 20) (word_at m 16) 20 _ λ g. field_by (λ r. Same kind.UrbCompletionNoData m (urb_completion_no_data_reading (no_data_from m r))) (λ f. tt) m (20 + word_at m 16) 4 _ λ j. field_by (λ r. Same kind.UrbCompletionNoData m (urb_completion_no_data_reading (no_data_from m r))) (λ f. tt) m (20 + word_at m 16 + 4) 4 _ λ l.
    ended_by (λ r. Same kind.UrbCompletionNoData m (urb_completion_no_data_reading r)) (λ f. tt) m (20 + word_at m 16 + 8) _ λ z. (refl, refl)

device_found : (m : List ℕ) → length m ≤ 65535 → Same kind.AddDevice m (add_device_reading (add_device_of m))
unfolding add_device_of device_of capabilities_of fields_in add_device_in numbers_of parts_of
device_found m fits =
    field_by (λ r. Same kind.AddDevice m (add_device_reading r)) (λ f. tt) m 12 4 _ λ x. field_by (λ r. Same kind.AddDevice m (add_device_reading r)) (λ f. tt) m 16 4 _ λ y.
    pair_by m fits (λ r. Same kind.AddDevice m (add_device_reading (names_from m r))) (λ f. tt) 20 λ a b.
    pair_by m fits (λ r. Same kind.AddDevice m (add_device_reading (classes_from m (record { first = text_at m 20; second = text_at m (20 + 4 + 2 * word_at m 20) }) r))) (λ f. tt) (20 + 4 + 2 * word_at m 20 + 4 + 2 * word_at m (20 + 4 + 2 * word_at m 20)) λ c d.
    by_test (λ r. Same kind.AddDevice m (add_device_reading (device_with m (record { first = text_at m 20; second = text_at m (20 + 4 + 2 * word_at m 20) }) (record { first = text_at m (20 + 4 + 2 * word_at m 20 + 4 + 2 * word_at m (20 + 4 + 2 * word_at m 20)); second = text_at m ((20 + 4 + 2 * word_at m 20 + 4 + 2 * word_at m (20 + 4 + 2 * word_at m 20)) + 4 + 2 * word_at m (20 + 4 + 2 * word_at m 20 + 4 + 2 * word_at m (20 + 4 + 2 * word_at m 20))) }) r))) (λ f. tt) (ltb (left m (((20 + 4 + 2 * word_at m 20 + 4 + 2 * word_at m (20 + 4 + 2 * word_at m 20)) + 4 + 2 * word_at m (20 + 4 + 2 * word_at m 20 + 4 + 2 * word_at m (20 + 4 + 2 * word_at m 20))) + 4 + 2 * word_at m ((20 + 4 + 2 * word_at m 20 + 4 + 2 * word_at m (20 + 4 + 2 * word_at m 20)) + 4 + 2 * word_at m (20 + 4 + 2 * word_at m 20 + 4 + 2 * word_at m (20 + 4 + 2 * word_at m 20))))) 28) _ _ λ t.
    ended_by (λ r. Same kind.AddDevice m (add_device_reading r)) (λ f. tt) m ((((20 + 4 + 2 * word_at m 20 + 4 + 2 * word_at m (20 + 4 + 2 * word_at m 20)) + 4 + 2 * word_at m (20 + 4 + 2 * word_at m 20 + 4 + 2 * word_at m (20 + 4 + 2 * word_at m 20))) + 4 + 2 * word_at m ((20 + 4 + 2 * word_at m 20 + 4 + 2 * word_at m (20 + 4 + 2 * word_at m 20)) + 4 + 2 * word_at m (20 + 4 + 2 * word_at m 20 + 4 + 2 * word_at m (20 + 4 + 2 * word_at m 20)))) + 28) _ λ z.
    (ap (λ x. word_at m 12 ∷ x ∷ word_at m (((20 + 4 + 2 * word_at m 20 + 4 + 2 * word_at m (20 + 4 + 2 * word_at m 20)) + 4 + 2 * word_at m (20 + 4 + 2 * word_at m 20 + 4 + 2 * word_at m (20 + 4 + 2 * word_at m 20))) + 4 + 2 * word_at m ((20 + 4 + 2 * word_at m 20 + 4 + 2 * word_at m (20 + 4 + 2 * word_at m 20)) + 4 + 2 * word_at m (20 + 4 + 2 * word_at m 20 + 4 + 2 * word_at m (20 + 4 + 2 * word_at m 20)))) ∷ word_at m ((((20 + 4 + 2 * word_at m 20 + 4 + 2 * word_at m (20 + 4 + 2 * word_at m 20)) + 4 + 2 * word_at m (20 + 4 + 2 * word_at m 20 + 4 + 2 * word_at m (20 + 4 + 2 * word_at m 20))) + 4 + 2 * word_at m ((20 + 4 + 2 * word_at m 20 + 4 + 2 * word_at m (20 + 4 + 2 * word_at m 20)) + 4 + 2 * word_at m (20 + 4 + 2 * word_at m 20 + 4 + 2 * word_at m (20 + 4 + 2 * word_at m 20)))) + 4) ∷ word_at m ((((20 + 4 + 2 * word_at m 20 + 4 + 2 * word_at m (20 + 4 + 2 * word_at m 20)) + 4 + 2 * word_at m (20 + 4 + 2 * word_at m 20 + 4 + 2 * word_at m (20 + 4 + 2 * word_at m 20))) + 4 + 2 * word_at m ((20 + 4 + 2 * word_at m 20 + 4 + 2 * word_at m (20 + 4 + 2 * word_at m 20)) + 4 + 2 * word_at m (20 + 4 + 2 * word_at m 20 + 4 + 2 * word_at m (20 + 4 + 2 * word_at m 20)))) + 8) ∷ word_at m ((((20 + 4 + 2 * word_at m 20 + 4 + 2 * word_at m (20 + 4 + 2 * word_at m 20)) + 4 + 2 * word_at m (20 + 4 + 2 * word_at m 20 + 4 + 2 * word_at m (20 + 4 + 2 * word_at m 20))) + 4 + 2 * word_at m ((20 + 4 + 2 * word_at m 20 + 4 + 2 * word_at m (20 + 4 + 2 * word_at m 20)) + 4 + 2 * word_at m (20 + 4 + 2 * word_at m 20 + 4 + 2 * word_at m (20 + 4 + 2 * word_at m 20)))) + 12) ∷ word_at m ((((20 + 4 + 2 * word_at m 20 + 4 + 2 * word_at m (20 + 4 + 2 * word_at m 20)) + 4 + 2 * word_at m (20 + 4 + 2 * word_at m 20 + 4 + 2 * word_at m (20 + 4 + 2 * word_at m 20))) + 4 + 2 * word_at m ((20 + 4 + 2 * word_at m 20 + 4 + 2 * word_at m (20 + 4 + 2 * word_at m 20)) + 4 + 2 * word_at m (20 + 4 + 2 * word_at m 20 + 4 + 2 * word_at m (20 + 4 + 2 * word_at m 20)))) + 16) ∷ word_at m ((((20 + 4 + 2 * word_at m 20 + 4 + 2 * word_at m (20 + 4 + 2 * word_at m 20)) + 4 + 2 * word_at m (20 + 4 + 2 * word_at m 20 + 4 + 2 * word_at m (20 + 4 + 2 * word_at m 20))) + 4 + 2 * word_at m ((20 + 4 + 2 * word_at m 20 + 4 + 2 * word_at m (20 + 4 + 2 * word_at m 20)) + 4 + 2 * word_at m (20 + 4 + 2 * word_at m 20 + 4 + 2 * word_at m (20 + 4 + 2 * word_at m 20)))) + 20) ∷ word_at m ((((20 + 4 + 2 * word_at m 20 + 4 + 2 * word_at m (20 + 4 + 2 * word_at m 20)) + 4 + 2 * word_at m (20 + 4 + 2 * word_at m 20 + 4 + 2 * word_at m (20 + 4 + 2 * word_at m 20))) + 4 + 2 * word_at m ((20 + 4 + 2 * word_at m 20 + 4 + 2 * word_at m (20 + 4 + 2 * word_at m 20)) + 4 + 2 * word_at m (20 + 4 + 2 * word_at m 20 + 4 + 2 * word_at m (20 + 4 + 2 * word_at m 20)))) + 24) ∷ []) (word_whole (word_at m 16)), refl)

in_from : (m : List ℕ) (r : Result (TsUrb × ℕ) Fault) → ts_urb_of (take (16 + word_at m 12) m) ≡ r → Same kind.TransferInRequest m (transfer_in_request_reading (incoming_from m (transfer_from m (16 + word_at m 12) r)))
unfolding output_of outgoing_of fields_in transfer_in numbers_of parts_of
in_from m (Ok (t, end)) e =
    field_by (λ r. Same kind.TransferInRequest m (transfer_in_request_reading (incoming_from m r))) (λ f. tt) m (16 + word_at m 12) 4 _ λ c. filled_by (λ r. Same kind.TransferInRequest m (transfer_in_request_reading r)) (λ f. tt) end (16 + word_at m 12) _ λ d. ended_by (λ r. Same kind.TransferInRequest m (transfer_in_request_reading r)) (λ f. tt) m (16 + word_at m 12 + 4) _ λ z.
    (rw e (ap (λ x. (interface_in (word_at m 0)).0 ∷ word_at m (16 + word_at m 12) ∷ t.function ∷ t.request.0 ∷ bit t.noack ∷ x) (structure_same m t.urb).0), rw e (structure_same m t.urb).1)
in_from m (Err fault) e = tt

in_found : (m : List ℕ) → Same kind.TransferInRequest m (transfer_in_request_reading (transfer_in_request_of m))
unfolding transfer_in_request_of transfer_of transfer_with
in_found m = field_by (λ r. Same kind.TransferInRequest m (transfer_in_request_reading (incoming_from m r))) (λ f. tt) m 12 4 _ λ a. at_least_by (λ r. Same kind.TransferInRequest m (transfer_in_request_reading (incoming_from m r))) (λ f. tt) 8 (word_at m 12) 12 _ λ b. field_by (λ r. Same kind.TransferInRequest m (transfer_in_request_reading (incoming_from m r))) (λ f. tt) m 16 (word_at m 12) _ λ c. in_from m (ts_urb_of (take (16 + word_at m 12) m)) refl

out_from : (m : List ℕ) (r : Result (TsUrb × ℕ) Fault) → ts_urb_of (take (16 + word_at m 12) m) ≡ r → Same kind.TransferOutRequest m (transfer_out_request_reading (outgoing_from m (transfer_from m (16 + word_at m 12) r)))
unfolding output_of outgoing_of fields_in transfer_out numbers_of parts_of
out_from m (Ok (t, end)) e =
    field_by (λ r. Same kind.TransferOutRequest m (transfer_out_request_reading (outgoing_from m r))) (λ f. tt) m (16 + word_at m 12) 4 _ λ c. field_by (λ r. Same kind.TransferOutRequest m (transfer_out_request_reading r)) (λ f. tt) m (16 + word_at m 12 + 4) (word_at m (16 + word_at m 12)) _ λ s. filled_by (λ r. Same kind.TransferOutRequest m (transfer_out_request_reading r)) (λ f. tt) end (16 + word_at m 12) _ λ d. ended_by (λ r. Same kind.TransferOutRequest m (transfer_out_request_reading r)) (λ f. tt) m (16 + word_at m 12 + 4 + word_at m (16 + word_at m 12)) _ λ z.
    (rw e (ap (λ x. (interface_in (word_at m 0)).0 ∷ t.function ∷ t.request.0 ∷ bit t.noack ∷ x) (structure_same m t.urb).0), rw e (ap (λ x. cut m (record { start = 16 + word_at m 12 + 4; size = word_at m (16 + word_at m 12) }) ∷ x) (structure_same m t.urb).1))
out_from m (Err fault) e = tt

out_found : (m : List ℕ) → Same kind.TransferOutRequest m (transfer_out_request_reading (transfer_out_request_of m))
unfolding transfer_out_request_of transfer_of transfer_with
out_found m = field_by (λ r. Same kind.TransferOutRequest m (transfer_out_request_reading (outgoing_from m r))) (λ f. tt) m 12 4 _ λ a. at_least_by (λ r. Same kind.TransferOutRequest m (transfer_out_request_reading (outgoing_from m r))) (λ f. tt) 8 (word_at m 12) 12 _ λ b. field_by (λ r. Same kind.TransferOutRequest m (transfer_out_request_reading (outgoing_from m r))) (λ f. tt) m 16 (word_at m 12) _ λ c. out_from m (ts_urb_of (take (16 + word_at m 12) m)) refl

-- Of a message whose sizes add up the fields at their places are the reader's.
pub found : (k : Kind) (m : List ℕ) → length m ≤ 65535 → Same k m (reading_of k m)
unfolding reading_of
found kind.CapabilityRequest m fits = capability_request_found m
found kind.CapabilityResponse m fits = capability_response_found m
found kind.ChannelCreatedByServer m fits = channel_created_by_server_found m
found kind.ChannelCreatedByClient m fits = channel_created_by_client_found m
found kind.AddVirtualChannel m fits = add_virtual_channel_found m
found kind.AddDevice m fits = device_found m fits
found kind.CancelRequest m fits = cancel_request_found m
found kind.RegisterRequestCallback m fits = callback_found m
found kind.IoControl m fits = io_control_found m
found kind.InternalIoControl m fits = internal_io_control_found m
found kind.TransferInRequest m fits = in_found m
found kind.TransferOutRequest m fits = out_found m
found kind.RetractDevice m fits = retract_device_found m
found kind.IoControlCompletion m fits = io_control_completion_found m
found kind.UrbCompletion m fits = urb_completion_found m
found kind.UrbCompletionNoData m fits = no_data_found m
