-- The kind of a message tells what it asks.
use Rattle.std.specs.Prelude.{Result, Ok, Err}
use Prim.Native.Nat.{ℕ, ◌≤◌}
use native.Mathlib.Omega.{arith}
use mathlib.Core.Path.{◌≡◌, refl}
use mathlib.Core.List.{List}
use mathlib.Core.Bool.{Bool, true, false, cond}
use Rattle.answers.specs.Kind.{kind_number}
use Rattle.answers.specs.declared.kind.Kind.{Kind}
use Rattle.answers.specs.declared.kind.Kind.TheVariants as kind
use Rattle.wire.specs.Message.{asked_of, asks_by, asks_with}
use Rattle.wire.specs.Reading.{Body, read_as, reading_of, capability_request_body, capability_response_body, channel_created_body, add_virtual_channel_body, add_device_body, cancel_request_body, register_request_callback_body, io_control_body, transfer_in_request_body, transfer_out_request_body, retract_device_body, io_control_completion_body, urb_completion_body, urb_completion_no_data_body}
use Rattle.wire.specs.CapabilityRequest.{capability_request_of, capability_request_allowed}
use Rattle.wire.specs.CapabilityResponse.{capability_response_of, capability_response_allowed}
use Rattle.wire.specs.ChannelCreated.{channel_created_of, channel_created_allowed}
use Rattle.wire.specs.AddVirtualChannel.{add_virtual_channel_of}
use Rattle.wire.specs.AddDevice.{add_device_of, add_device_allowed}
use Rattle.wire.specs.CancelRequest.{cancel_request_of}
use Rattle.wire.specs.RegisterRequestCallback.{register_request_callback_of, register_request_callback_allowed}
use Rattle.wire.specs.IoControl.{io_control_of}
use Rattle.wire.specs.TransferInRequest.{transfer_in_request_of, transfer_in_request_allowed}
use Rattle.wire.specs.TransferOutRequest.{transfer_out_request_of, transfer_out_request_allowed}
use Rattle.wire.specs.RetractDevice.{retract_device_of, retract_device_allowed}
use Rattle.wire.specs.IoControlCompletion.{io_control_completion_of}
use Rattle.wire.specs.UrbCompletion.{urb_completion_of, urb_completion_allowed}
use Rattle.wire.specs.UrbCompletionNoData.{urb_completion_no_data_of}
use Rattle.wire.specs.declared.message.Asked.TheVariants.{Step, Device, Callback, IoControl, TransferIn, TransferOut, Cancel, Retract, IoCompletion, UrbCompletion, UrbCompletionNoData}
use Rattle.promises.specs.Names.{io_kind}
use Rattle.words.specs.declared.layout.Fault.{Fault}
use Rattle.wire.specs.declared.message.Asked.{Asked}
use Rattle.wire.specs.declared.message.Unfit.{Unfit}
use Rattle.wire.specs.declared.message.Unfit.TheVariants as unfit

-- none of the completions
abbrev pub NoCompletion : ℕ → Type 0
NoCompletion n = (15 ≤ n) × (n ≤ 17) → ⊥

-- nor a retract or a close: the kinds up to 13
abbrev pub Quiet : ℕ → Type 0
Quiet n = n ≤ 13

abbrev pub Kinded : ℕ → Result Asked Unfit → Type 0
Kinded n (Err unfit) = Unit {0}
Kinded n (Ok Step) = Quiet n
Kinded n (Ok (Device id ms)) = Quiet n
Kinded n (Ok (Callback known)) = Quiet n
Kinded n (Ok (IoControl r)) = io_kind n ≡ true
Kinded n (Ok (TransferIn r)) = n ≡ 10
Kinded n (Ok (TransferOut r)) = n ≡ 11
Kinded n (Ok (Cancel id)) = n ≡ 13
Kinded n (Ok Retract) = n ≡ 14
Kinded n (Ok (IoCompletion c)) = n ≡ 15
Kinded n (Ok (UrbCompletion c)) = n ≡ 16
Kinded n (Ok (UrbCompletionNoData c)) = n ≡ 17

checked : (n : ℕ) (t : Bool) (a : Result Asked Unfit) → Kinded n a → Kinded n (cond t a (Err unfit.Value))
checked n true a h = h
checked n false a h = tt

-- of a body that is read, whatever its kind; where the sizes fail nothing is asked
read_kinded : {B : Type 0} (n : ℕ) (body : B → Body) → ((b : B) → Kinded n (asks_with (body b))) → (r : Result B Fault) → Kinded n (asks_by (read_as body r))
read_kinded n body h (Ok b) = h b
read_kinded n body h (Err fault) = tt

pub kinded : (k : Kind) (m : List ℕ) → Kinded (kind_number k) (asked_of k m)
unfolding asked_of reading_of
kinded kind.CapabilityRequest m = read_kinded 1 capability_request_body (λ b. checked 1 (capability_request_allowed b) _ (omega arith)) (capability_request_of m)
kinded kind.CapabilityResponse m = read_kinded 2 capability_response_body (λ b. checked 2 (capability_response_allowed b) _ (omega arith)) (capability_response_of m)
kinded kind.ChannelCreatedByServer m = read_kinded 3 channel_created_body (λ b. checked 3 (channel_created_allowed b) _ (omega arith)) (channel_created_of m)
kinded kind.ChannelCreatedByClient m = read_kinded 4 channel_created_body (λ b. checked 4 (channel_created_allowed b) _ (omega arith)) (channel_created_of m)
kinded kind.AddVirtualChannel m = read_kinded 5 (λ b. add_virtual_channel_body) (λ b. omega arith) (add_virtual_channel_of m)
kinded kind.AddDevice m = read_kinded 6 add_device_body (λ b. checked 6 (add_device_allowed b) _ (omega arith)) (add_device_of m)
kinded kind.CancelRequest m = read_kinded 13 cancel_request_body (λ b. refl) (cancel_request_of m)
kinded kind.RegisterRequestCallback m = read_kinded 7 register_request_callback_body (λ b. checked 7 (register_request_callback_allowed b) _ (omega arith)) (register_request_callback_of m)
kinded kind.IoControl m = read_kinded 8 io_control_body (λ b. refl) (io_control_of m)
kinded kind.InternalIoControl m = read_kinded 9 io_control_body (λ b. refl) (io_control_of m)
kinded kind.TransferInRequest m = read_kinded 10 transfer_in_request_body (λ b. checked 10 (transfer_in_request_allowed b) _ refl) (transfer_in_request_of m)
kinded kind.TransferOutRequest m = read_kinded 11 transfer_out_request_body (λ b. checked 11 (transfer_out_request_allowed b) _ refl) (transfer_out_request_of m)
kinded kind.RetractDevice m = read_kinded 14 retract_device_body (λ b. checked 14 (retract_device_allowed b) _ refl) (retract_device_of m)
kinded kind.IoControlCompletion m = read_kinded 15 io_control_completion_body (λ b. refl) (io_control_completion_of m)
kinded kind.UrbCompletion m = read_kinded 16 urb_completion_body (λ b. checked 16 (urb_completion_allowed b) _ refl) (urb_completion_of m)
kinded kind.UrbCompletionNoData m = read_kinded 17 urb_completion_no_data_body (λ b. refl) (urb_completion_no_data_of m)
