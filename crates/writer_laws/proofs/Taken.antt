-- What is written for a channel that allows it passes checks 3 to 8.
use Rattle.std.specs.Prelude.{Option, Some, None, Result, Ok, Err}
use Prim.Native.Nat.{ℕ, ◌≤◌}
use native.Mathlib.Omega.{arith}
use mathlib.Core.Path.{◌≡◌, refl, sym, ◌∙◌}
use mathlib.Core.Logic.{inl, inr}
use mathlib.Core.List.{List}
use mathlib.Core.Bool.{Bool, true, false, cond}
use lib.ListN.{length}
use lib.Dec.{eqb, ltb}
use borrow.Author.Tests.{eq-eqb, le-ltb}
use Rattle.words.proofs.Steps.{either}
use Rattle.header.specs.Header.{header_of}
use Rattle.header.specs.declared.ids.RequestId.{RequestId}
use Rattle.answers.specs.Phase.{phases_of}
use Rattle.answers.specs.declared.kind.Kind.{Kind}
use Rattle.wire.specs.Message.{asked_of, asks_by, asks_with}
use Rattle.wire.specs.CapabilityRequest.{capability_request_allowed}
use Rattle.wire.specs.CapabilityResponse.{capability_response_allowed}
use Rattle.wire.specs.ChannelCreated.{channel_created_allowed}
use Rattle.wire.specs.AddDevice.{add_device_allowed}
use Rattle.wire.specs.RegisterRequestCallback.{register_request_callback_allowed}
use Rattle.wire.specs.TransferInRequest.{transfer_in_request_allowed}
use Rattle.wire.specs.RetractDevice.{retract_device_allowed}
use Rattle.wire.specs.UrbCompletion.{urb_completion_allowed}
use Rattle.wire.specs.Reading.{Body, read_as, add_device_body, add_virtual_channel_body, cancel_request_body, capability_request_body, capability_response_body, channel_created_body, io_control_body, io_control_completion_body, register_request_callback_body, retract_device_body, transfer_in_request_body, urb_completion_body, urb_completion_no_data_body, capability_request_reading, capability_response_reading, channel_created_reading, add_virtual_channel_reading, add_device_reading, cancel_request_reading, register_request_callback_reading, io_control_reading, transfer_in_request_reading, retract_device_reading, io_control_completion_reading, urb_completion_reading, urb_completion_no_data_reading}
use Rattle.wire.specs.declared.message.Asked.TheVariants as asks
use Rattle.wire.specs.declared.message.Request.{Request}
use Rattle.wire.specs.declared.message.IoCompleted.{IoCompleted}
use Rattle.wire.specs.declared.message.UrbCompleted.{UrbCompleted}
use Rattle.kinds.specs.Kinds.{first_fitting, kinds}
use Rattle.channel.specs.declared.channel.Channel.{Channel}
use Rattle.channel.specs.declared.row.Open.{Open}
use Rattle.channel.specs.declared.row.Sort.{Sort}
use Rattle.requests.specs.declared.open.Held.{Held}
use Rattle.requests.specs.declared.open.Held.TheVariants as held
use Rattle.rules.specs.Decide.{decided}
use Rattle.rules.specs.Request.{taken}
use Rattle.rules.specs.Cancel.{cancelled}
use Rattle.rules.specs.Completion.{io_completed, no_data_completed, result_agrees, urb_closed, urb_completed}
use Rattle.rules.specs.declared.decide.Seen.{Seen}
use Rattle.turn.specs.Admit.{admitted, asks_in, from_header}
use Rattle.turn.specs.Step.{verdict_of}
use Rattle.turn.specs.Store.{seen_of}
use Rattle.table.specs.Entry.{answer_of}
use Rattle.writer_laws.specs.Rebuilt.{asks_some}
use Rattle.writer_laws.specs.Passed.{Passes, head_in}
use Rattle.writer_laws.proofs.Rebuilt.{refused}
use Rattle.words.specs.declared.layout.Fault.{Fault}
use Rattle.wire.specs.declared.capability_request.CapabilityRequest.{CapabilityRequest}
use Rattle.wire.specs.declared.capability_response.CapabilityResponse.{CapabilityResponse}
use Rattle.wire.specs.declared.channel_created.ChannelCreated.{ChannelCreated}
use Rattle.wire.specs.declared.add_virtual_channel.AddVirtualChannel.{AddVirtualChannel}
use Rattle.wire.specs.declared.add_device.AddDevice.{AddDevice}
use Rattle.wire.specs.declared.cancel_request.CancelRequest.{CancelRequest}
use Rattle.wire.specs.declared.register_request_callback.RegisterRequestCallback.{RegisterRequestCallback}
use Rattle.wire.specs.declared.io_control.IoControl.{IoControl}
use Rattle.wire.specs.declared.transfer_in_request.TransferInRequest.{TransferInRequest}
use Rattle.wire.specs.declared.retract_device.RetractDevice.{RetractDevice}
use Rattle.wire.specs.declared.io_control_completion.IoControlCompletion.{IoControlCompletion}
use Rattle.wire.specs.declared.urb_completion.UrbCompletion.{UrbCompletion}
use Rattle.wire.specs.declared.urb_completion_no_data.UrbCompletionNoData.{UrbCompletionNoData}
use Rattle.wire.specs.declared.message.Asked.{Asked}
use Rattle.wire.specs.declared.message.Unfit.{Unfit}
use Rattle.wire.specs.declared.message.Unfit.TheVariants as unfit
use Rattle.rules.specs.declared.verdict.Accepted.{Accepted}
use Rattle.rules.specs.declared.verdict.Refusal.{Refusal}

abbrev PassesBy : Result Accepted Refusal → Type 0
PassesBy v = Passes (answer_of v)

-- what the rows decide passes
taken_passes : (k : Kind) (r : Request) (s : Sort) (here : Held) (f : Option ℕ) → PassesBy (taken k r s here f)
unfolding taken answer_of
taken_passes k r s held.Nothing (Some at) = inl refl
taken_passes k r s held.Nothing None = inr (omega arith)
taken_passes k r s (held.Io at o) f = inr (omega arith)
taken_passes k r s (held.In at o) f = inr (omega arith)
taken_passes k r s (held.Out at o) f = inr (omega arith)

io_passes : (k : Kind) (c : IoCompleted) (here : Held) → PassesBy (io_completed k c here)
unfolding answer_of
io_passes k c held.Nothing = inr (omega arith)
io_passes k c (held.Io at o) = either PassesBy (ltb o.size c.size) _ _ (λ e. inr (omega arith)) (λ e. either PassesBy (result_agrees c o) _ _ (λ f. inl refl) (λ f. inr (omega arith)))
io_passes k c (held.In at o) = inr (omega arith)
io_passes k c (held.Out at o) = inr (omega arith)

closed_passes : (k : Kind) (c : UrbCompleted) (most at : ℕ) (o : Open) → PassesBy (urb_closed k c most at o)
unfolding answer_of
closed_passes k c most at o = either PassesBy (ltb most c.size) _ _ (λ e. inr (omega arith)) (λ e. inl refl)

urb_passes : (k : Kind) (c : UrbCompleted) (here : Held) → PassesBy (urb_completed k c here)
unfolding answer_of
urb_passes k c held.Nothing = inr (omega arith)
urb_passes k c (held.Io at o) = inr (omega arith)
urb_passes k c (held.In at o) = closed_passes k c o.size at o
urb_passes k c (held.Out at o) = inr (omega arith)

no_data_passes : (k : Kind) (c : UrbCompleted) (here : Held) → PassesBy (no_data_completed k c here)
unfolding answer_of
no_data_passes k c held.Nothing = inr (omega arith)
no_data_passes k c (held.Io at o) = inr (omega arith)
no_data_passes k c (held.In at o) = closed_passes k c 0 at o
no_data_passes k c (held.Out at o) = closed_passes k c o.size at o

cancel_passes : (k : Kind) (id : RequestId) (here : Held) → PassesBy (cancelled k id here)
unfolding answer_of
cancel_passes k id held.Nothing = inl refl
cancel_passes k id (held.Io at o) = either PassesBy o.marked _ _ (λ e. inl refl) (λ e. inl refl)
cancel_passes k id (held.In at o) = either PassesBy o.marked _ _ (λ e. inl refl) (λ e. inl refl)
cancel_passes k id (held.Out at o) = either PassesBy o.marked _ _ (λ e. inl refl) (λ e. inl refl)

-- a transfer out with NoAck needs milliseconds
abbrev pub NoAckAllowed : ℕ → Result Asked Unfit → Type 0
NoAckAllowed jitter (Err (unfit.Sizes fault)) = Unit {0}
NoAckAllowed jitter (Err unfit.Value) = Unit {0}
NoAckAllowed jitter (Ok asks.Step) = Unit {0}
NoAckAllowed jitter (Ok (asks.Device id ms)) = Unit {0}
NoAckAllowed jitter (Ok (asks.Callback known)) = Unit {0}
NoAckAllowed jitter (Ok (asks.IoControl r)) = Unit {0}
NoAckAllowed jitter (Ok (asks.TransferIn r)) = Unit {0}
NoAckAllowed jitter (Ok (asks.TransferOut r)) = r.noack ≡ true → eqb jitter 0 ≡ false
NoAckAllowed jitter (Ok (asks.Cancel id)) = Unit {0}
NoAckAllowed jitter (Ok asks.Retract) = Unit {0}
NoAckAllowed jitter (Ok (asks.IoCompletion c)) = Unit {0}
NoAckAllowed jitter (Ok (asks.UrbCompletion c)) = Unit {0}
NoAckAllowed jitter (Ok (asks.UrbCompletionNoData c)) = Unit {0}

-- what a message asks, where it asks something, passes
decided_passes : (k : Kind) (a : Result Asked Unfit) (n jitter : ℕ) (seen : Seen) → asks_some a ≡ true → NoAckAllowed jitter a → PassesBy (decided k a n jitter seen)
unfolding decided answer_of
decided_passes k (Err (unfit.Sizes fault)) n jitter seen e m = refused e
decided_passes k (Err unfit.Value) n jitter seen e m = refused e
decided_passes k (Ok asks.Step) n jitter seen e m = inl refl
decided_passes k (Ok (asks.Device id ms)) n jitter seen e m = inl refl
decided_passes k (Ok (asks.Callback id)) n jitter seen e m = inl refl
decided_passes k (Ok (asks.IoControl r)) n jitter seen e m = taken_passes k r _ seen.here seen.free
decided_passes k (Ok (asks.TransferIn r)) n jitter seen e m = taken_passes k r _ seen.here seen.free
decided_passes k (Ok (asks.TransferOut r)) n jitter seen e m = either PassesBy r.noack _ _ (λ t. either PassesBy (eqb jitter 0) _ _ (λ f. refused (sym (m t) ∙ f)) (λ f. inl refl)) (λ t. taken_passes k r _ seen.here seen.free)
decided_passes k (Ok (asks.Cancel id)) n jitter seen e m = cancel_passes k id seen.here
decided_passes k (Ok asks.Retract) n jitter seen e m = inl refl
decided_passes k (Ok (asks.IoCompletion c)) n jitter seen e m = io_passes k c seen.here
decided_passes k (Ok (asks.UrbCompletion c)) n jitter seen e m = urb_passes k c seen.here
decided_passes k (Ok (asks.UrbCompletionNoData c)) n jitter seen e m = no_data_passes k c seen.here

-- a message with a kind, in its phase and of an allowed length, passes where it asks something
pub verdict_passes : (c : Channel) (n side : ℕ) (w : List ℕ) (k : Kind) → 12 ≤ length w → length w ≤ 65535 → first_fitting kinds (head_in w) side c.device c.callback ≡ Some k → c.phase ≡ (phases_of k).before
    → asks_some (asked_of k w) ≡ true → NoAckAllowed c.jitter (asked_of k w) → PassesBy (verdict_of c n side w)
unfolding verdict_of admitted header_of from_header asks_in
verdict_passes c n side w k l h f p a m =
    rw (le-ltb (length w) 12 l, le-ltb 65535 (length w) h, f, eq-eqb (phases_of k).before c.phase (sym p)) (decided_passes k (asked_of k w) n c.jitter (seen_of c (asked_of k w)) a m)

-- no kind but a transfer out asks for a transfer out
checked : (jitter : ℕ) (t : Bool) (a : Result Asked Unfit) → NoAckAllowed jitter a → NoAckAllowed jitter (cond t a (Err unfit.Value))
checked jitter true a h = h
checked jitter false a h = tt

asks_no_out : {B : Type 0} (body : B → Body) → ((jitter : ℕ) (b : B) → NoAckAllowed jitter (asks_with (body b))) → (jitter : ℕ) (r : Result B Fault) → NoAckAllowed jitter (asks_by (read_as body r))
asks_no_out body h jitter (Ok b) = h jitter b
asks_no_out body h jitter (Err fault) = tt

pub capability_request_no_out : (jitter : ℕ) (r : Result CapabilityRequest Fault) → NoAckAllowed jitter (asks_by (capability_request_reading r))
capability_request_no_out = asks_no_out capability_request_body (λ j b. checked j (capability_request_allowed b) _ tt)

pub capability_response_no_out : (jitter : ℕ) (r : Result CapabilityResponse Fault) → NoAckAllowed jitter (asks_by (capability_response_reading r))
capability_response_no_out = asks_no_out capability_response_body (λ j b. checked j (capability_response_allowed b) _ tt)

pub channel_created_no_out : (jitter : ℕ) (r : Result ChannelCreated Fault) → NoAckAllowed jitter (asks_by (channel_created_reading r))
channel_created_no_out = asks_no_out channel_created_body (λ j b. checked j (channel_created_allowed b) _ tt)

pub add_virtual_channel_no_out : (jitter : ℕ) (r : Result AddVirtualChannel Fault) → NoAckAllowed jitter (asks_by (add_virtual_channel_reading r))
add_virtual_channel_no_out = asks_no_out (λ b. add_virtual_channel_body) (λ j b. tt)

pub add_device_no_out : (jitter : ℕ) (r : Result AddDevice Fault) → NoAckAllowed jitter (asks_by (add_device_reading r))
add_device_no_out = asks_no_out add_device_body (λ j b. checked j (add_device_allowed b) _ tt)

pub cancel_request_no_out : (jitter : ℕ) (r : Result CancelRequest Fault) → NoAckAllowed jitter (asks_by (cancel_request_reading r))
cancel_request_no_out = asks_no_out cancel_request_body (λ j b. tt)

pub register_request_callback_no_out : (jitter : ℕ) (r : Result RegisterRequestCallback Fault) → NoAckAllowed jitter (asks_by (register_request_callback_reading r))
register_request_callback_no_out = asks_no_out register_request_callback_body (λ j b. checked j (register_request_callback_allowed b) _ tt)

pub io_control_no_out : (jitter : ℕ) (r : Result IoControl Fault) → NoAckAllowed jitter (asks_by (io_control_reading r))
io_control_no_out = asks_no_out io_control_body (λ j b. tt)

pub transfer_in_request_no_out : (jitter : ℕ) (r : Result TransferInRequest Fault) → NoAckAllowed jitter (asks_by (transfer_in_request_reading r))
transfer_in_request_no_out = asks_no_out transfer_in_request_body (λ j b. checked j (transfer_in_request_allowed b) _ tt)

pub retract_device_no_out : (jitter : ℕ) (r : Result RetractDevice Fault) → NoAckAllowed jitter (asks_by (retract_device_reading r))
retract_device_no_out = asks_no_out retract_device_body (λ j b. checked j (retract_device_allowed b) _ tt)

pub io_control_completion_no_out : (jitter : ℕ) (r : Result IoControlCompletion Fault) → NoAckAllowed jitter (asks_by (io_control_completion_reading r))
io_control_completion_no_out = asks_no_out io_control_completion_body (λ j b. tt)

pub urb_completion_no_out : (jitter : ℕ) (r : Result UrbCompletion Fault) → NoAckAllowed jitter (asks_by (urb_completion_reading r))
urb_completion_no_out = asks_no_out urb_completion_body (λ j b. checked j (urb_completion_allowed b) _ tt)

pub urb_completion_no_data_no_out : (jitter : ℕ) (r : Result UrbCompletionNoData Fault) → NoAckAllowed jitter (asks_by (urb_completion_no_data_reading r))
urb_completion_no_data_no_out = asks_no_out urb_completion_no_data_body (λ j b. tt)
