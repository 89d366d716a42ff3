-- What the table relies on: the payload that a message asks for lies within it, and its bytes decide nothing that is asked.
use Rattle.std.specs.Prelude.{Result, Err, Ok}
use Prim.Native.Nat.{ℕ, ◌+◌, ◌≤◌, ◌<◌}
use native.Mathlib.Omega.{arith}
use mathlib.Core.Path.{◌≡◌, refl, subst, ap}
use mathlib.Core.Logic.{◌⊎◌, inl, inr}
use mathlib.Core.List.{List}
use mathlib.Core.Bool.{Bool, true, false, cond}
use lib.ListN.{length}
use Rattle.answers.specs.declared.kind.Kind.{Kind}
use Rattle.wire.specs.CapabilityRequest.{capability_request_allowed}
use Rattle.wire.specs.CapabilityResponse.{capability_response_allowed}
use Rattle.wire.specs.ChannelCreated.{channel_created_allowed}
use Rattle.wire.specs.AddDevice.{add_device_allowed}
use Rattle.wire.specs.RegisterRequestCallback.{register_request_callback_allowed}
use Rattle.wire.specs.TransferInRequest.{transfer_in_request_allowed}
use Rattle.wire.specs.TransferOutRequest.{transfer_out_request_allowed}
use Rattle.wire.specs.RetractDevice.{retract_device_allowed}
use Rattle.wire.specs.UrbCompletion.{urb_completion_allowed}
use Rattle.wire.specs.Reading.{Body, capability_request_body, capability_response_body, channel_created_body, add_virtual_channel_body, add_device_body, cancel_request_body, register_request_callback_body, io_control_body, transfer_in_request_body, transfer_out_request_body, retract_device_body, io_control_completion_body, urb_completion_body, urb_completion_no_data_body, Reading, reading_of}
use Rattle.wire.specs.Message.{empty_part, asks_with, asks_by, asked_of}
use Rattle.wire_laws.specs.Sizes.{PartsWithin}
use Rattle.wire_laws.specs.Payload.{payload_part, data_run, AgreeOutside}
use Rattle.wire_laws.proofs.Sizes.{Good, good}
use Rattle.wire_laws.proofs.Blind.{Blind, none, all_blind}
use Rattle.wire.specs.declared.message.Asked.{Asked}
use Rattle.wire.specs.declared.message.Unfit.{Unfit}
use Rattle.wire.specs.declared.message.Unfit.TheVariants as unfit

-- what is shown of an answer: its payload lies within the message and, unless it is empty, behind the header
abbrev Lies : List ℕ → Result Asked Unfit → Type 0
Lies m a = ((payload_part a).start + (payload_part a).size ≤ length m) × (0 < (payload_part a).size → 12 ≤ (payload_part a).start)

none_lies : (m : List ℕ) → (0 + 0 ≤ length m) × (0 < 0 → 12 ≤ 0)
none_lies m = (omega arith, λ h. omega arith)

-- an answer that is refused for a value has no payload
checked_lies : (m : List ℕ) (t : Bool) (a : Result Asked Unfit) → Lies m a → Lies m (cond t a (Err unfit.Value))
checked_lies m true a h = h
checked_lies m false a h = none_lies m

body_lies : (m : List ℕ) (b : Body) → PartsWithin (length m) b → Lies m (asks_with b)
body_lies m (capability_request_body b) w = checked_lies m (capability_request_allowed b) _ (none_lies m)
body_lies m (capability_response_body b) w = checked_lies m (capability_response_allowed b) _ (none_lies m)
body_lies m (channel_created_body b) w = checked_lies m (channel_created_allowed b) _ (none_lies m)
body_lies m add_virtual_channel_body w = none_lies m
body_lies m (add_device_body b) w = checked_lies m (add_device_allowed b) _ (none_lies m)
body_lies m (cancel_request_body b) w = none_lies m
body_lies m (register_request_callback_body b) w = checked_lies m (register_request_callback_allowed b) _ (none_lies m)
body_lies m (io_control_body b) w = (w.1, λ h. w.0)
body_lies m (transfer_in_request_body b) w = checked_lies m (transfer_in_request_allowed b) _ (none_lies m)
body_lies m (transfer_out_request_body b) w = checked_lies m (transfer_out_request_allowed b) _ (w.1.1, λ h. w.1.0)
body_lies m (retract_device_body b) w = checked_lies m (retract_device_allowed b) _ (none_lies m)
body_lies m (io_control_completion_body b) w = (w.1, λ h. w.0)
body_lies m (urb_completion_body b) w = checked_lies m (urb_completion_allowed b) _ (w.1.1, λ h. w.1.0)
body_lies m (urb_completion_no_data_body b) w = none_lies m

reading_lies : (m : List ℕ) (r : Reading) → Good m r → Lies m (asks_by r)
reading_lies m (Ok b) g = body_lies m b g.1
reading_lies m (Err f) g = none_lies m

-- The payload of what a message asks lies within the message and, unless it is empty, behind its header.
pub asked_within : (k : Kind) (m : List ℕ) → ((payload_part (asked_of k m)).start + (payload_part (asked_of k m)).size ≤ length m) × (0 < (payload_part (asked_of k m)).size → 12 ≤ (payload_part (asked_of k m)).start)
unfolding asked_of
asked_within k m = reading_lies m (reading_of k m) (good k m)

-- the payload of what a body asks is its data run, or none where a value is refused
abbrev Shows : Body → Result Asked Unfit → Type 0
Shows b a = (payload_part a ≡ data_run b) ⊎ (payload_part a ≡ empty_part)

checked_shows : (b : Body) (t : Bool) (a : Result Asked Unfit) → payload_part a ≡ data_run b → Shows b (cond t a (Err unfit.Value))
checked_shows b true a e = inl e
checked_shows b false a e = inr refl

shows : (b : Body) → Shows b (asks_with b)
shows (capability_request_body b) = checked_shows (capability_request_body b) (capability_request_allowed b) _ refl
shows (capability_response_body b) = checked_shows (capability_response_body b) (capability_response_allowed b) _ refl
shows (channel_created_body b) = checked_shows (channel_created_body b) (channel_created_allowed b) _ refl
shows add_virtual_channel_body = inl refl
shows (add_device_body b) = checked_shows (add_device_body b) (add_device_allowed b) _ refl
shows (cancel_request_body b) = inl refl
shows (register_request_callback_body b) = checked_shows (register_request_callback_body b) (register_request_callback_allowed b) _ refl
shows (io_control_body b) = inl refl
shows (transfer_in_request_body b) = checked_shows (transfer_in_request_body b) (transfer_in_request_allowed b) _ refl
shows (transfer_out_request_body b) = checked_shows (transfer_out_request_body b) (transfer_out_request_allowed b) _ refl
shows (retract_device_body b) = checked_shows (retract_device_body b) (retract_device_allowed b) _ refl
shows (io_control_completion_body b) = inl refl
shows (urb_completion_body b) = checked_shows (urb_completion_body b) (urb_completion_allowed b) _ refl
shows (urb_completion_no_data_body b) = inl refl

-- a message n that differs from m only in the payload of what m asks reads alike
alike : (k : Kind) (m n : List ℕ) (r : Reading) → Blind m n (reading_of k) r → AgreeOutside (payload_part (asks_by r)) m n → reading_of k n ≡ reading_of k m
alike k m n (Ok b) h g = go (shows b)
  where
    go : Shows b (asks_with b) → reading_of k n ≡ reading_of k m
    go (inl e) = h (subst (λ p. AgreeOutside p m n) e g)
    go (inr e) = none (reading_of k) m n (subst (λ p. AgreeOutside p m n) e g)
alike k m n (Err f) h g = none (reading_of k) m n g

-- Two messages that differ only within the payload of the first ask the same.
pub asked_blind : (k : Kind) (m n : List ℕ) → AgreeOutside (payload_part (asked_of k m)) m n → asked_of k n ≡ asked_of k m
unfolding asked_of
asked_blind k m n g = ap asks_by (alike k m n (reading_of k m) (all_blind m n k) g)
