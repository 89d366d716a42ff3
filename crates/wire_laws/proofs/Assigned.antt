-- What a channel learns from a message is an interface that may be given: none of 0 to 3.
use Rattle.std.specs.Prelude.{Option, Some, None, Result, Ok, Err}
use Prim.Native.Nat.{ℕ}
use mathlib.Core.Path.{◌≡◌, refl}
use mathlib.Core.List.{List}
use mathlib.Core.Bool.{Bool, true, false, cond, ◌&&◌}
use lib.Dec.{eqb}
use Rattle.header.specs.Ids.{assignable}
use Rattle.answers.specs.declared.kind.Kind.{Kind}
use Rattle.wire.specs.CapabilityRequest.{capability_request_allowed}
use Rattle.wire.specs.CapabilityResponse.{capability_response_allowed}
use Rattle.wire.specs.ChannelCreated.{channel_created_allowed}
use Rattle.wire.specs.AddDevice.{add_device_allowed}
use Rattle.wire.specs.RegisterRequestCallback.{register_request_callback_allowed, given_allowed}
use Rattle.wire.specs.TransferInRequest.{transfer_in_request_allowed}
use Rattle.wire.specs.TransferOutRequest.{transfer_out_request_allowed}
use Rattle.wire.specs.RetractDevice.{retract_device_allowed}
use Rattle.wire.specs.UrbCompletion.{urb_completion_allowed}
use Rattle.wire.specs.Reading.{Body, capability_request_body, capability_response_body, channel_created_body, add_virtual_channel_body, add_device_body, cancel_request_body, register_request_callback_body, io_control_body, transfer_in_request_body, transfer_out_request_body, retract_device_body, io_control_completion_body, urb_completion_body, urb_completion_no_data_body, Reading, reading_of}
use Rattle.wire.specs.Message.{asks_with, asks_by, asked_of}
use Rattle.wire.specs.declared.message.Asked.TheVariants.{Callback}
use Rattle.wire_laws.specs.Assigned.{Assigned}
use Rattle.header.specs.declared.ids.InterfaceId.{InterfaceId}
use Rattle.wire.specs.declared.message.Asked.{Asked}
use Rattle.wire.specs.declared.message.Unfit.{Unfit}
use Rattle.wire.specs.declared.message.Unfit.TheVariants as unfit

checked : (t : Bool) (a : Result Asked Unfit) → (t ≡ true → Assigned a) → Assigned (cond t a (Err unfit.Value))
checked true a h = h refl
checked false a h = tt

second : (a b c : Bool) → (a && (b && c)) ≡ true → b ≡ true
second true true c e = refl
second true false c e = e
second false b c e = cc

callback_given : (k : Option InterfaceId) → given_allowed k ≡ true → Assigned (Ok (Callback k))
callback_given None e = tt
callback_given (Some id) e = e

body_assigned : (b : Body) → Assigned (asks_with b)
unfolding add_device_allowed
body_assigned (capability_request_body b) = checked (capability_request_allowed b) _ (λ e. tt)
body_assigned (capability_response_body b) = checked (capability_response_allowed b) _ (λ e. tt)
body_assigned (channel_created_body b) = checked (channel_created_allowed b) _ (λ e. tt)
body_assigned add_virtual_channel_body = tt
body_assigned (add_device_body b) = checked (add_device_allowed b) _ (λ e. second (eqb b.count 1) (assignable b.device) _ e)
body_assigned (cancel_request_body b) = tt
body_assigned (register_request_callback_body b) = checked (register_request_callback_allowed b) _ (callback_given b.callback)
body_assigned (io_control_body b) = tt
body_assigned (transfer_in_request_body b) = checked (transfer_in_request_allowed b) _ (λ e. tt)
body_assigned (transfer_out_request_body b) = checked (transfer_out_request_allowed b) _ (λ e. tt)
body_assigned (retract_device_body b) = checked (retract_device_allowed b) _ (λ e. tt)
body_assigned (io_control_completion_body b) = tt
body_assigned (urb_completion_body b) = checked (urb_completion_allowed b) _ (λ e. tt)
body_assigned (urb_completion_no_data_body b) = tt

reading_assigned : (r : Reading) → Assigned (asks_by r)
reading_assigned (Ok b) = body_assigned b
reading_assigned (Err f) = tt

-- The device that a message adds, and the callback that it registers, are none of 0 to 3.
pub assigned : (k : Kind) (m : List ℕ) → Assigned (asked_of k m)
unfolding asked_of
assigned k m = reading_assigned (reading_of k m)
