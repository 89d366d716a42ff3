-- The size reader looks at no byte of a payload: two messages that differ only there read as the same body.
use Rattle.std.specs.Prelude.{Result, Ok, Err}
use Prim.Native.Nat.{ℕ, ◌+◌, ◌≤◌, ◌<◌}
use native.Mathlib.Omega.{arith}
use mathlib.Core.Path.{◌≡◌, refl, sym, subst, ap, ◌∙◌}
use mathlib.Core.List.{List}
use mathlib.Core.Bool.{Bool, true, false}
use lib.Dec.{eqb, ltb}
use borrow.Author.Tests.{ltb-false, ltb-true}
use lib.ListN.{length, take, length-take}
use lib.Seq.{ext_get_or, get_or-take}
use Rattle.words.specs.Words.{byte_at, half_at, word_at}
use Rattle.wire_laws.specs.Payload.{AgreeOutside, data_run}
use Rattle.wire.specs.CapabilityRequest.{capability_request_of}
use Rattle.wire.specs.CapabilityResponse.{capability_response_of}
use Rattle.wire.specs.ChannelCreated.{channel_created_of}
use Rattle.wire.specs.AddVirtualChannel.{add_virtual_channel_of}
use Rattle.device.specs.DeviceCapabilities.{capabilities_of}
use Rattle.wire.specs.AddDevice.{device_with, device_of, pair_of, classes_from, names_from, add_device_of}
use Rattle.wire.specs.CancelRequest.{cancel_request_of}
use Rattle.wire.specs.RegisterRequestCallback.{register_request_callback_of}
use Rattle.wire.specs.RetractDevice.{retract_device_of}
use Rattle.wire.specs.declared.add_device.TextPair.{TextPair}
use Rattle.wire.specs.IoControl.{io_control_of, io_control_with}
use Rattle.wire.specs.IoControlCompletion.{io_control_completion_of, io_control_completion_with}
use Rattle.urb.specs.TsUrb.{ts_urb_of}
use Rattle.wire.specs.Transfer.{output_of, transfer_from, transfer_with, transfer_of}
use Rattle.wire.specs.TransferInRequest.{incoming_from, transfer_in_request_of}
use Rattle.wire.specs.TransferOutRequest.{outgoing_of, outgoing_from, transfer_out_request_of}
use Rattle.wire.specs.TsUrbResult.{completed_of, completion_with, completion_of}
use Rattle.wire.specs.UrbCompletion.{with_output_of, with_output_from, urb_completion_of}
use Rattle.wire.specs.UrbCompletionNoData.{no_data_from, urb_completion_no_data_of}
use Rattle.wire.specs.Reading.{Body, Reading, reading_of, capability_request_reading, capability_response_reading, channel_created_reading, add_virtual_channel_reading, add_device_reading, cancel_request_reading, register_request_callback_reading, io_control_reading, transfer_in_request_reading, transfer_out_request_reading, retract_device_reading, io_control_completion_reading, urb_completion_reading, urb_completion_no_data_reading}
use Rattle.answers.specs.declared.kind.Kind.{Kind}
use Rattle.words.specs.declared.layout.Part.{Part}
use Rattle.answers.specs.declared.kind.Kind.TheVariants as kind
use Rattle.words.proofs.Steps.{either, field_by, agrees_by, at_least_by, ended_by, filled_by}
use Rattle.words.specs.declared.layout.Fault.{Fault}
use Rattle.device.specs.declared.device_capabilities.DeviceCapabilities.{DeviceCapabilities}
use Rattle.urb.specs.declared.ts_urb.TsUrb.{TsUrb}
use Rattle.wire.specs.declared.transfer.Transfer.{Transfer}
use Rattle.wire.specs.declared.ts_urb_result.Completion.{Completion}

-- Two messages that agree on a run of places agree on a number there.
module _ (m n : List ℕ) (lo hi : ℕ) (same : (i : ℕ) → lo ≤ i → i < hi → byte_at m i ≡ byte_at n i) where
  half_same : (at : ℕ) → lo ≤ at → at + 2 ≤ hi → half_at m at ≡ half_at n at
  half_same at l h = rw (same at (omega arith) (omega arith), same (at + 1) (omega arith) (omega arith))

  word_same : (at : ℕ) → lo ≤ at → at + 4 ≤ hi → word_at m at ≡ word_at n at
  word_same at l h = rw (same at (omega arith) (omega arith), same (at + 1) (omega arith) (omega arith), same (at + 2) (omega arith) (omega arith), same (at + 3) (omega arith) (omega arith))

-- what is shown of a reader f at a message m that reads as r
abbrev pub Blind : {A : Type 0} → List ℕ → List ℕ → (List ℕ → A) → Reading → Type 0
Blind m n f (Ok b) = AgreeOutside (data_run b) m n → f n ≡ f m
Blind m n f (Err fault) = Unit {0}

pub io_control_blind : (m n : List ℕ) → Blind m n io_control_of (io_control_reading (io_control_of m))
unfolding io_control_of io_control_with
io_control_blind m n =
    field_by (λ r. Blind m n io_control_of (io_control_reading r)) (λ f. tt) m 12 4 _ λ a. field_by (λ r. Blind m n io_control_of (io_control_reading r)) (λ f. tt) m 16 4 _ λ b. field_by (λ r. Blind m n io_control_of (io_control_reading r)) (λ f. tt) m 20 (word_at m 16) _ λ c.
    field_by (λ r. Blind m n io_control_of (io_control_reading r)) (λ f. tt) m (20 + word_at m 16) 4 _ λ d. field_by (λ r. Blind m n io_control_of (io_control_reading r)) (λ f. tt) m (20 + word_at m 16 + 4) 4 _ λ e.
    ended_by (λ r. Blind m n io_control_of (io_control_reading r)) (λ f. tt) m (20 + word_at m 16 + 8) _ λ z. λ g.
    let code = word_same m n 0 20 (λ i l h. g.1 i h) 12 (omega arith) (omega arith) in
    let size = word_same m n 0 20 (λ i l h. g.1 i h) 16 (omega arith) (omega arith) in
    let output = word_same m n (20 + word_at m 16) (20 + word_at m 16 + 8) (λ i l h. g.2 i l) (20 + word_at m 16) (omega arith) (omega arith) in
    let request = word_same m n (20 + word_at m 16) (20 + word_at m 16 + 8) (λ i l h. g.2 i l) (20 + word_at m 16 + 4) (omega arith) (omega arith) in
    rw (← g.0, ← code, ← size, ← output, ← request)

pub io_control_completion_blind : (m n : List ℕ) → Blind m n io_control_completion_of (io_control_completion_reading (io_control_completion_of m))
unfolding io_control_completion_of io_control_completion_with
io_control_completion_blind m n =
    field_by (λ r. Blind m n io_control_completion_of (io_control_completion_reading r)) (λ f. tt) m 12 4 _ λ a. field_by (λ r. Blind m n io_control_completion_of (io_control_completion_reading r)) (λ f. tt) m 16 4 _ λ b. field_by (λ r. Blind m n io_control_completion_of (io_control_completion_reading r)) (λ f. tt) m 20 4 _ λ c.
    field_by (λ r. Blind m n io_control_completion_of (io_control_completion_reading r)) (λ f. tt) m 24 4 _ λ d. field_by (λ r. Blind m n io_control_completion_of (io_control_completion_reading r)) (λ f. tt) m 28 (word_at m 24) _ λ e.
    ended_by (λ r. Blind m n io_control_completion_of (io_control_completion_reading r)) (λ f. tt) m (28 + word_at m 24) _ λ z. λ g.
    let word = word_same m n 0 28 (λ i l h. g.1 i h) in
    rw (← g.0, ← (word 12 (omega arith) (omega arith)), ← (word 16 (omega arith) (omega arith)), ← (word 20 (omega arith) (omega arith)), ← (word 24 (omega arith) (omega arith)))

-- the two transfers read up to the byte behind OutputBufferSize
abbrev After : List ℕ → Result Transfer Fault → Type 0
After m (Ok t) = t.after ≡ 16 + word_at m 12 + 4
After m (Err f) = Unit {0}

after_from : (m : List ℕ) (r : Result (TsUrb × ℕ) Fault) → After m (transfer_from m (16 + word_at m 12) r)
unfolding output_of
after_from m (Ok (t, last)) = field_by (After m) (λ f. tt) m (16 + word_at m 12) 4 _ λ a. refl
after_from m (Err f) = tt

after : (m : List ℕ) → After m (transfer_of m)
unfolding transfer_of transfer_with
after m =
    field_by (After m) (λ f. tt) m 12 4 _ λ a. at_least_by (After m) (λ f. tt) 8 (word_at m 12) 12 _ λ b.
    field_by (After m) (λ f. tt) m 16 (word_at m 12) _ λ c. after_from m (ts_urb_of (take (16 + word_at m 12) m))

cut_same : (m n : List ℕ) (k : ℕ) → length m ≡ length n → ((i : ℕ) → i < k → byte_at m i ≡ byte_at n i) → take k m ≡ take k n
cut_same m n k e f =
    ext_get_or 0 (take k m) (take k n) (omega (arith, length-take k m, length-take k n))
    (λ i h. let q : i < k = omega (arith, length-take k m) in get_or-take k m i 0 q ∙ f i q ∙ sym (get_or-take k n i 0 q))

from_same : (m n : List ℕ) (end : ℕ) (r : Result (TsUrb × ℕ) Fault) → length m ≡ length n → word_at m end ≡ word_at n end → transfer_from n end r ≡ transfer_from m end r
unfolding output_of
from_same m n end (Ok (t, last)) e w = rw (← e, ← w)
from_same m n end (Err f) e w = refl

transfer_same : (m n : List ℕ) → length m ≡ length n → ((i : ℕ) → i < 16 + word_at m 12 + 4 → byte_at m i ≡ byte_at n i) → transfer_of n ≡ transfer_of m
unfolding transfer_of transfer_with
transfer_same m n e f =
    let word = word_same m n 0 (16 + word_at m 12 + 4) (λ i l h. f i h) in
    let size = word 12 (omega arith) (omega arith) in
    let cut = cut_same m n (16 + word_at m 12) e (λ i h. f i (omega arith)) in
    rw (← e, ← size, ← cut, from_same m n (16 + word_at m 12) (ts_urb_of (take (16 + word_at m 12) m)) e (word (16 + word_at m 12) (omega arith) (omega arith)))

outgoing_length : (m n : List ℕ) (r : Result Transfer Fault) → length m ≡ length n → outgoing_from n r ≡ outgoing_from m r
unfolding outgoing_of
outgoing_length m n (Ok t) e = rw (← e)
outgoing_length m n (Err f) e = refl

outgoing_blind : (m n : List ℕ) (r : Result Transfer Fault) → After m r → Blind m n transfer_out_request_of (transfer_out_request_reading (outgoing_from m r))
unfolding outgoing_of transfer_out_request_of
outgoing_blind m n (Ok t) k =
    field_by (λ r. Blind m n transfer_out_request_of (transfer_out_request_reading r)) (λ f. tt) m t.after t.size _ λ b. filled_by (λ r. Blind m n transfer_out_request_of (transfer_out_request_reading r)) (λ f. tt) t.last t.end _ λ c.
    ended_by (λ r. Blind m n transfer_out_request_of (transfer_out_request_reading r)) (λ f. tt) m (t.after + t.size) _ λ z. λ g.
    ap (outgoing_from n) (transfer_same m n g.0 (λ i h. g.1 i (omega arith))) ∙ outgoing_length m n (transfer_of m) g.0
outgoing_blind m n (Err f) k = tt

-- and the URB completions up to the byte behind theirs
abbrev Behind : List ℕ → Result Completion Fault → Type 0
Behind m (Ok c) = c.after ≡ 20 + word_at m 16 + 8
Behind m (Err f) = Unit {0}

behind : (m : List ℕ) → Behind m (completion_of m)
unfolding completion_of completion_with completed_of
behind m =
    field_by (Behind m) (λ f. tt) m 12 4 _ λ a. field_by (Behind m) (λ f. tt) m 16 4 _ λ b.
    at_least_by (Behind m) (λ f. tt) 8 (word_at m 16) 16 _ λ c. field_by (Behind m) (λ f. tt) m 20 (word_at m 16) _ λ d.
    agrees_by (Behind m) (λ f. tt) (half_at m 20) (word_at m 16) 20 _ λ e.
    field_by (Behind m) (λ f. tt) m (20 + word_at m 16) 4 _ λ g. field_by (Behind m) (λ f. tt) m (20 + word_at m 16 + 4) 4 _ λ k. refl

completion_same : (m n : List ℕ) → length m ≡ length n → ((i : ℕ) → i < 20 + word_at m 16 + 8 → byte_at m i ≡ byte_at n i) → completion_of n ≡ completion_of m
unfolding completion_of completion_with completed_of
completion_same m n e f =
    let word = word_same m n 0 (20 + word_at m 16 + 8) (λ i l h. f i h) in
    let half = half_same m n 0 (20 + word_at m 16 + 8) (λ i l h. f i h) in
    rw (← e, ← (word 16 (omega arith) (omega arith)), ← (word 12 (omega arith) (omega arith)), ← (half 20 (omega arith) (omega arith)), ← (word 24 (omega arith) (omega arith)), ← (word (20 + word_at m 16) (omega arith) (omega arith)), ← (word (20 + word_at m 16 + 4) (omega arith) (omega arith)))

with_output_length : (m n : List ℕ) (r : Result Completion Fault) → length m ≡ length n → with_output_from n r ≡ with_output_from m r
unfolding with_output_of
with_output_length m n (Ok c) e = rw (← e)
with_output_length m n (Err f) e = refl

with_output_blind : (m n : List ℕ) (r : Result Completion Fault) → Behind m r → Blind m n urb_completion_of (urb_completion_reading (with_output_from m r))
unfolding with_output_of urb_completion_of
with_output_blind m n (Ok c) k =
    field_by (λ r. Blind m n urb_completion_of (urb_completion_reading r)) (λ f. tt) m c.after c.size _ λ b. ended_by (λ r. Blind m n urb_completion_of (urb_completion_reading r)) (λ f. tt) m (c.after + c.size) _ λ z. λ g.
    ap (with_output_from n) (completion_same m n g.0 (λ i h. g.1 i (omega arith))) ∙ with_output_length m n (completion_of m) g.0
with_output_blind m n (Err f) k = tt

-- messages that agree outside a part of no bytes are one message
pub same_bytes : (p : Part) (m n : List ℕ) → p.size ≡ 0 → AgreeOutside p m n → m ≡ n
same_bytes p m n e g = ext_get_or 0 m n g.0 (λ i h. at i (ltb i p.start) (λ t. ltb-true i p.start t) (λ t. ltb-false i p.start t))
  where
    at : (i : ℕ) (t : Bool) → (t ≡ true → i < p.start) → (t ≡ false → p.start ≤ i) → byte_at m i ≡ byte_at n i
    at i true x y = g.1 i (x refl)
    at i false x y = g.2 i (let z = y refl in omega arith)

pub none : {A : Type 0} (f : List ℕ → A) (m n : List ℕ) → AgreeOutside (record { start = 0; size = 0 }) m n → f n ≡ f m
none f m n g = ap f (sym (same_bytes (record { start = 0; size = 0 }) m n refl g))

-- The kinds with no payload: their bodies have the empty part.
module _ (m n : List ℕ) where
  pub capability_request_blind : Blind m n capability_request_of (capability_request_reading (capability_request_of m))
  unfolding capability_request_of
  capability_request_blind = field_by (λ r. Blind m n capability_request_of (capability_request_reading r)) (λ x. tt) m 12 4 _ λ a12. ended_by (λ r. Blind m n capability_request_of (capability_request_reading r)) (λ x. tt) m 16 _ λ z. none capability_request_of m n

  pub capability_response_blind : Blind m n capability_response_of (capability_response_reading (capability_response_of m))
  unfolding capability_response_of
  capability_response_blind = field_by (λ r. Blind m n capability_response_of (capability_response_reading r)) (λ x. tt) m 8 4 _ λ a8. field_by (λ r. Blind m n capability_response_of (capability_response_reading r)) (λ x. tt) m 12 4 _ λ a12. ended_by (λ r. Blind m n capability_response_of (capability_response_reading r)) (λ x. tt) m 16 _ λ z. none capability_response_of m n

  pub channel_created_blind : Blind m n channel_created_of (channel_created_reading (channel_created_of m))
  unfolding channel_created_of
  channel_created_blind = field_by (λ r. Blind m n channel_created_of (channel_created_reading r)) (λ x. tt) m 12 4 _ λ a12. field_by (λ r. Blind m n channel_created_of (channel_created_reading r)) (λ x. tt) m 16 4 _ λ a16. field_by (λ r. Blind m n channel_created_of (channel_created_reading r)) (λ x. tt) m 20 4 _ λ a20. ended_by (λ r. Blind m n channel_created_of (channel_created_reading r)) (λ x. tt) m 24 _ λ z. none channel_created_of m n

  pub add_virtual_channel_blind : Blind m n add_virtual_channel_of (add_virtual_channel_reading (add_virtual_channel_of m))
  unfolding add_virtual_channel_of
  add_virtual_channel_blind = ended_by (λ r. Blind m n add_virtual_channel_of (add_virtual_channel_reading r)) (λ x. tt) m 12 _ λ z. none add_virtual_channel_of m n

  pub cancel_request_blind : Blind m n cancel_request_of (cancel_request_reading (cancel_request_of m))
  unfolding cancel_request_of
  cancel_request_blind = field_by (λ r. Blind m n cancel_request_of (cancel_request_reading r)) (λ x. tt) m 12 4 _ λ a12. ended_by (λ r. Blind m n cancel_request_of (cancel_request_reading r)) (λ x. tt) m 16 _ λ z. none cancel_request_of m n

  pub retract_device_blind : Blind m n retract_device_of (retract_device_reading (retract_device_of m))
  unfolding retract_device_of
  retract_device_blind = field_by (λ r. Blind m n retract_device_of (retract_device_reading r)) (λ x. tt) m 12 4 _ λ a12. ended_by (λ r. Blind m n retract_device_of (retract_device_reading r)) (λ x. tt) m 16 _ λ z. none retract_device_of m n

  pub register_request_callback_blind : Blind m n register_request_callback_of (register_request_callback_reading (register_request_callback_of m))
  unfolding register_request_callback_of
  register_request_callback_blind =
      field_by (λ r. Blind m n register_request_callback_of (register_request_callback_reading r)) (λ x. tt) m 12 4 _ λ a. either (λ r. Blind m n register_request_callback_of (register_request_callback_reading r)) (eqb (word_at m 12) 0) _ _
      (λ e. ended_by (λ r. Blind m n register_request_callback_of (register_request_callback_reading r)) (λ x. tt) m 16 _ λ z. none register_request_callback_of m n)
      (λ e. field_by (λ r. Blind m n register_request_callback_of (register_request_callback_reading r)) (λ x. tt) m 16 4 _ λ b. ended_by (λ r. Blind m n register_request_callback_of (register_request_callback_reading r)) (λ x. tt) m 20 _ λ z. none register_request_callback_of m n)

  device_blind : (names classes : TextPair) (r : Result (DeviceCapabilities × ℕ) Fault) → Blind m n add_device_of (add_device_reading (device_with m names classes r))
  device_blind names classes (Ok (c, end)) = ended_by (λ r. Blind m n add_device_of (add_device_reading r)) (λ x. tt) m end _ λ z. none add_device_of m n
  device_blind names classes (Err f) = tt

  classes_blind : (names : TextPair) (r : Result (TextPair × ℕ) Fault) → Blind m n add_device_of (add_device_reading (classes_from m names r))
  unfolding device_of
  classes_blind names (Ok (classes, at)) = device_blind names classes (capabilities_of m at)
  classes_blind names (Err f) = tt

  names_blind : (r : Result (TextPair × ℕ) Fault) → Blind m n add_device_of (add_device_reading (names_from m r))
  names_blind (Ok (names, middle)) = classes_blind names (pair_of m middle)
  names_blind (Err f) = tt

  pub add_device_blind : Blind m n add_device_of (add_device_reading (add_device_of m))
  unfolding add_device_of
  add_device_blind = field_by (λ r. Blind m n add_device_of (add_device_reading r)) (λ x. tt) m 12 4 _ λ a. field_by (λ r. Blind m n add_device_of (add_device_reading r)) (λ x. tt) m 16 4 _ λ b. names_blind (pair_of m 20)

  incoming_blind : (r : Result Transfer Fault) → Blind m n transfer_in_request_of (transfer_in_request_reading (incoming_from m r))
  incoming_blind (Ok t) = filled_by (λ r. Blind m n transfer_in_request_of (transfer_in_request_reading r)) (λ x. tt) t.last t.end _ λ a. ended_by (λ r. Blind m n transfer_in_request_of (transfer_in_request_reading r)) (λ x. tt) m t.after _ λ z. none transfer_in_request_of m n
  incoming_blind (Err f) = tt

  pub transfer_in_request_blind : Blind m n transfer_in_request_of (transfer_in_request_reading (transfer_in_request_of m))
  unfolding transfer_in_request_of
  transfer_in_request_blind = incoming_blind (transfer_of m)

  no_data_blind : (r : Result Completion Fault) → Blind m n urb_completion_no_data_of (urb_completion_no_data_reading (no_data_from m r))
  no_data_blind (Ok c) = ended_by (λ r. Blind m n urb_completion_no_data_of (urb_completion_no_data_reading r)) (λ x. tt) m c.after _ λ z. none urb_completion_no_data_of m n
  no_data_blind (Err f) = tt

  pub urb_completion_no_data_blind : Blind m n urb_completion_no_data_of (urb_completion_no_data_reading (urb_completion_no_data_of m))
  unfolding urb_completion_no_data_of
  urb_completion_no_data_blind = no_data_blind (completion_of m)

  pub transfer_out_request_blind : Blind m n transfer_out_request_of (transfer_out_request_reading (transfer_out_request_of m))
  unfolding transfer_out_request_of
  transfer_out_request_blind = outgoing_blind m n (transfer_of m) (after m)

  pub urb_completion_blind : Blind m n urb_completion_of (urb_completion_reading (urb_completion_of m))
  unfolding urb_completion_of
  urb_completion_blind = with_output_blind m n (completion_of m) (behind m)

  lifted : {A B : Type 0} (f : List ℕ → A) (g : A → B) (r : Reading) → Blind m n f r → Blind m n (λ l. g (f l)) r
  lifted f g (Ok b) h = λ a. ap g (h a)
  lifted f g (Err fault) h = tt

  pub all_blind : (k : Kind) → Blind m n (reading_of k) (reading_of k m)
  unfolding reading_of
  all_blind kind.CapabilityRequest = lifted capability_request_of capability_request_reading (capability_request_reading (capability_request_of m)) (capability_request_blind)
  all_blind kind.CapabilityResponse = lifted capability_response_of capability_response_reading (capability_response_reading (capability_response_of m)) (capability_response_blind)
  all_blind kind.ChannelCreatedByServer = lifted channel_created_of channel_created_reading (channel_created_reading (channel_created_of m)) (channel_created_blind)
  all_blind kind.ChannelCreatedByClient = lifted channel_created_of channel_created_reading (channel_created_reading (channel_created_of m)) (channel_created_blind)
  all_blind kind.AddVirtualChannel = lifted add_virtual_channel_of add_virtual_channel_reading (add_virtual_channel_reading (add_virtual_channel_of m)) (add_virtual_channel_blind)
  all_blind kind.AddDevice = lifted add_device_of add_device_reading (add_device_reading (add_device_of m)) (add_device_blind)
  all_blind kind.CancelRequest = lifted cancel_request_of cancel_request_reading (cancel_request_reading (cancel_request_of m)) (cancel_request_blind)
  all_blind kind.RegisterRequestCallback = lifted register_request_callback_of register_request_callback_reading (register_request_callback_reading (register_request_callback_of m)) (register_request_callback_blind)
  all_blind kind.IoControl = lifted io_control_of io_control_reading (io_control_reading (io_control_of m)) (io_control_blind m n)
  all_blind kind.InternalIoControl = lifted io_control_of io_control_reading (io_control_reading (io_control_of m)) (io_control_blind m n)
  all_blind kind.TransferInRequest = lifted transfer_in_request_of transfer_in_request_reading (transfer_in_request_reading (transfer_in_request_of m)) (transfer_in_request_blind)
  all_blind kind.TransferOutRequest = lifted transfer_out_request_of transfer_out_request_reading (transfer_out_request_reading (transfer_out_request_of m)) (transfer_out_request_blind)
  all_blind kind.RetractDevice = lifted retract_device_of retract_device_reading (retract_device_reading (retract_device_of m)) (retract_device_blind)
  all_blind kind.IoControlCompletion = lifted io_control_completion_of io_control_completion_reading (io_control_completion_reading (io_control_completion_of m)) (io_control_completion_blind m n)
  all_blind kind.UrbCompletion = lifted urb_completion_of urb_completion_reading (urb_completion_reading (urb_completion_of m)) (urb_completion_blind)
  all_blind kind.UrbCompletionNoData = lifted urb_completion_no_data_of urb_completion_no_data_reading (urb_completion_no_data_reading (urb_completion_no_data_of m)) (urb_completion_no_data_blind)

-- A message that fits its kind, and any other that differs from it only within its payload, read as the same body.
pub blind : (k : Kind) (m n : List ℕ) (b : Body) → reading_of k m ≡ Ok b → AgreeOutside (data_run b) m n → reading_of k n ≡ Ok b
blind k m n b e g = subst (Blind m n (reading_of k)) e (all_blind m n k) g ∙ e
