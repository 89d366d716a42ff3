-- 02 R-1: what the writer writes is read back as the same fields, and on a table that allows it passes checks 3 to 8.
use Rattle.std.proofs.lemmas.Bool.{and_parts}
use Rattle.std.specs.Prelude.{Option, Some, None, Result, Ok, Err}
use Prim.Native.Nat.{ℕ, ◌+◌, ◌*◌, ◌/◌, ◌%◌, ◌<◌, ◌≤◌}
use native.Mathlib.Omega.{arith}
use mathlib.Core.Path.{◌≡◌, refl, ap, sym, subst, ◌∙◌}
use mathlib.Core.List.{List}
use mathlib.Core.Bool.{Bool, true, false, cond, not, ◌&&◌}
use lib.ListN.{length}
use lib.Dec.{eqb, leb, ltb}
use borrow.Author.Tests.{eq-eqb, leb-true, ne_eqb}
use Rattle.words.specs.Words.{word_at}
use Rattle.header.specs.Ids.{message_in}
use Rattle.header.specs.declared.ids.MessageId.{MessageId}
use Rattle.header.specs.declared.shared_msg_header.Header.{Header}
use Rattle.answers.specs.declared.kind.Kind.TheVariants as kind
use Rattle.wire.specs.Message.{asked_of, asks_by}
use Rattle.wire.specs.Reading.{Reading, reading_of}
use Rattle.wire.specs.RetractDevice.{retract_device_allowed, retract_device_of}
use Rattle.wire.specs.AddDevice.{add_device_of}
use Rattle.wire.specs.AddVirtualChannel.{add_virtual_channel_of}
use Rattle.wire.specs.CancelRequest.{cancel_request_of}
use Rattle.wire.specs.CapabilityRequest.{capability_request_of}
use Rattle.wire.specs.CapabilityResponse.{capability_response_of}
use Rattle.wire.specs.ChannelCreated.{channel_created_of}
use Rattle.wire.specs.IoControl.{io_control_of}
use Rattle.wire.specs.IoControlCompletion.{io_control_completion_of}
use Rattle.wire.specs.RegisterRequestCallback.{register_request_callback_of}
use Rattle.wire.specs.TransferInRequest.{transfer_in_request_of}
use Rattle.wire.specs.UrbCompletion.{urb_completion_of}
use Rattle.wire.specs.UrbCompletionNoData.{urb_completion_no_data_of}
use Rattle.kinds.specs.Kinds.{calls_known, client, first_fitting, kinds, server}
use Rattle.channel.specs.declared.channel.Channel.{Channel}
use Rattle.table.specs.Table.{channel_of, judge_of}
use Rattle.table.specs.declared.table.Table.{Table}
use Rattle.places.specs.Place.{no_place, used_up}
use Rattle.pieces.specs.Pieces as pieces
use Rattle.pieces.proofs.Pieces.{encode-length}
use Rattle.writer.specs.SharedMsgHeader.{interface_allowed}
use Rattle.writer.specs.Part.{part_allowed}
use Rattle.writer.specs.RegisterRequestCallback.{completion_allowed}
use Rattle.writer.specs.TsUrb.{stated_of}
use Rattle.writer.specs.Transfer.{incoming_by, outgoing_by, request_allowed, transfer_in_given, transfer_out_given}
use Rattle.writer.specs.UrbCompletion.{result_given}
use Rattle.writer.specs.Message.{bytes_of, given_in, pieces_of, written_of}
use Rattle.writer.specs.declared.message.Fields.{Fields}
use Rattle.writer.specs.declared.message.Fields.TheVariants as fields
use Rattle.writer_laws.specs.Layout.{Bytes}
use Rattle.writer_laws.specs.Rebuilt.{asks_some}
use Rattle.writer_laws.specs.Passed.{HasKind, Passes, head_in}
use Rattle.writer_laws.specs.ReadBack.{Allows, Goes, ReadBack, Wide32, kind_of, side_of}
use Rattle.writer_laws.proofs.Places.{fits-length}
use Rattle.writer_laws.proofs.Rebuilt.{Headed, refused}
use Rattle.writer_laws.proofs.Found.{Same}
use Rattle.writer_laws.proofs.Found as fields_found
use Rattle.writer_laws.proofs.Back as back
use Rattle.writer_laws.proofs.BackDevice.{device_back}
use Rattle.writer_laws.proofs.BackTransfer.{in_back, out_back}
use Rattle.writer_laws.proofs.Taken as passes
use Rattle.header.specs.declared.ids.InterfaceId.{InterfaceId}
use Rattle.pieces.specs.declared.piece.Unwritten.{Unwritten}
use Rattle.pieces.specs.declared.piece.Unwritten.TheVariants as unwritten

-- a header with an interface, a mask and a function
abbrev headed : ℕ → ℕ → MessageId → ℕ → Header
headed i mask id function = record { interface = record { 0 = i }; mask = mask; message = id; function = function }

head_read : (w : List ℕ) (i mask function : ℕ) → i < 0x4000_0000 → Headed i mask function w → head_in w ≡ headed i mask (message_in (word_at w 4)) function
head_read w i mask function h e =
    let a : word_at w 0 % 0x4000_0000 ≡ i = low (word_at w 0) i mask e.first h in
    let b : word_at w 0 / 0x4000_0000 ≡ mask = high (word_at w 0) i mask e.first h in
    ap (λ x. record { interface = record { 0 = x }; mask = word_at w 0 / 0x4000_0000; message = message_in (word_at w 4); function = word_at w 8 }) a ∙
    (ap (λ x. record { interface = record { 0 = i }; mask = x; message = message_in (word_at w 4); function = word_at w 8 }) b ∙
    ap (λ x. record { interface = record { 0 = i }; mask = mask; message = message_in (word_at w 4); function = x }) e.third)
  where
    low : (w i m : ℕ) → w ≡ i + 0x4000_0000 * m → i < 0x4000_0000 → w % 0x4000_0000 ≡ i
    low w i m e h = omega arith

    high : (w i m : ℕ) → w ≡ i + 0x4000_0000 * m → i < 0x4000_0000 → w / 0x4000_0000 ≡ m
    high w i m e h = omega arith

-- a message of the other side goes to no known interface
wrong_side : (h : Header) (side : ℕ) (k : Option InterfaceId) (by mask function : ℕ) → eqb side by ≡ false → calls_known h side k by mask function ≡ false
wrong_side h side None by mask function e = refl
wrong_side h side (Some id) by mask function e = rw e (none (eqb h.interface.0 id.0))
  where
    none : (a : Bool) → ((a && false) && eqb h.function function) ≡ false
    none true = refl
    none false = refl

-- the kind that is found, for an interface that is none of the defaults
module _ (i : ℕ) (id : MessageId) (four : 4 ≤ i) where
  n0 : eqb i 0 ≡ false
  n0 = ne_eqb i 0 (omega arith)

  n1 : eqb i 1 ≡ false
  n1 = ne_eqb i 1 (omega arith)

  n2 : eqb i 2 ≡ false
  n2 = ne_eqb i 2 (omega arith)

  n3 : eqb i 3 ≡ false
  n3 = ne_eqb i 3 (omega arith)

  ii : eqb i i ≡ true
  ii = eq-eqb i i refl

  cancel_found : (c : Option InterfaceId) → first_fitting kinds (headed i 1 id 0x100) server (Some (record { 0 = i })) c ≡ Some kind.CancelRequest
  cancel_found c = rw (n0, n1, n2, n3, ii)

  register_found : (c : Option InterfaceId) → first_fitting kinds (headed i 1 id 0x101) server (Some (record { 0 = i })) c ≡ Some kind.RegisterRequestCallback
  register_found c = rw (n0, n1, n2, n3, ii)

  io_found : (c : Option InterfaceId) → first_fitting kinds (headed i 1 id 0x102) server (Some (record { 0 = i })) c ≡ Some kind.IoControl
  io_found c = rw (n0, n1, n2, n3, ii)

  internal_found : (c : Option InterfaceId) → first_fitting kinds (headed i 1 id 0x103) server (Some (record { 0 = i })) c ≡ Some kind.InternalIoControl
  internal_found c = rw (n0, n1, n2, n3, ii)

  in_found : (c : Option InterfaceId) → first_fitting kinds (headed i 1 id 0x105) server (Some (record { 0 = i })) c ≡ Some kind.TransferInRequest
  in_found c = rw (n0, n1, n2, n3, ii)

  out_found : (c : Option InterfaceId) → first_fitting kinds (headed i 1 id 0x106) server (Some (record { 0 = i })) c ≡ Some kind.TransferOutRequest
  out_found c = rw (n0, n1, n2, n3, ii)

  retract_found : (c : Option InterfaceId) → first_fitting kinds (headed i 1 id 0x107) server (Some (record { 0 = i })) c ≡ Some kind.RetractDevice
  retract_found c = rw (n0, n1, n2, n3, ii)

  io_completed_found : (d : Option InterfaceId) → first_fitting kinds (headed i 1 id 0x100) client d (Some (record { 0 = i })) ≡ Some kind.IoControlCompletion
  io_completed_found d = rw (n0, n1, n2, n3, wrong_side (headed i 1 id 0x100) client d server 1 0x100 refl, wrong_side (headed i 1 id 0x100) client d server 1 0x101 refl, wrong_side (headed i 1 id 0x100) client d server 1 0x102 refl, wrong_side (headed i 1 id 0x100) client d server 1 0x103 refl, wrong_side (headed i 1 id 0x100) client d server 1 0x105 refl, wrong_side (headed i 1 id 0x100) client d server 1 0x106 refl, wrong_side (headed i 1 id 0x100) client d server 1 0x107 refl, ii)

  completed_found : (d : Option InterfaceId) → first_fitting kinds (headed i 1 id 0x101) client d (Some (record { 0 = i })) ≡ Some kind.UrbCompletion
  completed_found d = rw (n0, n1, n2, n3, wrong_side (headed i 1 id 0x101) client d server 1 0x100 refl, wrong_side (headed i 1 id 0x101) client d server 1 0x101 refl, wrong_side (headed i 1 id 0x101) client d server 1 0x102 refl, wrong_side (headed i 1 id 0x101) client d server 1 0x103 refl, wrong_side (headed i 1 id 0x101) client d server 1 0x105 refl, wrong_side (headed i 1 id 0x101) client d server 1 0x106 refl, wrong_side (headed i 1 id 0x101) client d server 1 0x107 refl, ii)

  no_data_found : (d : Option InterfaceId) → first_fitting kinds (headed i 1 id 0x102) client d (Some (record { 0 = i })) ≡ Some kind.UrbCompletionNoData
  no_data_found d = rw (n0, n1, n2, n3, wrong_side (headed i 1 id 0x102) client d server 1 0x100 refl, wrong_side (headed i 1 id 0x102) client d server 1 0x101 refl, wrong_side (headed i 1 id 0x102) client d server 1 0x102 refl, wrong_side (headed i 1 id 0x102) client d server 1 0x103 refl, wrong_side (headed i 1 id 0x102) client d server 1 0x105 refl, wrong_side (headed i 1 id 0x102) client d server 1 0x106 refl, wrong_side (headed i 1 id 0x102) client d server 1 0x107 refl, ii)

-- what is shown of the fields of each kind
abbrev Got : MessageId → Fields → List ℕ → Type 0
Got id f s =
    back.FieldsBack id f s (bytes_of id f s) × (12 ≤ length (bytes_of id f s)) ×
    ((c : Channel) → Goes c f → (first_fitting kinds (head_in (bytes_of id f s)) (side_of f) c.device c.callback ≡ Some (kind_of f)) × passes.NoAckAllowed c.jitter (asked_of (kind_of f) (bytes_of id f s)))

abbrev Gets : MessageId → Fields → List ℕ → Type 0
Gets id f s = (n : ℕ) → pieces.total_from (length s) 0 (pieces_of id f) ≡ Some n → given_in s f ≡ true → Wide32 id f → Got id f s

-- an interface that is allowed is none of the defaults, and has 30 bits
at_least_4 : (i : ℕ) → interface_allowed i ≡ true → 4 ≤ i
at_least_4 i e = leb-true 4 i (and_parts (leb 4 i) (ltb i 0x4000_0000) e).0

got_callback : (id : MessageId) (s : List ℕ) → Bytes s → (i count : ℕ) (completion : Option ℕ) → Gets id (fields.RegisterRequestCallback i (record { count = count; completion = completion })) s
unfolding asked_of reading_of given_in
got_callback id s bytes i count None n t given wide =
    let w = bytes_of id (fields.RegisterRequestCallback i (record { count = count; completion = None })) s in let q = back.no_callback_back id i count s bytes n t given wide in let k = (and_parts (interface_allowed i) (eqb count 0) given).0 in
    (q.back, q.long, λ c g. (ap (λ h. first_fitting kinds h server c.device c.callback) (head_read w i 1 0x101 (back.below_30 i k) q.head) ∙ (ap (λ d. first_fitting kinds (headed i 1 (message_in (word_at w 4)) 0x101) server d c.callback) g ∙ register_found i (message_in (word_at w 4)) (at_least_4 i k) c.callback), passes.register_request_callback_no_out c.jitter (register_request_callback_of w)))
got_callback id s bytes i count (Some word) n t given wide =
    let w = bytes_of id (fields.RegisterRequestCallback i (record { count = count; completion = (Some word) })) s in let q = back.callback_back id i count word s bytes n t given wide in let k = (and_parts (interface_allowed i) (completion_allowed count (Some word)) given).0 in
    (q.back, q.long, λ c g. (ap (λ h. first_fitting kinds h server c.device c.callback) (head_read w i 1 0x101 (back.below_30 i k) q.head) ∙ (ap (λ d. first_fitting kinds (headed i 1 (message_in (word_at w 4)) 0x101) server d c.callback) g ∙ register_found i (message_in (word_at w 4)) (at_least_4 i k) c.callback), passes.register_request_callback_no_out c.jitter (register_request_callback_of w)))

got : (id : MessageId) (s : List ℕ) → Bytes s → (f : Fields) → Gets id f s
unfolding asked_of reading_of given_in transfer_in_given transfer_out_given
got id s bytes (fields.CapabilityRequest b) n t given wide =
    let w = bytes_of id (fields.CapabilityRequest b) s in let q = back.capability_request_back id b s bytes n t given wide in
    (q.back, q.long, λ c g. (ap (λ h. first_fitting kinds h server c.device c.callback) (head_read w 0 0 0x100 (omega arith) q.head), passes.capability_request_no_out c.jitter (capability_request_of w)))
got id s bytes (fields.CapabilityResponse b) n t given wide =
    let w = bytes_of id (fields.CapabilityResponse b) s in let q = back.capability_response_back id b s bytes n t given wide in
    (q.back, q.long, λ c g. (ap (λ h. first_fitting kinds h client c.device c.callback) (head_read w 0 0 b.capability (omega arith) q.head), passes.capability_response_no_out c.jitter (capability_response_of w)))
got id s bytes (fields.ChannelCreatedByServer b) n t given wide =
    let w = bytes_of id (fields.ChannelCreatedByServer b) s in let q = back.server_created_back id b s bytes n t given wide in
    (q.back, q.long, λ c g. (ap (λ h. first_fitting kinds h server c.device c.callback) (head_read w 3 1 0x100 (omega arith) q.head), passes.channel_created_no_out c.jitter (channel_created_of w)))
got id s bytes (fields.ChannelCreatedByClient b) n t given wide =
    let w = bytes_of id (fields.ChannelCreatedByClient b) s in let q = back.client_created_back id b s bytes n t given wide in
    (q.back, q.long, λ c g. (ap (λ h. first_fitting kinds h client c.device c.callback) (head_read w 2 1 0x100 (omega arith) q.head), passes.channel_created_no_out c.jitter (channel_created_of w)))
got id s bytes (fields.AddVirtualChannel) n t given wide =
    let w = bytes_of id (fields.AddVirtualChannel) s in let q = back.virtual_channel_back id s bytes n t wide in
    (q.back, q.long, λ c g. (ap (λ h. first_fitting kinds h client c.device c.callback) (head_read w 1 1 0x100 (omega arith) q.head), passes.add_virtual_channel_no_out c.jitter (add_virtual_channel_of w)))
got id s bytes (fields.AddDevice b) n t given wide =
    let w = bytes_of id (fields.AddDevice b) s in let q = device_back id b s bytes n t given wide in
    (q.back, q.long, λ c g. (ap (λ h. first_fitting kinds h client c.device c.callback) (head_read w 1 1 0x101 (omega arith) q.head), passes.add_device_no_out c.jitter (add_device_of w)))
got id s bytes (fields.RegisterRequestCallback i b) n t given wide = got_callback id s bytes i b.count b.completion n t given wide
got id s bytes (fields.IoControl i b) n t given wide =
    let w = bytes_of id (fields.IoControl i b) s in let q = back.io_control_back id i b s bytes n t given wide in let k = (and_parts (interface_allowed i) (part_allowed s b.input) given).0 in
    (q.back, q.long, λ c g. (ap (λ h. first_fitting kinds h server c.device c.callback) (head_read w i 1 0x102 (back.below_30 i k) q.head) ∙ (ap (λ d. first_fitting kinds (headed i 1 (message_in (word_at w 4)) 0x102) server d c.callback) g ∙ io_found i (message_in (word_at w 4)) (at_least_4 i k) c.callback), passes.io_control_no_out c.jitter (io_control_of w)))
got id s bytes (fields.InternalIoControl i b) n t given wide =
    let w = bytes_of id (fields.InternalIoControl i b) s in let q = back.internal_back id i b s bytes n t given wide in let k = (and_parts (interface_allowed i) (part_allowed s b.input) given).0 in
    (q.back, q.long, λ c g. (ap (λ h. first_fitting kinds h server c.device c.callback) (head_read w i 1 0x103 (back.below_30 i k) q.head) ∙ (ap (λ d. first_fitting kinds (headed i 1 (message_in (word_at w 4)) 0x103) server d c.callback) g ∙ internal_found i (message_in (word_at w 4)) (at_least_4 i k) c.callback), passes.io_control_no_out c.jitter (io_control_of w)))
got id s bytes (fields.TransferInRequest i b) n t given wide =
    let w = bytes_of id (fields.TransferInRequest i b) s in let q = in_back id i b s bytes n t given wide in let k = (and_parts (interface_allowed i) (request_allowed b.urb.request && incoming_by b (stated_of s b.urb.function b.urb.structure)) given).0 in
    (q.back, q.long, λ c g. (ap (λ h. first_fitting kinds h server c.device c.callback) (head_read w i 1 0x105 (back.below_30 i k) q.head) ∙ (ap (λ d. first_fitting kinds (headed i 1 (message_in (word_at w 4)) 0x105) server d c.callback) g ∙ in_found i (message_in (word_at w 4)) (at_least_4 i k) c.callback), passes.transfer_in_request_no_out c.jitter (transfer_in_request_of w)))
got id s bytes (fields.TransferOutRequest i b) n t given wide =
    let w = bytes_of id (fields.TransferOutRequest i b) s in let o = out_back id i b s bytes n t given wide in let q = o.0 in let k = (and_parts (interface_allowed i) (request_allowed b.urb.request && (part_allowed s b.output && outgoing_by b (stated_of s b.urb.function b.urb.structure))) given).0 in
    (q.back, q.long, λ c g. (ap (λ h. first_fitting kinds h server c.device c.callback) (head_read w i 1 0x106 (back.below_30 i k) q.head) ∙ (ap (λ d. first_fitting kinds (headed i 1 (message_in (word_at w 4)) 0x106) server d c.callback) g.0 ∙ out_found i (message_in (word_at w 4)) (at_least_4 i k) c.callback), subst (passes.NoAckAllowed c.jitter) (sym o.2) (λ e. g.1 (sym o.3 ∙ e))))
got id s bytes (fields.CancelRequest i b) n t given wide =
    let w = bytes_of id (fields.CancelRequest i b) s in let q = back.cancel_back id i b s bytes n t given wide in let k = given in
    (q.back, q.long, λ c g. (ap (λ h. first_fitting kinds h server c.device c.callback) (head_read w i 1 0x100 (back.below_30 i k) q.head) ∙ (ap (λ d. first_fitting kinds (headed i 1 (message_in (word_at w 4)) 0x100) server d c.callback) g ∙ cancel_found i (message_in (word_at w 4)) (at_least_4 i k) c.callback), passes.cancel_request_no_out c.jitter (cancel_request_of w)))
got id s bytes (fields.RetractDevice i b) n t given wide =
    let w = bytes_of id (fields.RetractDevice i b) s in let q = back.retract_back id i b s bytes n t given wide in let k = (and_parts (interface_allowed i) (retract_device_allowed b) given).0 in
    (q.back, q.long, λ c g. (ap (λ h. first_fitting kinds h server c.device c.callback) (head_read w i 1 0x107 (back.below_30 i k) q.head) ∙ (ap (λ d. first_fitting kinds (headed i 1 (message_in (word_at w 4)) 0x107) server d c.callback) g ∙ retract_found i (message_in (word_at w 4)) (at_least_4 i k) c.callback), passes.retract_device_no_out c.jitter (retract_device_of w)))
got id s bytes (fields.IoControlCompletion i b) n t given wide =
    let w = bytes_of id (fields.IoControlCompletion i b) s in let q = back.io_completion_back id i b s bytes n t given wide in let k = (and_parts (interface_allowed i) (part_allowed s b.output) given).0 in
    (q.back, q.long, λ c g. (ap (λ h. first_fitting kinds h client c.device c.callback) (head_read w i 1 0x100 (back.below_30 i k) q.head) ∙ (ap (λ d. first_fitting kinds (headed i 1 (message_in (word_at w 4)) 0x100) client c.device d) g ∙ io_completed_found i (message_in (word_at w 4)) (at_least_4 i k) c.device), passes.io_control_completion_no_out c.jitter (io_control_completion_of w)))
got id s bytes (fields.UrbCompletion i b) n t given wide =
    let w = bytes_of id (fields.UrbCompletion i b) s in let q = back.urb_completion_back id i b s bytes n t given wide in let k = (and_parts (interface_allowed i) (part_allowed s b.urb.rest) (and_parts (result_given s i b.urb) (part_allowed s b.output && not (eqb b.output.size 0)) given).0).0 in
    (q.back, q.long, λ c g. (ap (λ h. first_fitting kinds h client c.device c.callback) (head_read w i 1 0x101 (back.below_30 i k) q.head) ∙ (ap (λ d. first_fitting kinds (headed i 1 (message_in (word_at w 4)) 0x101) client c.device d) g ∙ completed_found i (message_in (word_at w 4)) (at_least_4 i k) c.device), passes.urb_completion_no_out c.jitter (urb_completion_of w)))
got id s bytes (fields.UrbCompletionNoData i b) n t given wide =
    let w = bytes_of id (fields.UrbCompletionNoData i b) s in let q = back.no_data_back id i b s bytes n t given wide in let k = (and_parts (interface_allowed i) (part_allowed s b.urb.rest) given).0 in
    (q.back, q.long, λ c g. (ap (λ h. first_fitting kinds h client c.device c.callback) (head_read w i 1 0x102 (back.below_30 i k) q.head) ∙ (ap (λ d. first_fitting kinds (headed i 1 (message_in (word_at w 4)) 0x102) client c.device d) g ∙ no_data_found i (message_in (word_at w 4)) (at_least_4 i k) c.device), passes.urb_completion_no_data_no_out c.jitter (urb_completion_no_data_of w)))

-- what is written was given, and its pieces fit
fit : (room n : ℕ) (x : Option ℕ) → pieces.written_by room x ≡ Ok n → x ≡ Some n
fit room n None e = absurd (omega (arith, (let z : ◌≡◌ {A = ℕ} 0 1 = cc in z)))
fit room n (Some k) e = go (ltb room k) e
  where
    go : (t : Bool) → cond t (Err unwritten.Room) (Ok k) ≡ Ok n → Some k ≡ Some n
    go true e = absurd (omega (arith, (let z : ◌≡◌ {A = ℕ} 0 1 = cc in z)))
    go false e = let z : k ≡ n = cc in rw z

whole_given : (t : Bool) (x : Result ℕ Unwritten) (n : ℕ) → cond t x (Err unwritten.Value) ≡ Ok n → (t ≡ true) × (x ≡ Ok n)
whole_given true x n e = (refl, e)
whole_given false x n e = absurd (omega (arith, (let z : ◌≡◌ {A = ℕ} 0 1 = cc in z)))

all_of : (id : MessageId) (f : Fields) (s : List ℕ) → Bytes s → Wide32 id f → (room n : ℕ) → written_of id f s room ≡ Ok n → (pieces.total_from (length s) 0 (pieces_of id f) ≡ Some n) × Got id f s
unfolding written_of pieces.written_of
all_of id f s bytes wide room n e =
    let g = whole_given (given_in s f) (pieces.written_of s room (pieces_of id f)) n e in
    let t = fit room n (pieces.total_from (length s) 0 (pieces_of id f)) g.1 in
    (t, got id s bytes f n t g.0 wide)

-- what was found at the places of the fields, found by the reader
by_reader : (id : MessageId) (f : Fields) (s w : List ℕ) (r : Reading) → reading_of (kind_of f) w ≡ r → Same (kind_of f) w r → asks_some (asks_by r) ≡ true → back.FieldsBack id f s w → ReadBack id f s w
by_reader id f s w (Ok b) e q a k = record { body = b; reads = e; asks = a; message = k.message; numbers = q.0 ∙ k.numbers; parts = q.1 ∙ k.parts }
by_reader id f s w (Err fault) e q a k = refused a

-- What is written is as long as the answer says, and the reader finds in it the fields that were given.
pub read_back : (id : MessageId) (f : Fields) (s : List ℕ) → Bytes s → Wide32 id f → (room n : ℕ) → written_of id f s room ≡ Ok n → (length (bytes_of id f s) ≡ n) × ReadBack id f s (bytes_of id f s)
unfolding asked_of
read_back id f s bytes wide room n e =
    let q = all_of id f s bytes wide room n e in
    let w = bytes_of id f s in
    (exact (length w) n (encode-length s (pieces_of id f) 0 n q.0), by_reader id f s w (reading_of (kind_of f) w) refl (fields_found.found (kind_of f) w (fits-length s (pieces_of id f) n q.0)) q.1.0.asks q.1.0)
  where
    exact : (a b : ℕ) → 0 + a ≡ b → a ≡ b
    exact a b e = omega arith

-- On a table that allows it, what is written has the kind of its fields and passes checks 3 to 8.
pub allowed_passes : (id : MessageId) (f : Fields) (s : List ℕ) → Bytes s → Wide32 id f → (room n : ℕ) → written_of id f s room ≡ Ok n
    → (t : Table) (channel stamp : ℕ) → used_up t.next ≡ false → no_place channel (side_of f) ≡ false → Allows (channel_of t channel) f → HasKind (channel_of t channel) (side_of f) (bytes_of id f s) (kind_of f) × Passes (judge_of t channel (side_of f) stamp (bytes_of id f s)).answer
unfolding judge_of
allowed_passes id f s bytes wide room n e t channel stamp u p a =
    let q = all_of id f s bytes wide room n e in
    let g = q.1.2 (channel_of t channel) a.1 in
    (g.0, rw (u, p) (passes.verdict_passes (channel_of t channel) t.next (side_of f) (bytes_of id f s) (kind_of f) q.1.1 (fits-length s (pieces_of id f) n q.0) g.0 a.0 q.1.0.asks g.1))
