-- A message that asks something is rebuilt from its fields, kind by kind: the layout is that of its reader.
use Rattle.std.specs.Prelude.{Some, Result, Ok, Err}
use Prim.Native.Nat.{ℕ, ◌+◌, ◌-◌, ◌*◌, ◌≤◌}
use native.Mathlib.Omega.{arith}
use mathlib.Core.Path.{◌≡◌, refl, ap, sym, subst, ◌∙◌}
use mathlib.Core.List.{List, [], ◌∷◌, ◌++◌}
use mathlib.Core.Bool.{Bool, true, false, cond, ◌&&◌}
use lib.ListN.{length}
use lib.Dec.{eqb}
use borrow.Author.Tests.{le-ltb, le-leb}
use Rattle.words.specs.Words.{half_at, word_at}
use Rattle.words.specs.declared.layout.Part.{Part}
use Rattle.words.proofs.Steps.{either, field_by, agrees_by, at_least_by, ended_by}
use Rattle.header.specs.Ids.{assignable, interface_in, message_in}
use Rattle.answers.specs.declared.kind.Kind.{Kind}
use Rattle.answers.specs.declared.kind.Kind.TheVariants as kind
use Rattle.wire.specs.CapabilityRequest.{capability_request_of}
use Rattle.wire.specs.CapabilityResponse.{capability_response_of}
use Rattle.wire.specs.ChannelCreated.{channel_created_of}
use Rattle.wire.specs.AddVirtualChannel.{add_virtual_channel_of}
use Rattle.wire.specs.CancelRequest.{cancel_request_of}
use Rattle.wire.specs.RegisterRequestCallback.{register_request_callback_of}
use Rattle.wire.specs.IoControl.{io_control_of, io_control_with}
use Rattle.wire.specs.RetractDevice.{retract_device_of}
use Rattle.wire.specs.IoControlCompletion.{io_control_completion_with, io_control_completion_of}
use Rattle.wire.specs.TsUrbResult.{completed_of, completion_with, completion_of}
use Rattle.wire.specs.UrbCompletion.{with_output_of, with_output_from, urb_completion_of}
use Rattle.wire.specs.UrbCompletionNoData.{no_data_from, urb_completion_no_data_of}
use Rattle.wire.specs.Message.{asks_by, empty_part}
use Rattle.wire.specs.Reading.{capability_request_reading, capability_response_reading, channel_created_reading, add_virtual_channel_reading, cancel_request_reading, register_request_callback_reading, io_control_reading, retract_device_reading, io_control_completion_reading, urb_completion_reading, urb_completion_no_data_reading}
use Rattle.wire.specs.declared.message.Asked.TheVariants.{Callback}
use Rattle.pieces.specs.declared.piece.Piece.{Piece}
use Rattle.pieces.specs.declared.piece.Piece.TheVariants.{Word, Run}
use Rattle.writer.specs.SharedMsgHeader.{head, interface_allowed}
use Rattle.writer.specs.Part.{part_allowed}
use Rattle.writer.specs.Message.{given_in, pieces_of}
use Rattle.fields.specs.Message.{fields_in}
use Rattle.fields.specs.UrbCompletion.{no_data_in, urb_completion_in}
use Rattle.writer_laws.specs.Layout.{cuts_from, spans_of}
use Rattle.writer_laws.specs.Rebuilt.{Rebuilt, asks_some}
use Rattle.wire.specs.declared.message.Asked.{Asked}
use Rattle.wire.specs.declared.message.Unfit.{Unfit}
use Rattle.wire.specs.declared.message.Unfit.TheVariants as unfit

-- the header of a message: its first word is the interface and the mask, its third the function
pub record Headed (i mask function : ℕ) (m : List ℕ) : Type 0 where
  pub first : word_at m 0 ≡ i + 0x4000_0000 * mask
  pub third : word_at m 8 ≡ function

pub head_cut : (i mask function : ℕ) (m : List ℕ) (rest : List Piece) → Headed i mask function m → head i mask (message_in (word_at m 4)) function ++ rest ≡ Word (word_at m 0) ∷ Word (word_at m 4) ∷ Word (word_at m 8) ∷ rest
head_cut i mask function m rest h = ap (λ w. Word w ∷ Word (word_at m 4) ∷ Word function ∷ rest) (sym h.first) ∙ ap (λ w. Word (word_at m 0) ∷ Word (word_at m 4) ∷ Word w ∷ rest) (sym h.third)

-- what is asked is not refused, so the test held
pub asked : (t : Bool) (a : Result Asked Unfit) → asks_some (cond t a (Err unfit.Value)) ≡ true → t ≡ true
asked true a e = refl
asked false a e = e

IsTrue : Bool → Type 0
IsTrue true = Unit {0}
IsTrue false = ⊥

-- where it is refused nothing is to be shown
pub refused : {A : Type 0} → false ≡ true → A
unfolding IsTrue
refused e = absurd (subst IsTrue (sym e) tt)

pub both : {a b : Bool} → a ≡ true → b ≡ true → (a && b) ≡ true
both p q = rw (p, q)

-- a part that lies in a message lies in the lent bytes of it
pub part_in : (m : List ℕ) (p : Part) → p.start + p.size ≤ length m → length m ≤ 65535 → part_allowed m p ≡ true
part_in m p h l = rw (le-ltb (length m) p.start (omega arith), le-ltb (length m - p.start) p.size (omega arith), le-leb p.size 65535 (omega arith))

-- sums of places, each by itself
pub behind_result : (n l : ℕ) → 8 ≤ n → n ≤ l - 20 → 28 + (n - 8) ≤ l
behind_result n l h k = omega arith

add_zero : (n : ℕ) → n + 0 ≡ n
add_zero n = omega arith

pub reaches : (at l : ℕ) → 4 ≤ l - at → at + 4 ≤ l
reaches at l h = omega arith

pub holds : (at size l : ℕ) → at ≤ l → size ≤ l - at → at + size ≤ l
holds at size l h k = omega arith

result_spans : (n size l : ℕ) → 8 ≤ n → 20 + n + 8 + size ≤ l → l ≤ 20 + n + 8 + size → 4 + (4 + (4 + (4 + (4 + (4 + (4 + (n - 8 + (4 + (4 + (size + 0)))))))))) ≡ l
result_spans n size l h a b = omega arith

-- the pieces of a URB completion behind its header, by the places that they are computed at and by those of the layout
completion_cut : (m : List ℕ) (n : ℕ) → 8 ≤ n → half_at m 20 ≡ n → (last : ℕ → List Piece)
    → Word (word_at m 12) ∷ Word (8 + (n - 8)) ∷ Word (8 + (n - 8)) ∷ Word (word_at m 24) ∷ Run (record { start = 28; size = n - 8 }) ∷ Word (word_at m (20 + n)) ∷ Word (word_at m (20 + n + 4)) ∷ last (20 + n + 8)
    ≡ Word (word_at m 12) ∷ Word n ∷ Word (half_at m 20) ∷ Word (word_at m 24) ∷ Run (record { start = 28; size = n - 8 }) ∷ Word (word_at m (28 + (n - 8))) ∷ Word (word_at m (28 + (n - 8) + 4)) ∷ last (28 + (n - 8) + 4 + 4)
completion_cut m n h g last =
    let a : 8 + (n - 8) ≡ n = omega arith in
    let b : 28 + (n - 8) ≡ 20 + n = omega arith in
    let c : 20 + n + 4 + 4 ≡ 20 + n + 8 = omega arith in
    rw (a, g, b, c)

module _ (m : List ℕ) (long : 12 ≤ length m) (fits : length m ≤ 65535) where
  abbrev i : ℕ
  i = (interface_in (word_at m 0)).0

  abbrev Asks : Kind → Result Asked Unfit → Type 0
  Asks k a = asks_some a ≡ true → Rebuilt k m

  pub capability_request_rebuilt : Headed 0 0 0x100 m → Asks kind.CapabilityRequest (asks_by (capability_request_reading (capability_request_of m)))
  unfolding capability_request_of given_in pieces_of fields_in cuts_from spans_of
  capability_request_rebuilt hd =
      field_by (λ r. Asks kind.CapabilityRequest (asks_by (capability_request_reading r))) (λ f. refused) m 12 4 _ λ a. ended_by (λ r. Asks kind.CapabilityRequest (asks_by (capability_request_reading r))) (λ f. refused) m 16 _ λ z.
      λ e. record { given = asked _ _ e; pieces = head_cut 0 0 0x100 m _ hd; spans = omega arith }

  pub capability_response_rebuilt : Headed 0 0 (word_at m 8) m → Asks kind.CapabilityResponse (asks_by (capability_response_reading (capability_response_of m)))
  unfolding capability_response_of given_in pieces_of fields_in cuts_from spans_of
  capability_response_rebuilt hd =
      field_by (λ r. Asks kind.CapabilityResponse (asks_by (capability_response_reading r))) (λ f. refused) m 8 4 _ λ a. field_by (λ r. Asks kind.CapabilityResponse (asks_by (capability_response_reading r))) (λ f. refused) m 12 4 _ λ b. ended_by (λ r. Asks kind.CapabilityResponse (asks_by (capability_response_reading r))) (λ f. refused) m 16 _ λ z.
      λ e. record { given = asked _ _ e; pieces = head_cut 0 0 (word_at m 8) m _ hd; spans = omega arith }

  pub server_created_rebuilt : Headed 3 1 0x100 m → Asks kind.ChannelCreatedByServer (asks_by (channel_created_reading (channel_created_of m)))
  unfolding channel_created_of given_in pieces_of fields_in cuts_from spans_of
  server_created_rebuilt hd =
      field_by (λ r. Asks kind.ChannelCreatedByServer (asks_by (channel_created_reading r))) (λ f. refused) m 12 4 _ λ a. field_by (λ r. Asks kind.ChannelCreatedByServer (asks_by (channel_created_reading r))) (λ f. refused) m 16 4 _ λ b. field_by (λ r. Asks kind.ChannelCreatedByServer (asks_by (channel_created_reading r))) (λ f. refused) m 20 4 _ λ c. ended_by (λ r. Asks kind.ChannelCreatedByServer (asks_by (channel_created_reading r))) (λ f. refused) m 24 _ λ z.
      λ e. record { given = asked _ _ e; pieces = head_cut 3 1 0x100 m _ hd; spans = omega arith }

  pub client_created_rebuilt : Headed 2 1 0x100 m → Asks kind.ChannelCreatedByClient (asks_by (channel_created_reading (channel_created_of m)))
  unfolding channel_created_of given_in pieces_of fields_in cuts_from spans_of
  client_created_rebuilt hd =
      field_by (λ r. Asks kind.ChannelCreatedByClient (asks_by (channel_created_reading r))) (λ f. refused) m 12 4 _ λ a. field_by (λ r. Asks kind.ChannelCreatedByClient (asks_by (channel_created_reading r))) (λ f. refused) m 16 4 _ λ b. field_by (λ r. Asks kind.ChannelCreatedByClient (asks_by (channel_created_reading r))) (λ f. refused) m 20 4 _ λ c. ended_by (λ r. Asks kind.ChannelCreatedByClient (asks_by (channel_created_reading r))) (λ f. refused) m 24 _ λ z.
      λ e. record { given = asked _ _ e; pieces = head_cut 2 1 0x100 m _ hd; spans = omega arith }

  pub virtual_channel_rebuilt : Headed 1 1 0x100 m → Asks kind.AddVirtualChannel (asks_by (add_virtual_channel_reading (add_virtual_channel_of m)))
  unfolding add_virtual_channel_of given_in pieces_of fields_in cuts_from spans_of
  virtual_channel_rebuilt hd =
      ended_by (λ r. Asks kind.AddVirtualChannel (asks_by (add_virtual_channel_reading r))) (λ f. refused) m 12 _ λ z.
      λ e. record { given = refl; pieces = head_cut 1 1 0x100 m _ hd; spans = omega arith }

  pub cancel_rebuilt : Headed i 1 0x100 m → interface_allowed i ≡ true → Asks kind.CancelRequest (asks_by (cancel_request_reading (cancel_request_of m)))
  unfolding cancel_request_of given_in pieces_of fields_in cuts_from spans_of
  cancel_rebuilt hd known =
      field_by (λ r. Asks kind.CancelRequest (asks_by (cancel_request_reading r))) (λ f. refused) m 12 4 _ λ a. ended_by (λ r. Asks kind.CancelRequest (asks_by (cancel_request_reading r))) (λ f. refused) m 16 _ λ z.
      λ e. record { given = known; pieces = head_cut i 1 0x100 m _ hd; spans = omega arith }

  pub retract_rebuilt : Headed i 1 0x107 m → interface_allowed i ≡ true → Asks kind.RetractDevice (asks_by (retract_device_reading (retract_device_of m)))
  unfolding retract_device_of given_in pieces_of fields_in cuts_from spans_of
  retract_rebuilt hd known =
      field_by (λ r. Asks kind.RetractDevice (asks_by (retract_device_reading r))) (λ f. refused) m 12 4 _ λ a. ended_by (λ r. Asks kind.RetractDevice (asks_by (retract_device_reading r))) (λ f. refused) m 16 _ λ z.
      λ e. record { given = both known (asked _ _ e); pieces = head_cut i 1 0x107 m _ hd; spans = omega arith }

  pub io_control_rebuilt : Headed i 1 0x102 m → interface_allowed i ≡ true → Asks kind.IoControl (asks_by (io_control_reading (io_control_of m)))
  unfolding io_control_of io_control_with given_in pieces_of fields_in cuts_from spans_of
  io_control_rebuilt hd known =
      field_by (λ r. Asks kind.IoControl (asks_by (io_control_reading r))) (λ f. refused) m 12 4 _ λ a. field_by (λ r. Asks kind.IoControl (asks_by (io_control_reading r))) (λ f. refused) m 16 4 _ λ b. field_by (λ r. Asks kind.IoControl (asks_by (io_control_reading r))) (λ f. refused) m 20 (word_at m 16) _ λ c. field_by (λ r. Asks kind.IoControl (asks_by (io_control_reading r))) (λ f. refused) m (20 + word_at m 16) 4 _ λ d. field_by (λ r. Asks kind.IoControl (asks_by (io_control_reading r))) (λ f. refused) m (20 + word_at m 16 + 4) 4 _ λ g. ended_by (λ r. Asks kind.IoControl (asks_by (io_control_reading r))) (λ f. refused) m (20 + word_at m 16 + 8) _ λ z.
      λ e. record { given = both known (part_in m _ (omega arith) fits); pieces = head_cut i 1 0x102 m _ hd; spans = omega arith }

  pub internal_rebuilt : Headed i 1 0x103 m → interface_allowed i ≡ true → Asks kind.InternalIoControl (asks_by (io_control_reading (io_control_of m)))
  unfolding io_control_of io_control_with given_in pieces_of fields_in cuts_from spans_of
  internal_rebuilt hd known =
      field_by (λ r. Asks kind.InternalIoControl (asks_by (io_control_reading r))) (λ f. refused) m 12 4 _ λ a. field_by (λ r. Asks kind.InternalIoControl (asks_by (io_control_reading r))) (λ f. refused) m 16 4 _ λ b. field_by (λ r. Asks kind.InternalIoControl (asks_by (io_control_reading r))) (λ f. refused) m 20 (word_at m 16) _ λ c. field_by (λ r. Asks kind.InternalIoControl (asks_by (io_control_reading r))) (λ f. refused) m (20 + word_at m 16) 4 _ λ d. field_by (λ r. Asks kind.InternalIoControl (asks_by (io_control_reading r))) (λ f. refused) m (20 + word_at m 16 + 4) 4 _ λ g. ended_by (λ r. Asks kind.InternalIoControl (asks_by (io_control_reading r))) (λ f. refused) m (20 + word_at m 16 + 8) _ λ z.
      λ e. record { given = both known (part_in m _ (omega arith) fits); pieces = head_cut i 1 0x103 m _ hd; spans = omega arith }

  pub io_completion_rebuilt : Headed i 1 0x100 m → interface_allowed i ≡ true → Asks kind.IoControlCompletion (asks_by (io_control_completion_reading (io_control_completion_of m)))
  unfolding io_control_completion_of io_control_completion_with given_in pieces_of fields_in cuts_from spans_of
  io_completion_rebuilt hd known =
      field_by (λ r. Asks kind.IoControlCompletion (asks_by (io_control_completion_reading r))) (λ f. refused) m 12 4 _ λ a. field_by (λ r. Asks kind.IoControlCompletion (asks_by (io_control_completion_reading r))) (λ f. refused) m 16 4 _ λ b. field_by (λ r. Asks kind.IoControlCompletion (asks_by (io_control_completion_reading r))) (λ f. refused) m 20 4 _ λ c. field_by (λ r. Asks kind.IoControlCompletion (asks_by (io_control_completion_reading r))) (λ f. refused) m 24 4 _ λ d. field_by (λ r. Asks kind.IoControlCompletion (asks_by (io_control_completion_reading r))) (λ f. refused) m 28 (word_at m 24) _ λ g. ended_by (λ r. Asks kind.IoControlCompletion (asks_by (io_control_completion_reading r))) (λ f. refused) m (28 + word_at m 24) _ λ z.
      λ e. record { given = both known (part_in m _ (omega arith) fits); pieces = head_cut i 1 0x100 m _ hd; spans = omega arith }

  pub callback_rebuilt : Headed i 1 0x101 m → interface_allowed i ≡ true → Asks kind.RegisterRequestCallback (asks_by (register_request_callback_reading (register_request_callback_of m)))
  unfolding register_request_callback_of given_in pieces_of fields_in cuts_from spans_of
  callback_rebuilt hd at =
      field_by (λ r. Asks kind.RegisterRequestCallback (asks_by (register_request_callback_reading r))) (λ f. refused) m 12 4 _ λ a. either (λ r. Asks kind.RegisterRequestCallback (asks_by (register_request_callback_reading r))) (eqb (word_at m 12) 0) _ _
      (λ t. ended_by (λ r. Asks kind.RegisterRequestCallback (asks_by (register_request_callback_reading r))) (λ f. refused) m 16 _ λ z. λ e. record { given = rw t (both at t); pieces = rw t (head_cut i 1 0x101 m _ hd); spans = rw t (omega arith) })
      (λ t. field_by (λ r. Asks kind.RegisterRequestCallback (asks_by (register_request_callback_reading r))) (λ f. refused) m 16 4 _ λ b. ended_by (λ r. Asks kind.RegisterRequestCallback (asks_by (register_request_callback_reading r))) (λ f. refused) m 20 _ λ z. λ e. record { given = rw t (both at (rw t (asked (assignable (interface_in (word_at m 16))) (Ok (Callback (Some (interface_in (word_at m 16))))) e))); pieces = rw t (head_cut i 1 0x101 m _ hd); spans = rw t (omega arith) })

  pub urb_completion_rebuilt : Headed i 1 0x101 m → interface_allowed i ≡ true → Asks kind.UrbCompletion (asks_by (urb_completion_reading (urb_completion_of m)))
  unfolding urb_completion_of with_output_of completion_of completion_with completed_of given_in pieces_of fields_in urb_completion_in no_data_in cuts_from spans_of
  urb_completion_rebuilt hd known =
      field_by (λ r. Asks kind.UrbCompletion (asks_by (urb_completion_reading (with_output_from m r)))) (λ f. refused) m 12 4 _ λ a. field_by (λ r. Asks kind.UrbCompletion (asks_by (urb_completion_reading (with_output_from m r)))) (λ f. refused) m 16 4 _ λ b. at_least_by (λ r. Asks kind.UrbCompletion (asks_by (urb_completion_reading (with_output_from m r)))) (λ f. refused) 8 (word_at m 16) 16 _ λ c. field_by (λ r. Asks kind.UrbCompletion (asks_by (urb_completion_reading (with_output_from m r)))) (λ f. refused) m 20 (word_at m 16) _ λ d.
      agrees_by (λ r. Asks kind.UrbCompletion (asks_by (urb_completion_reading (with_output_from m r)))) (λ f. refused) (half_at m 20) (word_at m 16) 20 _ λ g. field_by (λ r. Asks kind.UrbCompletion (asks_by (urb_completion_reading (with_output_from m r)))) (λ f. refused) m (20 + word_at m 16) 4 _ λ j. field_by (λ r. Asks kind.UrbCompletion (asks_by (urb_completion_reading (with_output_from m r)))) (λ f. refused) m (20 + word_at m 16 + 4) 4 _ λ l.
      field_by (λ r. Asks kind.UrbCompletion (asks_by (urb_completion_reading r))) (λ f. refused) m (20 + word_at m 16 + 8) (word_at m (20 + word_at m 16 + 4)) _ λ n.
      ended_by (λ r. Asks kind.UrbCompletion (asks_by (urb_completion_reading r))) (λ f. refused) m (20 + word_at m 16 + 8 + word_at m (20 + word_at m 16 + 4)) _ λ z.
      λ e. let p : 20 + word_at m 16 + 4 + 4 ≡ 20 + word_at m 16 + 8 = omega arith in let w : 20 + word_at m 16 + 8 ≤ length m = subst (λ k. k ≤ length m) p (reaches (20 + word_at m 16 + 4) (length m) l) in let o = holds (20 + word_at m 16 + 8) (word_at m (20 + word_at m 16 + 4)) (length m) w n in
      record { given = both (both known (part_in m _ (behind_result (word_at m 16) (length m) c d) fits)) (both (part_in m _ o fits) (asked _ _ e)); pieces = head_cut i 1 0x101 m _ hd ∙ ap (λ r. Word (word_at m 0) ∷ Word (word_at m 4) ∷ Word (word_at m 8) ∷ r) (completion_cut m (word_at m 16) c g (λ k. Run (record { start = k; size = word_at m (20 + word_at m 16 + 4) }) ∷ [])); spans = result_spans (word_at m 16) (word_at m (20 + word_at m 16 + 4)) (length m) c o z }

  pub no_data_rebuilt : Headed i 1 0x102 m → interface_allowed i ≡ true → Asks kind.UrbCompletionNoData (asks_by (urb_completion_no_data_reading (urb_completion_no_data_of m)))
  unfolding urb_completion_no_data_of completion_of completion_with completed_of given_in pieces_of fields_in urb_completion_in no_data_in cuts_from spans_of
  no_data_rebuilt hd known =
      field_by (λ r. Asks kind.UrbCompletionNoData (asks_by (urb_completion_no_data_reading (no_data_from m r)))) (λ f. refused) m 12 4 _ λ a. field_by (λ r. Asks kind.UrbCompletionNoData (asks_by (urb_completion_no_data_reading (no_data_from m r)))) (λ f. refused) m 16 4 _ λ b. at_least_by (λ r. Asks kind.UrbCompletionNoData (asks_by (urb_completion_no_data_reading (no_data_from m r)))) (λ f. refused) 8 (word_at m 16) 16 _ λ c. field_by (λ r. Asks kind.UrbCompletionNoData (asks_by (urb_completion_no_data_reading (no_data_from m r)))) (λ f. refused) m 20 (word_at m 16) _ λ d.
      agrees_by (λ r. Asks kind.UrbCompletionNoData (asks_by (urb_completion_no_data_reading (no_data_from m r)))) (λ f. refused) (half_at m 20) (word_at m 16) 20 _ λ g. field_by (λ r. Asks kind.UrbCompletionNoData (asks_by (urb_completion_no_data_reading (no_data_from m r)))) (λ f. refused) m (20 + word_at m 16) 4 _ λ j. field_by (λ r. Asks kind.UrbCompletionNoData (asks_by (urb_completion_no_data_reading (no_data_from m r)))) (λ f. refused) m (20 + word_at m 16 + 4) 4 _ λ l.
      ended_by (λ r. Asks kind.UrbCompletionNoData (asks_by (urb_completion_no_data_reading r))) (λ f. refused) m (20 + word_at m 16 + 8) _ λ z.
      λ e. let p : 20 + word_at m 16 + 4 + 4 ≡ 20 + word_at m 16 + 8 = omega arith in let w : 20 + word_at m 16 + 8 ≤ length m = subst (λ k. k ≤ length m) p (reaches (20 + word_at m 16 + 4) (length m) l) in
      record { given = both known (part_in m _ (behind_result (word_at m 16) (length m) c d) fits); pieces = head_cut i 1 0x102 m _ hd ∙ ap (λ r. Word (word_at m 0) ∷ Word (word_at m 4) ∷ Word (word_at m 8) ∷ r) (completion_cut m (word_at m 16) c g (λ k. Run empty_part ∷ [])); spans = result_spans (word_at m 16) 0 (length m) c (subst (λ k. k ≤ length m) (sym (add_zero (20 + word_at m 16 + 8))) w) (subst (λ k. length m ≤ k) (sym (add_zero (20 + word_at m 16 + 8))) z) }
