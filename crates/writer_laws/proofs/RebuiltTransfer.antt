-- The two transfer requests are rebuilt from their fields.
use Rattle.std.proofs.lemmas.Bool.{and_parts}
use Rattle.std.specs.Prelude.{Result, Ok, Err}
use Prim.Native.Nat.{ℕ, ◌+◌, ◌-◌, ◌*◌, ◌%◌, ◌<◌, ◌≤◌}
use native.Mathlib.Omega.{arith}
use mathlib.Core.Path.{◌≡◌, refl, ap, sym, subst, ◌∙◌}
use mathlib.Core.List.{List, [], ◌∷◌, ◌++◌}
use mathlib.Core.Bool.{Bool, true, false, cond, not, ◌&&◌}
use lib.ListN.{length, take}
use lib.Seq.{length-take-le}
use lib.Dec.{ltb, leb, eqb}
use borrow.Author.Tests.{leb-false, leb-true, lt-ltb}
use Rattle.words.specs.Words.{half_at, word_at}
use Rattle.words.specs.Layout.{left}
use Rattle.words.specs.declared.layout.Part.{Part}
use Rattle.words.proofs.Steps.{field_by, agrees_by, at_least_by, ended_by, filled_by}
use Rattle.header.specs.Ids.{interface_in, no_ack_in, urb_request_in}
use Rattle.answers.specs.declared.kind.Kind.{Kind}
use Rattle.answers.specs.declared.kind.Kind.TheVariants as kind
use Rattle.urb.specs.TsUrb.{structure_of, ts_urb_of, urb_with}
use Rattle.urb.specs.declared.ts_urb.Urb.{Urb}
use Rattle.urb.specs.declared.ts_urb.TsUrb.{TsUrb}
use Rattle.urb_values.specs.Values.{may_no_ack, only_in, urb_allowed}
use Rattle.wire.specs.Transfer.{output_of, transfer_from, transfer_of, transfer_with}
use Rattle.wire.specs.TransferInRequest.{incoming_from, transfer_in_request_allowed, transfer_in_request_of}
use Rattle.wire.specs.TransferOutRequest.{outgoing_from, outgoing_of, transfer_out_request_allowed, transfer_out_request_of}
use Rattle.wire.specs.Message.{asks_by}
use Rattle.wire.specs.Reading.{transfer_in_request_reading, transfer_out_request_reading}
use Rattle.pieces.specs.declared.piece.Piece.{Piece}
use Rattle.pieces.specs.declared.piece.Piece.TheVariants.{Word}
use Rattle.writer.specs.SharedMsgHeader.{interface_allowed}
use Rattle.writer.specs.TsUrb.{structure_pieces, structure_size}
use Rattle.writer.specs.Transfer.{request_word, transfer_in_given, transfer_out_given}
use Rattle.writer.specs.Message.{given_in, pieces_of}
use Rattle.fields.specs.Message.{fields_in}
use Rattle.fields.specs.Transfer.{structure_in, transfer_in, transfer_out}
use Rattle.writer_laws.specs.Layout.{Bytes, Field, word, empty, run, cut_at, cuts_from, span_of, spans_of}
use Rattle.writer_laws.specs.Rebuilt.{Rebuilt, asks_some, structure_layout}
use Rattle.writer_laws.proofs.Rebuilt.{Headed, asked, both, head_cut, holds, part_in, reaches, refused}
use Rattle.writer_laws.proofs.RebuiltUrb.{Built, BuiltAs, structure_built}
use Rattle.writer_laws.proofs.Places.{word_below}
use Rattle.writer_laws.proofs.Walks.{word-take}
use Rattle.words.specs.declared.layout.Fault.{Fault}
use Rattle.wire.specs.declared.message.Asked.{Asked}
use Rattle.wire.specs.declared.message.Unfit.{Unfit}

-- a layout in two parts
cuts_join : (m : List ℕ) (at : ℕ) (xs ys : List Field) → cuts_from m at (xs ++ ys) ≡ cuts_from m at xs ++ cuts_from m (at + spans_of xs) ys
unfolding cuts_from spans_of
cuts_join m at [] ys = let z : at ≡ at + 0 = omega arith in ap (λ k. cuts_from m k ys) z
cuts_join m at (x ∷ xs) ys = let z : at + span_of x + spans_of xs ≡ at + (span_of x + spans_of xs) = omega arith in ap (λ r. cut_at m at x ∷ r) (cuts_join m (at + span_of x) xs ys ∙ ap (λ k. cuts_from m (at + span_of x) xs ++ cuts_from m k ys) z)

spans_join : (xs ys : List Field) → spans_of (xs ++ ys) ≡ spans_of xs + spans_of ys
unfolding spans_of
spans_join [] ys = omega arith
spans_join (x ∷ xs) ys = let q = spans_join xs ys in omega arith

-- a word is its two halves, and its RequestId with NoAck
halves : (m : List ℕ) (at : ℕ) → half_at m at + 65536 * half_at m (at + 2) ≡ word_at m at
halves m at = let z : at + 2 + 1 ≡ at + 3 = omega arith in rw z (omega arith)

request_back : (w : ℕ) → w < 4294967296 → request_word (urb_request_in w) (no_ack_in w) ≡ w
request_back w h = go (leb 0x8000_0000 w) (λ e. leb-true 0x8000_0000 w e) (λ e. leb-false 0x8000_0000 w e)
  where
    go : (t : Bool) → (t ≡ true → 0x8000_0000 ≤ w) → (t ≡ false → w < 0x8000_0000) → cond t (0x8000_0000 + w % 0x8000_0000) (w % 0x8000_0000) ≡ w
    go true e f = let q = e refl in omega arith
    go false e f = let q = f refl in omega arith

request_small : (w : ℕ) → ltb (w % 0x8000_0000) 0x8000_0000 ≡ true
request_small w = lt-ltb (w % 0x8000_0000) 0x8000_0000 (omega arith)

abbrev Asks : Kind → List ℕ → Result Asked Unfit → Type 0
Asks k m a = asks_some a ≡ true → Rebuilt k m

module _ (m : List ℕ) (fits : length m ≤ 65535) (bytes : Bytes m) where
  abbrev i : ℕ
  i = (interface_in (word_at m 0)).0

  abbrev n : ℕ
  n = word_at m 12

  abbrev u : List ℕ
  u = take (16 + n) m

  -- the TsUrb whose structure was read
  abbrev with_structure : Urb → TsUrb
  with_structure b = record { size = half_at u 16; function = half_at u 18; request = urb_request_in (word_at u 20); noack = no_ack_in (word_at u 20); urb = b }

  word_20 : 8 ≤ n → word_at u 20 ≡ word_at m 20
  word_20 h = word-take m (16 + n) 20 (omega arith)

  first_words : (size : ℕ) → 8 ≤ n → half_at u 16 ≡ n → size ≡ n → (rest rest' : List Piece) → rest ≡ rest'
      → Word size ∷ Word (size + 65536 * half_at u 18) ∷ Word (request_word (urb_request_in (word_at u 20)) (no_ack_in (word_at u 20))) ∷ rest ≡ Word (word_at m 12) ∷ Word (word_at m 16) ∷ Word (word_at m 20) ∷ rest'
  first_words size h g s rest rest' e =
      let a : size + 65536 * half_at u 18 ≡ word_at m 16 = ap (λ z. z + 65536 * half_at u 18) (s ∙ sym g) ∙ (halves u 16 ∙ word-take m (16 + n) 16 (omega arith)) in
      let b : request_word (urb_request_in (word_at u 20)) (no_ack_in (word_at u 20)) ≡ word_at m 20 = ap (λ w. request_word (urb_request_in w) (no_ack_in w)) (word_20 h) ∙ request_back (word_at m 20) (word_below m bytes 20) in
      ap (λ x. Word x ∷ Word (size + 65536 * half_at u 18) ∷ Word (request_word (urb_request_in (word_at u 20)) (no_ack_in (word_at u 20))) ∷ rest) s ∙
      (ap (λ x. Word n ∷ Word x ∷ Word (request_word (urb_request_in (word_at u 20)) (no_ack_in (word_at u 20))) ∷ rest) a ∙
      (ap (λ x. Word n ∷ Word (word_at m 16) ∷ Word x ∷ rest) b ∙ ap (λ x. Word n ∷ Word (word_at m 16) ∷ Word (word_at m 20) ∷ x) e))

  -- what stands behind the structure: OutputBufferSize, and one field more
  last_words : (there : 16 + n ≤ length m) (b : Urb) (q : BuiltAs m fits n there bytes (half_at u 18) b) (x : Field)
      → structure_pieces (structure_in b) ++ (Word (word_at m (16 + n)) ∷ cuts_from m (16 + n + 4) (x ∷ [])) ≡ cuts_from m 24 (structure_layout b ++ (word ∷ x ∷ []))
  unfolding cuts_from
  last_words there b q x = ap (λ r. r ++ (Word (word_at m (16 + n)) ∷ cuts_from m (16 + n + 4) (x ∷ []))) q.pieces ∙ (ap (λ k. cuts_from m 24 (structure_layout b) ++ cuts_from m k (word ∷ x ∷ [])) (sym q.spans) ∙ sym (cuts_join m 24 (structure_layout b) (word ∷ x ∷ [])))

  all_spans : (there : 16 + n ≤ length m) (b : Urb) (q : BuiltAs m fits n there bytes (half_at u 18) b) (x : Field) → 16 + n + 4 + span_of x ≡ length m
      → 4 + (4 + (4 + (4 + (4 + (4 + spans_of (structure_layout b ++ (word ∷ x ∷ []))))))) ≡ length m
  unfolding spans_of
  all_spans there b q x l = let s = q.spans in let j = spans_join (structure_layout b) (word ∷ x ∷ []) in omega arith

  -- a transfer in whose TsUrb has a structure that is rebuilt
  in_found : Headed i 1 0x105 m → interface_allowed i ≡ true → (there : 16 + n ≤ length m) → 8 ≤ n → half_at u 16 ≡ n → (b : Urb) (end : ℕ) → ts_urb_of u ≡ Ok ((with_structure b), end)
      → BuiltAs m fits n there bytes (half_at u 18) b → length m ≡ 16 + n + 4 → transfer_in_request_allowed (record { urb = with_structure b; size = word_at m (16 + n) }) ≡ true → Rebuilt kind.TransferInRequest m
  unfolding given_in pieces_of fields_in transfer_in transfer_in_given transfer_in_request_allowed cuts_from spans_of
  in_found hd known there h g b end e q l a =
      let a1 = and_parts (not (no_ack_in (word_at u 20))) (urb_allowed b && cond (only_in b) (eqb (word_at m (16 + n)) 0) true) a in
      let a2 = and_parts (urb_allowed b) (cond (only_in b) (eqb (word_at m (16 + n)) 0) true) a1.1 in
      record {
        given = rw (e, q.stated) (both known (both (request_small (word_at u 20)) (both a1.0 (both q.allowed (rw q.only a2.1)))));
        pieces = rw e (head_cut i 1 0x105 m _ hd ∙ ap (λ r. Word (word_at m 0) ∷ Word (word_at m 4) ∷ Word (word_at m 8) ∷ r) (first_words (structure_size (structure_in b)) h g q.size _ _ (last_words there b q empty)));
        spans = rw e (all_spans there b q empty (omega arith));
      }

  abbrev pub Read : (16 + n ≤ length m) → Result (TsUrb × ℕ) Fault → Type 0
  Read there (Ok (t, end)) = (b : Urb) × (t ≡ with_structure b) × (half_at u 16 ≡ n) × (16 + n ≤ end → urb_allowed b ≡ true → BuiltAs m fits n there bytes (half_at u 18) b)
  Read there (Err fault) = Unit {0}

  urb_with_lem : (there : 16 + n ≤ length m) (r : Result (Urb × ℕ) Fault) → half_at u 16 ≡ n → Built m fits n there bytes (half_at u 18) r → Read there (urb_with u r)
  urb_with_lem there (Ok (b, end)) g q = (b, refl, g, q)
  urb_with_lem there (Err fault) g q = tt

  urb_read : (there : 16 + n ≤ length m) → Read there (ts_urb_of u)
  unfolding ts_urb_of
  urb_read there = agrees_by (Read there) (λ f. tt) (half_at u 16) (left u 16) 16 _ λ g. urb_with_lem there (structure_of u (half_at u 18)) (g ∙ left_of there) (structure_built m fits n there bytes (half_at u 18))
    where
      left_of : (there : 16 + n ≤ length m) → left u 16 ≡ n
      left_of there = let l = length-take-le (16 + n) m there in omega arith

  in_from : Headed i 1 0x105 m → interface_allowed i ≡ true → (there : 16 + n ≤ length m) → 8 ≤ n → (r : Result (TsUrb × ℕ) Fault) → ts_urb_of u ≡ r → Read there r → Asks kind.TransferInRequest m (asks_by (transfer_in_request_reading (incoming_from m (transfer_from m (16 + n) r))))
  unfolding output_of transfer_in_request_allowed
  in_from hd known there h (Ok (t, end)) e (b, x, g, q) =
      field_by (λ r. Asks kind.TransferInRequest m (asks_by (transfer_in_request_reading (incoming_from m r)))) (λ f. refused) m (16 + n) 4 _ λ c.
      filled_by (λ r. Asks kind.TransferInRequest m (asks_by (transfer_in_request_reading r))) (λ f. refused) end (16 + n) _ λ d. ended_by (λ r. Asks kind.TransferInRequest m (asks_by (transfer_in_request_reading r))) (λ f. refused) m (16 + n + 4) _ λ z.
      λ a. let k : transfer_in_request_allowed (record { urb = with_structure b; size = word_at m (16 + n) }) ≡ true = subst (λ y. transfer_in_request_allowed (record { urb = y; size = word_at m (16 + n) }) ≡ true) x (asked (transfer_in_request_allowed (record { urb = t; size = word_at m (16 + n) })) _ a) in
      in_found hd known there h g b end (e ∙ ap (λ y. Ok (y, end)) x) (q d (urb_of b (word_at m (16 + n)) k)) (exactly (16 + n) (length m) c z) k
    where
      exactly : (at l : ℕ) → 4 ≤ l - at → l ≤ at + 4 → l ≡ at + 4
      exactly at l p s = omega arith

      urb_of : (b : Urb) (size : ℕ) → transfer_in_request_allowed (record { urb = with_structure b; size = size }) ≡ true → urb_allowed b ≡ true
      urb_of b size k = (and_parts (urb_allowed b) (cond (only_in b) (eqb size 0) true) (and_parts (not (no_ack_in (word_at u 20))) (urb_allowed b && cond (only_in b) (eqb size 0) true) k).1).0
  in_from hd known there h (Err fault) e q = refused

  pub in_rebuilt : Headed i 1 0x105 m → interface_allowed i ≡ true → Asks kind.TransferInRequest m (asks_by (transfer_in_request_reading (transfer_in_request_of m)))
  unfolding transfer_in_request_of transfer_of transfer_with
  in_rebuilt hd known =
      field_by (λ r. Asks kind.TransferInRequest m (asks_by (transfer_in_request_reading (incoming_from m r)))) (λ f. refused) m 12 4 _ λ a.
      at_least_by (λ r. Asks kind.TransferInRequest m (asks_by (transfer_in_request_reading (incoming_from m r)))) (λ f. refused) 8 n 12 _ λ b.
      field_by (λ r. Asks kind.TransferInRequest m (asks_by (transfer_in_request_reading (incoming_from m r)))) (λ f. refused) m 16 n _ λ c.
      let there : 16 + n ≤ length m = holds 16 n (length m) (sixteen a) c in in_from hd known there b (ts_urb_of u) refl (urb_read there)
    where
      sixteen : 4 ≤ left m 12 → 16 ≤ length m
      sixteen a = omega arith

  -- the same of a transfer out, whose data stand behind OutputBufferSize
  abbrev size : ℕ
  size = word_at m (16 + n)

  abbrev output : Part
  output = record { start = 16 + n + 4; size = size }

  out_found : Headed i 1 0x106 m → interface_allowed i ≡ true → (there : 16 + n ≤ length m) → 8 ≤ n → half_at u 16 ≡ n → (b : Urb) (end : ℕ) → ts_urb_of u ≡ Ok ((with_structure b), end)
      → BuiltAs m fits n there bytes (half_at u 18) b → 16 + n + 4 + size ≤ length m → length m ≤ 16 + n + 4 + size → transfer_out_request_allowed (record { urb = with_structure b; size = size; output = output }) ≡ true → Rebuilt kind.TransferOutRequest m
  unfolding given_in pieces_of fields_in transfer_out transfer_out_given transfer_out_request_allowed cuts_from spans_of
  out_found hd known there h g b end e q l z a =
      let a1 = and_parts (urb_allowed b) (not (only_in b) && cond (no_ack_in (word_at u 20)) (may_no_ack b) true) a in
      let a2 = and_parts (not (only_in b)) (cond (no_ack_in (word_at u 20)) (may_no_ack b) true) a1.1 in
      record {
        given = rw (e, q.stated) (both known (both (request_small (word_at u 20)) (both (part_in m output l fits) (both q.allowed (both (ap not q.only ∙ a2.0) (rw q.noack a2.1))))));
        pieces = rw e (head_cut i 1 0x106 m _ hd ∙ ap (λ r. Word (word_at m 0) ∷ Word (word_at m 4) ∷ Word (word_at m 8) ∷ r) (first_words (structure_size (structure_in b)) h g q.size _ _ (last_words there b q (run size))));
        spans = rw e (all_spans there b q (run size) (equal (16 + n + 4 + size) (length m) l z));
      }
    where
      equal : (a b : ℕ) → a ≤ b → b ≤ a → a ≡ b
      equal a b p s = omega arith

  out_from : Headed i 1 0x106 m → interface_allowed i ≡ true → (there : 16 + n ≤ length m) → 8 ≤ n → (r : Result (TsUrb × ℕ) Fault) → ts_urb_of u ≡ r → Read there r → Asks kind.TransferOutRequest m (asks_by (transfer_out_request_reading (outgoing_from m (transfer_from m (16 + n) r))))
  unfolding output_of outgoing_of transfer_out_request_allowed
  out_from hd known there h (Ok (t, end)) e (b, x, g, q) =
      field_by (λ r. Asks kind.TransferOutRequest m (asks_by (transfer_out_request_reading (outgoing_from m r)))) (λ f. refused) m (16 + n) 4 _ λ c.
      field_by (λ r. Asks kind.TransferOutRequest m (asks_by (transfer_out_request_reading r))) (λ f. refused) m (16 + n + 4) size _ λ s. filled_by (λ r. Asks kind.TransferOutRequest m (asks_by (transfer_out_request_reading r))) (λ f. refused) end (16 + n) _ λ d. ended_by (λ r. Asks kind.TransferOutRequest m (asks_by (transfer_out_request_reading r))) (λ f. refused) m (16 + n + 4 + size) _ λ z.
      λ a. let k : transfer_out_request_allowed (record { urb = with_structure b; size = size; output = output }) ≡ true = subst (λ y. transfer_out_request_allowed (record { urb = y; size = size; output = output }) ≡ true) x (asked (transfer_out_request_allowed (record { urb = t; size = size; output = output })) _ a) in
      out_found hd known there h g b end (e ∙ ap (λ y. Ok (y, end)) x) (q d (and_parts (urb_allowed b) (not (only_in b) && cond (no_ack_in (word_at u 20)) (may_no_ack b) true) k).0) (holds (16 + n + 4) size (length m) (reaches (16 + n) (length m) c) s) z k
  out_from hd known there h (Err fault) e q = refused

  pub out_rebuilt : Headed i 1 0x106 m → interface_allowed i ≡ true → Asks kind.TransferOutRequest m (asks_by (transfer_out_request_reading (transfer_out_request_of m)))
  unfolding transfer_out_request_of transfer_of transfer_with
  out_rebuilt hd known =
      field_by (λ r. Asks kind.TransferOutRequest m (asks_by (transfer_out_request_reading (outgoing_from m r)))) (λ f. refused) m 12 4 _ λ a.
      at_least_by (λ r. Asks kind.TransferOutRequest m (asks_by (transfer_out_request_reading (outgoing_from m r)))) (λ f. refused) 8 n 12 _ λ b.
      field_by (λ r. Asks kind.TransferOutRequest m (asks_by (transfer_out_request_reading (outgoing_from m r)))) (λ f. refused) m 16 n _ λ c.
      let there : 16 + n ≤ length m = holds 16 n (length m) (sixteen a) c in out_from hd known there b (ts_urb_of u) refl (urb_read there)
    where
      sixteen : 4 ≤ left m 12 → 16 ≤ length m
      sixteen a = omega arith
