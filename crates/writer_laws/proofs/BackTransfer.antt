-- What is written of a transfer request is read back as the same fields.
use Rattle.std.proofs.lemmas.Bool.{and_parts}
use Rattle.std.specs.Prelude.{Option, Some, None, Ok}
use Prim.Native.Nat.{ℕ, suc, ◌+◌, ◌-◌, ◌*◌, ◌/◌, ◌%◌, ◌<◌, ◌≤◌}
use native.Mathlib.Omega.{arith}
use mathlib.Core.Path.{◌≡◌, refl, ap, sym, subst, ◌∙◌}
use mathlib.Core.List.{List, [], ◌∷◌, ◌++◌}
use mathlib.Core.Bool.{Bool, true, false, cond, not, ◌&&◌}
use lib.ListN.{length, take, get_or}
use lib.Dec.{ltb, eqb}
use Rattle.words.specs.Words.{half_at, word_at}
use Rattle.words.specs.Layout.{left}
use Rattle.words.specs.declared.layout.Part.{Part}
use Rattle.urb.specs.Interfaces.{interfaces_of}
use Rattle.urb.specs.TsUrb.{structure_of}
use Rattle.urb.specs.declared.ts_urb.Urb.{Urb}
use Rattle.urb.specs.declared.ts_urb.Urb.TheVariants as urb
use Rattle.urb_values.specs.Values.{may_no_ack, only_in, urb_allowed}
use Rattle.writer.specs.Part.{part_allowed}
use Rattle.fields.specs.Transfer.{structure_in}
use Rattle.pieces.specs.Pieces as pieces
use Rattle.pieces.specs.declared.piece.Piece.{Piece}
use Rattle.writer.specs.declared.ts_urb.Structure.{Structure}
use Rattle.writer.specs.declared.ts_urb.Structure.TheVariants as structure
use Rattle.writer.proofs.Lies.{lies}
use lib.Seq.{length-take-le}
use borrow.Author.Tests.{eq-eqb, eqb-true, le-leb, lt-leb, ltb-true}
use Rattle.header.specs.Ids.{no_ack_in, urb_request_in}
use Rattle.header.specs.declared.ids.MessageId.{MessageId}
use Rattle.header.specs.declared.ids.RequestId.{RequestId}
use Rattle.urb.specs.TsUrb.{ts_urb_of, urb_with}
use Rattle.wire.specs.Transfer.{output_of, transfer_from, transfer_of, transfer_with}
use Rattle.wire.specs.TransferInRequest.{incoming_from, transfer_in_request_allowed, transfer_in_request_of}
use Rattle.wire.specs.TransferOutRequest.{outgoing_from, outgoing_of, transfer_out_request_allowed, transfer_out_request_of}
use Rattle.answers.specs.declared.kind.Kind.TheVariants as kind
use Rattle.wire.specs.Message.{asked_of, asks_by, empty_part}
use Rattle.wire.specs.declared.message.Request.{Request}
use Rattle.wire.specs.declared.message.Asked.TheVariants as asks
use Rattle.wire.specs.Reading.{reading_of, transfer_in_request_reading, transfer_out_request_reading}
use Rattle.pieces.specs.declared.piece.Piece.TheVariants.{Word, Run}
use Rattle.writer.specs.SharedMsgHeader.{interface_allowed}
use Rattle.writer.specs.TsUrb.{configuration_by, configuration_stated, descriptor_sized, interface_by, interface_stated, listed_of, stated_of, structure_pieces, structure_size}
use Rattle.urb_values.specs.Values.{incoming_allowed, outgoing_allowed}
use Rattle.writer.specs.Transfer.{incoming_by, outgoing_by, request_allowed, request_word, transfer_in_given, transfer_out_given}
use Rattle.writer.specs.Message.{bytes_of, pieces_of}
use Rattle.writer.specs.declared.ts_urb.TsUrbFields.{TsUrbFields}
use Rattle.writer.specs.declared.transfer.TransferInFields.{TransferInFields}
use Rattle.writer.specs.declared.transfer.TransferOutFields.{TransferOutFields}
use Rattle.writer.specs.declared.message.Fields.TheVariants as fields
use Rattle.fields.specs.Transfer.{transfer_in, transfer_out}
use Rattle.fields.specs.Message.{fields_in}
use Rattle.writer_laws.specs.Layout.{Bytes}
use Rattle.writer_laws.specs.Places.{Places}
use Rattle.writer_laws.specs.Rebuilt.{asks_some}
use Rattle.writer_laws.specs.ReadBack.{Wide32, bit, numbers_of, parts_of, structure_numbers, structure_parts}
use Rattle.writer_laws.proofs.Places.{encode_is_bytes, fits-length, places}
use Rattle.writer_laws.proofs.Rebuilt.{both, refused}
use Rattle.writer_laws.proofs.Walks.{along, half-take, word-take}
use Rattle.writer_laws.proofs.Back.{Back, agrees_there, at_least_there, below_30, ended_there, field_there, filled_there, first_below, interface_back, long_of, message_back, part_small, same, some}
use Rattle.writer_laws.proofs.BackUrb.{fills, held, nothing, structure_back, unmet}

-- an interface list that fills its part is whole rows
list_rows : (s : List ℕ) (p : Part) (count pipes : ℕ) → listed_of s p count ≡ Some pipes → part_allowed s p ≡ true → (r : ℕ) × (p.size ≡ 12 * r)
unfolding listed_of
list_rows s p count pipes e a =
    let e' = p.start + p.size in
    let h = (lies s p a).0 in
    let l : length (take e' s) ≡ e' = length-take-le e' s h in
    let v = along (take e' s) (take e' s) count 0 p.start p.start e' pipes (fills e' (interfaces_of (take e' s) count 0 p.start) pipes e) (λ j x y ex ey k. let z : y ≡ x = ey ∙ sym ex in rw z (refl, refl)) (omega arith) in
    (v.0, omega (arith, v.1))

abbrev Rows : Structure → Type 0
Rows (structure.SelectConfiguration b) = (r : ℕ) × (b.interfaces.size ≡ 12 * r)
Rows (structure.SelectInterface b) = (r : ℕ) × (b.interface.size ≡ 12 * r)
Rows structure.GetCurrentFrameNumber = Unit {0}
Rows (structure.PipeRequest b) = Unit {0}
Rows (structure.BulkOrInterruptTransfer b) = Unit {0}
Rows (structure.ControlTransfer b) = Unit {0}
Rows (structure.IsochTransfer b) = Unit {0}

-- a structure that can be written has one of 01's functions, and its interface list is whole rows
stated_rows : (s : List ℕ) (f : ℕ) (st : Structure) (x : Urb) → stated_of s f st ≡ Some x → (f ≤ 30) × Rows st
unfolding stated_of configuration_stated interface_stated
stated_rows s f (structure.SelectConfiguration b) x e =
    let a = held (eqb f 0) (configuration_stated s b) x e in
    let a1 = unmet (ltb 255 b.flag) _ x a.1 in
    let a2 = held (part_allowed s b.interfaces) _ x a1.1 in
    let a3 = held (part_allowed s b.descriptor) _ x a2.1 in
    let a4 = held (descriptor_sized b.flag b.descriptor.size) _ x a3.1 in
    let g = eqb-true f 0 a.0 in
    (omega arith, go (listed_of s b.interfaces b.count) refl a4.1 a2.0)
  where
    go : (l : Option ℕ) → listed_of s b.interfaces b.count ≡ l → configuration_by s b l ≡ Some x → part_allowed s b.interfaces ≡ true → (r : ℕ) × (b.interfaces.size ≡ 12 * r)
    go None l e a = nothing e
    go (Some pipes) l e a = list_rows s b.interfaces b.count pipes l a
stated_rows s f (structure.SelectInterface b) x e =
    let a = held (eqb f 1) (interface_stated s b) x e in
    let a1 = held (part_allowed s b.interface) _ x a.1 in
    let g = eqb-true f 1 a.0 in
    (omega arith, go (listed_of s b.interface 1) refl a1.1 a1.0)
  where
    go : (l : Option ℕ) → listed_of s b.interface 1 ≡ l → interface_by b l ≡ Some x → part_allowed s b.interface ≡ true → (r : ℕ) × (b.interface.size ≡ 12 * r)
    go None l e a = nothing e
    go (Some pipes) l e a = list_rows s b.interface 1 pipes l a
stated_rows s f structure.GetCurrentFrameNumber x e = let g = eqb-true f 7 (held (eqb f 7) _ x e).0 in (omega arith, tt)
stated_rows s f (structure.PipeRequest b) x e = go (eqb f 2) refl e
  where
    go : (t : Bool) → eqb f 2 ≡ t → cond t (Some (urb.PipeRequest b)) (cond (eqb f 0x1E) (Some (urb.PipeRequest b)) None) ≡ Some x → (f ≤ 30) × Unit {0}
    go true g e = let h = eqb-true f 2 g in (omega arith, tt)
    go false g e = let h = eqb-true f 0x1E (held (eqb f 0x1E) _ x e).0 in (omega arith, tt)
stated_rows s f (structure.BulkOrInterruptTransfer b) x e = let g = eqb-true f 9 (held (eqb f 9) _ x e).0 in (omega arith, tt)
stated_rows s f (structure.ControlTransfer b) x e = let g = eqb-true f 8 (held (eqb f 8) _ x e).0 in (omega arith, tt)
stated_rows s f (structure.IsochTransfer b) x e = let g = eqb-true f 10 (held (eqb f 10) _ x e).0 in (omega arith, tt)

-- the pieces of a structure are as long as its size says
sizes_of : List Piece → ℕ
sizes_of [] = 0
sizes_of (p ∷ ps) = pieces.size_of p + sizes_of ps

skipped : (w s : List ℕ) (at : ℕ) (xs ys : List Piece) → Places w s at (xs ++ ys) → Places w s (at + sizes_of xs) ys
unfolding sizes_of
skipped w s at [] ys p = let z : at ≡ at + 0 = omega arith in subst (λ k. Places w s k ys) z p
skipped w s at (x ∷ xs) ys p = let z : at + pieces.size_of x + sizes_of xs ≡ at + (pieces.size_of x + sizes_of xs) = omega arith in subst (λ k. Places w s k ys) z (skipped w s (at + pieces.size_of x) xs ys p.1)

structure_sizes : (st : Structure) → Rows st → 24 + sizes_of (structure_pieces st) ≡ 16 + structure_size st
unfolding sizes_of
structure_sizes (structure.SelectConfiguration b) (r, e) = let z : b.interfaces.size / 12 * 12 ≡ b.interfaces.size = omega arith in rw z (omega arith)
structure_sizes (structure.SelectInterface b) (r, e) = let z : b.interface.size / 12 * 12 ≡ b.interface.size = omega arith in rw z (omega arith)
structure_sizes structure.GetCurrentFrameNumber r = refl
structure_sizes (structure.PipeRequest b) r = refl
structure_sizes (structure.BulkOrInterruptTransfer b) r = refl
structure_sizes (structure.ControlTransfer b) r = omega arith
structure_sizes (structure.IsochTransfer b) r = omega arith

eight : (st : Structure) → 8 ≤ structure_size st
eight (structure.SelectConfiguration b) = omega arith
eight (structure.SelectInterface b) = omega arith
eight structure.GetCurrentFrameNumber = omega arith
eight (structure.PipeRequest b) = omega arith
eight (structure.BulkOrInterruptTransfer b) = omega arith
eight (structure.ControlTransfer b) = omega arith
eight (structure.IsochTransfer b) = omega arith

-- a RequestId of 31 bits and NoAck in one word
request_kept : (r : RequestId) (noack : Bool) (w : ℕ) → r.0 < 0x8000_0000 → w ≡ request_word r noack → (urb_request_in w ≡ r) × (no_ack_in w ≡ noack)
request_kept r true w h e = (rw e (as_request ((0x8000_0000 + r.0) % 0x8000_0000) r (upper r.0 h)), rw e (le-leb 0x8000_0000 (0x8000_0000 + r.0) (omega arith)))
  where
    upper : (x : ℕ) → x < 0x8000_0000 → (0x8000_0000 + x) % 0x8000_0000 ≡ x
    upper x h = omega arith

    as_request : (x : ℕ) (r : RequestId) → x ≡ r.0 → ◌≡◌ {A = RequestId} (record { 0 = x }) r
    as_request x r e = rw e
request_kept r false w h e = (rw e (as_request (r.0 % 0x8000_0000) r (lower r.0 h)), rw e (lt-leb 0x8000_0000 r.0 h))
  where
    lower : (x : ℕ) → x < 0x8000_0000 → x % 0x8000_0000 ≡ x
    lower x h = omega arith

    as_request : (x : ℕ) (r : RequestId) → x ≡ r.0 → ◌≡◌ {A = RequestId} (record { 0 = x }) r
    as_request x r e = rw e

request_below : (r : RequestId) (noack : Bool) → r.0 < 0x8000_0000 → request_word r noack < 4294967296
request_below r true h = omega arith
request_below r false h = omega arith

-- what stands in a transfer request that was written, behind its header
pub record Kept (w s : List ℕ) (t : TsUrbFields) (size : ℕ) (run : Part) (x : Urb) : Type 0 where
  pub found : Urb
  pub cb : word_at w 12 ≡ structure_size t.structure
  pub long : length w ≡ 16 + structure_size t.structure + 4 + run.size
  pub reads : ts_urb_of (take (16 + word_at w 12) w) ≡ Ok ((record { size = structure_size t.structure; function = t.function; request = t.request; noack = t.noack; urb = found }), (16 + structure_size t.structure))
  pub allowed : urb_allowed found ≡ urb_allowed x
  pub only : only_in found ≡ only_in x
  pub mayno : may_no_ack found ≡ may_no_ack x
  pub numbers : structure_numbers (structure_in found) ≡ structure_numbers t.structure
  pub parts : structure_parts w (structure_in found) ≡ structure_parts s t.structure
  pub last : word_at w (16 + structure_size t.structure) ≡ size
  pub output : pieces.cut w (record { start = 16 + structure_size t.structure + 4; size = run.size }) ≡ pieces.cut s run

kept : (w s : List ℕ) (t : TsUrbFields) (size : ℕ) (output : Part) (x : Urb) → Bytes w → Bytes s → length w ≤ 65535 → stated_of s t.function t.structure ≡ Some x → t.request.0 < 0x8000_0000 → size < 4294967296 → ((j : ℕ) → get_or (structure_numbers t.structure) j 0 < 4294967296)
    → Places w s 12 (Word (structure_size t.structure) ∷ Word (structure_size t.structure + 65536 * t.function) ∷ Word (request_word t.request t.noack) ∷ (structure_pieces t.structure ++ (Word size ∷ Run output ∷ [])))
    → Kept w s t size output x
unfolding ts_urb_of
kept w s t size output x bw bs fits e r small narrow p =
    let c = structure_size t.structure in
    let q = stated_rows s t.function t.structure x e in
    let sk = subst (λ k. Places w s k (Word size ∷ Run output ∷ [])) (structure_sizes t.structure q.1) (skipped w s 24 (structure_pieces t.structure) (Word size ∷ Run output ∷ []) p.1.1.1) in
    let l : length w ≡ 16 + c + 4 + output.size = sk.1.1 in
    let there : 16 + c ≤ length w = begins (16 + c) output.size (length w) l in
    let c16 : c < 65536 = below c output.size (length w) l fits in
    let e12 = (p.0 (wide c c16)).0 in
    let e16 = p.1.0 (pairs c t.function c16 q.0) in
    let e20 = (p.1.1.0 (request_below t.request t.noack r)).0 in
    let u = take (16 + c) w in
    let h16 : half_at u 16 ≡ c = half-take w (16 + c) 16 (shorter c (eight t.structure) 18 (omega arith)) ∙ (e16.1 ∙ low c t.function c16) in
    let h18 : half_at u 18 ≡ t.function = half-take w (16 + c) 18 (shorter c (eight t.structure) 20 (omega arith)) ∙ (e16.2 ∙ high c t.function c16) in
    let k = request_kept t.request t.noack (word_at u 20) r (word-take w (16 + c) 20 (shorter c (eight t.structure) 24 (omega arith)) ∙ e20) in
    let b = structure_back w s c there bw bs t.function t.structure x (Word size ∷ Run output ∷ []) e refl p.1.1.1 narrow in
    let lu : left u 16 ≡ c = left_of (length u) c (length-take-le (16 + c) w there) in
    record {
      found = b.found;
      cb = e12;
      long = l;
      reads = ap (λ n. ts_urb_of (take (16 + n) w)) e12 ∙ (agrees_there (eqb (half_at u 16) (left u 16)) 16 _ (eq-eqb (half_at u 16) (left u 16) (h16 ∙ sym lu)) ∙
          (ap (λ n. urb_with u (structure_of u n)) h18 ∙ (ap (urb_with u) b.reads ∙ rw (h16, h18, k.0, k.1))));
      allowed = b.allowed;
      only = b.only;
      mayno = b.noack;
      numbers = b.numbers;
      parts = b.parts;
      last = (sk.0 small).0;
      output = sk.1.0;
    }
  where
    begins : (x d l : ℕ) → l ≡ x + 4 + d → x ≤ l
    begins x d l e = omega arith

    below : (c d l : ℕ) → l ≡ 16 + c + 4 + d → l ≤ 65535 → c < 65536
    below c d l e h = omega arith

    wide : (c : ℕ) → c < 65536 → c < 4294967296
    wide c h = omega arith

    pairs : (c f : ℕ) → c < 65536 → f ≤ 30 → c + 65536 * f < 4294967296
    pairs c f h g = omega arith

    low : (c f : ℕ) → c < 65536 → (c + 65536 * f) % 65536 ≡ c
    low c f h = omega arith

    high : (c f : ℕ) → c < 65536 → (c + 65536 * f) / 65536 ≡ f
    high c f h = omega arith

    shorter : (c : ℕ) → 8 ≤ c → (k : ℕ) → k ≤ 24 → k ≤ 16 + c
    shorter c h k g = omega arith

    left_of : (l c : ℕ) → l ≡ 16 + c → l - 16 ≡ c
    left_of l c e = omega arith

-- the numbers of a TsUrb that was read
urb_same : (f : ℕ) (r : ℕ) (n : Bool) (xs ys : List ℕ) → xs ≡ ys → f ∷ r ∷ bit n ∷ xs ≡ f ∷ r ∷ bit n ∷ ys
urb_same f r n xs ys e = ap (λ z. f ∷ r ∷ bit n ∷ z) e

small_part : (p : Part) → 0 < 4294967296
small_part p = omega arith

-- places that are computed from CbTsUrb
module _ (w : List ℕ) (c d : ℕ) (cb : word_at w 12 ≡ c) (l : length w ≡ 16 + c + 4 + d) (h : 8 ≤ c) where
  reach_16 : 16 ≤ length w
  reach_16 = omega (arith, l)

  urb_there : 16 + word_at w 12 ≤ length w
  urb_there = rw cb (omega (arith, l))

  size_there : 16 + word_at w 12 + 4 ≤ length w
  size_there = rw cb (omega (arith, l))

  data_there : (n : ℕ) → n ≡ d → 16 + word_at w 12 + 4 + n ≤ length w
  data_there n e = rw (cb, e) (omega (arith, l))

  data_ends : (n : ℕ) → n ≡ d → length w ≤ 16 + word_at w 12 + 4 + n
  data_ends n e = rw (cb, e) (omega (arith, l))

  ends : d ≡ 0 → length w ≤ 16 + word_at w 12 + 4
  ends e = rw cb (omega (arith, l, e))

  filled_up : 16 + word_at w 12 ≤ 16 + c
  filled_up = rw cb (omega arith)

incoming_x : (b : TransferInFields) (r : Option Urb) → incoming_by b r ≡ true → (x : Urb) × (r ≡ Some x) × (incoming_allowed b.urb.noack x b.size ≡ true)
incoming_x b None e = refused e
incoming_x b (Some x) e = (x, refl, e)

outgoing_x : (b : TransferOutFields) (r : Option Urb) → outgoing_by b r ≡ true → (x : Urb) × (r ≡ Some x) × (outgoing_allowed b.urb.noack x ≡ true)
outgoing_x b None e = refused e
outgoing_x b (Some x) e = (x, refl, e)

pub in_back : (id : MessageId) (i : ℕ) (b : TransferInFields) (s : List ℕ) → Bytes s → (n : ℕ) → pieces.total_from (length s) 0 (pieces_of id (fields.TransferInRequest i b)) ≡ Some n → transfer_in_given s i b ≡ true → Wide32 id (fields.TransferInRequest i b) → Back id (fields.TransferInRequest i b) s i 1 0x105
unfolding asked_of reading_of pieces_of fields_in transfer_in numbers_of parts_of transfer_in_given transfer_in_request_of transfer_of transfer_with output_of transfer_in_request_allowed
in_back id i b s bytes n t given wide =
    let w = bytes_of id (fields.TransferInRequest i b) s in
    let p = places s (pieces_of id (fields.TransferInRequest i b)) n bytes t in
    let g0 = and_parts (interface_allowed i) (request_allowed b.urb.request && incoming_by b (stated_of s b.urb.function b.urb.structure)) given in
    let g1 = and_parts (request_allowed b.urb.request) (incoming_by b (stated_of s b.urb.function b.urb.structure)) g0.1 in
    let x = incoming_x b (stated_of s b.urb.function b.urb.structure) g1.1 in
    let b30 = below_30 i g0.0 in
    let h = (p.0 (first_below i b30)).0 in
    let m = (p.1.0 wide.0).0 in
    let f = (p.1.1.0 (omega arith)).0 in
    let q = kept w s b.urb b.size empty_part x.0 (encode_is_bytes s bytes _) bytes (fits-length s _ n t) x.1 (ltb-true b.urb.request.0 0x8000_0000 g1.0) (wide.1 1) (λ j. wide.1 (suc (suc (suc (suc (suc j)))))) p.1.1.1 in
    let c = structure_size b.urb.structure in
    let z : word_at w (16 + word_at w 12) ≡ b.size = ap (λ y. word_at w (16 + y)) q.cb ∙ q.last in
    let a1 = and_parts (not b.urb.noack) (urb_allowed x.0 && cond (only_in x.0) (eqb b.size 0) true) x.2 in
    let a2 = and_parts (urb_allowed x.0) (cond (only_in x.0) (eqb b.size 0) true) a1.1 in
    let allowed : transfer_in_request_allowed (record { urb = record { size = structure_size b.urb.structure; function = b.urb.function; request = b.urb.request; noack = b.urb.noack; urb = q.found }; size = word_at w (16 + word_at w 12) }) ≡ true = both {a = not b.urb.noack} a1.0 (both {a = urb_allowed q.found} (q.allowed ∙ a2.0) (rw (q.only, z) a2.1)) in
    record {
      back = record {
        asks = ap (λ r. asks_some (asks_by (transfer_in_request_reading (incoming_from w r))))
            (field_there w 12 4 _ (reach_16 w c 0 q.cb q.long (eight b.urb.structure)) ∙ (at_least_there 8 (word_at w 12) 12 _ (rw q.cb (eight b.urb.structure)) ∙
            (field_there w 16 (word_at w 12) _ (urb_there w c 0 q.cb q.long (eight b.urb.structure)) ∙ (ap (transfer_from w (16 + word_at w 12)) q.reads ∙ field_there w (16 + word_at w 12) 4 _ (size_there w c 0 q.cb q.long (eight b.urb.structure)))))) ∙
            (ap (λ r. asks_some (asks_by (transfer_in_request_reading r))) (filled_there (16 + c) (16 + word_at w 12) _ (filled_up w c 0 q.cb q.long (eight b.urb.structure)) ∙ ended_there w (16 + word_at w 12 + 4) _ (ends w c 0 q.cb q.long (eight b.urb.structure) refl)) ∙
            some (transfer_in_request_allowed (record { urb = record { size = structure_size b.urb.structure; function = b.urb.function; request = b.urb.request; noack = b.urb.noack; urb = q.found }; size = word_at w (16 + word_at w 12) })) _ allowed refl);
        message = message_back _ id m;
        numbers = same (interface_back (word_at w 0) i h b30) (same z (rw q.reads (urb_same b.urb.function b.urb.request.0 b.urb.noack _ _ q.numbers)));
        parts = rw q.reads q.parts;
      };
      head = record { first = h; third = f };
      long = long_of (length w) _ q.long (omega arith);
    }

pub out_back : (id : MessageId) (i : ℕ) (b : TransferOutFields) (s : List ℕ) → Bytes s → (n : ℕ) → pieces.total_from (length s) 0 (pieces_of id (fields.TransferOutRequest i b)) ≡ Some n → transfer_out_given s i b ≡ true → Wide32 id (fields.TransferOutRequest i b) → Back id (fields.TransferOutRequest i b) s i 1 0x106 × (r : Request) × (asked_of kind.TransferOutRequest (bytes_of id (fields.TransferOutRequest i b) s) ≡ Ok (asks.TransferOut r)) × (r.noack ≡ b.urb.noack)
unfolding asked_of reading_of pieces_of fields_in transfer_out numbers_of parts_of transfer_out_given transfer_out_request_of transfer_of transfer_with output_of outgoing_of transfer_out_request_allowed
out_back id i b s bytes n t given wide =
    let w = bytes_of id (fields.TransferOutRequest i b) s in
    let p = places s (pieces_of id (fields.TransferOutRequest i b)) n bytes t in
    let st = stated_of s b.urb.function b.urb.structure in
    let g0 = and_parts (interface_allowed i) (request_allowed b.urb.request && (part_allowed s b.output && outgoing_by b st)) given in
    let g1 = and_parts (request_allowed b.urb.request) (part_allowed s b.output && outgoing_by b st) g0.1 in
    let g2 = and_parts (part_allowed s b.output) (outgoing_by b st) g1.1 in
    let x = outgoing_x b st g2.1 in
    let b30 = below_30 i g0.0 in
    let h = (p.0 (first_below i b30)).0 in
    let m = (p.1.0 wide.0).0 in
    let f = (p.1.1.0 (omega arith)).0 in
    let d = b.output.size in
    let q = kept w s b.urb d b.output x.0 (encode_is_bytes s bytes _) bytes (fits-length s _ n t) x.1 (ltb-true b.urb.request.0 0x8000_0000 g1.0) (part_small s b.output g2.0) (λ j. wide.1 (suc (suc (suc (suc j))))) p.1.1.1 in
    let c = structure_size b.urb.structure in
    let z : word_at w (16 + word_at w 12) ≡ d = ap (λ y. word_at w (16 + y)) q.cb ∙ q.last in
    let a1 = and_parts (urb_allowed x.0) (not (only_in x.0) && cond b.urb.noack (may_no_ack x.0) true) x.2 in
    let a2 = and_parts (not (only_in x.0)) (cond b.urb.noack (may_no_ack x.0) true) a1.1 in
    let allowed : transfer_out_request_allowed (record { urb = record { size = structure_size b.urb.structure; function = b.urb.function; request = b.urb.request; noack = b.urb.noack; urb = q.found }; size = word_at w (16 + word_at w 12); output = record { start = 16 + word_at w 12 + 4; size = word_at w (16 + word_at w 12) } }) ≡ true = both {a = urb_allowed q.found} (q.allowed ∙ a1.0) (both {a = not (only_in q.found)} (ap not q.only ∙ a2.0) (rw q.mayno a2.1)) in
    let asked : asked_of kind.TransferOutRequest w ≡ Ok (asks.TransferOut (record { request = b.urb.request; size = word_at w (16 + word_at w 12); noack = b.urb.noack; payload = record { start = 16 + word_at w 12 + 4; size = word_at w (16 + word_at w 12) } })) = ap (λ r. asks_by (transfer_out_request_reading (outgoing_from w r)))
    (field_there w 12 4 _ (reach_16 w c d q.cb q.long (eight b.urb.structure)) ∙ (at_least_there 8 (word_at w 12) 12 _ (rw q.cb (eight b.urb.structure)) ∙
    (field_there w 16 (word_at w 12) _ (urb_there w c d q.cb q.long (eight b.urb.structure)) ∙ (ap (transfer_from w (16 + word_at w 12)) q.reads ∙ field_there w (16 + word_at w 12) 4 _ (size_there w c d q.cb q.long (eight b.urb.structure)))))) ∙
    (ap (λ r. asks_by (transfer_out_request_reading r)) (field_there w (16 + word_at w 12 + 4) (word_at w (16 + word_at w 12)) _ (data_there w c d q.cb q.long (eight b.urb.structure) _ z) ∙
    (filled_there (16 + c) (16 + word_at w 12) _ (filled_up w c d q.cb q.long (eight b.urb.structure)) ∙ ended_there w (16 + word_at w 12 + 4 + word_at w (16 + word_at w 12)) _ (data_ends w c d q.cb q.long (eight b.urb.structure) _ z))) ∙
    rw allowed) in (
      record {
        back = record {
          asks = ap asks_some asked;
          message = message_back _ id m;
          numbers = same (interface_back (word_at w 0) i h b30) (rw q.reads (urb_same b.urb.function b.urb.request.0 b.urb.noack _ _ q.numbers));
          parts = same (ap (λ y. pieces.cut w (record { start = 16 + y + 4; size = word_at w (16 + word_at w 12) })) q.cb ∙ (ap (λ y. pieces.cut w (record { start = 16 + c + 4; size = y })) z ∙ q.output)) (rw q.reads q.parts);
        };
        head = record { first = h; third = f };
        long = long_of (length w) _ q.long (omega arith);
      },
      (record { request = b.urb.request; size = word_at w (16 + word_at w 12); noack = b.urb.noack; payload = record { start = 16 + word_at w 12 + 4; size = word_at w (16 + word_at w 12) } }),
      asked,
      refl,
    )
