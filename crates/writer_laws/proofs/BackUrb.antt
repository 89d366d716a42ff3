-- The structure of a TsUrb that is written is read back as the same fields.
use Rattle.std.specs.Prelude.{Option, Some, None, Result, Ok, Err}
use Prim.Native.Nat.{ℕ, ◌+◌, ◌-◌, ◌*◌, ◌/◌, ◌%◌, ◌<◌, ◌≤◌}
use native.Mathlib.Omega.{arith}
use mathlib.Core.Path.{◌≡◌, refl, ap, sym, subst, ◌∙◌}
use mathlib.Core.Logic.{◌⊎◌, inl, inr}
use mathlib.Core.List.{List, ◌++◌}
use mathlib.Core.Bool.{Bool, true, false, cond, ◌&&◌, ◌||◌}
use lib.ListN.{length, take, drop, get_or}
use lib.Dec.{ltb, leb, eqb}
use Rattle.words.specs.Words.{byte_at, word_at}
use Rattle.words.specs.Layout.{agrees, field, left}
use Rattle.words.specs.declared.layout.Part.{Part}
use Rattle.urb.specs.Interfaces.{interfaces_of}
use Rattle.urb.specs.SelectConfiguration.{configuration_from, configuration_of, configuration_with, descriptor_of, select_configuration_of}
use Rattle.urb.specs.SelectInterface.{interface_from, select_interface_of}
use Rattle.urb.specs.IsochTransfer.{isoch_transfer_of}
use Rattle.urb.specs.TsUrb.{one_size_of, structure_of}
use Rattle.urb.specs.declared.select_configuration.Descriptor.{Descriptor}
use Rattle.urb.specs.declared.ts_urb.Urb.{Urb}
use Rattle.urb.specs.declared.ts_urb.Urb.TheVariants as urb
use Rattle.urb_values.specs.Values.{may_no_ack, only_in, urb_allowed}
use Rattle.writer.specs.Part.{part_allowed}
use Rattle.writer.specs.TsUrb.{configuration_stated, control_stated, descriptor_sized, interface_stated, isoch_stated, listed_by, listed_of, stated_of, structure_pieces, structure_size}
use Rattle.fields.specs.Transfer.{structure_in}
use lib.Seq.{get_or-drop, get_or-take, length-take-le}
use borrow.Author.Tests.{eq-eqb, eqb-true, leb-true, ltb-false}
use Rattle.urb.specs.declared.control_transfer.ControlTransfer.{ControlTransfer}
use Rattle.urb.specs.declared.pipe_request.PipeRequest.{PipeRequest}
use Rattle.urb.specs.declared.bulk_or_interrupt_transfer.BulkOrInterruptTransfer.{BulkOrInterruptTransfer}
use Rattle.pieces.specs.Pieces as pieces
use Rattle.pieces.specs.declared.piece.Piece.{Piece}
use Rattle.writer.specs.TsUrb.{configuration_by, interface_by}
use Rattle.writer.specs.declared.ts_urb.SelectConfigurationFields.{SelectConfigurationFields}
use Rattle.writer.specs.declared.ts_urb.SelectInterfaceFields.{SelectInterfaceFields}
use Rattle.writer.specs.declared.ts_urb.IsochTransferFields.{IsochTransferFields}
use Rattle.writer.specs.declared.ts_urb.Structure.{Structure}
use Rattle.writer.specs.declared.ts_urb.Structure.TheVariants as structure
use Rattle.writer.proofs.Lies.{lies}
use Rattle.writer_laws.specs.Layout.{Bytes, cleared_rows}
use Rattle.writer_laws.specs.Places.{Places, RowsStand}
use Rattle.writer_laws.specs.ReadBack.{structure_numbers, structure_parts}
use Rattle.writer_laws.proofs.Cleared.{rows_cleared}
use Rattle.writer_laws.proofs.Rebuilt.{refused}
use Rattle.writer_laws.proofs.Walks.{along, half-take, word-take}
use Rattle.writer_laws.proofs.Back.{agrees_there, at_least_there, field_there, same}
use Rattle.writer_laws.proofs.BackDevice.{byte_in}
use Rattle.words.specs.declared.layout.Fault.{Fault}

pub nothing : {A : Type 0} {x : Urb} → None ≡ Some x → A
nothing e = absurd (omega (arith, zero_one e))
  where
    zero_one : {x : Urb} → None ≡ Some x → ◌≡◌ {A = ℕ} 0 1
    zero_one e = cc

-- a test that led to a structure held
pub held : (t : Bool) (a : Option Urb) (x : Urb) → cond t a None ≡ Some x → (t ≡ true) × (a ≡ Some x)
held true a x e = (refl, e)
held false a x e = (nothing e, nothing e)

-- a test that refuses was not met
pub unmet : (t : Bool) (a : Option Urb) (x : Urb) → cond t None a ≡ Some x → (t ≡ false) × (a ≡ Some x)
unmet true a x e = nothing e
unmet false a x e = (refl, e)

is_found : (x y : Urb) → Some x ≡ Some y → x ≡ y
is_found x y e = cc

-- a list that fills its part was walked to its end
pub fills : (end : ℕ) (x : Result (ℕ × ℕ) Fault) (pipes : ℕ) → listed_by end x ≡ Some pipes → x ≡ Ok (end, pipes)
fills end (Ok (last, k)) pipes e = go (eqb last end) refl e
  where
    go : (t : Bool) → eqb last end ≡ t → cond t (Some k) None ≡ Some pipes → ◌≡◌ {A = Result (ℕ × ℕ) Fault} (Ok (last, k)) (Ok (end, pipes))
    go true f e = let a = eqb-true last end f in let b : k ≡ pipes = cc in rw (a, b)
    go false f e = absurd (omega (arith, (let z : ◌≡◌ {A = ℕ} 0 1 = cc in z)))
fills end (Err fault) pipes e = absurd (omega (arith, (let z : ◌≡◌ {A = ℕ} 0 1 = cc in z)))

module _ (w s : List ℕ) (c : ℕ) (there : 16 + c ≤ length w) (bw : Bytes w) (bs : Bytes s) where
  abbrev u : List ℕ
  u = take (16 + c) w

  long : length u ≡ 16 + c
  long = length-take-le (16 + c) w there

  left_16 : left u 16 ≡ c
  left_16 = let l = long in omega arith

  word_u : (at : ℕ) → at + 4 ≤ 16 + c → word_at u at ≡ word_at w at
  word_u at h = word-take w (16 + c) at h

  -- the reader finds a structure that has the fields of st, and is allowed where x is
  pub record StructureBack (f : ℕ) (st : Structure) (x : Urb) : Type 0 where
    pub found : Urb
    pub reads : structure_of u f ≡ Ok (found, (16 + c))
    pub allowed : urb_allowed found ≡ urb_allowed x
    pub only : only_in found ≡ only_in x
    pub noack : may_no_ack found ≡ may_no_ack x
    pub numbers : structure_numbers (structure_in found) ≡ structure_numbers st
    pub parts : structure_parts w (structure_in found) ≡ structure_parts s st

  -- a structure of one size
  one_size : (k : ℕ) (b : Urb) → c ≡ k → agrees {A = Urb × ℕ} (eqb (left u 16) k) 16 (Ok (b, length u)) ≡ Ok (b, (16 + c))
  one_size k b e = agrees_there (eqb (left u 16) k) 16 _ (eq-eqb (left u 16) k (left_16 ∙ e)) ∙ ap (λ z. Ok (b, z)) long

  frame_back : c ≡ 8 → StructureBack 7 structure.GetCurrentFrameNumber urb.GetCurrentFrameNumber
  unfolding structure_of one_size_of
  frame_back e = record { found = urb.GetCurrentFrameNumber; reads = one_size 8 _ e; allowed = refl; only = refl; noack = refl; numbers = refl; parts = refl }

  pipe_back : (f : ℕ) (b : PipeRequest) → c ≡ 12 → word_at w 24 ≡ b.pipe → (f ≡ 2) ⊎ (f ≡ 0x1E) → StructureBack f (structure.PipeRequest b) (urb.PipeRequest b)
  unfolding structure_of one_size_of
  pipe_back f b e p (inl g) = record { found = urb.PipeRequest (record { pipe = word_at u 24 }); reads = subst (λ z. structure_of u z ≡ Ok ((urb.PipeRequest (record { pipe = word_at u 24 })), (16 + c))) (sym g) (one_size 12 _ e); allowed = refl; only = refl; noack = refl; numbers = same (word_u 24 (omega arith) ∙ p) refl; parts = refl }
  pipe_back f b e p (inr g) = record { found = urb.PipeRequest (record { pipe = word_at u 24 }); reads = subst (λ z. structure_of u z ≡ Ok ((urb.PipeRequest (record { pipe = word_at u 24 })), (16 + c))) (sym g) (one_size 12 _ e); allowed = refl; only = refl; noack = refl; numbers = same (word_u 24 (omega arith) ∙ p) refl; parts = refl }

  bulk_back : (b : BulkOrInterruptTransfer) → c ≡ 16 → word_at w 24 ≡ b.pipe → word_at w 28 ≡ b.flags → StructureBack 9 (structure.BulkOrInterruptTransfer b) (urb.BulkOrInterruptTransfer b)
  unfolding structure_of one_size_of
  bulk_back b e p q = record { found = urb.BulkOrInterruptTransfer (record { pipe = word_at u 24; flags = word_at u 28 }); reads = one_size 16 _ e; allowed = refl; only = refl; noack = refl; numbers = same (word_u 24 (omega arith) ∙ p) (same (word_u 28 (omega arith) ∙ q) refl); parts = refl }

  control_back : (b : ControlTransfer) → c ≡ 24 → b.setup.size ≡ 8 → word_at w 24 ≡ b.pipe → word_at w 28 ≡ b.flags → pieces.cut w (record { start = 32; size = b.setup.size }) ≡ pieces.cut s b.setup → StructureBack 8 (structure.ControlTransfer b) (urb.ControlTransfer b)
  unfolding structure_of one_size_of
  control_back b e z p q r = record { found = urb.ControlTransfer (record { pipe = word_at u 24; flags = word_at u 28; setup = record { start = 32; size = 8 } }); reads = one_size 24 _ e; allowed = refl; only = refl; noack = refl; numbers = same (word_u 24 (omega arith) ∙ p) (same (word_u 28 (omega arith) ∙ q) refl); parts = same (ap (λ k. pieces.cut w (record { start = 32; size = k })) (sym z) ∙ r) refl }

  isoch_back : (b : IsochTransferFields) (k : ℕ) → b.list.size ≡ 12 * k → c ≡ 28 + b.list.size → word_at w 24 ≡ b.pipe → word_at w 28 ≡ b.flags → word_at w 32 ≡ b.start → word_at w 36 ≡ b.list.size / 12 → word_at w 40 ≡ b.errors
      → pieces.cut w (record { start = 44; size = b.list.size }) ≡ pieces.cut s b.list
      → StructureBack 10 (structure.IsochTransfer b) (urb.IsochTransfer (record { pipe = b.pipe; flags = b.flags; start = b.start; packets = b.list.size / 12; errors = b.errors; list = b.list }))
  unfolding structure_of isoch_transfer_of
  isoch_back b k z e p q a g d r =
      let n : word_at u 36 ≡ b.list.size / 12 = word_u 36 (omega arith) ∙ g in
      let o : 12 * word_at u 36 ≡ b.list.size = ap (λ y. 12 * y) n ∙ twelves b.list.size k z in
      record {
        found = urb.IsochTransfer (record { pipe = word_at u 24; flags = word_at u 28; start = word_at u 32; packets = word_at u 36; errors = word_at u 40; list = record { start = 44; size = 12 * word_at u 36 } });
        reads = at_least_there 24 (left u 16) 16 _ (rw left_16 (omega arith)) ∙ (agrees_there (eqb (left u 16) (28 + 12 * word_at u 36)) 16 _ (eq-eqb (left u 16) (28 + 12 * word_at u 36) (left_16 ∙ (e ∙ ap (λ y. 28 + y) (sym o)))) ∙ ap (λ y. Ok ((urb.IsochTransfer (record { pipe = word_at u 24; flags = word_at u 28; start = word_at u 32; packets = word_at u 36; errors = word_at u 40; list = record { start = 44; size = 12 * word_at u 36 } })), y)) long);
        allowed = ap (λ y. leb y 1024) n;
        only = refl;
        noack = refl;
        numbers = same (word_u 24 (omega arith) ∙ p) (same (word_u 28 (omega arith) ∙ q) (same (word_u 32 (omega arith) ∙ a) (same (word_u 40 (omega arith) ∙ d) refl)));
        parts = same (ap (λ y. pieces.cut w (record { start = 44; size = y })) o ∙ r) refl;
      }
    where
      twelves : (y k : ℕ) → y ≡ 12 * k → 12 * (y / 12) ≡ y
      twelves y k e = omega arith

  -- an interface list that fills its part, written at a place
  walk_back : (p : Part) (count at pipes : ℕ) → listed_of s p count ≡ Some pipes → part_allowed s p ≡ true → RowsStand w s at p.start (p.size / 12) → at + p.size ≤ 16 + c
      → (interfaces_of u count 0 at ≡ Ok ((at + p.size), pipes)) × (r : ℕ) × (p.size ≡ 12 * r)
  unfolding listed_of
  walk_back p count at pipes e a r h =
      let q = fills (p.start + p.size) (interfaces_of (take (p.start + p.size) s) count 0 p.start) pipes e in
      let v = along (take (p.start + p.size) s) u count 0 p.start at (p.start + p.size) pipes q
      (λ j x y ex ey k. let n = r j x y ex ey (omega (arith, ex, k)) in
      (half-take w (16 + c) y (omega (arith, ex, ey, k, h)) ∙ (n.0 ∙ sym (half-take s (p.start + p.size) x (omega (arith, k)))), word-take w (16 + c) (y + 8) (omega (arith, ex, ey, k, h)) ∙ (n.1 ∙ sym (word-take s (p.start + p.size) (x + 8) (omega (arith, k))))))
      (let l = long in let z : p.start + p.size - p.start ≡ p.size = omega arith in rw (z, l) h) in
      let d : p.size ≡ 12 * v.0 = omega (arith, v.1) in
      (subst (λ k. interfaces_of u count 0 at ≡ Ok ((at + k), pipes)) (sym d) v.2, v.0, d)

  -- an interface list by its bytes with its padding 0, where it was given and where it is written
  list_same : (p : Part) (at : ℕ) → part_allowed s p ≡ true → at + p.size ≤ 16 + c → pieces.rows_from w (p.size / 12) 0 at ≡ pieces.rows_from s (p.size / 12) 0 p.start → cleared_rows w (p.size / 12) 0 at ≡ cleared_rows s (p.size / 12) 0 p.start
  list_same p at a h e = sym (rows_cleared w bw (p.size / 12) 0 at (within p.size at (length w) (fits (at + p.size) (length w) h))) ∙ (e ∙ rows_cleared s bs (p.size / 12) 0 p.start (within p.size p.start (length s) (lies s p a).0))
    where
      within : (n at l : ℕ) → at + n ≤ l → at + 12 * (n / 12) ≤ l
      within n at l h = omega arith

      fits : (x l : ℕ) → x ≤ 16 + c → x ≤ length w
      fits x l h = omega (arith, there)

  interface_back : (b : SelectInterfaceFields) (pipes : ℕ) → c ≡ 12 + b.interface.size → word_at w 24 ≡ b.handle → listed_of s b.interface 1 ≡ Some pipes → part_allowed s b.interface ≡ true
      → pieces.rows_from w (b.interface.size / 12) 0 28 ≡ pieces.rows_from s (b.interface.size / 12) 0 b.interface.start → RowsStand w s 28 b.interface.start (b.interface.size / 12)
      → StructureBack 1 (structure.SelectInterface b) (urb.SelectInterface (record { handle = b.handle; interface = b.interface; pipes = pipes }))
  unfolding structure_of select_interface_of
  interface_back b pipes e p l a i r =
      let q = walk_back b.interface 1 28 pipes l a r (omega arith) in
      let z : 28 + b.interface.size - 28 ≡ b.interface.size = omega arith in
      let o : 28 + b.interface.size ≡ 16 + c = omega arith in
      record {
        found = urb.SelectInterface (record { handle = word_at u 24; interface = record { start = 28; size = 28 + b.interface.size - 28 }; pipes = pipes });
        reads = field_there u 24 4 _ (let n = long in omega arith) ∙ (ap (interface_from u) q.0 ∙ ap (λ y. Ok ((urb.SelectInterface (record { handle = word_at u 24; interface = record { start = 28; size = 28 + b.interface.size - 28 }; pipes = pipes })), y)) o);
        allowed = refl;
        only = refl;
        noack = refl;
        numbers = same (word_u 24 (omega arith) ∙ p) refl;
        parts = same (ap (λ y. cleared_rows w (y / 12) 0 28) z ∙ list_same b.interface 28 a (omega arith) i) refl;
      }

  -- what a descriptor of so many bytes is read as, behind the list
  descriptor_back : (flag end size : ℕ) → end + size ≡ 16 + c → descriptor_sized flag size ≡ true → (d : Descriptor) × (descriptor_of u flag end ≡ Ok (d, (16 + c))) × (d.part ≡ record { start = end; size = size }) × (eqb flag 0 ≡ false → (d.first ≡ byte_at w end) × (d.second ≡ byte_at w (end + 1)))
  unfolding descriptor_of
  descriptor_back flag end size e h = go (eqb flag 0) h
    where
      go : (t : Bool) → cond t (eqb size 0) (leb 9 size) ≡ true
          → (d : Descriptor) × (cond {A = Result (Descriptor × ℕ) Fault} t (Ok ((record { part = record { start = end; size = 0 }; first = 0; second = 0 }), end)) (field u end 9 (Ok ((record { part = record { start = end; size = left u end }; first = byte_at u end; second = byte_at u (end + 1) }), (length u)))) ≡ Ok (d, (16 + c)))
          × (d.part ≡ record { start = end; size = size }) × (t ≡ false → (d.first ≡ byte_at w end) × (d.second ≡ byte_at w (end + 1)))
      go true h =
          let z = eqb-true size 0 h in let o : end ≡ 16 + c = omega arith in
          (record { part = record { start = end; size = 0 }; first = 0; second = 0 }, ap (λ y. Ok ((record { part = record { start = end; size = 0 }; first = 0; second = 0 }), y)) o, ap (λ y. record { start = end; size = y }) (sym z), λ f. refused (sym f))
      go false h =
          let n = leb-true 9 size h in let o : left u end ≡ size = (let l = long in omega arith) in (
            record { part = record { start = end; size = left u end }; first = byte_at u end; second = byte_at u (end + 1) },
            field_there u end 9 _ (let l = long in omega arith) ∙ ap (λ y. Ok ((record { part = record { start = end; size = left u end }; first = byte_at u end; second = byte_at u (end + 1) }), y)) long,
            ap (λ y. record { start = end; size = y }) o,
            λ f. (get_or-take (16 + c) w end 0 (omega arith), get_or-take (16 + c) w (end + 1) 0 (omega arith)),
          )

  or_same : (a a' b c' : Bool) (f f' x y x' y' : ℕ) → a ≡ a' → f ≡ f' → (eqb f' 0 ≡ false → (x ≡ x') × (y ≡ y')) → (a && (b && (eqb f 0 || (eqb x 9 && eqb y 2)))) ≡ (a' && (b && (eqb f' 0 || (eqb x' 9 && eqb y' 2))))
  or_same a a' b c' f f' x y x' y' e g h = rw (e, g) (go (eqb f' 0) refl)
    where
      go : (t : Bool) → eqb f' 0 ≡ t → (a' && (b && (t || (eqb x 9 && eqb y 2)))) ≡ (a' && (b && (t || (eqb x' 9 && eqb y' 2))))
      go true z = refl
      go false z = let q = h z in rw (q.0, q.1)

  configuration_back : (b : SelectConfigurationFields) (pipes : ℕ) → c ≡ 16 + b.interfaces.size + b.descriptor.size → byte_at w 24 ≡ b.flag → word_at w 28 ≡ b.count
      → listed_of s b.interfaces b.count ≡ Some pipes → part_allowed s b.interfaces ≡ true → descriptor_sized b.flag b.descriptor.size ≡ true
      → pieces.rows_from w (b.interfaces.size / 12) 0 32 ≡ pieces.rows_from s (b.interfaces.size / 12) 0 b.interfaces.start → RowsStand w s 32 b.interfaces.start (b.interfaces.size / 12)
      → pieces.cut w (record { start = 32 + b.interfaces.size / 12 * 12; size = b.descriptor.size }) ≡ pieces.cut s b.descriptor
      → StructureBack 0 (structure.SelectConfiguration b) (urb.SelectConfiguration (record { flag = b.flag; count = b.count; interfaces = b.interfaces; pipes = pipes; descriptor = record { part = b.descriptor; first = byte_at (drop b.descriptor.start s) 0; second = byte_at (drop b.descriptor.start s) 1 } }))
  unfolding structure_of select_configuration_of configuration_of
  configuration_back b pipes e p n l a h i r k =
      let fu : byte_at u 24 ≡ b.flag = get_or-take (16 + c) w 24 0 (omega arith) ∙ p in
      let cu : word_at u 28 ≡ b.count = word_u 28 (omega arith) ∙ n in
      let q = walk_back b.interfaces b.count 32 pipes l a r (omega arith) in
      let v : interfaces_of u (word_at u 28) 0 32 ≡ Ok ((32 + b.interfaces.size), pipes) = ap (λ y. interfaces_of u y 0 32) cu ∙ q.0 in
      let z : 32 + b.interfaces.size - 32 ≡ b.interfaces.size = omega arith in
      let y : b.interfaces.size / 12 * 12 ≡ b.interfaces.size = rows b.interfaces.size q.1 q.2 in
      let d = descriptor_back (byte_at u 24) (32 + b.interfaces.size) b.descriptor.size (omega arith) (subst (λ y. descriptor_sized y b.descriptor.size ≡ true) (sym fu) h) in
      let kd : pieces.cut w (record { start = 32 + b.interfaces.size; size = b.descriptor.size }) ≡ pieces.cut s b.descriptor = ap (λ y. pieces.cut w (record { start = 32 + y; size = b.descriptor.size })) (sym y) ∙ k in
      record {
        found = urb.SelectConfiguration (record { flag = byte_at u 24; count = word_at u 28; interfaces = record { start = 32; size = 32 + b.interfaces.size - 32 }; pipes = pipes; descriptor = d.0 });
        reads = field_there u 24 1 _ (let m = long in omega arith) ∙ (field_there u 25 3 _ (let m = long in omega arith) ∙ (field_there u 28 4 _ (let m = long in omega arith) ∙ (ap (configuration_from u) v ∙ ap (configuration_with u (word_at u 28) (32 + b.interfaces.size) pipes) d.1)));
        allowed = or_same _ _ (leb pipes 30) true (byte_at u 24) b.flag d.0.first d.0.second _ _ (ap (λ y. leb y 32) cu) fu (λ f. let g = d.3 (subst (λ y. eqb y 0 ≡ false) (sym fu) f) in let m = nine b.flag b.descriptor.size f h in
            (g.0 ∙ start_byte (32 + b.interfaces.size) b.descriptor kd (omega arith), g.1 ∙ (byte_in w s (record { start = 32 + b.interfaces.size; size = b.descriptor.size }) b.descriptor 1 refl kd (omega arith) ∙ sym (get_or-drop b.descriptor.start s 1 0))));
        only = refl;
        noack = refl;
        numbers = same fu (same cu refl);
        parts = same (ap (λ y. cleared_rows w (y / 12) 0 32) z ∙ list_same b.interfaces 32 a (omega arith) i) (same (ap (pieces.cut w) d.2 ∙ kd) refl);
      }
    where
      rows : (y r : ℕ) → y ≡ 12 * r → y / 12 * 12 ≡ y
      rows y r e = omega arith

      nine : (flag size : ℕ) → eqb flag 0 ≡ false → descriptor_sized flag size ≡ true → 9 ≤ size
      nine flag size f h = leb-true 9 size (subst (λ t. cond t (eqb size 0) (leb 9 size) ≡ true) f h)

      start_byte : (at : ℕ) (q : Part) → pieces.cut w (record { start = at; size = q.size }) ≡ pieces.cut s q → 9 ≤ q.size → byte_at w at ≡ byte_at (drop q.start s) 0
      start_byte at q e h = let z : at ≡ at + 0 = omega arith in ap (λ y. byte_at w y) z ∙ (byte_in w s (record { start = at; size = q.size }) q 0 refl e (omega arith) ∙ sym (get_or-drop q.start s 0 0))

  abbrev Narrow : Structure → Type 0
  Narrow st = (j : ℕ) → get_or (structure_numbers st) j 0 < 4294967296

  low_byte : (flag : ℕ) → ltb 255 flag ≡ false → flag % 256 ≡ flag
  low_byte flag e = let h = ltb-false 255 flag e in omega arith

  configuration_from_lem : (b : SelectConfigurationFields) (x : Urb) (l : Option ℕ) → listed_of s b.interfaces b.count ≡ l → configuration_by s b l ≡ Some x
      → ((pipes : ℕ) → listed_of s b.interfaces b.count ≡ Some pipes → StructureBack 0 (structure.SelectConfiguration b) (urb.SelectConfiguration (record { flag = b.flag; count = b.count; interfaces = b.interfaces; pipes = pipes; descriptor = record { part = b.descriptor; first = byte_at (drop b.descriptor.start s) 0; second = byte_at (drop b.descriptor.start s) 1 } }))) → StructureBack 0 (structure.SelectConfiguration b) x
  configuration_from_lem b x None l e k = nothing e
  configuration_from_lem b x (Some pipes) l e k = subst (StructureBack 0 (structure.SelectConfiguration b)) (is_found _ x e) (k pipes l)

  interface_from_lem : (b : SelectInterfaceFields) (x : Urb) (l : Option ℕ) → listed_of s b.interface 1 ≡ l → interface_by b l ≡ Some x
      → ((pipes : ℕ) → listed_of s b.interface 1 ≡ Some pipes → StructureBack 1 (structure.SelectInterface b) (urb.SelectInterface (record { handle = b.handle; interface = b.interface; pipes = pipes }))) → StructureBack 1 (structure.SelectInterface b) x
  interface_from_lem b x None l e k = nothing e
  interface_from_lem b x (Some pipes) l e k = subst (StructureBack 1 (structure.SelectInterface b)) (is_found _ x e) (k pipes l)

  pub structure_back : (f : ℕ) (st : Structure) (x : Urb) (rest : List Piece) → stated_of s f st ≡ Some x → c ≡ structure_size st → Places w s 24 (structure_pieces st ++ rest) → Narrow st → StructureBack f st x
  unfolding stated_of configuration_stated interface_stated control_stated isoch_stated
  structure_back f (structure.SelectConfiguration b) x rest e z p n =
      let a = held (eqb f 0) (configuration_stated s b) x e in
      let a1 = unmet (ltb 255 b.flag) _ x a.1 in
      let a2 = held (part_allowed s b.interfaces) _ x a1.1 in
      let a3 = held (part_allowed s b.descriptor) _ x a2.1 in
      let a4 = held (descriptor_sized b.flag b.descriptor.size) _ x a3.1 in
      subst (λ y. StructureBack y (structure.SelectConfiguration b) x) (sym (eqb-true f 0 a.0)) (configuration_from_lem b x (listed_of s b.interfaces b.count) refl a4.1
      (λ pipes l. configuration_back b pipes z ((p.0 (n 0)).3 ∙ low_byte b.flag a1.0) (p.1.0 (n 1)).0 l a2.0 a4.0 p.1.1.0.0 p.1.1.0.1 p.1.1.1.0))
  structure_back f (structure.SelectInterface b) x rest e z p n =
      let a = held (eqb f 1) (interface_stated s b) x e in
      let a1 = held (part_allowed s b.interface) _ x a.1 in
      subst (λ y. StructureBack y (structure.SelectInterface b) x) (sym (eqb-true f 1 a.0)) (interface_from_lem b x (listed_of s b.interface 1) refl a1.1
      (λ pipes l. interface_back b pipes z (p.0 (n 0)).0 l a1.0 p.1.0.0 p.1.0.1))
  structure_back f structure.GetCurrentFrameNumber x rest e z p n =
      let a = held (eqb f 7) (Some urb.GetCurrentFrameNumber) x e in
      subst (λ y. StructureBack y structure.GetCurrentFrameNumber x) (sym (eqb-true f 7 a.0)) (subst (StructureBack 7 structure.GetCurrentFrameNumber) (is_found _ x a.1) (frame_back z))
  structure_back f (structure.PipeRequest b) x rest e z p n = go (eqb f 2) refl e
    where
      go : (t : Bool) → eqb f 2 ≡ t → cond t (Some (urb.PipeRequest b)) (cond (eqb f 0x1E) (Some (urb.PipeRequest b)) None) ≡ Some x → StructureBack f (structure.PipeRequest b) x
      go true g e = subst (StructureBack f (structure.PipeRequest b)) (is_found _ x e) (pipe_back f b z (p.0 (n 0)).0 (inl (eqb-true f 2 g)))
      go false g e = let a = held (eqb f 0x1E) (Some (urb.PipeRequest b)) x e in subst (StructureBack f (structure.PipeRequest b)) (is_found _ x a.1) (pipe_back f b z (p.0 (n 0)).0 (inr (eqb-true f 0x1E a.0)))
  structure_back f (structure.BulkOrInterruptTransfer b) x rest e z p n =
      let a = held (eqb f 9) (Some (urb.BulkOrInterruptTransfer b)) x e in
      subst (λ y. StructureBack y (structure.BulkOrInterruptTransfer b) x) (sym (eqb-true f 9 a.0)) (subst (StructureBack 9 (structure.BulkOrInterruptTransfer b)) (is_found _ x a.1) (bulk_back b z (p.0 (n 0)).0 (p.1.0 (n 1)).0))
  structure_back f (structure.ControlTransfer b) x rest e z p n =
      let a = held (eqb f 8) (control_stated s b) x e in
      let a1 = held (part_allowed s b.setup) _ x a.1 in
      let a2 = held (eqb b.setup.size 8) _ x a1.1 in
      let y = eqb-true b.setup.size 8 a2.0 in
      subst (λ y. StructureBack y (structure.ControlTransfer b) x) (sym (eqb-true f 8 a.0)) (subst (StructureBack 8 (structure.ControlTransfer b)) (is_found _ x a2.1) (control_back b (z ∙ ap (λ k. 16 + k) y) y (p.0 (n 0)).0 (p.1.0 (n 1)).0 p.1.1.0))
  structure_back f (structure.IsochTransfer b) x rest e z p n =
      let a = held (eqb f 10) (isoch_stated s b) x e in
      let a1 = held (part_allowed s b.list) _ x a.1 in
      let a2 = held (eqb (b.list.size % 12) 0) _ x a1.1 in
      let y = twelve b.list.size (eqb-true (b.list.size % 12) 0 a2.0) in
      subst (λ y. StructureBack y (structure.IsochTransfer b) x) (sym (eqb-true f 10 a.0)) (subst (StructureBack 10 (structure.IsochTransfer b)) (is_found _ x a2.1)
      (isoch_back b (b.list.size / 12) y z (p.0 (n 0)).0 (p.1.0 (n 1)).0 (p.1.1.0 (n 2)).0 (p.1.1.1.0 (small b.list a1.0)).0 (p.1.1.1.1.0 (n 3)).0 p.1.1.1.1.1.0))
    where
      twelve : (y : ℕ) → y % 12 ≡ 0 → y ≡ 12 * (y / 12)
      twelve y e = omega arith

      small : (q : Part) → part_allowed s q ≡ true → q.size / 12 < 4294967296
      small q e = let h = (lies s q e).1 in omega arith
