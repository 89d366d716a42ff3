-- A TsUrb that a transfer has is rebuilt from its fields, structure by structure.
use Rattle.std.specs.Prelude.{Some, Result, Ok, Err}
use Prim.Native.Nat.{ℕ, ◌+◌, ◌-◌, ◌*◌, ◌/◌, ◌%◌, ◌<◌, ◌≤◌}
use native.Mathlib.Omega.{arith}
use mathlib.Core.Path.{◌≡◌, refl, ap, sym, subst, ◌∙◌}
use mathlib.Core.List.{List}
use mathlib.Core.Bool.{Bool, true, false, ◌&&◌, ◌||◌}
use lib.ListN.{length, take, drop}
use lib.Seq.{get_or-drop, get_or-take, length-take-le}
use lib.Dec.{leb, eqb}
use borrow.Author.Tests.{eq-eqb, le-leb, le-ltb}
use Rattle.words.specs.Words.{byte_at, word_at}
use Rattle.words.specs.Layout.{left}
use Rattle.words.proofs.Steps.{either, field_by, agrees_by, at_least_by}
use Rattle.urb.specs.Interfaces.{interfaces_of}
use Rattle.urb.specs.SelectConfiguration.{configuration_from, configuration_of, configuration_with, descriptor_of, select_configuration_of}
use Rattle.urb.specs.SelectInterface.{interface_from, select_interface_of}
use Rattle.urb.specs.IsochTransfer.{isoch_transfer_of}
use Rattle.urb.specs.TsUrb.{one_size_of, structure_of}
use Rattle.urb.specs.declared.select_configuration.Descriptor.{Descriptor}
use Rattle.urb.specs.declared.ts_urb.Urb.{Urb}
use Rattle.urb.specs.declared.ts_urb.Urb.TheVariants as urb
use Rattle.urb.proofs.Walk.{interfaces_end}
use Rattle.urb_values.specs.Values.{may_no_ack, only_in, urb_allowed}
use Rattle.writer.specs.TsUrb.{configuration_stated, control_stated, descriptor_sized, interface_stated, isoch_stated, listed_of, stated_of, structure_pieces, structure_size}
use Rattle.fields.specs.Transfer.{structure_in}
use Rattle.writer_laws.specs.Layout.{Bytes, cuts_from, spans_of}
use Rattle.writer_laws.specs.Rebuilt.{structure_layout}
use Rattle.writer_laws.proofs.Rebuilt.{part_in, refused}
use Rattle.writer_laws.proofs.Walks.{along, half-take, word-take}
use Rattle.words.specs.declared.layout.Fault.{Fault}

twelve : (k : ℕ) → 12 * k / 12 ≡ k
twelve k = omega arith

none_left : (k : ℕ) → 12 * k % 12 ≡ 0
none_left k = omega arith

rows_size : (s r : ℕ) → s ≡ 12 * r → 12 * (s / 12) ≡ s
rows_size s r e = omega arith

back : (a e r : ℕ) → e ≡ a + 12 * r → e - a ≡ 12 * r
back a e r h = omega arith

module _ (m : List ℕ) (fits : length m ≤ 65535) (n : ℕ) (there : 16 + n ≤ length m) (bytes : Bytes m) where
  abbrev u : List ℕ
  u = take (16 + n) m

  long : length u ≡ 16 + n
  long = length-take-le (16 + n) m there

  -- what a structure that was read is rebuilt to: fields that are given, as long, and cut out by its layout
  pub record BuiltAs (f : ℕ) (b : Urb) : Type 0 where
    pub found : Urb
    pub stated : stated_of m f (structure_in b) ≡ Some found
    pub allowed : urb_allowed found ≡ true
    pub only : only_in found ≡ only_in b
    pub noack : may_no_ack found ≡ may_no_ack b
    pub size : structure_size (structure_in b) ≡ n
    pub pieces : structure_pieces (structure_in b) ≡ cuts_from m 24 (structure_layout b)
    pub spans : 24 + spans_of (structure_layout b) ≡ 16 + n

  abbrev pub Built : ℕ → Result (Urb × ℕ) Fault → Type 0
  Built f (Ok (b, end)) = 16 + n ≤ end → urb_allowed b ≡ true → BuiltAs f b
  Built f (Err fault) = Unit {0}

  sized : (k : ℕ) → left u 16 ≡ k → n ≡ k
  sized k e = omega (arith, long)

  word_u : (at : ℕ) → at + 4 ≤ 16 + n → word_at u at ≡ word_at m at
  word_u at h = word-take m (16 + n) at h

  frame_built : (f : ℕ) → eqb f 7 ≡ true → n ≡ 8 → BuiltAs f urb.GetCurrentFrameNumber
  unfolding stated_of cuts_from spans_of
  frame_built f e s = record { found = urb.GetCurrentFrameNumber; stated = rw e; allowed = refl; only = refl; noack = refl; size = sym s; pieces = refl; spans = omega arith }

  abort_built : (f : ℕ) → eqb f 2 ≡ true → n ≡ 12 → BuiltAs f (urb.PipeRequest (record { pipe = word_at u 24 }))
  unfolding stated_of cuts_from spans_of
  abort_built f e s = record { found = urb.PipeRequest (record { pipe = word_at u 24 }); stated = rw e; allowed = refl; only = refl; noack = refl; size = sym s; pieces = rw (word_u 24 (omega arith)); spans = omega arith }

  reset_built : (f : ℕ) → eqb f 2 ≡ false → eqb f 0x1E ≡ true → n ≡ 12 → BuiltAs f (urb.PipeRequest (record { pipe = word_at u 24 }))
  unfolding stated_of cuts_from spans_of
  reset_built f d e s = record { found = urb.PipeRequest (record { pipe = word_at u 24 }); stated = rw (d, e); allowed = refl; only = refl; noack = refl; size = sym s; pieces = rw (word_u 24 (omega arith)); spans = omega arith }

  bulk_built : (f : ℕ) → eqb f 9 ≡ true → n ≡ 16 → BuiltAs f (urb.BulkOrInterruptTransfer (record { pipe = word_at u 24; flags = word_at u 28 }))
  unfolding stated_of cuts_from spans_of
  bulk_built f e s = record { found = urb.BulkOrInterruptTransfer (record { pipe = word_at u 24; flags = word_at u 28 }); stated = rw e; allowed = refl; only = refl; noack = refl; size = sym s; pieces = rw (word_u 24 (omega arith), word_u 28 (omega arith)); spans = omega arith }

  control_built : (f : ℕ) → eqb f 8 ≡ true → n ≡ 24 → BuiltAs f (urb.ControlTransfer (record { pipe = word_at u 24; flags = word_at u 28; setup = record { start = 32; size = 8 } }))
  unfolding stated_of control_stated cuts_from spans_of
  control_built f e s = record { found = urb.ControlTransfer (record { pipe = word_at u 24; flags = word_at u 28; setup = record { start = 32; size = 8 } }); stated = rw (e, part_in m (record { start = 32; size = 8 }) (omega arith) fits); allowed = refl; only = refl; noack = refl; size = sym s; pieces = rw (word_u 24 (omega arith), word_u 28 (omega arith)); spans = omega arith }

  one_size_built : (f : ℕ) → Built f (one_size_of u f)
  unfolding one_size_of
  one_size_built f =
      either (Built f) (eqb f 7) _ _ (λ e. agrees_by (Built f) (λ x. tt) (left u 16) 8 16 _ λ s. λ h a. frame_built f e (sized 8 s)) λ e7.
      either (Built f) (eqb f 2) _ _ (λ e. agrees_by (Built f) (λ x. tt) (left u 16) 12 16 _ λ s. λ h a. abort_built f e (sized 12 s)) λ e2.
      either (Built f) (eqb f 0x1E) _ _ (λ e. agrees_by (Built f) (λ x. tt) (left u 16) 12 16 _ λ s. λ h a. reset_built f e2 e (sized 12 s)) λ e1.
      either (Built f) (eqb f 9) _ _ (λ e. agrees_by (Built f) (λ x. tt) (left u 16) 16 16 _ λ s. λ h a. bulk_built f e (sized 16 s)) λ e9.
      either (Built f) (eqb f 8) _ _ (λ e. agrees_by (Built f) (λ x. tt) (left u 16) 24 16 _ λ s. λ h a. control_built f e (sized 24 s)) λ e8.
      λ h a. refused a

  isoch_found : (k : ℕ) → left u 16 ≡ 28 + 12 * k → word_at u 36 ≡ k → leb k 1024 ≡ true → (f : ℕ) → eqb f 10 ≡ true
      → BuiltAs f (urb.IsochTransfer (record { pipe = word_at u 24; flags = word_at u 28; start = word_at u 32; packets = k; errors = word_at u 40; list = record { start = 44; size = 12 * k } }))
  unfolding stated_of isoch_stated cuts_from spans_of
  isoch_found k s w a f e =
      let l : n ≡ 28 + 12 * k = sized (28 + 12 * k) s in
      record {
        found = urb.IsochTransfer (record { pipe = word_at u 24; flags = word_at u 28; start = word_at u 32; packets = 12 * k / 12; errors = word_at u 40; list = record { start = 44; size = 12 * k } });
        stated = rw (e, part_in m (record { start = 44; size = 12 * k }) (omega arith) fits, eq-eqb (12 * k % 12) 0 (none_left k));
        allowed = rw (twelve k) a;
        only = refl;
        noack = refl;
        size = omega arith;
        pieces = rw (twelve k, ← (word_u 24 (omega arith)), ← (word_u 28 (omega arith)), ← (word_u 32 (omega arith)), ← (word_u 36 (omega arith)), ← (word_u 40 (omega arith)), w);
        spans = omega arith;
      }

  isoch_built : (f : ℕ) → eqb f 10 ≡ true → Built f (isoch_transfer_of u)
  unfolding isoch_transfer_of
  isoch_built f e =
      at_least_by (Built f) (λ x. tt) 24 (left u 16) 16 _ λ b. agrees_by (Built f) (λ x. tt) (left u 16) (28 + 12 * word_at u 36) 16 _ λ s.
      λ h a. isoch_found (word_at u 36) s refl a f e

  -- an interface list that was walked to an end fills the part up to there
  list_fills : (c at e p : ℕ) → interfaces_of u c 0 at ≡ Ok (e, p) → at ≤ e → e ≤ 16 + n → (listed_of m (record { start = at; size = e - at }) c ≡ Some p) × (r : ℕ) × (e ≡ at + 12 * r)
  unfolding listed_of
  list_fills c at e p h a b =
      let q : at + (e - at) ≡ e = omega arith in
      let t : length (take e m) ≡ e = length-take-le e m (omega arith) in
      let w = along u (take e m) c 0 at at e p h (λ j x y ex ey k. let z : x ≡ y = omega arith in
      (rw z (half-take m e y (omega arith) ∙ sym (half-take m (16 + n) y (omega arith))), rw z (word-take m e (y + 8) (omega arith) ∙ sym (word-take m (16 + n) (y + 8) (omega arith))))) (omega arith) in
      (rw (q, w.2, eq-eqb (at + 12 * w.0) e (sym w.1)), w.0, w.1)

  interface_found : (f end pipes : ℕ) → eqb f 1 ≡ true → interfaces_of u 1 0 28 ≡ Ok (end, pipes) → 28 ≤ end → end ≡ 16 + n → leb pipes 30 ≡ true
      → BuiltAs f (urb.SelectInterface (record { handle = word_at u 24; interface = record { start = 28; size = end - 28 }; pipes = pipes }))
  unfolding stated_of interface_stated cuts_from spans_of
  interface_found f end pipes e w a l p =
      let q = list_fills 1 28 end pipes w a (omega arith) in
      let r = rows_size (end - 28) q.1 (back 28 end q.1 q.2) in
      record {
        found = urb.SelectInterface (record { handle = word_at u 24; interface = record { start = 28; size = end - 28 }; pipes = pipes });
        stated = rw (e, part_in m (record { start = 28; size = end - 28 }) (omega arith) fits, q.0);
        allowed = p;
        only = refl;
        noack = refl;
        size = omega arith;
        pieces = rw (r, word_u 24 (omega arith));
        spans = rw r (omega arith);
      }

  interface_from_lem : (f : ℕ) → eqb f 1 ≡ true → (w : Result (ℕ × ℕ) Fault) → 28 ≤ length u → interfaces_of u 1 0 28 ≡ w → Built f (interface_from u w)
  interface_from_lem f e (Ok (end, pipes)) l w =
      let q = interfaces_end u 1 0 28 end pipes w in
      λ h a. interface_found f end pipes e w q.0 (omega (arith, q.1 l, long, h)) a
  interface_from_lem f e (Err fault) l w = tt

  interface_built : (f : ℕ) → eqb f 1 ≡ true → Built f (select_interface_of u)
  unfolding select_interface_of
  interface_built f e = field_by (Built f) (λ x. tt) u 24 4 _ λ a. interface_from_lem f e (interfaces_of u 1 0 28) (omega arith) refl

  byte_u : (at : ℕ) → at < 16 + n → byte_at u at ≡ byte_at m at
  byte_u at h = get_or-take (16 + n) m at 0 h

  -- the first bytes of a descriptor, read from its own start
  first_byte : (at : ℕ) → at < 16 + n → byte_at (drop at m) 0 ≡ byte_at u at
  first_byte at h = let z : at + 0 ≡ at = omega arith in get_or-drop at m 0 0 ∙ (ap (λ k. byte_at m k) z ∙ sym (byte_u at h))

  second_byte : (at : ℕ) → at + 1 < 16 + n → byte_at (drop at m) 1 ≡ byte_at u (at + 1)
  second_byte at h = get_or-drop at m 1 0 ∙ sym (byte_u (at + 1) h)

  -- a configuration whose list ends at a place and whose descriptor is a part from there to the end of the TsUrb
  configuration_found : (f end pipes : ℕ) (d : Descriptor) → eqb f 0 ≡ true → interfaces_of u (word_at u 28) 0 32 ≡ Ok (end, pipes) → 32 ≤ end → end ≤ 16 + n → d.part ≡ record { start = end; size = 16 + n - end }
      → descriptor_sized (byte_at u 24) (16 + n - end) ≡ true → urb_allowed (urb.SelectConfiguration (record { flag = byte_at u 24; count = word_at u 28; interfaces = record { start = 32; size = end - 32 }; pipes = pipes; descriptor = record { part = record { start = end; size = 16 + n - end }; first = byte_at (drop end m) 0; second = byte_at (drop end m) 1 } })) ≡ true
      → BuiltAs f (urb.SelectConfiguration (record { flag = byte_at u 24; count = word_at u 28; interfaces = record { start = 32; size = end - 32 }; pipes = pipes; descriptor = d }))
  unfolding stated_of configuration_stated cuts_from spans_of
  configuration_found f end pipes d e w a l pd sd al =
      let q = list_fills (word_at u 28) 32 end pipes w a l in
      let r = rows_size (end - 32) q.1 (back 32 end q.1 q.2) in
      let b : byte_at u 24 ≤ 255 = rw (byte_u 24 (omega arith)) (below (byte_at m 24) (bytes 24)) in
      let g : 32 + (end - 32) ≡ end = omega arith in
      record {
        found = urb.SelectConfiguration (record { flag = byte_at u 24; count = word_at u 28; interfaces = record { start = 32; size = end - 32 }; pipes = pipes; descriptor = record { part = record { start = end; size = 16 + n - end }; first = byte_at (drop end m) 0; second = byte_at (drop end m) 1 } });
        stated = rw (e, pd, le-ltb 255 (byte_at u 24) b, part_in m (record { start = 32; size = end - 32 }) (omega arith) fits, part_in m (record { start = end; size = 16 + n - end }) (omega arith) fits, sd, q.0);
        allowed = al;
        only = refl;
        noack = refl;
        size = rw pd (omega arith);
        pieces = rw (pd, r, g, byte_u 24 (omega arith), word_u 28 (omega arith));
        spans = rw (pd, r) (omega arith);
      }
    where
      below : (x : ℕ) → x < 256 → x ≤ 255
      below x h = omega arith

  and_or : (a b c : Bool) (x y x' y' : ℕ) → (c ≡ false → (x ≡ x') × (y ≡ y')) → (a && (b && (c || (eqb x 9 && eqb y 2)))) ≡ true → (a && (b && (c || (eqb x' 9 && eqb y' 2)))) ≡ true
  and_or a b true x y x' y' f e = e
  and_or a b false x y x' y' f e = let q = f refl in subst (λ k. (a && (b && (eqb k 9 && eqb y' 2))) ≡ true) q.0 (subst (λ k. (a && (b && (eqb x 9 && eqb k 2))) ≡ true) q.1 e)

  configuration_with_lem : (f end pipes : ℕ) → eqb f 0 ≡ true → interfaces_of u (word_at u 28) 0 32 ≡ Ok (end, pipes) → 32 ≤ end → end ≤ 16 + n → Built f (configuration_of u (word_at u 28) end pipes)
  unfolding configuration_of descriptor_of
  configuration_with_lem f end pipes e w a l =
      either P (eqb (byte_at u 24) 0) _ _
      (λ t. λ h al. let z : 16 + n - end ≡ 0 = omega arith in
      configuration_found f end pipes (record { part = record { start = end; size = 0 }; first = 0; second = 0 }) e w a l (rw z) (rw (t, z)) (and_or (leb (word_at u 28) 32) (leb pipes 30) (eqb (byte_at u 24) 0) 0 0 (byte_at (drop end m) 0) (byte_at (drop end m) 1) (λ x. refused (sym x ∙ t)) al))
      (λ t. field_by P (λ x. tt) u end 9 _ λ k. λ h al.
      let z : left u end ≡ 16 + n - end = omega (arith, long) in
      configuration_found f end pipes (record { part = record { start = end; size = left u end }; first = byte_at u end; second = byte_at u (end + 1) }) e w a l (rw z) (rw t (le-leb 9 (16 + n - end) (omega (arith, z, k)))) (and_or (leb (word_at u 28) 32) (leb pipes 30) (eqb (byte_at u 24) 0) (byte_at u end) (byte_at u (end + 1)) (byte_at (drop end m) 0) (byte_at (drop end m) 1) (λ x. (sym (first_byte end (omega (arith, z, k))), sym (second_byte end (omega (arith, z, k))))) al))
    where
      P : Result (Descriptor × ℕ) Fault → Type 0
      P r = Built f (configuration_with u (word_at u 28) end pipes r)

  configuration_from_lem : (f : ℕ) → eqb f 0 ≡ true → (w : Result (ℕ × ℕ) Fault) → 32 ≤ length u → interfaces_of u (word_at u 28) 0 32 ≡ w → Built f (configuration_from u w)
  configuration_from_lem f e (Ok (end, pipes)) l w = let q = interfaces_end u (word_at u 28) 0 32 end pipes w in configuration_with_lem f end pipes e w q.0 (omega (arith, q.1 l, long))
  configuration_from_lem f e (Err fault) l w = tt

  configuration_built : (f : ℕ) → eqb f 0 ≡ true → Built f (select_configuration_of u)
  unfolding select_configuration_of
  configuration_built f e =
      field_by (Built f) (λ x. tt) u 24 1 _ λ a. field_by (Built f) (λ x. tt) u 25 3 _ λ b. field_by (Built f) (λ x. tt) u 28 4 _ λ c.
      configuration_from_lem f e (interfaces_of u (word_at u 28) 0 32) (omega arith) refl

  pub structure_built : (f : ℕ) → Built f (structure_of u f)
  unfolding structure_of
  structure_built f =
      either (Built f) (eqb f 0) _ _ (λ e. configuration_built f e) λ e0.
      either (Built f) (eqb f 1) _ _ (λ e. interface_built f e) λ e1.
      either (Built f) (eqb f 10) _ _ (λ e. isoch_built f e) λ e2.
      one_size_built f
