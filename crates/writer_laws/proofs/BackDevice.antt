-- What is written of ADD_DEVICE is read back as the same fields.
use Rattle.std.proofs.lemmas.Bool.{and_parts}
use Rattle.std.specs.Prelude.{Some, Ok}
use Prim.Native.Nat.{ℕ, ◌+◌, ◌-◌, ◌*◌, ◌/◌, ◌%◌, ◌<◌, ◌≤◌}
use native.Mathlib.Omega.{arith}
use mathlib.Core.Path.{◌≡◌, refl, ap, sym, subst, ◌∙◌}
use mathlib.Core.List.{List}
use mathlib.Core.Bool.{Bool, true, false, cond, ◌&&◌}
use lib.Dec.{ltb, eqb}
use Rattle.words.specs.Words.{half_at, word_at}
use Rattle.words.specs.Layout.{left}
use Rattle.words.specs.declared.layout.Part.{Part}
use Rattle.texts.specs.Text.{list_allowed, text_allowed, text_of, units_of}
use Rattle.device.specs.DeviceCapabilities.{capabilities_allowed, capabilities_of}
use Rattle.device.specs.declared.device_capabilities.DeviceCapabilities.{DeviceCapabilities}
use Rattle.wire.specs.AddDevice.{add_device_allowed, add_device_of, classes_from, device_of, names_from, pair_from, pair_of, pair_with}
use Rattle.wire.specs.declared.add_device.AddDevice.{AddDevice}
use lib.ListN.{length, drop}
use lib.Seq.{get_or-drop, get_or-take}
use borrow.Author.Tests.{eqb-true, le-ltb, ltb-false}
use Rattle.header.specs.Ids.{assignable, interface_in, mask_in}
use Rattle.header.specs.declared.ids.MessageId.{MessageId}
use Rattle.wire.specs.Message.{asked_of, asks_by}
use Rattle.wire.specs.Reading.{add_device_reading, reading_of}
use Rattle.pieces.specs.Pieces.{cut, total_from}
use Rattle.writer.specs.AddDevice.{add_device_given, list_fits, text_fits, text_given, unit_before}
use Rattle.writer.specs.Part.{part_allowed}
use Rattle.writer.specs.Message.{bytes_of, pieces_of}
use Rattle.writer.specs.declared.add_device.AddDeviceFields.{AddDeviceFields}
use Rattle.writer.specs.declared.message.Fields.TheVariants as fields
use Rattle.writer.proofs.Lies.{lies}
use Rattle.fields.specs.AddDevice.{add_device_in}
use Rattle.fields.specs.Message.{fields_in}
use Rattle.words.specs.Words.{byte_at}
use Rattle.writer_laws.specs.Layout.{Bytes}
use Rattle.writer_laws.specs.Rebuilt.{asks_some}
use Rattle.writer_laws.specs.ReadBack.{Wide32, numbers_of, parts_of}
use Rattle.writer_laws.proofs.Places.{places}
use Rattle.writer_laws.proofs.RebuiltDevice.{text_at, text_same}
use Rattle.writer_laws.proofs.Back.{Back, ended_there, field_there, long_of, message_back, same, some, within}

-- a text whose count and units are there
text_there : (m : List ℕ) (at : ℕ) → at + 4 + 2 * word_at m at ≤ length m → text_of m at ≡ Ok ((text_at m at), (at + 4 + 2 * word_at m at))
unfolding text_of units_of
text_there m at h = field_there m at 4 _ (omega arith) ∙ field_there m (at + 4) (2 * word_at m at) _ (omega arith)

-- with the place where it ends given
text_at_lem : (m : List ℕ) (at n end : ℕ) → 2 * word_at m at ≡ n → at + 4 + n ≡ end → end ≤ length m → text_of m at ≡ Ok ((text_at m at), end)
text_at_lem m at n end e f h = text_there m at (subst (λ x. at + 4 + x ≤ length m) (sym e) (subst (λ x. x ≤ length m) (sym f) h)) ∙ ap (λ x. Ok ((text_at m at), x)) (ap (λ x. at + 4 + x) e ∙ f)

-- the same bytes in two parts: the units that a text ends in are the same
pub byte_in : (w s : List ℕ) (p q : Part) (o : ℕ) → p.size ≡ q.size → cut w p ≡ cut s q → o < p.size → byte_at w (p.start + o) ≡ byte_at s (q.start + o)
byte_in w s p q o z e h =
    let a : byte_at (cut w p) o ≡ byte_at w (p.start + o) = get_or-take p.size (drop p.start w) o 0 h ∙ get_or-drop p.start w o 0 in
    let b : byte_at (cut s q) o ≡ byte_at s (q.start + o) = get_or-take q.size (drop q.start s) o 0 (subst (λ x. o < x) z h) ∙ get_or-drop q.start s o 0 in
    sym a ∙ (ap (λ x. byte_at x o) e ∙ b)

half_in : (w s : List ℕ) (p q : Part) (o : ℕ) → p.size ≡ q.size → cut w p ≡ cut s q → o + 2 ≤ p.size → half_at w (p.start + o) ≡ half_at s (q.start + o)
half_in w s p q o z e h =
    let a = byte_in w s p q o z e (omega arith) in
    let b = byte_in w s p q (o + 1) z e (omega arith) in
    let x : p.start + o + 1 ≡ p.start + (o + 1) = omega arith in
    let y : q.start + o + 1 ≡ q.start + (o + 1) = omega arith in
    rw (x, y, a, b)

unit_in : (w s : List ℕ) (p q : Part) (k : ℕ) → 2 ≤ k → p.size ≡ q.size → cut w p ≡ cut s q → unit_before w p k ≡ unit_before s q k
unit_in w s p q k g z e = rw z (go (ltb q.size k) (λ h. half_in w s p q (q.size - k) z e (fits h)))
  where
    fits : k ≤ q.size → q.size - k + 2 ≤ p.size
    fits h = omega arith

    go : (t : Bool) → (k ≤ q.size → half_at w (p.start + (q.size - k)) ≡ half_at s (q.start + (q.size - k))) → cond (ltb q.size k) 0 (half_at w (p.start + (q.size - k))) ≡ cond (ltb q.size k) 0 (half_at s (q.start + (q.size - k)))
    go t f = pick (ltb q.size k) refl
      where
        pick : (t : Bool) → ltb q.size k ≡ t → cond t 0 (half_at w (p.start + (q.size - k))) ≡ cond t 0 (half_at s (q.start + (q.size - k)))
        pick true x = refl
        pick false x = f (ltb-false q.size k x)

-- what is allowed of a text is allowed where its bytes are written
module _ (w s : List ℕ) (p q : Part) (z : p.size ≡ q.size) (e : cut w p ≡ cut s q) where
  text_kept : text_allowed (text_given s q) ≡ true → text_allowed (text_given w p) ≡ true
  text_kept h = rw (unit_in w s p q 2 (omega arith) z e, z) h

  list_kept : list_allowed (text_given s q) ≡ true → list_allowed (text_given w p) ≡ true
  list_kept h = rw (unit_in w s p q 2 (omega arith) z e, unit_in w s p q 4 (omega arith) z e, z) h

abbrev second : List ℕ → ℕ → ℕ
second m at = at + 4 + 2 * word_at m at

abbrev third : List ℕ → ℕ
third m = second m (second m 20)

abbrev last : List ℕ → ℕ
last m = second m (second m (third m))

abbrev found : List ℕ → AddDevice
found m = record { count = word_at m 12; device = interface_in (word_at m 16); top = mask_in (word_at m 16); instance = text_at m 20; hardware = text_at m (second m 20); compatible = text_at m (third m); container = text_at m (second m (third m)); capabilities = record { size = word_at m (last m); bus = word_at m (last m + 4); usbdi = word_at m (last m + 8); usb = word_at m (last m + 12); host = word_at m (last m + 16); speed = word_at m (last m + 20); jitter = word_at m (last m + 24) } }

pair_there : (m : List ℕ) (at : ℕ) → second m (second m at) ≤ length m → pair_of m at ≡ Ok ((record { first = text_at m at; second = text_at m (second m at) }), (second m (second m at)))
unfolding pair_of
pair_there m at h = ap (pair_from m) (text_there m at (first (second m at) (2 * word_at m (second m at)) (length m) h)) ∙ ap (pair_with (text_at m at)) (text_there m (second m at) h)
  where
    first : (x n l : ℕ) → x + 4 + n ≤ l → x ≤ l
    first x n l h = omega arith

device_there : (m : List ℕ) → length m ≡ last m + 28 → add_device_of m ≡ Ok (found m)
unfolding add_device_of device_of capabilities_of
device_there m l =
    field_there m 12 4 _ (early (2 * word_at m 20) (2 * word_at m (second m 20)) (2 * word_at m (third m)) (2 * word_at m (second m (third m))) (length m) 16 l (omega arith)) ∙
    (field_there m 16 4 _ (early (2 * word_at m 20) (2 * word_at m (second m 20)) (2 * word_at m (third m)) (2 * word_at m (second m (third m))) (length m) 20 l (omega arith)) ∙
    (ap (names_from m) (pair_there m 20 (middle (third m) (2 * word_at m (third m)) (2 * word_at m (second m (third m))) (length m) l)) ∙
    (ap (classes_from m (record { first = text_at m 20; second = text_at m (second m 20) })) (pair_there m (third m) (end (last m) (length m) l)) ∙
    (rw (le-ltb (left m (last m)) 28 (room (last m) (length m) l)) (ended_there m (last m + 28) _ (within (length m) (last m + 28) (last m + 28) l (omega arith)))))))
  where
    early : (a b c d l k : ℕ) → l ≡ 20 + 4 + a + 4 + b + 4 + c + 4 + d + 28 → k ≤ 20 → k ≤ l
    early a b c d l k e h = omega arith

    middle : (x c d l : ℕ) → l ≡ x + 4 + c + 4 + d + 28 → x ≤ l
    middle x c d l e = omega arith

    end : (x l : ℕ) → l ≡ x + 28 → x ≤ l
    end x l e = omega arith

    room : (x l : ℕ) → l ≡ x + 28 → 28 ≤ l - x
    room x l e = omega arith

-- a text that is written from a part of so many bytes: its end, and its units
text_step : (w : List ℕ) (at at' n : ℕ) → at ≡ at' → word_at w at' ≡ n / 2 → n % 2 ≡ 0 → (second w at ≡ at' + 4 + n) × (2 * word_at w at ≡ n)
text_step w at at' n e f g = let h : 2 * word_at w at ≡ n = ap (λ x. 2 * word_at w x) e ∙ (ap (λ x. 2 * x) f ∙ twice n g) in (ap (λ x. at + 4 + x) h ∙ ap (λ x. x + 4 + n) e, h)
  where
    twice : (n : ℕ) → n % 2 ≡ 0 → 2 * (n / 2) ≡ n
    twice n g = omega arith

-- its part in the message has the bytes of the part that was given
cut_step : (w s : List ℕ) (at at' n : ℕ) (q : Part) → at ≡ at' → 2 * word_at w at ≡ q.size → cut w (record { start = at' + 4; size = q.size }) ≡ cut s q → cut w (record { start = at + 4; size = 2 * word_at w at }) ≡ cut s q
cut_step w s at at' n q e f g = ap (λ x. cut w (record { start = x + 4; size = 2 * word_at w at })) e ∙ (ap (λ x. cut w (record { start = at' + 4; size = x })) f ∙ g)

fits_parts : (s : List ℕ) (q : Part) (t : Bool) → (part_allowed s q && (eqb (q.size % 2) 0 && t)) ≡ true → (part_allowed s q ≡ true) × (q.size % 2 ≡ 0) × (t ≡ true)
fits_parts s q t e =
    let a = and_parts (part_allowed s q) (eqb (q.size % 2) 0 && t) e in
    let b = and_parts (eqb (q.size % 2) 0) t a.1 in
    (a.0, eqb-true (q.size % 2) 0 b.0, b.1)

half_small : (s : List ℕ) (q : Part) → part_allowed s q ≡ true → q.size / 2 < 4294967296
half_small s q e = let h = (lies s q e).1 in omega arith

-- the places of the seven capability fields
cap_at : (w : List ℕ) (x y k k' v : ℕ) → x ≡ y → y + k ≡ k' → word_at w k' ≡ v → word_at w (x + k) ≡ v
cap_at w x y k k' v e f g = ap (λ z. word_at w (z + k)) e ∙ (ap (λ z. word_at w z) f ∙ g)

pub device_back : (id : MessageId) (b : AddDeviceFields) (s : List ℕ) → Bytes s → (n : ℕ) → total_from (length s) 0 (pieces_of id (fields.AddDevice b)) ≡ Some n → add_device_given s b ≡ true → Wide32 id (fields.AddDevice b) → Back id (fields.AddDevice b) s 1 1 0x101
unfolding asked_of reading_of pieces_of fields_in add_device_in numbers_of parts_of add_device_given add_device_allowed
device_back id b s bytes n t given wide =
    let w = bytes_of id (fields.AddDevice b) s in
    let p = places s (pieces_of id (fields.AddDevice b)) n bytes t in
    let b6 = capabilities_allowed b.capabilities in
    let b5 = text_fits s b.container in
    let b4 = list_fits s b.compatible in
    let b3 = list_fits s b.hardware in
    let b2 = text_fits s b.instance in
    let b1 = assignable (interface_in b.device) in
    let g0 = and_parts (eqb b.count 1) (b1 && (b2 && (b3 && (b4 && (b5 && b6))))) given in
    let g1 = and_parts b1 (b2 && (b3 && (b4 && (b5 && b6)))) g0.1 in
    let g2 = and_parts b2 (b3 && (b4 && (b5 && b6))) g1.1 in
    let g3 = and_parts b3 (b4 && (b5 && b6)) g2.1 in
    let g4 = and_parts b4 (b5 && b6) g3.1 in
    let g5 = and_parts b5 b6 g4.1 in
    let f2 = fits_parts s b.instance (text_allowed (text_given s b.instance)) g2.0 in
    let f3 = fits_parts s b.hardware (list_allowed (text_given s b.hardware)) g3.0 in
    let f4 = fits_parts s b.compatible (list_allowed (text_given s b.compatible)) g4.0 in
    let f5 = fits_parts s b.container (text_allowed (text_given s b.container)) g5.0 in
    let h = (p.0 (omega arith)).0 in
    let m = (p.1.0 wide.0).0 in
    let f = (p.1.1.0 (omega arith)).0 in
    let e3 = (p.1.1.1.0 (wide.1 0)).0 in
    let p4 = p.1.1.1.1 in
    let e4 = (p4.0 (wide.1 1)).0 in
    let x1 = text_step w 20 20 b.instance.size refl (p4.1.0 (half_small s b.instance f2.0)).0 f2.1 in
    let r1 = cut_step w s 20 20 n b.instance refl x1.1 p4.1.1.0 in
    let p7 = p4.1.1.1 in
    let x2 = text_step w (second w 20) (24 + b.instance.size) b.hardware.size x1.0 (p7.0 (half_small s b.hardware f3.0)).0 f3.1 in
    let r2 = cut_step w s (second w 20) (24 + b.instance.size) n b.hardware x1.0 x2.1 p7.1.0 in
    let p9 = p7.1.1 in
    let x3 = text_step w (third w) (24 + b.instance.size + 4 + b.hardware.size) b.compatible.size x2.0 (p9.0 (half_small s b.compatible f4.0)).0 f4.1 in
    let r3 = cut_step w s (third w) (24 + b.instance.size + 4 + b.hardware.size) n b.compatible x2.0 x3.1 p9.1.0 in
    let pb = p9.1.1 in
    let x4 = text_step w (second w (third w)) (24 + b.instance.size + 4 + b.hardware.size + 4 + b.compatible.size) b.container.size x3.0 (pb.0 (half_small s b.container f5.0)).0 f5.1 in
    let r4 = cut_step w s (second w (third w)) (24 + b.instance.size + 4 + b.hardware.size + 4 + b.compatible.size) n b.container x3.0 x4.1 pb.1.0 in
    let pd = pb.1.1 in
    let at = 24 + b.instance.size + 4 + b.hardware.size + 4 + b.compatible.size + 4 + b.container.size in
    let c0 : word_at w (last w) ≡ b.capabilities.size = ap (λ z. word_at w z) x4.0 ∙ (pd.0 (wide.1 2)).0 in
    let c1 = cap_at w (last w) at 4 (at + 4) b.capabilities.bus x4.0 refl (pd.1.0 (wide.1 3)).0 in
    let c2 = cap_at w (last w) at 8 (at + 4 + 4) b.capabilities.usbdi x4.0 (plus_8 at) (pd.1.1.0 (wide.1 4)).0 in
    let c3 = cap_at w (last w) at 12 (at + 4 + 4 + 4) b.capabilities.usb x4.0 (plus_12 at) (pd.1.1.1.0 (wide.1 5)).0 in
    let c4 = cap_at w (last w) at 16 (at + 4 + 4 + 4 + 4) b.capabilities.host x4.0 (plus_16 at) (pd.1.1.1.1.0 (wide.1 6)).0 in
    let c5 = cap_at w (last w) at 20 (at + 4 + 4 + 4 + 4 + 4) b.capabilities.speed x4.0 (plus_20 at) (pd.1.1.1.1.1.0 (wide.1 7)).0 in
    let c6 = cap_at w (last w) at 24 (at + 4 + 4 + 4 + 4 + 4 + 4) b.capabilities.jitter x4.0 (plus_24 at) (pd.1.1.1.1.1.1.0 (wide.1 8)).0 in
    let t1 = subst (λ x. text_allowed x ≡ true) (text_same w 20) (text_kept w s _ b.instance x1.1 r1 f2.2) in
    let t2 = subst (λ x. list_allowed x ≡ true) (text_same w (second w 20)) (list_kept w s _ b.hardware x2.1 r2 f3.2) in
    let t3 = subst (λ x. list_allowed x ≡ true) (text_same w (third w)) (list_kept w s _ b.compatible x3.1 r3 f4.2) in
    let t4 = subst (λ x. text_allowed x ≡ true) (text_same w (second w (third w))) (text_kept w s _ b.container x4.1 r4 f5.2) in
    let k6 = caps_kept w b.capabilities _ _ _ _ _ _ _ c0 c1 c2 c3 c4 c5 c6 g5.1 in
    let k1 : eqb (word_at w 12) 1 ≡ true = rw e3 g0.0 in
    let k2 : assignable (interface_in (word_at w 16)) ≡ true = rw e4 g1.0 in
    let allowed : add_device_allowed (found w) ≡ true = all_of _ _ _ _ _ _ _ k1 k2 t1 t2 t4 t3 k6 in
    let l = pd.1.1.1.1.1.1.1 ∙ (plus_28 at ∙ sym (ap (λ z. z + 28) x4.0)) in
    record {
      back = record {
        asks = ap (λ r. asks_some (asks_by (add_device_reading r))) (device_there w l) ∙ some (add_device_allowed (found w)) _ allowed refl;
        message = message_back _ id m;
        numbers = same e3 (same e4 (same c0 (same c1 (same c2 (same c3 (same c4 (same c5 (same c6 refl))))))));
        parts = same r1 (same r2 (same r3 (same r4 refl)));
      };
      head = record { first = h; third = f };
      long = long_of (length w) _ l (far (last w) (2 * word_at w (third w)) (2 * word_at w (second w (third w))));
    }
  where
    plus_8 : (x : ℕ) → x + 8 ≡ x + 4 + 4
    plus_8 x = omega arith

    plus_12 : (x : ℕ) → x + 12 ≡ x + 4 + 4 + 4
    plus_12 x = omega arith

    plus_16 : (x : ℕ) → x + 16 ≡ x + 4 + 4 + 4 + 4
    plus_16 x = omega arith

    plus_20 : (x : ℕ) → x + 20 ≡ x + 4 + 4 + 4 + 4 + 4
    plus_20 x = omega arith

    plus_24 : (x : ℕ) → x + 24 ≡ x + 4 + 4 + 4 + 4 + 4 + 4
    plus_24 x = omega arith

    plus_28 : (x : ℕ) → x + 4 + 4 + 4 + 4 + 4 + 4 + 4 ≡ x + 28
    plus_28 x = omega arith

    far : (x c d : ℕ) → 12 ≤ x + 28
    far x c d = omega arith

    all_of : (a b c d e f g : Bool) → a ≡ true → b ≡ true → c ≡ true → d ≡ true → e ≡ true → f ≡ true → g ≡ true → (a && (b && ((c && d) && ((e && f) && g)))) ≡ true
    all_of a b c d e f g pa pb pc pd pe pf pg = rw (pa, pb, pc, pd, pe, pf, pg)

    caps_kept : (w : List ℕ) (c : DeviceCapabilities) (a0 a1 a2 a3 a4 a5 a6 : ℕ) → a0 ≡ c.size → a1 ≡ c.bus → a2 ≡ c.usbdi → a3 ≡ c.usb → a4 ≡ c.host → a5 ≡ c.speed → a6 ≡ c.jitter → capabilities_allowed c ≡ true
        → capabilities_allowed (record { size = a0; bus = a1; usbdi = a2; usb = a3; host = a4; speed = a5; jitter = a6 }) ≡ true
    caps_kept w c a0 a1 a2 a3 a4 a5 a6 e0 e1 e2 e3 e4 e5 e6 h = rw (e0, e1, e2, e3, e4, e5, e6) h
