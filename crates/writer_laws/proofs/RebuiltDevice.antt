-- ADD_DEVICE is rebuilt from its fields.
use Rattle.std.proofs.lemmas.Bool.{and_parts}
use Rattle.std.specs.Prelude.{Result, Ok, Err}
use Prim.Native.Nat.{ℕ, ◌+◌, ◌-◌, ◌*◌, ◌/◌, ◌%◌, ◌≤◌}
use native.Mathlib.Omega.{arith}
use mathlib.Core.Path.{◌≡◌, refl, ap, sym, ◌∙◌}
use mathlib.Core.List.{List, [], ◌∷◌}
use mathlib.Core.Bool.{Bool, true, false, cond, ◌&&◌}
use lib.ListN.{length}
use lib.Dec.{ltb, eqb}
use borrow.Author.Tests.{ltb-true, lt-ltb, le-ltb, eq-eqb, ltb-false}
use Rattle.words.specs.Words.{half_at, word_at}
use Rattle.words.specs.Layout.{left}
use Rattle.words.specs.declared.layout.Part.{Part}
use Rattle.words.specs.declared.layout.Fault.{Fault}
use Rattle.words.proofs.Steps.{by_test, field_by, ended_by}
use Rattle.header.specs.Ids.{assignable, interface_in, mask_in}
use Rattle.answers.specs.declared.kind.Kind.TheVariants as kind
use Rattle.texts.specs.Text.{last_unit, list_allowed, prior_unit, text_allowed, text_of, units_of}
use Rattle.texts.specs.declared.text.Text.{Text}
use Rattle.device.specs.DeviceCapabilities.{capabilities_allowed, capabilities_of}
use Rattle.wire.specs.AddDevice.{add_device_allowed, add_device_of, classes_from, device_of, device_with, names_from, pair_from, pair_of, pair_with, text_pair_allowed}
use Rattle.wire.specs.declared.add_device.AddDevice.{AddDevice}
use Rattle.wire.specs.Message.{asks_by}
use Rattle.wire.specs.Reading.{add_device_reading}
use Rattle.pieces.specs.declared.piece.Piece.{Piece}
use Rattle.pieces.specs.declared.piece.Piece.TheVariants.{Word, Run}
use Rattle.writer.specs.AddDevice.{add_device_given, text_given}
use Rattle.writer.specs.Part.{part_allowed}
use Rattle.writer.specs.Message.{given_in, pieces_of}
use Rattle.fields.specs.AddDevice.{add_device_in}
use Rattle.fields.specs.Message.{fields_in}
use Rattle.writer_laws.specs.Layout.{cuts_from, spans_of}
use Rattle.writer_laws.specs.Rebuilt.{Rebuilt, asks_some}
use Rattle.writer_laws.proofs.Rebuilt.{Headed, asked, both, head_cut, holds, part_in, reaches, refused}
use Rattle.wire.specs.declared.add_device.TextPair.{TextPair}
use Rattle.wire.specs.declared.message.Asked.{Asked}
use Rattle.wire.specs.declared.message.Unfit.{Unfit}

-- the text whose count stands at a place
abbrev pub text_at : List ℕ → ℕ → Text
text_at m at = record { count = word_at m at; units = record { start = at + 4; size = 2 * word_at m at }; last = last_unit m (word_at m at) (at + 4 + 2 * word_at m at); prior = prior_unit m (word_at m at) (at + 4 + 2 * word_at m at) }

-- fewer bytes than so many units have are fewer units
units_same : (n b : ℕ) → ltb (2 * n) (2 * b) ≡ ltb n b
units_same n b = go (ltb n b) refl
  where
    go : (t : Bool) → ltb n b ≡ t → ltb (2 * n) (2 * b) ≡ t
    go true e = let h = ltb-true n b e in lt-ltb (2 * n) (2 * b) (omega arith)
    go false e = let h = ltb-false n b e in le-ltb (2 * n) (2 * b) (omega arith)

pub doubled : (n : ℕ) → 2 * n / 2 ≡ n
doubled n = omega arith

unit_at : (m : List ℕ) (t u : Bool) (a b : ℕ) → t ≡ u → (u ≡ false → a ≡ b) → cond t 0 (half_at m a) ≡ cond u 0 (half_at m b)
unit_at m t true a b e f = rw e
unit_at m t false a b e f = rw (e, f refl)

back_by : (at n b : ℕ) → b ≤ n → at + (2 * n - 2 * b) ≡ at + 2 * n - 2 * b
back_by at n b h = omega arith

even : (n : ℕ) → 2 * n % 2 ≡ 0
even n = omega arith

exactly : (at l : ℕ) → 28 ≤ l - at → l ≤ at + 28 → l ≡ at + 28
exactly at l h k = omega arith

text_fields : (a b c d : ℕ) (a' c' d' : ℕ) (p : Part) → a ≡ a' → c ≡ c' → d ≡ d' → ◌≡◌ {A = Text} (record { count = a; units = p; last = c; prior = d }) (record { count = a'; units = p; last = c'; prior = d' })
text_fields a b c d a' c' d' p e f g = rw (e, f, g)

pub text_same : (m : List ℕ) (at : ℕ) → text_given m (record { start = at + 4; size = 2 * word_at m at }) ≡ text_at m at
text_same m at =
    text_fields _ 0 _ _ _ _ _ (record { start = at + 4; size = 2 * word_at m at }) (doubled (word_at m at))
    (unit_at m (ltb (2 * word_at m at) 2) (ltb (word_at m at) 1) _ _ (units_same (word_at m at) 1) (λ e. back_by (at + 4) (word_at m at) 1 (ltb-false (word_at m at) 1 e)))
    (unit_at m (ltb (2 * word_at m at) 4) (ltb (word_at m at) 2) _ _ (units_same (word_at m at) 2) (λ e. back_by (at + 4) (word_at m at) 2 (ltb-false (word_at m at) 2 e)))

fits_by : (m : List ℕ) (at : ℕ) (allows : Text → Bool) → at + 4 + 2 * word_at m at ≤ length m → length m ≤ 65535 → allows (text_at m at) ≡ true
    → (part_allowed m (record { start = at + 4; size = 2 * word_at m at }) && (eqb (2 * word_at m at % 2) 0 && allows (text_given m (record { start = at + 4; size = 2 * word_at m at })))) ≡ true
fits_by m at allows h l e = both (part_in m _ h l) (both (eq-eqb _ 0 (even (word_at m at))) (rw (text_same m at) e))

-- the places of the seven capability fields
seven_cut : (m : List ℕ) (at : ℕ)
    → Word (word_at m at) ∷ Word (word_at m (at + 4)) ∷ Word (word_at m (at + 8)) ∷ Word (word_at m (at + 12)) ∷ Word (word_at m (at + 16)) ∷ Word (word_at m (at + 20)) ∷ Word (word_at m (at + 24)) ∷ []
    ≡ Word (word_at m at) ∷ Word (word_at m (at + 4)) ∷ Word (word_at m (at + 4 + 4)) ∷ Word (word_at m (at + 4 + 4 + 4)) ∷ Word (word_at m (at + 4 + 4 + 4 + 4)) ∷ Word (word_at m (at + 4 + 4 + 4 + 4 + 4)) ∷ Word (word_at m (at + 4 + 4 + 4 + 4 + 4 + 4)) ∷ []
seven_cut m at =
    let a : at + 4 + 4 ≡ at + 8 = omega arith in
    let b : at + 8 + 4 ≡ at + 12 = omega arith in
    let c : at + 12 + 4 ≡ at + 16 = omega arith in
    let d : at + 16 + 4 ≡ at + 20 = omega arith in
    let e : at + 20 + 4 ≡ at + 24 = omega arith in
    rw (a, b, c, d, e)

-- a text and what follows it
counted : (m : List ℕ) (at : ℕ) (rest : List Piece) → Word (2 * word_at m at / 2) ∷ Run (record { start = at + 4; size = 2 * word_at m at }) ∷ rest ≡ Word (word_at m at) ∷ Run (record { start = at + 4; size = 2 * word_at m at }) ∷ rest
counted m at rest = rw (doubled (word_at m at))

device_spans : (a b c d l : ℕ) → 24 + a + 4 + b + 4 + c + 4 + d + 28 ≡ l
    → 4 + (4 + (4 + (4 + (4 + (4 + (a + (4 + (b + (4 + (c + (4 + (d + (4 + (4 + (4 + (4 + (4 + (4 + (4 + 0))))))))))))))))))) ≡ l
device_spans a b c d l h = omega arith

abbrev Asks : List ℕ → Result Asked Unfit → Type 0
Asks m a = asks_some a ≡ true → Rebuilt kind.AddDevice m

module _ (m : List ℕ) (fits : length m ≤ 65535) where
  -- a text by its reader: its count and its units are there
  text_by : (P : Result (Text × ℕ) Fault → Type 0) → ((f : Fault) → P (Err f)) → (at : ℕ) → (at + 4 + 2 * word_at m at ≤ length m → P (Ok ((text_at m at), (at + 4 + 2 * word_at m at)))) → P (text_of m at)
  unfolding text_of units_of
  text_by P bad at next = field_by P bad m at 4 _ λ a. field_by P bad m (at + 4) (2 * word_at m at) _ λ b. next (holds (at + 4) (2 * word_at m at) (length m) (reaches at (length m) a) b)

  abbrev pub second : ℕ → ℕ
  second at = at + 4 + 2 * word_at m at

  pub pair_by : (P : Result (TextPair × ℕ) Fault → Type 0) → ((f : Fault) → P (Err f)) → (at : ℕ)
      → (second at ≤ length m → second (second at) ≤ length m → P (Ok ((record { first = text_at m at; second = text_at m (second at) }), (second (second at))))) → P (pair_of m at)
  unfolding pair_of
  pair_by P bad at next =
      text_by (λ r. P (pair_from m r)) bad at λ a. text_by (λ r. P (pair_with (text_at m at) r)) bad (second at) λ b. next a b

  abbrev pub third : ℕ
  third = second (second 20)

  abbrev pub last : ℕ
  last = second (second third)

  abbrev pub found : AddDevice
  found = record { count = word_at m 12; device = interface_in (word_at m 16); top = mask_in (word_at m 16); instance = text_at m 20; hardware = text_at m (second 20); compatible = text_at m third; container = text_at m (second third); capabilities = record { size = word_at m last; bus = word_at m (last + 4); usbdi = word_at m (last + 8); usb = word_at m (last + 12); host = word_at m (last + 16); speed = word_at m (last + 20); jitter = word_at m (last + 24) } }

  rebuilt_found : Headed 1 1 0x101 m → second 20 ≤ length m → third ≤ length m → second third ≤ length m → last ≤ length m → length m ≡ last + 28 → add_device_allowed found ≡ true → Rebuilt kind.AddDevice m
  unfolding given_in pieces_of fields_in add_device_in add_device_given add_device_allowed cuts_from spans_of
  rebuilt_found hd a b c d l e =
      let b4 = capabilities_allowed found.capabilities in
      let b3 = text_pair_allowed found.container found.compatible in
      let b2 = text_pair_allowed found.instance found.hardware in
      let e1 = and_parts (eqb (word_at m 12) 1) (assignable (interface_in (word_at m 16)) && (b2 && (b3 && b4))) e in
      let e2 = and_parts (assignable (interface_in (word_at m 16))) (b2 && (b3 && b4)) e1.1 in
      let e3 = and_parts b2 (b3 && b4) e2.1 in
      let e4 = and_parts b3 b4 e3.1 in
      let names = and_parts (text_allowed (text_at m 20)) (list_allowed (text_at m (second 20))) e3.0 in
      let classes = and_parts (text_allowed (text_at m (second third))) (list_allowed (text_at m third)) e4.0 in
      record {
        given = both e1.0 (both e2.0 (both (fits_by m 20 text_allowed a fits names.0) (both (fits_by m (second 20) list_allowed b fits names.1) (both (fits_by m third list_allowed c fits classes.1) (both (fits_by m (second third) text_allowed d fits classes.0) e4.1)))));
        pieces = head_cut 1 1 0x101 m _ hd ∙ ap (λ r. Word (word_at m 0) ∷ Word (word_at m 4) ∷ Word (word_at m 8) ∷ Word (word_at m 12) ∷ Word (word_at m 16) ∷ r)
            (counted m 20 _ ∙ ap (λ r. Word (word_at m 20) ∷ Run (record { start = 24; size = 2 * word_at m 20 }) ∷ r)
            (counted m (second 20) _ ∙ ap (λ r. Word (word_at m (second 20)) ∷ Run (record { start = second 20 + 4; size = 2 * word_at m (second 20) }) ∷ r)
            (counted m third _ ∙ ap (λ r. Word (word_at m third) ∷ Run (record { start = third + 4; size = 2 * word_at m third }) ∷ r)
            (counted m (second third) _ ∙ ap (λ r. Word (word_at m (second third)) ∷ Run (record { start = second third + 4; size = 2 * word_at m (second third) }) ∷ r)
            (seven_cut m last)))));
        spans = device_spans (2 * word_at m 20) (2 * word_at m (second 20)) (2 * word_at m third) (2 * word_at m (second third)) (length m) (sym l);
      }

  pub device_rebuilt : Headed 1 1 0x101 m → Asks m (asks_by (add_device_reading (add_device_of m)))
  unfolding add_device_of device_of capabilities_of
  device_rebuilt hd =
      field_by (λ r. Asks m (asks_by (add_device_reading r))) (λ f. refused) m 12 4 _ λ x. field_by (λ r. Asks m (asks_by (add_device_reading r))) (λ f. refused) m 16 4 _ λ y.
      pair_by (λ r. Asks m (asks_by (add_device_reading (names_from m r)))) (λ f. refused) 20 λ a b.
      pair_by (λ r. Asks m (asks_by (add_device_reading (classes_from m (record { first = text_at m 20; second = text_at m (second 20) }) r)))) (λ f. refused) third λ c d.
      by_test (λ r. Asks m (asks_by (add_device_reading (device_with m (record { first = text_at m 20; second = text_at m (second 20) }) (record { first = text_at m third; second = text_at m (second third) }) r)))) (λ f. refused) (ltb (left m last) 28) _ _ λ t.
      ended_by (λ r. Asks m (asks_by (add_device_reading r))) (λ f. refused) m (last + 28) _ λ z.
      λ e. rebuilt_found hd a b c d (exactly last (length m) (ltb-false (left m last) 28 t) z) (asked (add_device_allowed found) _ e)
