-- What is cut out of a message by a layout and written again is the message with its padding 0.
use Rattle.std.specs.Prelude.{Some}
use Prim.Native.Nat.{ℕ, zero, suc, ◌+◌, ◌-◌, ◌*◌, ◌/◌, ◌%◌, ◌<◌, ◌≤◌}
use native.Mathlib.Omega.{arith}
use mathlib.Core.Path.{◌≡◌, refl, ap, sym, subst, ◌∙◌}
use mathlib.Core.List.{List, [], ◌∷◌, ◌++◌, append_assoc}
use mathlib.Core.Bool.{Bool, true, false, cond}
use lib.ListN.{length, drop}
use lib.Seq.{drop-cons, drop-drop, take-add}
use lib.Dec.{eqb}
use borrow.Author.Tests.{le-ltb, le-leb}
use Rattle.words.specs.Words.{byte_at, half_at, word_at}
use Rattle.words.specs.Written.{word_bytes}
use Rattle.pieces.specs.Pieces.{bytes_of, encode, rows_from, lies_in, piece_lies, row_bytes, row_of, size_of, total_from}
use Rattle.pieces.specs.declared.piece.Row.{Row}
use Rattle.writer_laws.specs.Layout.{Bytes, Field, Kept, none, empty, word, half, byte, run, interfaces, bytes_from, cleared_at, cleared_from, cleared_row, cleared_rows, cut_at, cuts_from, span_of, spans_of}

-- from one byte to the next
next : (m : List ℕ) (at to : ℕ) → to ≡ at + 1 → at < length m → drop at m ≡ byte_at m at ∷ drop to m
next m at to e h = let q : suc at ≡ to = omega arith in subst (λ k. drop at m ≡ byte_at m at ∷ drop k m) q (drop-cons m at 0 h)

one : (m : List ℕ) (at : ℕ) → at + 1 ≤ length m → bytes_from m at 1 ≡ byte_at m at ∷ []
one m at h = rw (next m at (at + 1) refl (omega arith))

two : (m : List ℕ) (at : ℕ) → at + 2 ≤ length m → bytes_from m at 2 ≡ byte_at m at ∷ byte_at m (at + 1) ∷ []
two m at h = rw (next m at (at + 1) refl (omega arith), next m (at + 1) (at + 2) (omega arith) (omega arith))

four : (m : List ℕ) (at : ℕ) → at + 4 ≤ length m → bytes_from m at 4 ≡ byte_at m at ∷ byte_at m (at + 1) ∷ byte_at m (at + 2) ∷ byte_at m (at + 3) ∷ []
four m at h =
    rw (next m at (at + 1) refl (omega arith), next m (at + 1) (at + 2) (omega arith) (omega arith), next m (at + 2) (at + 3) (omega arith) (omega arith), next m (at + 3) (at + 4) (omega arith) (omega arith))

-- the four bytes of a number that is given by four
digits : (n a b c d : ℕ) → n ≡ a + 256 * b + 65536 * c + 16777216 * d → a < 256 → b < 256 → c < 256 → d < 256 → word_bytes n ≡ a ∷ b ∷ c ∷ d ∷ []
digits n a b c d e ha hb hc hd =
    let e0 : n % 256 ≡ a = omega arith in
    let e1 : n / 256 ≡ b + 256 * c + 65536 * d = omega arith in
    let e2 : n / 65536 ≡ c + 256 * d = omega arith in
    let e3 : n / 16777216 ≡ d = omega arith in
    let f1 : (b + 256 * c + 65536 * d) % 256 ≡ b = omega arith in
    let f2 : (c + 256 * d) % 256 ≡ c = omega arith in
    let f3 : d % 256 ≡ d = omega arith in
    rw (e0, e1, e2, e3, f1, f2, f3)

-- bytes in two runs
joined : (m : List ℕ) (at a b : ℕ) → bytes_from m at a ++ bytes_from m (at + a) b ≡ bytes_from m at (a + b)
joined m at a b = rw (take-add a b (drop at m), drop-drop a at m)

pub pair : (a a' b b' : List ℕ) → a ≡ a' → b ≡ b' → a ++ b ≡ a' ++ b'
pair a a' b b' p q = rw (p, q)

glued : (a a' b b' c c' : List ℕ) → a ≡ a' → b ≡ b' → c ≡ c' → a ++ (b ++ c) ≡ a' ++ (b' ++ c')
glued a a' b b' c c' p q r = rw (p, q, r)

-- zeros in the middle
middle : (a b c j : List ℕ) → a ++ b ≡ j → a ++ ((b ++ (0 ∷ 0 ∷ [])) ++ c) ≡ j ++ (0 ∷ 0 ∷ c)
middle a b c j e = ap (λ x. a ++ x) (append_assoc b (0 ∷ 0 ∷ []) c) ∙ (sym (append_assoc a b (0 ∷ 0 ∷ c)) ∙ ap (λ x. x ++ (0 ∷ 0 ∷ c)) e)

-- and behind the first
front : (a b c j : List ℕ) → b ++ c ≡ j → (a ++ (0 ∷ 0 ∷ [])) ++ (b ++ c) ≡ a ++ (0 ∷ 0 ∷ j)
front a b c j e = append_assoc a (0 ∷ 0 ∷ []) (b ++ c) ∙ ap (λ x. a ++ (0 ∷ 0 ∷ x)) e

-- the two sorts of rows
abbrev pub interface_row : List ℕ → ℕ → Row
interface_row m at = record { first = word_at m at; second = half_at m (at + 4); third = word_at m (at + 8); pipes = word_at m (at + 8) }

abbrev pub pipe_row : List ℕ → ℕ → ℕ → Row
pipe_row m at pipes = record { first = half_at m at; second = word_at m (at + 4); third = word_at m (at + 8); pipes = pipes - 1 }

module _ (m : List ℕ) (bytes : Bytes m) where
  word_cleared : (at : ℕ) → at + 4 ≤ length m → word_bytes (word_at m at) ≡ bytes_from m at 4
  word_cleared at h = digits (word_at m at) (byte_at m at) (byte_at m (at + 1)) (byte_at m (at + 2)) (byte_at m (at + 3)) refl (bytes at) (bytes (at + 1)) (bytes (at + 2)) (bytes (at + 3)) ∙ sym (four m at h)

  half_cleared : (at : ℕ) → at + 2 ≤ length m → word_bytes (half_at m at) ≡ bytes_from m at 2 ++ (0 ∷ 0 ∷ [])
  half_cleared at h = rw (two m at h) (digits (half_at m at) (byte_at m at) (byte_at m (at + 1)) 0 0 (omega arith) (bytes at) (bytes (at + 1)) (omega arith) (omega arith))

  byte_cleared : (at : ℕ) → at + 1 ≤ length m → word_bytes (byte_at m at) ≡ bytes_from m at 1 ++ (0 ∷ 0 ∷ 0 ∷ [])
  byte_cleared at h = rw (one m at h) (digits (byte_at m at) (byte_at m at) 0 0 0 (omega arith) (bytes at) (omega arith) (omega arith) (omega arith))

  interface_cleared : (at : ℕ) → at + 12 ≤ length m → word_bytes (word_at m at) ++ (word_bytes (half_at m (at + 4)) ++ word_bytes (word_at m (at + 8))) ≡ bytes_from m at 6 ++ (0 ∷ 0 ∷ bytes_from m (at + 8) 4)
  interface_cleared at h = glued _ _ _ _ _ _ (word_cleared at (omega arith)) (half_cleared (at + 4) (omega arith)) (word_cleared (at + 8) (omega arith)) ∙ middle (bytes_from m at 4) (bytes_from m (at + 4) 2) (bytes_from m (at + 8) 4) _ (joined m at 4 2)

  pipe_cleared : (at : ℕ) → at + 12 ≤ length m → word_bytes (half_at m at) ++ (word_bytes (word_at m (at + 4)) ++ word_bytes (word_at m (at + 8))) ≡ bytes_from m at 2 ++ (0 ∷ 0 ∷ bytes_from m (at + 4) 8)
  pipe_cleared at h =
      let e : at + 4 + 4 ≡ at + 8 = omega arith in
      let j : bytes_from m (at + 4) 4 ++ bytes_from m (at + 8) 4 ≡ bytes_from m (at + 4) 8 = subst (λ k. bytes_from m (at + 4) 4 ++ bytes_from m k 4 ≡ bytes_from m (at + 4) 8) e (joined m (at + 4) 4 4) in
      glued _ _ _ _ _ _ (half_cleared at (omega arith)) (word_cleared (at + 4) (omega arith)) (word_cleared (at + 8) (omega arith)) ∙ front (bytes_from m at 2) (bytes_from m (at + 4) 4) (bytes_from m (at + 8) 4) _ j

  row_cleared : (at pipes : ℕ) → at + 12 ≤ length m → (row_bytes (row_of m at pipes) ≡ cleared_row m pipes at) × ((row_of m at pipes).pipes ≡ cond (eqb pipes 0) (word_at m (at + 8)) (pipes - 1))
  row_cleared at pipes h = go (eqb pipes 0)
    where
      go : (t : Bool) → (row_bytes (cond t (interface_row m at) (pipe_row m at pipes)) ≡ cond t (bytes_from m at 6 ++ (0 ∷ 0 ∷ bytes_from m (at + 8) 4)) (bytes_from m at 2 ++ (0 ∷ 0 ∷ bytes_from m (at + 4) 8))) × ((cond t (interface_row m at) (pipe_row m at pipes)).pipes ≡ cond t (word_at m (at + 8)) (pipes - 1))
      go true = (interface_cleared at h, refl)
      go false = (pipe_cleared at h, refl)

  pub rows_cleared : (n pipes at : ℕ) → at + 12 * n ≤ length m → rows_from m n pipes at ≡ cleared_rows m n pipes at
  unfolding rows_from cleared_rows
  rows_cleared zero pipes at h = refl
  rows_cleared (suc n) pipes at h =
      let r = row_cleared at pipes (omega arith) in
      pair _ _ _ _ r.0 (ap (λ k. rows_from m n k (at + 12)) r.1 ∙ rows_cleared n (cond (eqb pipes 0) (word_at m (at + 8)) (pipes - 1)) (at + 12) (omega arith))

  field_cleared : (at : ℕ) (f : Field) → at + span_of f ≤ length m → bytes_of m (cut_at m at f) ≡ cleared_at m at f
  field_cleared at none h = refl
  field_cleared at empty h = refl
  field_cleared at word h = word_cleared at h
  field_cleared at half h = half_cleared at (omega arith)
  field_cleared at byte h = byte_cleared at (omega arith)
  field_cleared at (run n) h = refl
  field_cleared at (interfaces n) h = let e : 12 * n / 12 ≡ n = omega arith in rw e (rows_cleared n 0 at h)

  -- what is cut out by a layout, and written again
  pub all_cleared : (at : ℕ) (fs : List Field) → at + spans_of fs ≤ length m → encode m (cuts_from m at fs) ≡ cleared_from m at fs
  unfolding spans_of cuts_from encode cleared_from
  all_cleared at [] h = refl
  all_cleared at (f ∷ fs) h = pair _ _ _ _ (field_cleared at f (omega arith)) (all_cleared (at + span_of f) fs (omega arith))

lies_at : (n at size : ℕ) → at + size ≤ n → lies_in n (record { start = at; size = size }) ≡ true
lies_at n at size h = rw (le-ltb n at (omega arith), le-leb size (n - at) (omega arith))

-- a field's piece lies in the message, and is as long
field_lies : (m : List ℕ) (at : ℕ) (f : Field) → at + span_of f ≤ length m → (piece_lies (length m) (cut_at m at f) ≡ true) × (size_of (cut_at m at f) ≡ span_of f)
field_lies m at none h = (refl, refl)
field_lies m at empty h = (lies_at (length m) 0 0 (omega arith), refl)
field_lies m at word h = (refl, refl)
field_lies m at half h = (refl, refl)
field_lies m at byte h = (refl, refl)
field_lies m at (run n) h = (lies_at (length m) at n h, refl)
field_lies m at (interfaces n) h = (lies_at (length m) at (12 * n) h, omega arith)

pub all_fit : (m : List ℕ) (at : ℕ) (fs : List Field) → length m ≤ 65535 → at + spans_of fs ≡ length m → total_from (length m) at (cuts_from m at fs) ≡ Some (length m)
unfolding spans_of cuts_from total_from
all_fit m at [] l h = ap Some (omega arith)
all_fit m at (f ∷ fs) l h =
    let q = field_lies m at f (omega arith) in
    rw (q.0, q.1, le-ltb (65535 - at) (span_of f) (omega arith)) (all_fit m (at + span_of f) fs l (omega arith))

-- a layout with no padding in it cuts out all of its bytes
pub all_kept : (m : List ℕ) (at : ℕ) (fs : List Field) → Kept fs → cleared_from m at fs ≡ bytes_from m at (spans_of fs)
unfolding cleared_from spans_of
all_kept m at [] k = refl
all_kept m at (none ∷ fs) k = let z : at + 0 ≡ at = omega arith in let y : 0 + spans_of fs ≡ spans_of fs = omega arith in rw (z, y) (all_kept m at fs k)
all_kept m at (empty ∷ fs) k = let z : at + 0 ≡ at = omega arith in let y : 0 + spans_of fs ≡ spans_of fs = omega arith in rw (z, y) (all_kept m at fs k)
all_kept m at (word ∷ fs) k = ap (λ r. bytes_from m at 4 ++ r) (all_kept m (at + 4) fs k) ∙ joined m at 4 (spans_of fs)
all_kept m at (run n ∷ fs) k = ap (λ r. bytes_from m at n ++ r) (all_kept m (at + n) fs k) ∙ joined m at n (spans_of fs)
all_kept m at (half ∷ fs) k = elim k [ ]
all_kept m at (byte ∷ fs) k = elim k [ ]
all_kept m at (interfaces _ ∷ fs) k = elim k [ ]
