-- How long the bytes of pieces are, what their sum says of each, and a turn of each loop over them.
use Rattle.std.specs.Prelude.{Some, None}
use Prim.Native.Nat.{ℕ, zero, suc, ◌+◌, ◌*◌, ◌-◌, ◌/◌, ◌<◌, ◌≤◌}
use native.Mathlib.Numerals.{add-one}
use native.Mathlib.Omega.{arith}
use mathlib.Core.Path.{◌≡◌, refl, sym, ◌∙◌}
use mathlib.Core.List.{List, [], ◌∷◌, ◌++◌, append-nil}
use mathlib.Core.Bool.{Bool, true, false, cond}
use lib.ListN.{length, take, drop, get_or, drop_of_length-le, length-append, length-drop, length-take, take-append-drop}
use lib.Dec.{ltb, leb}
use lib.Seq.{drop-cons, length-take-le}
use borrow.Rule.Slice.PartMut.{put_mid}
use borrow.Author.Tests.{ltb-false, leb-true, le-ltb}
use Rattle.words.specs.Written.{written, word_bytes}
use Rattle.words.specs.declared.layout.Part.{Part}
use Rattle.words.proofs.Written.{written_behind, written_on, written_whole}
use Rattle.pieces.specs.Pieces.{bytes_of, cut, encode, rows_from, lies_in, piece_lies, row_bytes, row_of, size_of, total_from}
use Rattle.pieces.specs.declared.piece.Piece.{Piece}
use Rattle.pieces.specs.declared.piece.Piece.TheVariants as piece

-- the sizes
pub interfaces-length : (s : List ℕ) (n pipes at : ℕ) → length (rows_from s n pipes at) ≡ 12 * n
unfolding rows_from
interfaces-length s zero pipes at = refl
interfaces-length s (suc n) pipes at = let e = interfaces-length s n (row_of s at pipes).pipes (at + 12) in omega arith

pub lies_within : (n : ℕ) (p : Part) → lies_in n p ≡ true → p.start + p.size ≤ n
lies_within n p e = go (ltb n p.start) (ltb-false n p.start) e
  where
    go : (b : Bool) → (b ≡ false → p.start ≤ n) → cond b false (leb p.size (n - p.start)) ≡ true → p.start + p.size ≤ n
    go true f e = let z : ◌≡◌ {A = ℕ} 0 1 = cc in omega arith
    go false f e = let a = f refl in let b = leb-true p.size (n - p.start) e in omega arith

pub cut-length : (s : List ℕ) (p : Part) → p.start + p.size ≤ length s → length (cut s p) ≡ p.size
cut-length s p h = simp (length-take, length-drop) (omega arith)

pub piece_length : (s : List ℕ) (p : Piece) → piece_lies (length s) p ≡ true → length (bytes_of s p) ≡ size_of p
piece_length s piece.Nothing e = refl
piece_length s (piece.Word n) e = refl
piece_length s (piece.Run p) e = cut-length s p (lies_within (length s) p e)
piece_length s (piece.Interfaces p) e = let l = interfaces-length s (p.size / 12) 0 p.start in omega arith

-- what a sum says of the first piece: it lies in the lent bytes, it fits behind the others, and the rest add up to the same
pub total_first : (n sum : ℕ) (p : Piece) (ps : List Piece) (m : ℕ) → total_from n sum (p ∷ ps) ≡ Some m → (piece_lies n p ≡ true) × (size_of p ≤ 65535 - sum) × (total_from n (sum + size_of p) ps ≡ Some m)
unfolding total_from
total_first n sum p ps m e = outer (piece_lies n p) e
  where
    inner : (b : Bool) → (b ≡ false → size_of p ≤ 65535 - sum) → cond b None (total_from n (sum + size_of p) ps) ≡ Some m → (size_of p ≤ 65535 - sum) × (total_from n (sum + size_of p) ps ≡ Some m)
    inner true f e = let z : ◌≡◌ {A = ℕ} 0 1 = cc in absurd (omega arith)
    inner false f e = (f refl, e)

    outer : (b : Bool) → cond b (cond (ltb (65535 - sum) (size_of p)) None (total_from n (sum + size_of p) ps)) None ≡ Some m → (b ≡ true) × (size_of p ≤ 65535 - sum) × (total_from n (sum + size_of p) ps ≡ Some m)
    outer true e = let r = inner (ltb (65535 - sum) (size_of p)) (ltb-false (65535 - sum) (size_of p)) e in (refl, r.0, r.1)
    outer false e = let z : ◌≡◌ {A = ℕ} 0 1 = cc in absurd (omega arith)

-- the bytes of pieces are as many as the pieces add up to
pub encode-length : (s : List ℕ) (ps : List Piece) (sum m : ℕ) → total_from (length s) sum ps ≡ Some m → sum + length (encode s ps) ≡ m
unfolding encode total_from
encode-length s [] sum m e = let q : sum ≡ m = cc in omega arith
encode-length s (p ∷ ps) sum m e =
    let f = total_first (length s) sum p ps m e in
    let l = piece_length s p f.0 in
    let r = encode-length s ps (sum + size_of p) m f.2 in
    rw length-append (omega arith)

-- a turn of the loop that adds up
pub total_step : (n sum : ℕ) (ps : List Piece) (i : ℕ) → i < length ps
    → total_from n sum (drop i ps) ≡ cond (piece_lies n (get_or ps i piece.Nothing)) (cond (ltb (65535 - sum) (size_of (get_or ps i piece.Nothing))) None (total_from n (sum + size_of (get_or ps i piece.Nothing)) (drop (i + 1) ps))) None
unfolding total_from
total_step n sum ps i h = rw (drop-cons ps i piece.Nothing h, add-one)

pub total_next : (n sum more : ℕ) (ps : List Piece) (i : ℕ) → i < length ps → piece_lies n (get_or ps i piece.Nothing) ≡ true → more ≡ size_of (get_or ps i piece.Nothing) → more ≤ 65535 - sum
    → total_from n (sum + more) (drop (i + 1) ps) ≡ total_from n sum (drop i ps)
total_next n sum more ps i h l e k = rw (total_step n sum ps i h, l, ← e, le-ltb (65535 - sum) more k)

pub total_end : (n sum : ℕ) (ps : List Piece) (i : ℕ) → length ps ≤ i → total_from n sum (drop i ps) ≡ Some sum
unfolding total_from
total_end n sum ps i h = rw (drop_of_length-le ps h)

-- three words, one behind the other
pub words_three : (buf a b out : List ℕ) (at x y z : ℕ) → a ≡ written buf at (word_bytes x) → b ≡ written a (at + 4) (word_bytes y) → out ≡ written b (at + 8) (word_bytes z) → out ≡ written buf at (word_bytes x ++ (word_bytes y ++ word_bytes z))
words_three buf a b out at x y z p q r =
    r ∙ (written_on a b (at + 4) (at + 8) (word_bytes y) (word_bytes z) (omega arith) q ∙ written_on buf a at (at + 4) (word_bytes x) (word_bytes y ++ word_bytes z) refl p)

-- a part of the lent bytes over as many bytes of the buffer
pub run_put : (buf s bs : List ℕ) (p : Part) (at n : ℕ) → at + p.size ≤ length buf → p.start + p.size ≤ length s → n ≡ p.size → bs ≡ cut s p → put_mid at n buf bs ≡ written buf at (cut s p)
run_put buf s bs p at n h k e q =
    let l : length (take at buf) ≡ at = length-take-le at buf (omega arith) in
    let m : length (cut s p) ≡ n = cut-length s p k ∙ sym e in
    let w : written (take at buf ++ drop at buf) (length (take at buf)) (cut s p) ≡ take at buf ++ (cut s p ++ drop (length (cut s p)) (drop at buf)) = written_behind (take at buf) (drop at buf) (cut s p) (omega (arith, length-drop at buf)) in
    rw q (sym (rw (take-append-drop, l, m) at w))

-- bytes over a whole buffer
pub written_over : (buf bs : List ℕ) → length bs ≡ length buf → written buf 0 bs ≡ bs
written_over buf bs e =
    let h : length buf ≤ length bs = omega arith in
    rw (written_whole buf bs (omega arith), drop_of_length-le buf h, append-nil)

-- a turn of the loop over rows, and its end
pub rows_step : (s buf : List ℕ) (start rows at pipes i : ℕ) → i < rows
    → written buf (at + 12 * i) (rows_from s (rows - i) pipes (start + 12 * i)) ≡ written (written buf (at + 12 * i) (row_bytes (row_of s (start + 12 * i) pipes))) (at + 12 * (i + 1)) (rows_from s (rows - (i + 1)) (row_of s (start + 12 * i) pipes).pipes (start + 12 * (i + 1)))
unfolding rows_from
rows_step s buf start rows at pipes i h =
    let e : rows - i ≡ suc (rows - (i + 1)) = omega arith in
    let f : start + 12 * i + 12 ≡ start + 12 * (i + 1) = omega arith in
    rw (e, f) (sym (written_on buf _ (at + 12 * i) (at + 12 * (i + 1)) (row_bytes (row_of s (start + 12 * i) pipes)) _ (omega arith) refl))

pub rows_end : (s buf : List ℕ) (start rows at pipes i : ℕ) → rows ≤ i → written buf (at + 12 * i) (rows_from s (rows - i) pipes (start + 12 * i)) ≡ buf
unfolding rows_from written
rows_end s buf start rows at pipes i h = let e : rows - i ≡ 0 = omega arith in rw e

-- the pieces from i on, behind at bytes, add up to m: what that says of the one at i
pub total_at : (s : List ℕ) (ps : List Piece) (at i m : ℕ) → i < length ps → total_from (length s) at (drop i ps) ≡ Some m
    → (piece_lies (length s) (get_or ps i piece.Nothing) ≡ true) × (at + size_of (get_or ps i piece.Nothing) ≤ m) × (total_from (length s) (at + size_of (get_or ps i piece.Nothing)) (drop (i + 1) ps) ≡ Some m)
total_at s ps at i m h e =
    let f = total_first (length s) at (get_or ps i piece.Nothing) (drop (i + 1) ps) m (rw (add-one, ← (drop-cons ps i piece.Nothing h)) e) in
    let l = encode-length s (drop (i + 1) ps) (at + size_of (get_or ps i piece.Nothing)) m f.2 in
    (f.0, omega arith, f.2)

-- a turn of the loop that writes pieces, and its end
pub all_again : (s buf mid : List ℕ) (ps : List Piece) (at i m size : ℕ) → i < length ps → total_from (length s) at (drop i ps) ≡ Some m → size ≡ size_of (get_or ps i piece.Nothing) → mid ≡ written buf at (bytes_of s (get_or ps i piece.Nothing))
    → (total_from (length s) (at + size) (drop (i + 1) ps) ≡ Some m) × (written mid (at + size) (encode s (drop (i + 1) ps)) ≡ written buf at (encode s (drop i ps)))
unfolding encode
all_again s buf mid ps at i m size h t q g =
    let f = total_at s ps at i m h t in
    let l = piece_length s (get_or ps i piece.Nothing) f.0 in
    (rw q f.2, rw (drop-cons ps i piece.Nothing h, add-one) (written_on buf mid at (at + size) (bytes_of s (get_or ps i piece.Nothing)) (encode s (drop (suc i) ps)) (omega arith) g))

pub all_end : (s start buf : List ℕ) (ps : List Piece) (at i : ℕ) → length ps ≤ i → total_from (length s) 0 ps ≡ Some (length start) → written buf at (encode s (drop i ps)) ≡ written start 0 (encode s ps) → buf ≡ encode s ps
unfolding encode written
all_end s start buf ps at i h t inv =
    let n : length (encode s ps) ≡ length start = omega (arith, encode-length s ps 0 (length start) t) in
    let e : buf ≡ written start 0 (encode s ps) = rw (← inv, drop_of_length-le ps h) in
    rw e (written_over start (encode s ps) n)
