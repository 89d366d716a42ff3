-- The pieces of a message stand where its layout has them.
use Rattle.std.specs.Prelude.{Some}
use Prim.Native.Nat.{ℕ, zero, suc, ◌+◌, ◌*◌, ◌/◌, ◌%◌, ◌<◌, ◌≤◌}
use native.Mathlib.Omega.{arith}
use native.Mathlib.Nat.{div-div-eq-div-mul}
use mathlib.Core.Path.{◌≡◌, refl, ap, sym, subst, ◌∙◌}
use mathlib.Core.List.{List, [], ◌∷◌, ◌++◌, append_assoc, append-nil}
use mathlib.Core.Bool.{Bool, true, false, cond}
use lib.ListN.{length, take, drop, get_or, length-append}
use lib.Seq.{take-append_seam, drop-append_seam, get_or-append-add, get_or-drop}
use lib.Dec.{eqb}
use Rattle.words.specs.Words.{byte_at, half_at, word_at}
use Rattle.words.specs.Written.{word_bytes}
use Rattle.words.specs.declared.layout.Part.{Part}
use Rattle.pieces.specs.Pieces.{bytes_of, cut, encode, rows_from, row_bytes, row_of, size_of, total_from}
use Rattle.pieces.specs.declared.piece.Piece.{Piece}
use Rattle.pieces.specs.declared.piece.Piece.TheVariants.{Nothing, Word, Run, Interfaces}
use Rattle.pieces.specs.declared.piece.Row.{Row}
use Rattle.pieces.proofs.Pieces.{encode-length, piece_length, total_first}
use Rattle.writer_laws.specs.Layout.{Bytes}
use Rattle.writer_laws.specs.Places.{Places, RowsStand, Stands, WordStands}
use Rattle.writer_laws.proofs.Cleared.{interface_row, pair, pipe_row}

two : (n : ℕ) → n / 65536 ≡ n / 256 / 256
two n = sym (div-div-eq-div-mul n 256 256)

thrice : (n : ℕ) → n / 16777216 ≡ n / 256 / 256 / 256
thrice n = sym (div-div-eq-div-mul n 256 65536) ∙ sym (div-div-eq-div-mul (n / 256) 256 256)

-- a number of 32 bits is that of its four bytes
word_back : (n : ℕ) → n < 4294967296 → n % 256 + 256 * (n / 256 % 256) + 65536 * (n / 65536 % 256) + 16777216 * (n / 16777216 % 256) ≡ n
word_back n h = rw (two n, thrice n) (let l : n / 256 / 256 / 256 < 256 = omega arith in omega arith)

half_back : (n : ℕ) → n % 256 + 256 * (n / 256 % 256) ≡ n % 65536
half_back n = omega arith

upper_back : (n : ℕ) → n < 4294967296 → n / 65536 % 256 + 256 * (n / 16777216 % 256) ≡ n / 65536
upper_back n h = let e = div-div-eq-div-mul n 65536 256 in rw (← e) (omega arith)

-- a word that stands behind so many bytes
pub word_behind : (pre : List ℕ) (n : ℕ) (rest : List ℕ) (w : List ℕ) (at : ℕ) → w ≡ pre ++ (word_bytes n ++ rest) → at ≡ length pre → n < 4294967296 → WordStands w at n
word_behind pre n rest w at e l h =
    let b0 : byte_at w at ≡ n % 256 = rw (e, l) (subst (λ k. get_or (pre ++ (word_bytes n ++ rest)) k 0 ≡ n % 256) (omega arith) (get_or-append-add pre (word_bytes n ++ rest) 0 0)) in
    let b1 : byte_at w (at + 1) ≡ n / 256 % 256 = rw (e, l) (get_or-append-add pre (word_bytes n ++ rest) 1 0) in
    let b2 : byte_at w (at + 2) ≡ n / 65536 % 256 = rw (e, l) (get_or-append-add pre (word_bytes n ++ rest) 2 0) in
    let b3 : byte_at w (at + 3) ≡ n / 16777216 % 256 = rw (e, l) (get_or-append-add pre (word_bytes n ++ rest) 3 0) in
    let z : at + 2 + 1 ≡ at + 3 = omega arith in
    (rw (b0, b1, b2, b3) (word_back n h), rw (b0, b1) (half_back n), rw (z, b2, b3) (upper_back n h), b0)

-- bytes that stand behind so many
cut_behind : (pre xs rest w : List ℕ) (at n : ℕ) → w ≡ pre ++ (xs ++ rest) → at ≡ length pre → n ≡ length xs → cut w (record { start = at; size = n }) ≡ xs
cut_behind pre xs rest w at n e l h = rw (e, l, h, drop-append_seam pre (xs ++ rest), take-append_seam xs rest)

low : (a b c d : ℕ) → a < 256 → b < 256 → (a + 256 * b + 65536 * c + 16777216 * d) % 65536 ≡ a + 256 * b
low a b c d ha hb = omega arith

low_half : (a b : ℕ) → a < 256 → b < 256 → (a + 256 * b) % 65536 ≡ a + 256 * b
low_half a b ha hb = omega arith

four_below : (a b c d : ℕ) → a < 256 → b < 256 → c < 256 → d < 256 → a + 256 * b + 65536 * c + 16777216 * d < 4294967296
four_below a b c d ha hb hc hd = omega arith

two_below : (a b : ℕ) → a < 256 → b < 256 → a + 256 * b < 4294967296
two_below a b ha hb = omega arith

-- three words in a row
three : (pre : List ℕ) (x y z : ℕ) (rest w : List ℕ) (at : ℕ) → w ≡ pre ++ ((word_bytes x ++ (word_bytes y ++ word_bytes z)) ++ rest) → at ≡ length pre → x < 4294967296 → y < 4294967296 → z < 4294967296 → WordStands w at x × WordStands w (at + 4) y × WordStands w (at + 8) z
three pre x y z rest w at e l hx hy hz = (
  word_behind pre x (word_bytes y ++ (word_bytes z ++ rest)) w at e l hx,
  word_behind (pre ++ word_bytes x) y (word_bytes z ++ rest) w (at + 4) (e ∙ sym (append_assoc pre (word_bytes x) (word_bytes y ++ (word_bytes z ++ rest)))) (rw (length-append, l)) hy,
  word_behind (pre ++ (word_bytes x ++ word_bytes y)) z rest w (at + 8) (e ∙ sym (append_assoc pre (word_bytes x ++ word_bytes y) (word_bytes z ++ rest))) (rw (length-append, l)) hz,
)

module _ (s : List ℕ) (bytes : Bytes s) where
  pub word_below : (x : ℕ) → word_at s x < 4294967296
  word_below x = four_below (byte_at s x) (byte_at s (x + 1)) (byte_at s (x + 2)) (byte_at s (x + 3)) (bytes x) (bytes (x + 1)) (bytes (x + 2)) (bytes (x + 3))

  half_below : (x : ℕ) → half_at s x < 4294967296
  half_below x = two_below (byte_at s x) (byte_at s (x + 1)) (bytes x) (bytes (x + 1))

  -- the first word of a row: its two bytes are those of the lent row
  first_half : (x pipes : ℕ) → ((row_of s x pipes).first < 4294967296) × ((row_of s x pipes).first % 65536 ≡ half_at s x) × ((row_of s x pipes).third ≡ word_at s (x + 8))
  first_half x pipes = go (eqb pipes 0)
    where
      go : (t : Bool) → ((cond t (interface_row s x) (pipe_row s x pipes)).first < 4294967296) × ((cond t (interface_row s x) (pipe_row s x pipes)).first % 65536 ≡ half_at s x) × ((cond t (interface_row s x) (pipe_row s x pipes)).third ≡ word_at s (x + 8))
      go true = (word_below x, low (byte_at s x) (byte_at s (x + 1)) (byte_at s (x + 2)) (byte_at s (x + 3)) (bytes x) (bytes (x + 1)), refl)
      go false = (half_below x, low_half (byte_at s x) (byte_at s (x + 1)) (bytes x) (bytes (x + 1)), refl)

  rows_stand : (n : ℕ) (pre rest w : List ℕ) (at a pipes : ℕ) → w ≡ pre ++ (rows_from s n pipes a ++ rest) → at ≡ length pre → RowsStand w s at a n
  unfolding rows_from
  rows_stand zero pre rest w at a pipes e l = λ j x y ex ey h. absurd (omega arith)
  rows_stand (suc n) pre rest w at a pipes e l = rows (rows_stand n (pre ++ row_bytes r) rest w (at + 12) (a + 12) r.pipes (e ∙ grouped) (rw (length-append, l)))
    where
      r : Row
      r = row_of s a pipes

      more : List ℕ
      more = rows_from s n r.pipes (a + 12)

      grouped : pre ++ ((row_bytes r ++ more) ++ rest) ≡ (pre ++ row_bytes r) ++ (more ++ rest)
      grouped = ap (λ z. pre ++ z) (append_assoc (row_bytes r) more rest) ∙ sym (append_assoc pre (row_bytes r) (more ++ rest))

      rows : RowsStand w s (at + 12) (a + 12) n → RowsStand w s at a (suc n)
      rows i zero x y ex ey h =
          let xa : x ≡ a = omega arith in let ya : y ≡ at = omega arith in
          let f = first_half a pipes in
          let one = word_behind pre r.first (word_bytes r.second ++ (word_bytes r.third ++ (more ++ rest))) w at e l f.0 in
          let two = word_behind (pre ++ (word_bytes r.first ++ word_bytes r.second)) r.third (more ++ rest) w (at + 8) (e ∙ sym (append_assoc pre (word_bytes r.first ++ word_bytes r.second) (word_bytes r.third ++ (more ++ rest)))) (rw (length-append, l)) (subst (λ z. z < 4294967296) (sym f.2) (word_below (a + 8))) in
          (rw (xa, ya) (one.1 ∙ f.1), rw (xa, ya) (two.0 ∙ f.2))
      rows i (suc j) x y ex ey h = i j x y (omega arith) (omega arith) (omega arith)

  -- a row that was written, read as a row again
  row_same : (pre rest w : List ℕ) (at a pipes : ℕ) → w ≡ pre ++ (row_bytes (row_of s a pipes) ++ rest) → at ≡ length pre → row_of w at pipes ≡ row_of s a pipes
  row_same pre rest w at a pipes e l = go (eqb pipes 0) e
    where
      go : (t : Bool) → w ≡ pre ++ (row_bytes (cond t (interface_row s a) (pipe_row s a pipes)) ++ rest) → cond t (interface_row w at) (pipe_row w at pipes) ≡ cond t (interface_row s a) (pipe_row s a pipes)
      go true e =
          let q = three pre (word_at s a) (half_at s (a + 4)) (word_at s (a + 8)) rest w at e l (word_below a) (half_below (a + 4)) (word_below (a + 8)) in
          let x : half_at w (at + 4) ≡ half_at s (a + 4) = q.1.1 ∙ low_half (byte_at s (a + 4)) (byte_at s (a + 4 + 1)) (bytes (a + 4)) (bytes (a + 4 + 1)) in
          rw (q.0.0, x, q.2.0)
      go false e =
          let q = three pre (half_at s a) (word_at s (a + 4)) (word_at s (a + 8)) rest w at e l (half_below a) (word_below (a + 4)) (word_below (a + 8)) in
          let x : half_at w at ≡ half_at s a = q.0.1 ∙ low_half (byte_at s a) (byte_at s (a + 1)) (bytes a) (bytes (a + 1)) in
          rw (x, q.1.0, q.2.0)

  rows_same : (n : ℕ) (pre rest w : List ℕ) (at a pipes : ℕ) → w ≡ pre ++ (rows_from s n pipes a ++ rest) → at ≡ length pre → rows_from w n pipes at ≡ rows_from s n pipes a
  unfolding rows_from
  rows_same zero pre rest w at a pipes e l = refl
  rows_same (suc n) pre rest w at a pipes e l =
      let q = row_same pre (rows_from s n (row_of s a pipes).pipes (a + 12) ++ rest) w at a pipes (e ∙ ap (λ z. pre ++ z) (append_assoc (row_bytes (row_of s a pipes)) (rows_from s n (row_of s a pipes).pipes (a + 12)) rest)) l in
      pair _ _ _ _ (ap row_bytes q) (ap (λ r. rows_from w n r.pipes (at + 12)) q ∙
      rows_same n (pre ++ row_bytes (row_of s a pipes)) rest w (at + 12) (a + 12) (row_of s a pipes).pipes (e ∙ (ap (λ z. pre ++ z) (append_assoc (row_bytes (row_of s a pipes)) (rows_from s n (row_of s a pipes).pipes (a + 12)) rest) ∙ sym (append_assoc pre (row_bytes (row_of s a pipes)) (rows_from s n (row_of s a pipes).pipes (a + 12) ++ rest)))) (rw (length-append, l)))

stands : (pre s rest w : List ℕ) (at : ℕ) (p : Piece) → Bytes s → w ≡ pre ++ (bytes_of s p ++ rest) → at ≡ length pre → length (bytes_of s p) ≡ size_of p → Stands w s at p
stands pre s rest w at Nothing b e l h = tt
stands pre s rest w at (Word n) b e l h = λ k. word_behind pre n rest w at e l k
stands pre s rest w at (Run p) b e l h = cut_behind pre (cut s p) rest w at p.size e l (sym h)
stands pre s rest w at (Interfaces p) b e l h = (rows_same s b (p.size / 12) pre rest w at p.start 0 e l, rows_stand s b (p.size / 12) pre rest w at p.start 0 e l)

-- the pieces of a message, whose parts lie in the lent bytes, stand in it one behind the other
places_behind : (pre s w : List ℕ) (at sum m : ℕ) (ps : List Piece) → Bytes s → w ≡ pre ++ encode s ps → at ≡ length pre → total_from (length s) sum ps ≡ Some m → Places w s at ps
unfolding encode
places_behind pre s w at sum m [] b e l t = rw (e, append-nil) (sym l)
places_behind pre s w at sum m (p ∷ ps) b e l t =
    let q = total_first (length s) sum p ps m t in
    let n = piece_length s p q.0 in (
      stands pre s (encode s ps) w at p b e l n,
      places_behind (pre ++ bytes_of s p) s w (at + size_of p) (sum + size_of p) m ps b (e ∙ sym (append_assoc pre (bytes_of s p) (encode s ps))) (rw (length-append, n, l)) q.2,
    )

pub places : (s : List ℕ) (ps : List Piece) (m : ℕ) → Bytes s → total_from (length s) 0 ps ≡ Some m → Places (encode s ps) s 0 ps
places s ps m b t = places_behind [] s (encode s ps) 0 0 m ps b refl refl t

-- pieces that fit make up at most 65,535 bytes
total_below : (n sum m : ℕ) (ps : List Piece) → sum ≤ 65535 → total_from n sum ps ≡ Some m → m ≤ 65535
unfolding total_from
total_below n sum m [] h t = let e : sum ≡ m = cc in omega arith
total_below n sum m (p ∷ ps) h t = let q = total_first n sum p ps m t in total_below n (sum + size_of p) m ps (omega (arith, q.1)) q.2

pub fits-length : (s : List ℕ) (ps : List Piece) (m : ℕ) → total_from (length s) 0 ps ≡ Some m → length (encode s ps) ≤ 65535
fits-length s ps m t = omega (arith, encode-length s ps 0 m t, total_below (length s) 0 m ps (omega arith) t)

-- what is written is bytes
bytes-append : (xs ys : List ℕ) → Bytes xs → Bytes ys → Bytes (xs ++ ys)
bytes-append [] ys bx by i = by i
bytes-append (x ∷ xs) ys bx by zero = bx zero
bytes-append (x ∷ xs) ys bx by (suc i) = bytes-append xs ys (λ j. bx (suc j)) by i

none : (i : ℕ) → byte_at [] i < 256
none i = omega arith

below_256 : (n : ℕ) → n % 256 < 256
below_256 n = omega arith

word_is_bytes : (n : ℕ) → Bytes (word_bytes n)
word_is_bytes n zero = below_256 n
word_is_bytes n (suc zero) = below_256 (n / 256)
word_is_bytes n (suc (suc zero)) = below_256 (n / 65536)
word_is_bytes n (suc (suc (suc zero))) = below_256 (n / 16777216)
word_is_bytes n (suc (suc (suc (suc i)))) = omega arith

rows_are_bytes : (s : List ℕ) (n pipes at : ℕ) → Bytes (rows_from s n pipes at)
unfolding rows_from
rows_are_bytes s zero pipes at = λ i. none i
rows_are_bytes s (suc n) pipes at =
    let r = row_of s at pipes in
    bytes-append (row_bytes r) (rows_from s n r.pipes (at + 12)) (bytes-append (word_bytes r.first) (word_bytes r.second ++ word_bytes r.third) (word_is_bytes r.first) (bytes-append (word_bytes r.second) (word_bytes r.third) (word_is_bytes r.second) (word_is_bytes r.third))) (rows_are_bytes s n r.pipes (at + 12))

take-bytes : (n : ℕ) (xs : List ℕ) → Bytes xs → Bytes (take n xs)
take-bytes zero xs b i = omega arith
take-bytes (suc n) [] b i = b i
take-bytes (suc n) (x ∷ xs) b zero = b zero
take-bytes (suc n) (x ∷ xs) b (suc i) = take-bytes n xs (λ j. b (suc j)) i

cut_is_bytes : (s : List ℕ) (p : Part) → Bytes s → Bytes (cut s p)
cut_is_bytes s p b = take-bytes p.size (drop p.start s) (λ i. subst (λ x. x < 256) (sym (get_or-drop p.start s i 0)) (b (p.start + i)))

piece_is_bytes : (s : List ℕ) → Bytes s → (p : Piece) → Bytes (bytes_of s p)
piece_is_bytes s b Nothing = λ i. none i
piece_is_bytes s b (Word n) = word_is_bytes n
piece_is_bytes s b (Run p) = cut_is_bytes s p b
piece_is_bytes s b (Interfaces p) = rows_are_bytes s (p.size / 12) 0 p.start

pub encode_is_bytes : (s : List ℕ) → Bytes s → (ps : List Piece) → Bytes (encode s ps)
unfolding encode
encode_is_bytes s b [] = λ i. none i
encode_is_bytes s b (p ∷ ps) = bytes-append (bytes_of s p) (encode s ps) (piece_is_bytes s b p) (encode_is_bytes s b ps)
