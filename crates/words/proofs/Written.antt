-- Bytes that are written into a buffer, in one piece or in two, and over its start.
use Prim.Native.Nat.{ℕ, suc, ◌+◌, ◌≤◌}
use native.Mathlib.Omega.{arith}
use mathlib.Core.Path.{◌≡◌, refl, ap, ◌∙◌}
use mathlib.Core.List.{List, [], ◌∷◌, ◌++◌}
use lib.ListN.{length, drop, set, length-append, length-set}
use lib.Seq.{append_snoc, set-append_seam}
use Rattle.words.specs.Written.{written}

pub written_twice : (buf : List ℕ) (at : ℕ) (xs ys : List ℕ) → written buf at (xs ++ ys) ≡ written (written buf at xs) (at + length xs) ys
unfolding written
written_twice buf at [] ys = ap (λ n. written buf n ys) (omega arith)
written_twice buf at (x ∷ xs) ys =
    let e : (at + 1) + length xs ≡ at + suc (length xs) = omega arith in
    written_twice (set buf at x) (at + 1) xs ys ∙ ap (λ n. written (written (set buf at x) (at + 1) xs) n ys) e

pub length-written : (buf : List ℕ) (at : ℕ) (xs : List ℕ) → length (written buf at xs) ≡ length buf
unfolding written
length-written buf at [] = refl
length-written buf at (x ∷ xs) = length-written (set buf at x) (at + 1) xs ∙ rw length-set

-- a turn of a loop that writes: what is left, behind the bytes that it wrote
pub written_on : (buf mid : List ℕ) (at end : ℕ) (xs ys : List ℕ) → end ≡ at + length xs → mid ≡ written buf at xs → written mid end ys ≡ written buf at (xs ++ ys)
written_on buf mid at end xs ys e m = rw (written_twice, ← m, ← e)

-- bytes written one by one
pub written_four : (buf : List ℕ) (at a b c d : ℕ) → set (set (set (set buf at a) (at + 1) b) (at + 2) c) (at + 3) d ≡ written buf at (a ∷ b ∷ c ∷ d ∷ [])
unfolding written
written_four buf at a b c d =
    let two : at + 1 + 1 ≡ at + 2 = omega arith in
    let three : at + 2 + 1 ≡ at + 3 = omega arith in
    rw (two, three)

-- bytes behind a start that stays, and what stands behind them
pub written_behind : (pre rest bs : List ℕ) → length bs ≤ length rest → written (pre ++ rest) (length pre) bs ≡ pre ++ (bs ++ drop (length bs) rest)
unfolding written
written_behind pre rest [] h = refl
written_behind pre [] (b ∷ bs) h = absurd (omega arith)
written_behind pre (r ∷ rest) (b ∷ bs) h =
    let one : length (pre ++ (b ∷ [])) ≡ length pre + 1 = rw length-append in
    let next : written (pre ++ (b ∷ []) ++ rest) (length pre + 1) bs ≡ pre ++ (b ∷ []) ++ (bs ++ drop (length bs) rest) = rw one at (written_behind (pre ++ (b ∷ [])) rest bs (omega arith)) in
    rw (set-append_seam pre r rest b, ← (append_snoc pre b rest), next) (append_snoc pre b _)

-- a message over the start of a buffer: its bytes, and behind them what was there
pub written_whole : (buf bs : List ℕ) → length bs ≤ length buf → written buf 0 bs ≡ bs ++ drop (length bs) buf
written_whole buf bs h = written_behind [] buf bs h
