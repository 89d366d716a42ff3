-- A walk over rows, one step at a time, of any table; and what the table of the capabilities is, as far as code goes by it.
use Prim.Native.Nat.{ℕ, zero, suc, ◌+◌, ◌<◌, ◌≤◌}
use native.Mathlib.Omega.{arith}
use native.Mathlib.Numerals.{add-one}
use mathlib.Core.Path.{◌≡◌, refl}
use mathlib.Core.List.{List, [], ◌∷◌}
use mathlib.Core.Bool.{Bool, true, false, ◌&&◌}
use lib.Dec.{leb}
use borrow.Author.Tests.{leb-true}
use lib.ListN.{length, get_or, drop, drop_of_length-le}
use lib.Seq.{drop-cons}
use Rattle.words.specs.Words.{word_at}
use Rattle.device.specs.DeviceCapabilities.{no_row, capability_rows, offset_at, among, rows_allow}
use Rattle.device.specs.declared.device_capabilities.Row.{Row}

-- a walk that has come to row k, where the rows from there on say w, which is what all of them say. b is a test of the row
module _ (v : Row → ℕ) (rs : List Row) (k : ℕ) (w : Bool) (inv : rows_allow v (drop k rs) ≡ w) where
  pub row_refuses : (b : Bool) → b ≡ among (get_or rs k no_row).2 (v (get_or rs k no_row)) → b ≡ false → k < length rs → false ≡ w
  row_refuses b e t h = rw (← inv, drop-cons rs k no_row h, ← e, t)

  pub row_passes : (b : Bool) → b ≡ among (get_or rs k no_row).2 (v (get_or rs k no_row)) → b ≡ true → k < length rs → rows_allow v (drop (k + 1) rs) ≡ w
  row_passes b e t h = rw (← inv, drop-cons rs k no_row h, ← e, t, add-one)

  pub rows_passed : length rs ≤ k → true ≡ w
  rows_passed h = rw (← inv, drop_of_length-le rs h)

-- no row of a table starts behind byte n, where a test of all of them says so
abbrev starts_by : ℕ → List Row → Bool
starts_by n [] = true
starts_by n (r ∷ rs) = leb r.0 n && starts_by n rs

starts_by_lem : (n : ℕ) (rs : List Row) → starts_by n rs ≡ true → (k : ℕ) → (get_or rs k no_row).0 ≤ n
starts_by_lem n [] t k = omega arith
starts_by_lem n (r ∷ rs) t k = go (leb r.0 n) (leb-true r.0 n) t k (starts_by_lem n rs)
  where
    go : (b : Bool) → (b ≡ true → r.0 ≤ n) → b && starts_by n rs ≡ true → (k : ℕ) → (starts_by n rs ≡ true → (k : ℕ) → (get_or rs k no_row).0 ≤ n) → (get_or (r ∷ rs) k no_row).0 ≤ n
    go true f t zero ih = f refl
    go true f t (suc k) ih = ih t k
    go false f t k ih = let z : ◌≡◌ {A = ℕ} 0 1 = cc in absurd (omega arith)

pub offset_bound : (k : ℕ) → offset_at k ≤ 24
unfolding capability_rows
offset_bound k = starts_by_lem 24 capability_rows refl k

-- the word at the offset of row k, by the place where that is
pub word_at_lem : (m : List ℕ) (at k place w : ℕ) → at + offset_at k ≡ place → w ≡ word_at m (at + offset_at k) → w ≡ word_at m place
word_at_lem m at k place w p q = rw (← p) q
