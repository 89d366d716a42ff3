-- What a search of the rows tells of them.
use Rattle.std.specs.Prelude.{Some, None}
use Prim.Native.Nat.{ℕ, zero, suc, ◌+◌}
use native.Mathlib.Omega.{arith}
use mathlib.Core.Path.{◌≡◌, refl}
use mathlib.Core.List.{List, [], ◌∷◌}
use mathlib.Core.Bool.{Bool, true, false, cond}
use lib.ListN.{get_or}
use Rattle.channel.specs.Rows.{free_row}
use Rattle.rows.specs.Search.{first_from}
use Rattle.channel.specs.declared.row.Row.{Row}

found_at : (k j : ℕ) → Some k ≡ Some j → k ≡ j
found_at k j e = cc

-- nothing found: the test holds of no row
pub first_nowhere : (p : Row → Bool) (rs : List Row) (k : ℕ) → p free_row ≡ false → first_from p rs k ≡ None → (i : ℕ) → p (get_or rs i free_row) ≡ false
unfolding first_from
first_nowhere p [] k f e zero = f
first_nowhere p [] k f e (suc i) = f
first_nowhere p (r ∷ rs) k f e i = go (p r) refl (first_nowhere p rs (k + 1) f) e i
  where
    go : (b : Bool) → p r ≡ b → (first_from p rs (k + 1) ≡ None → (i : ℕ) → p (get_or rs i free_row) ≡ false)
        → cond b (Some k) (first_from p rs (k + 1)) ≡ None → (i : ℕ) → p (get_or (r ∷ rs) i free_row) ≡ false
    go true t ih e i = let z : ◌≡◌ {A = ℕ} 0 1 = cc in absurd (omega arith)
    go false t ih e zero = t
    go false t ih e (suc i) = ih e i

-- found at a place: it holds of the row there
pub first_there : (p : Row → Bool) (rs : List Row) (k j : ℕ) → first_from p rs k ≡ Some j → (i : ℕ) × ((j ≡ k + i) × (p (get_or rs i free_row) ≡ true))
unfolding first_from
first_there p [] k j e = let z : ◌≡◌ {A = ℕ} 0 1 = cc in absurd (omega arith)
first_there p (r ∷ rs) k j e = go (p r) refl (first_there p rs (k + 1) j) e
  where
    go : (b : Bool) → p r ≡ b → (first_from p rs (k + 1) ≡ Some j → (i : ℕ) × ((j ≡ (k + 1) + i) × (p (get_or rs i free_row) ≡ true)))
        → cond b (Some k) (first_from p rs (k + 1)) ≡ Some j → (i : ℕ) × ((j ≡ k + i) × (p (get_or (r ∷ rs) i free_row) ≡ true))
    go true t ih e = (0, (let q = found_at k j e in omega arith, t))
    go false t ih e = let (i, h) = ih e in (suc i, (let q = h.0 in omega arith, h.1))
