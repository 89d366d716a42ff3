-- What a list that something was put into, or that has one thing many times, reads as.
use Prim.Native.Nat.{ℕ, zero, suc}
use mathlib.Core.Path.{◌≡◌, refl, ap}
use mathlib.Core.Logic.{◌⊎◌, inl, inr}
use mathlib.Core.List.{List, [], ◌∷◌}
use lib.ListN.{get_or, set, replicate}

-- what is read of a list where another element was put at a place: that element there, and elsewhere what was read before
pub set_read : {A : Type 0} (l : List A) (i : ℕ) (x : A) (j : ℕ) (d : A) → (get_or (set l i x) j d ≡ get_or l j d) ⊎ ((i ≡ j) × (get_or (set l i x) j d ≡ x))
set_read [] i x j d = inl refl
set_read (a ∷ l) zero x zero d = inr (refl, refl)
set_read (a ∷ l) zero x (suc j) d = inl refl
set_read (a ∷ l) (suc i) x zero d = inl refl
set_read (a ∷ l) (suc i) x (suc j) d = next (set_read l i x j d)
  where
    next : (get_or (set l i x) j d ≡ get_or l j d) ⊎ ((i ≡ j) × (get_or (set l i x) j d ≡ x))
        → (get_or (set l i x) j d ≡ get_or l j d) ⊎ ((suc i ≡ suc j) × (get_or (set l i x) j d ≡ x))
    next (inl e) = inl e
    next (inr e) = inr (ap suc e.0, e.1)

-- a list of one element many times has it everywhere
pub all_alike : {A : Type 0} (n : ℕ) (x : A) (i : ℕ) → get_or (replicate n x) i x ≡ x
all_alike zero x zero = refl
all_alike zero x (suc i) = refl
all_alike (suc n) x zero = refl
all_alike (suc n) x (suc i) = all_alike n x i
