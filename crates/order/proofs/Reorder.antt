-- Reordering the calls of a run, each channel's order kept, changes numbers and nothing else.
use native.Mathlib.Omega.{arith}
use mathlib.Core.Path.{◌≡◌, refl, sym, ap, subst, ◌∙◌}
use mathlib.Core.Bool.{Bool, true, false, cond, true≢false}
use mathlib.Core.Logic.{◌≢◌}
use mathlib.Core.List.{List, [], ◌∷◌, ◌++◌, map}
use Prim.Native.Nat.{ℕ, zero, suc, ◌≤◌}
use lib.Dec.{eqb}
use borrow.Author.Tests.{eq-eqb, eqb-false, eqb-true, ne_eqb}
use lib.ListN.{length, get_or, length-set, length-map, replicate, get_or-map}
use lib.Seq.{ext_get_or}
use Rattle.order.specs.Machine.{Machine, Tagged, calls, ends, given_on, gives, keep, numbers, ren_g}
use Rattle.order.specs.Reorder.{Reordered, Renumbers, SameUnder}
use Rattle.order.proofs.Alone.{alone, own_law, own_state_law}
use Rattle.order.proofs.Renumber.{renumbering}

module _ (M : Machine) where
  length-ends : (n : ℕ) (t : List M.State) (xs : List (Tagged M.Call)) → length (ends M n t xs) ≡ length t
  length-ends n t [] = refl
  length-ends n t (x ∷ xs) = length-ends (suc n) _ xs ∙ simp length-set

  -- what stands at a place of a new table: a new channel, or none; either is its own renumbering
  new_at : (f : ℕ → ℕ) → f 0 ≡ 0 → (m d : ℕ) → M.ren_s f (get_or (replicate m M.new) d M.outside) ≡ get_or (replicate m M.new) d M.outside
  new_at f z zero zero = M.outside_law f
  new_at f z zero (suc d) = M.outside_law f
  new_at f z (suc m) zero = M.new_law f z
  new_at f z (suc m) (suc d) = new_at f z m d

  module _ (m k : ℕ) (xs ys : List (Tagged M.Call)) (same : Reordered xs ys) (f : ℕ → ℕ) (ren : Renumbers k xs ys f) where
    given_same : (d : ℕ) → given_on d (gives M k (replicate m M.new) ys) ≡ map (ren_g M f) (given_on d (gives M k (replicate m M.new) xs))
    given_same d =
        cc (
          (alone M d k (replicate m M.new) xs).given,
          (alone M d k (replicate m M.new) ys).given,
          own_law M f ren.none d (get_or (replicate m M.new) d M.outside) (numbers d k xs) (calls d xs),
          new_at f ren.none m d,
          ren.takes d,
          same d,
        )

    state_same : (d : ℕ) → get_or (ends M k (replicate m M.new) ys) d M.outside ≡ M.ren_s f (get_or (ends M k (replicate m M.new) xs) d M.outside)
    state_same d =
        cc (
          (alone M d k (replicate m M.new) xs).state,
          (alone M d k (replicate m M.new) ys).state,
          own_state_law M f ren.none (get_or (replicate m M.new) d M.outside) (numbers d k xs) (calls d xs),
          new_at f ren.none m d,
          ren.takes d,
          same d,
        )

    table_same : ends M k (replicate m M.new) ys ≡ map (M.ren_s f) (ends M k (replicate m M.new) xs)
    table_same =
        ext_get_or M.outside (ends M k (replicate m M.new) ys) (map (M.ren_s f) (ends M k (replicate m M.new) xs))
        (simp (length-map, length-ends))
        (λ d l. cc (state_same d, get_or-map (M.ren_s f) (ends M k (replicate m M.new) xs) d M.outside, M.outside_law f))

nil_cons : {C : Type 0} {c : C} {cs : List C} → ◌≡◌ {A = List C} [] (c ∷ cs) → ⊥
nil_cons e = let z : ◌≡◌ {A = ℕ} 0 (suc _) = ap length e in absurd (omega arith)

as_many : {C : Type 0} (xs ys : List (Tagged C)) → Reordered xs ys → (d : ℕ) → length (calls d xs) ≡ length (calls d ys)
as_many xs ys same d = ap length (same d)

-- There is one renumbering under which what the calls of every channel give, and the table at the end, are those of the other run.
pub reorder : (M : Machine) (m k : ℕ) (xs ys : List (Tagged M.Call)) → 1 ≤ k → Reordered xs ys → (f : ℕ → ℕ) × SameUnder M m k xs ys f
reorder M m k xs ys h same =
    let (f, ren) = renumbering k xs ys h (as_many xs ys same) in
    (f, record { renumbers = ren; given = given_same M m k xs ys same f ren; table = table_same M m k xs ys same f ren })

-- 'Reordered' is neither too strong nor too weak: two neighbours on different channels may change places, wherever they stand,
front : {C : Type 0} (x y : Tagged C) (xs : List (Tagged C)) → x.chan ≢ y.chan → Reordered (x ∷ y ∷ xs) (y ∷ x ∷ xs)
front x y xs ne d = go (eqb x.chan d) (eqb y.chan d) refl refl
  where
    go : (a b : Bool) → eqb x.chan d ≡ a → eqb y.chan d ≡ b
        → keep a x.call (keep b y.call (calls d xs)) ≡ keep b y.call (keep a x.call (calls d xs))
    go true true p q = absurd (ne (eqb-true x.chan d p ∙ sym (eqb-true y.chan d q)))
    go true false p q = refl
    go false true p q = refl
    go false false p q = refl

pub neighbours : {C : Type 0} (ws : List (Tagged C)) (x y : Tagged C) (xs : List (Tagged C)) → x.chan ≢ y.chan → Reordered (ws ++ (x ∷ y ∷ xs)) (ws ++ (y ∷ x ∷ xs))
neighbours [] x y xs ne d = front x y xs ne d
neighbours (w ∷ ws) x y xs ne d = ap (keep (eqb w.chan d) w.call) (neighbours ws x y xs ne d)

-- what is behind the same calls is reordered where the whole is
behind : {C : Type 0} (d : ℕ) (ws xs ys : List (Tagged C)) → calls d (ws ++ xs) ≡ calls d (ws ++ ys) → calls d xs ≡ calls d ys
behind d [] xs ys e = e
behind {C = C} d (w ∷ ws) xs ys e = behind d ws xs ys (go (eqb w.chan d) e)
  where
    tail : List C → List C
    tail [] = []
    tail (c ∷ cs) = cs

    go : (a : Bool) → keep a w.call (calls d (ws ++ xs)) ≡ keep a w.call (calls d (ws ++ ys)) → calls d (ws ++ xs) ≡ calls d (ws ++ ys)
    go true h = ap tail h
    go false h = h

-- and two unequal calls of one channel may not.
pub own_order : {C : Type 0} (ws : List (Tagged C)) (x y : Tagged C) (xs : List (Tagged C)) → x.chan ≡ y.chan → Reordered (ws ++ (x ∷ y ∷ xs)) (ws ++ (y ∷ x ∷ xs)) → x.call ≡ y.call
own_order {C = C} ws x y xs e same =
    go (eqb x.chan x.chan) (eqb y.chan x.chan) (eq-eqb x.chan x.chan refl) (eq-eqb y.chan x.chan (sym e)) (behind x.chan ws (x ∷ y ∷ xs) (y ∷ x ∷ xs) (same x.chan))
  where
    head : List C → C
    head [] = x.call
    head (c ∷ cs) = c

    go : (a b : Bool) → a ≡ true → b ≡ true → keep a x.call (keep b y.call (calls x.chan xs)) ≡ keep b y.call (keep a x.call (calls x.chan xs)) → x.call ≡ y.call
    go true true p q h = ap head h
    go true false p q h = absurd (true≢false (sym q))
    go false b p q h = absurd (true≢false (sym p))

-- the calls without the first one of channel d
without : {C : Type 0} → ℕ → List (Tagged C) → List (Tagged C)
without d [] = []
without d (x ∷ xs) = cond (eqb x.chan d) xs (x ∷ without d xs)

-- which leaves the calls of every other channel,
others : {C : Type 0} (d e : ℕ) (xs : List (Tagged C)) → d ≢ e → calls e (without d xs) ≡ calls e xs
unfolding without
others d e [] ne = refl
others d e (x ∷ xs) ne = go (eqb x.chan d) refl (others d e xs ne)
  where
    go : (a : Bool) → eqb x.chan d ≡ a → calls e (without d xs) ≡ calls e xs → calls e (cond a xs (x ∷ without d xs)) ≡ keep (eqb x.chan e) x.call (calls e xs)
    go true p h = rw (ne_eqb x.chan e (λ q. ne (sym (eqb-true x.chan d p) ∙ q)))
    go false p h = ap (keep (eqb x.chan e) x.call) h

-- and of its own all but the first, by one call shorter
own : {C : Type 0} (d : ℕ) (c : C) (cs : List C) (xs : List (Tagged C)) → calls d xs ≡ c ∷ cs → (calls d (without d xs) ≡ cs) × (length xs ≡ suc (length (without d xs)))
unfolding without
own d c cs [] e = absurd (nil_cons e)
own {C = C} d c cs (x ∷ xs) e = go (eqb x.chan d) refl e (λ h. own d c cs xs h)
  where
    tail : List C → List C
    tail [] = []
    tail (b ∷ bs) = bs

    go : (a : Bool) → eqb x.chan d ≡ a → keep a x.call (calls d xs) ≡ c ∷ cs
        → (calls d xs ≡ c ∷ cs → (calls d (without d xs) ≡ cs) × (length xs ≡ suc (length (without d xs))))
        → (calls d (cond a xs (x ∷ without d xs)) ≡ cs) × (length (x ∷ xs) ≡ suc (length (cond a xs (x ∷ without d xs))))
    go true p h f = (ap tail h, refl)
    go false p h f = let (q, l) = f h in (rw p q, ap suc l)

-- Two orders of one set of calls have as many calls.
pub same_length : {C : Type 0} (xs ys : List (Tagged C)) → Reordered xs ys → length xs ≡ length ys
same_length [] [] same = refl
same_length [] (y ∷ ys) same =
    let h : calls y.chan (y ∷ ys) ≡ y.call ∷ calls y.chan ys = rw (eq-eqb y.chan y.chan refl) in absurd (nil_cons (same y.chan ∙ h))
same_length {C = C} (x ∷ xs) ys same = ap suc (same_length xs (without x.chan ys) (λ d. go d (eqb x.chan d) refl)) ∙ sym first.1
  where
    here : calls x.chan ys ≡ x.call ∷ calls x.chan xs
    here = sym (same x.chan) ∙ rw (eq-eqb x.chan x.chan refl)

    first : (calls x.chan (without x.chan ys) ≡ calls x.chan xs) × (length ys ≡ suc (length (without x.chan ys)))
    first = own x.chan x.call (calls x.chan xs) ys here

    rest : (d : ℕ) → eqb x.chan d ≡ false → calls d xs ≡ calls d ys
    rest d p = subst (λ (a : Bool). keep a x.call (calls d xs) ≡ calls d ys) p (same d)

    go : (d : ℕ) (a : Bool) → eqb x.chan d ≡ a → calls d xs ≡ calls d (without x.chan ys)
    go d true p = subst (λ e. calls e xs ≡ calls e (without x.chan ys)) (eqb-true x.chan d p) (sym first.0)
    go d false p = rest d p ∙ sym (others x.chan d ys (eqb-false x.chan d p))
