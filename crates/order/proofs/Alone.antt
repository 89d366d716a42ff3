-- A channel sees its own calls alone: what they give, and its state at the end, are those of a run of its own calls with their numbers.
use mathlib.Core.Path.{◌≡◌, refl, sym}
use mathlib.Core.Bool.{Bool, true, false}
use mathlib.Core.List.{List, [], ◌∷◌, map}
use Prim.Native.Nat.{ℕ, suc, ◌≤◌, ◌<◌}
use lib.Dec.{eqb, ltb}
use borrow.Author.Tests.{eqb-true, eqb-false, ltb-true, ltb-false}
use lib.ListN.{length, get_or, set, get_or-eq_default}
use lib.Seq.{get_or-set_same, get_or-set_other, set_out}
use Rattle.order.specs.Machine.{Machine, Tagged, Given, calls, ends, given_on, gives, numbers, ren_g}

module _ (M : Machine) where
  -- one channel alone, its calls and their numbers given
  abbrev pub own : ℕ → M.State → List ℕ → List M.Call → List (Given M.Out)
  own d s [] cs = []
  own d s (n ∷ ns) [] = []
  own d s (n ∷ ns) (c ∷ cs) = record { number = n; chan = d; out = (M.step n s c).0 } ∷ own d (M.step n s c).1 ns cs

  abbrev pub own_state : M.State → List ℕ → List M.Call → M.State
  own_state s [] cs = s
  own_state s (n ∷ ns) [] = s
  own_state s (n ∷ ns) (c ∷ cs) = own_state (M.step n s c).1 ns cs

  -- a call on a channel puts its new state there, also where there is no channel
  own_step : (n : ℕ) (t : List M.State) (d : ℕ) (c : M.Call)
      → get_or (set t d (M.step n (get_or t d M.outside) c).1) d M.outside ≡ (M.step n (get_or t d M.outside) c).1
  own_step n t d c = go (ltb d (length t)) (λ e. ltb-true d (length t) e) (λ e. ltb-false d (length t) e)
    where
      go : (b : Bool) → (b ≡ true → d < length t) → (b ≡ false → length t ≤ d)
          → get_or (set t d (M.step n (get_or t d M.outside) c).1) d M.outside ≡ (M.step n (get_or t d M.outside) c).1
      go true p q = get_or-set_same t d (M.step n (get_or t d M.outside) c).1 M.outside (p refl)
      go false p q =
          let e : get_or t d M.outside ≡ M.outside = get_or-eq_default t M.outside (q refl) in
          cc (set_out t d (M.step n (get_or t d M.outside) c).1 (q refl), e, M.outside_stays n c)

  own_step_as : (n : ℕ) (t : List M.State) (c d : ℕ) (x : M.Call) → eqb c d ≡ true
      → get_or (set t c (M.step n (get_or t c M.outside) x).1) d M.outside ≡ (M.step n (get_or t d M.outside) x).1
  own_step_as n t c d x e = rw (eqb-true c d e) (own_step n t d x)

  other_step : (t : List M.State) (c d : ℕ) (s : M.State) → eqb c d ≡ false → get_or (set t c s) d M.outside ≡ get_or t d M.outside
  other_step t c d s e = get_or-set_other t c d s M.outside (λ p. eqb-false c d e (sym p))

  pub record Alone (d n : ℕ) (t : List M.State) (xs : List (Tagged M.Call)) : Type 0 where
    pub given : given_on d (gives M n t xs) ≡ own d (get_or t d M.outside) (numbers d n xs) (calls d xs)
    pub state : get_or (ends M n t xs) d M.outside ≡ own_state (get_or t d M.outside) (numbers d n xs) (calls d xs)

  pub alone : (d n : ℕ) (t : List M.State) (xs : List (Tagged M.Call)) → Alone d n t xs
  alone d n t [] = record { given = refl; state = refl }
  alone d n t (x ∷ xs) = go (eqb x.chan d) refl (alone d (suc n) t' xs)
    where
      s' : M.State
      s' = (M.step n (get_or t x.chan M.outside) x.call).1

      t' : List M.State
      t' = set t x.chan s'

      go : (b : Bool) → eqb x.chan d ≡ b → Alone d (suc n) t' xs → Alone d n t (x ∷ xs)
      go true e ih = record {
        given = cc (eqb-true x.chan d e, own_step_as n t x.chan d x.call e);
        state = cc (own_step_as n t x.chan d x.call e);
      }
      go false e ih = record { given = cc (other_step t x.chan d s' e); state = cc (other_step t x.chan d s' e) }

  -- the machine's law, along a run
  pub own_law : (f : ℕ → ℕ) → f 0 ≡ 0 → (d : ℕ) (s : M.State) (ns : List ℕ) (cs : List M.Call)
      → own d (M.ren_s f s) (map f ns) cs ≡ map (ren_g M f) (own d s ns cs)
  own_law f z d s [] cs = refl
  own_law f z d s (n ∷ ns) [] = refl
  own_law f z d s (n ∷ ns) (c ∷ cs) = cc (M.law f z n s c, own_law f z d (M.step n s c).1 ns cs)

  pub own_state_law : (f : ℕ → ℕ) → f 0 ≡ 0 → (s : M.State) (ns : List ℕ) (cs : List M.Call)
      → own_state (M.ren_s f s) (map f ns) cs ≡ M.ren_s f (own_state s ns cs)
  own_state_law f z s [] cs = refl
  own_state_law f z s (n ∷ ns) [] = refl
  own_state_law f z s (n ∷ ns) (c ∷ cs) = cc (M.law f z n s c, own_state_law f z (M.step n s c).1 ns cs)
