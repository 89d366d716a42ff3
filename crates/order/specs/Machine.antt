-- A channel's machine, and a table of such channels.
use Rattle.std.specs.Prelude.{ℕ, suc, ◌≡◌, Bool, true, false, List, [], ◌∷◌, eqb, get_or, set}

-- A state and an answer may hold journal numbers: `ren_s f` and `ren_o f` put f n for each number n in them. `step` is a call on a channel in a state, and gets
-- the call's own journal number. `new` is a channel of a new table. `outside` is what stands where there is no channel; calls leave it as it is.
-- The one law that counts is `law`: the machine stores numbers and hands them back, and does nothing else with them.
pub record Machine : Type 1 where
  pub State : Type 0
  pub Call : Type 0
  pub Out : Type 0
  pub new : State
  pub outside : State
  pub step : ℕ → State → Call → Out × State
  pub ren_s : (ℕ → ℕ) → State → State
  pub ren_o : (ℕ → ℕ) → Out → Out
  pub new_law : (f : ℕ → ℕ) → f 0 ≡ 0 → ren_s f new ≡ new
  pub outside_law : (f : ℕ → ℕ) → ren_s f outside ≡ outside
  pub outside_stays : (n : ℕ) (c : Call) → (step n outside c).1 ≡ outside
  pub law : (f : ℕ → ℕ) → f 0 ≡ 0 → (n : ℕ) (s : State) (c : Call) → step (f n) (ren_s f s) c ≡ (ren_o f (step n s c).0, ren_s f (step n s c).1)

-- a call with its channel; and what a call gave: its journal number, its channel, and what the channel answered
pub record Tagged (C : Type 0) : Type 0 where
  pub chan : ℕ
  pub call : C

pub record Given (O : Type 0) : Type 0 where
  pub number : ℕ
  pub chan : ℕ
  pub out : O

module _ (M : Machine) where
  -- a run of calls on a table; the first call has the number n
  abbrev pub gives : ℕ → List M.State → List (Tagged M.Call) → List (Given M.Out)
  gives n t [] = []
  gives n t (x ∷ xs) =
      let r = M.step n (get_or t x.chan M.outside) x.call in
      record { number = n; chan = x.chan; out = r.0 } ∷ gives (suc n) (set t x.chan r.1) xs

  abbrev pub ends : ℕ → List M.State → List (Tagged M.Call) → List M.State
  ends n t [] = t
  ends n t (x ∷ xs) = ends (suc n) (set t x.chan (M.step n (get_or t x.chan M.outside) x.call).1) xs

  -- every number in it sent through f
  abbrev pub ren_g : (ℕ → ℕ) → Given M.Out → Given M.Out
  ren_g f e = record { number = f e.number; chan = e.chan; out = M.ren_o f e.out }

-- of a list only what a test keeps
abbrev pub keep : {A : Type 0} → Bool → A → List A → List A
keep true a l = a ∷ l
keep false a l = l

-- the calls of channel d, in their order; the numbers that they are given, where the first call has the number n; what they gave
abbrev pub calls : {C : Type 0} → ℕ → List (Tagged C) → List C
calls d [] = []
calls d (x ∷ xs) = keep (eqb x.chan d) x.call (calls d xs)

abbrev pub numbers : {C : Type 0} → ℕ → ℕ → List (Tagged C) → List ℕ
numbers d n [] = []
numbers d n (x ∷ xs) = keep (eqb x.chan d) n (numbers d (suc n) xs)

abbrev pub given_on : {O : Type 0} → ℕ → List (Given O) → List (Given O)
given_on d [] = []
given_on d (e ∷ es) = keep (eqb e.chan d) e (given_on d es)
