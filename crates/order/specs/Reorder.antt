-- Two orders of one set of calls, and a renumbering from the one run to the other.
use Rattle.std.specs.Prelude.{ℕ, ◌≤◌, ◌≡◌, List, map, replicate}
use Rattle.order.specs.Machine.{Machine, Tagged, calls, ends, given_on, gives, numbers, ren_g}

-- xs and ys are the same calls in two orders, each channel's calls in the same order: every channel has the same list of calls in both
abbrev pub Reordered : {C : Type 0} → List (Tagged C) → List (Tagged C) → Type 0
Reordered xs ys = (d : ℕ) → calls d xs ≡ calls d ys

-- f takes each call's number in the run of xs to the number of the same call in the run of ys: of the j-th call of channel d, for every d and j
pub record Renumbers {C : Type 0} (k : ℕ) (xs ys : List (Tagged C)) (f : ℕ → ℕ) : Type 0 where
  pub none : f 0 ≡ 0
  pub some : (i : ℕ) → 1 ≤ i → 1 ≤ f i
  pub takes : (d : ℕ) → map f (numbers d k xs) ≡ numbers d k ys

-- from a new table of m channels whose first number is k, the two runs are the same but for f
pub record SameUnder (M : Machine) (m k : ℕ) (xs ys : List (Tagged M.Call)) (f : ℕ → ℕ) : Type 0 where
  pub renumbers : Renumbers k xs ys f
  -- what the calls of each channel give, in the order of the channel
  pub given : (d : ℕ) → given_on d (gives M k (replicate m M.new) ys) ≡ map (ren_g M f) (given_on d (gives M k (replicate m M.new) xs))
  -- and the table at the end
  pub table : ends M k (replicate m M.new) ys ≡ map (M.ren_s f) (ends M k (replicate m M.new) xs)
