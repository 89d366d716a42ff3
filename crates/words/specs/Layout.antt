-- How sizes are held against a message (answer 7): in message order, and the first that fails is told (docs/DECISIONS.md, 6).
use Rattle.std.specs.Prelude.{ℕ, ◌+◌, ◌-◌, ◌≤◌, List, Bool, cond, length, ltb, Result, Err}
use Rattle.words.specs.declared.layout.Part.{Part}
use Rattle.words.specs.declared.layout.Fault.{Fault}
use Rattle.words.specs.declared.layout.Fault.TheVariants.{RanOut, Disagrees, LeftOver}

-- how many bytes there are from a place on
abbrev pub left : List ℕ → ℕ → ℕ
left m at = length m - at

-- a field, or a counted run, of n bytes at a place, and then what follows it
abbrev pub field : {A : Type 0} → List ℕ → ℕ → ℕ → Result A Fault → Result A Fault
field m at n next = cond (ltb (left m at) n) (Err (RanOut at)) next

-- a size that has to agree
abbrev pub agrees : {A : Type 0} → Bool → ℕ → Result A Fault → Result A Fault
agrees test at next = cond test next (Err (Disagrees at))

-- a size that is at least n
abbrev pub at_least : {A : Type 0} → ℕ → ℕ → ℕ → Result A Fault → Result A Fault
at_least n size at next = cond (ltb size n) (Err (Disagrees at)) next

-- nothing from a place on
abbrev pub ended : {A : Type 0} → List ℕ → ℕ → Result A Fault → Result A Fault
ended m at next = cond (ltb 0 (left m at)) (Err (LeftOver at)) next

-- what was read up to a place fills what was set aside for it
abbrev pub filled : {A : Type 0} → ℕ → ℕ → Result A Fault → Result A Fault
filled at end next = cond (ltb at end) (Err (LeftOver at)) next

-- a part lies behind the header and within n bytes
abbrev pub Within : ℕ → Part → Type 0
Within n p = (12 ≤ p.start) × (p.start + p.size ≤ n)
