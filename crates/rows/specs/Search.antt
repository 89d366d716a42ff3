-- What is found in rows: which are in use, the lowest free one, how many are open.
use Rattle.std.specs.Prelude.{ℕ, ◌+◌, List, [], ◌∷◌, Bool, true, false, cond, not, Option, Some, None}
use Rattle.channel.specs.declared.row.Sort.{Sort}
use Rattle.channel.specs.declared.row.Sort.TheVariants.{Free, Io, In, Out}
use Rattle.channel.specs.declared.row.Row.{Row}
use Rattle.channel.specs.declared.channel.Channel.{Channel}

abbrev pub in_use : Sort → Bool
in_use Free = false
in_use (Io o) = true
in_use (In o) = true
in_use (Out o) = true

abbrev pub used : Row → Bool
used r = in_use r.sort

abbrev pub free : Row → Bool
free r = not (used r)

abbrev pub weight : Row → ℕ
weight r = cond (used r) 1 0

-- the first row of a list that a test holds of, counted from i
unfoldable pub first_from : (Row → Bool) → List Row → ℕ → Option ℕ
first_from p [] i = None
first_from p (r ∷ rs) i = cond (p r) (Some i) (first_from p rs (i + 1))

-- how many rows of a list are in use
unfoldable pub open_count : List Row → ℕ
open_count [] = 0
open_count (r ∷ rs) = weight r + open_count rs

abbrev pub lowest_of : Channel → Option ℕ
lowest_of c = first_from free c.rows 0
