-- The open request of an id.
use Rattle.std.specs.Prelude.{ℕ, List, Bool, false, get_or, eqb, Option, Some, None}
use Rattle.header.specs.declared.ids.RequestId.{RequestId}
use Rattle.channel.specs.Rows.{free_row}
use Rattle.channel.specs.declared.row.Open.{Open}
use Rattle.channel.specs.declared.row.Sort.{Sort}
use Rattle.channel.specs.declared.row.Sort.TheVariants.{Free, Io, In, Out}
use Rattle.channel.specs.declared.row.Row.{Row}
use Rattle.channel.specs.declared.channel.Channel.{Channel}
use Rattle.rows.specs.Search.{first_from}
use Rattle.requests.specs.declared.open.Held.{Held}
use Rattle.requests.specs.declared.open.Held.TheVariants as held

abbrev pub names : RequestId → Open → Bool
names id o = eqb o.request.0 id.0

abbrev pub holds_by : RequestId → Sort → Bool
holds_by id Free = false
holds_by id (Io o) = names id o
holds_by id (In o) = names id o
holds_by id (Out o) = names id o

-- a row is the open request of an id
abbrev pub holds : RequestId → Row → Bool
holds id r = holds_by id r.sort

-- where an id stands twice, the lowest row counts
abbrev pub find_of : Channel → RequestId → Option ℕ
find_of c id = first_from (holds id) c.rows 0

-- what is open under an id: the request of that row, or nothing
abbrev pub held_by : ℕ → Sort → Held
held_by at Free = held.Nothing
held_by at (Io o) = held.Io at o
held_by at (In o) = held.In at o
held_by at (Out o) = held.Out at o

abbrev pub held_at : List Row → Option ℕ → Held
held_at rows None = held.Nothing
held_at rows (Some at) = held_by at (get_or rows at free_row).sort

unfoldable pub held_of : Channel → RequestId → Held
held_of c id = held_at c.rows (find_of c id)
