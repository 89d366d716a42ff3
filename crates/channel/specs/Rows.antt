-- The rows of a channel, and a new channel.
use Rattle.std.specs.Prelude.{ℕ, List, map, true, get_or, set, replicate, None}
use Rattle.channel.specs.declared.row.Open.{Open}
use Rattle.channel.specs.declared.row.Sort.{Sort}
use Rattle.channel.specs.declared.row.Sort.TheVariants.{Free, Io, In, Out}
use Rattle.channel.specs.declared.row.Row.{Row}
use Rattle.channel.specs.declared.channel.Channel.{Channel}

-- a free row; it is also what stands past the last one
abbrev pub free_row : Row
free_row = record { sort = Free }

-- a row in use with its request changed, of the same sort; a free row has none
abbrev pub in_sort : (Open → Open) → Sort → Sort
in_sort f Free = Free
in_sort f (Io o) = Io (f o)
in_sort f (In o) = In (f o)
in_sort f (Out o) = Out (f o)

abbrev pub in_row : (Open → Open) → Row → Row
in_row f r = record { sort = in_sort f r.sort }

-- 02 R-2: a cancel marks a row, and all else of it stays
abbrev pub marked_open : Open → Open
marked_open o = record { request = o.request; number = o.number; size = o.size; marked = true }

abbrev pub marked_row : Row → Row
marked_row r = in_row marked_open r

abbrev pub with_rows : Channel → List Row → Channel
with_rows c rows = record { phase = c.phase; device = c.device; callback = c.callback; jitter = c.jitter; rows = rows }

abbrev pub with_row : Channel → ℕ → Row → Channel
with_row c at r = with_rows c (set c.rows at r)

-- the row at a place marked; past the last row nothing changes
abbrev pub with_mark : Channel → ℕ → Channel
with_mark c at = with_row c at (marked_row (get_or c.rows at free_row))

-- every open request changed
abbrev pub in_channel : (Open → Open) → Channel → Channel
in_channel f c = with_rows c (map (in_row f) c.rows)

abbrev pub emptied : Channel → Channel
emptied c = with_rows c (replicate 16 free_row)

-- a new channel: phase 0, nothing known, NoAck 0, no rows
abbrev pub new_channel : Channel
new_channel = record { phase = 0; device = None; callback = None; jitter = 0; rows = replicate 16 free_row }
