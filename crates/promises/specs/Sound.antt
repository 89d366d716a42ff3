-- What holds of every table that is reached from a new one.
use Rattle.std.specs.Prelude.{ℕ, ◌<◌, ◌≤◌, ◌≡◌, true, get_or}
use Rattle.header.specs.declared.ids.RequestId.{RequestId}
use Rattle.wire_laws.specs.Assigned.{Given}
use Rattle.channel.specs.Rows.{free_row}
use Rattle.requests.specs.Held.{holds}
use Rattle.channel.specs.declared.row.Open.{Open}
use Rattle.channel.specs.declared.row.Row.{Row}
use Rattle.channel.specs.declared.row.Sort.{Sort}
use Rattle.channel.specs.declared.row.Sort.TheVariants.{Free, Io, In, Out}
use Rattle.channel.specs.declared.channel.Channel.{Channel}
use Rattle.table.specs.Table.{channel_of}
use Rattle.table.specs.declared.table.Table.{Table}

-- row i of a channel
abbrev pub row_of : Channel → ℕ → Row
row_of c i = get_or c.rows i free_row

-- a request's journal number is at least 1, and below the next
abbrev pub Used : ℕ → Open → Type 0
Used next o = (1 ≤ o.number) × (o.number < next)

abbrev pub Numbered : ℕ → Sort → Type 0
Numbered next Free = Unit {0}
Numbered next (Io o) = Used next o
Numbered next (In o) = Used next o
Numbered next (Out o) = Used next o

pub record SoundChannel (next : ℕ) (c : Channel) : Type 0 where
  -- device and callback are interfaces that may be given: never 0 to 3
  pub device : Given c.device
  pub callback : Given c.callback
  pub numbers : (i : ℕ) → Numbered next (row_of c i).sort
  -- no id stands twice
  pub once : (id : RequestId) (i j : ℕ) → holds id (row_of c i) ≡ true → holds id (row_of c j) ≡ true → i ≡ j

abbrev pub Sound : Table → Type 0
Sound t = (i : ℕ) → SoundChannel t.next (channel_of t i)
