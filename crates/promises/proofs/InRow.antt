-- What is found in rows stays the same where their requests are changed and keep their ids; what was found there is changed with them.
use Rattle.std.specs.Prelude.{Option, Some, None, Result, Ok, Err}
use Prim.Native.Nat.{ℕ, zero, suc, ◌+◌}
use mathlib.Core.Path.{◌≡◌, refl, ap, ◌∙◌}
use mathlib.Core.List.{List, [], ◌∷◌, map}
use mathlib.Core.Bool.{Bool, not}
use lib.ListN.{get_or, set, replicate, get_or-map}
use lib.Dec.{eqb}
use Rattle.header.specs.declared.ids.RequestId.{RequestId}
use Rattle.wire.specs.declared.message.Asked.TheVariants as asks
use Rattle.channel.specs.Rows.{free_row, in_channel, in_row, in_sort}
use Rattle.channel.specs.declared.channel.Channel.{Channel}
use Rattle.channel.specs.declared.row.Open.{Open}
use Rattle.channel.specs.declared.row.Row.{Row}
use Rattle.channel.specs.declared.row.Sort.{Sort}
use Rattle.channel.specs.declared.row.Sort.TheVariants.{Free, Io, In, Out}
use Rattle.rows.specs.Search.{first_from, free, in_use, lowest_of, open_count, weight}
use Rattle.requests.specs.Held.{find_of, held_at, held_by, held_of, holds, holds_by}
use Rattle.requests.specs.declared.open.Held.{Held}
use Rattle.requests.specs.declared.open.Held.TheVariants as held
use Rattle.rules.specs.declared.decide.Seen.{Seen}
use Rattle.turn.specs.Store.{here_of, seen_of}
use Rattle.wire.specs.declared.message.Asked.{Asked}
use Rattle.wire.specs.declared.message.Unfit.{Unfit}

abbrev pub in_held : (Open → Open) → Held → Held
in_held f held.Nothing = held.Nothing
in_held f (held.Io at o) = held.Io at (f o)
in_held f (held.In at o) = held.In at (f o)
in_held f (held.Out at o) = held.Out at (f o)

abbrev pub in_seen : (Open → Open) → Seen → Seen
in_seen f s = record s { here = in_held f s.here }

-- ---- of lists
pub set-map : {A B : Type 0} (g : A → B) (l : List A) (i : ℕ) (a : A) → set (map g l) i (g a) ≡ map g (set l i a)
set-map g [] i a = refl
set-map g (x ∷ l) zero a = refl
set-map g (x ∷ l) (suc i) a = ap (λ r. g x ∷ r) (set-map g l i a)

first_map : (p : Row → Bool) (g : Row → Row) → ((r : Row) → p (g r) ≡ p r) → (rs : List Row) (i : ℕ) → first_from p (map g rs) i ≡ first_from p rs i
unfolding first_from
first_map p g h [] i = refl
first_map p g h (r ∷ rs) i = rw (h r, first_map p g h rs (i + 1))

pub free_rows : (f : Open → Open) (n : ℕ) → map (in_row f) (replicate n free_row) ≡ replicate n free_row
free_rows f zero = refl
free_rows f (suc n) = ap (λ r. free_row ∷ r) (free_rows f n)

-- ---- of a row
pub used_in : (f : Open → Open) (s : Sort) → in_use (in_sort f s) ≡ in_use s
used_in f Free = refl
used_in f (Io o) = refl
used_in f (In o) = refl
used_in f (Out o) = refl

by_in : (f : Open → Open) (at : ℕ) (s : Sort) → held_by at (in_sort f s) ≡ in_held f (held_by at s)
by_in f at Free = refl
by_in f at (Io o) = refl
by_in f at (In o) = refl
by_in f at (Out o) = refl

weight_in : (f : Open → Open) (r : Row) → weight (in_row f r) ≡ weight r
weight_in f r = rw (used_in f r.sort)

pub count_in : (f : Open → Open) (rs : List Row) → open_count (map (in_row f) rs) ≡ open_count rs
unfolding open_count
count_in f [] = refl
count_in f (r ∷ rs) = rw (weight_in f r, count_in f rs)

-- ---- of a channel
module _ (f : Open → Open) (same : (o : Open) → (f o).request ≡ o.request) where
  pub holds_in : (id : RequestId) (s : Sort) → holds_by id (in_sort f s) ≡ holds_by id s
  holds_in id Free = refl
  holds_in id (Io o) = ap (λ (r : RequestId). eqb r.0 id.0) (same o)
  holds_in id (In o) = ap (λ (r : RequestId). eqb r.0 id.0) (same o)
  holds_in id (Out o) = ap (λ (r : RequestId). eqb r.0 id.0) (same o)

  at_in : (rs : List Row) (w : Option ℕ) → held_at (map (in_row f) rs) w ≡ in_held f (held_at rs w)
  at_in rs None = refl
  at_in rs (Some at) = ap (λ r. held_by at r.sort) (get_or-map (in_row f) rs at free_row) ∙ by_in f at (get_or rs at free_row).sort

  held_in : (c : Channel) (id : RequestId) → held_of (in_channel f c) id ≡ in_held f (held_of c id)
  unfolding held_of
  held_in c id = ap (held_at (map (in_row f) c.rows)) (first_map (holds id) (in_row f) (λ r. holds_in id r.sort) c.rows 0) ∙ at_in c.rows (find_of c id)

  lowest_in : (c : Channel) → lowest_of (in_channel f c) ≡ lowest_of c
  lowest_in c = first_map free (in_row f) (λ r. ap not (used_in f r.sort)) c.rows 0

  here_in : (c : Channel) (a : Result Asked Unfit) → here_of (in_channel f c) a ≡ in_held f (here_of c a)
  unfolding here_of
  here_in c (Err unfit) = refl
  here_in c (Ok asks.Step) = refl
  here_in c (Ok (asks.Device id ms)) = refl
  here_in c (Ok (asks.Callback id)) = refl
  here_in c (Ok (asks.IoControl r)) = held_in c r.request
  here_in c (Ok (asks.TransferIn r)) = held_in c r.request
  here_in c (Ok (asks.TransferOut r)) = held_in c r.request
  here_in c (Ok (asks.Cancel id)) = held_in c id
  here_in c (Ok asks.Retract) = refl
  here_in c (Ok (asks.IoCompletion d)) = held_in c d.request
  here_in c (Ok (asks.UrbCompletion d)) = held_in c d.request
  here_in c (Ok (asks.UrbCompletionNoData d)) = held_in c d.request

  pub seen_in : (c : Channel) (a : Result Asked Unfit) → seen_of (in_channel f c) a ≡ in_seen f (seen_of c a)
  seen_in c a = rw (here_in c a, lowest_in c, count_in f c.rows)
