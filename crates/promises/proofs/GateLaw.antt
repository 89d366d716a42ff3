-- The gate stores journal numbers and hands them back, and does nothing else with them.
use Rattle.std.specs.Prelude.{Option, Some, None, Result, Ok, Err}
use Prim.Native.Nat.{ℕ}
use mathlib.Core.Path.{◌≡◌, refl, ap, ◌∙◌}
use mathlib.Core.List.{List, map}
use mathlib.Core.Bool.{Bool, true, false, cond}
use lib.ListN.{get_or, get_or-map}
use lib.Dec.{eqb, ltb}
use Rattle.header.specs.declared.ids.RequestId.{RequestId}
use Rattle.answers.specs.declared.kind.Kind.{Kind}
use Rattle.wire.specs.declared.message.Asked.TheVariants as asks
use Rattle.wire.specs.declared.message.IoCompleted.{IoCompleted}
use Rattle.wire.specs.declared.message.Request.{Request}
use Rattle.wire.specs.declared.message.UrbCompleted.{UrbCompleted}
use Rattle.channel.specs.Rows.{free_row, in_sort, marked_row, marked_open}
use Rattle.channel.specs.declared.channel.Channel.{Channel}
use Rattle.requests.specs.declared.open.Held.{Held}
use Rattle.requests.specs.declared.open.Held.TheVariants as held
use Rattle.channel.specs.declared.row.Open.{Open}
use Rattle.channel.specs.declared.row.Row.{Row}
use Rattle.channel.specs.declared.row.Sort.{Sort}
use Rattle.channel.specs.declared.row.Sort.TheVariants.{Free, Io, In, Out}
use Rattle.rules.specs.Request.{opened, taken, transfer_out_decided}
use Rattle.rules.specs.Cancel.{cancelled, marks}
use Rattle.rules.specs.Completion.{io_completed, no_data_completed, result_agrees, urb_closed, urb_completed}
use Rattle.rules.specs.Decide.{decided}
use Rattle.rules.specs.declared.decide.Seen.{Seen}
use Rattle.rules.specs.declared.verdict.Act.{Act}
use Rattle.rules.specs.declared.verdict.Act.TheVariants as act
use Rattle.turn.specs.Admit.{Admitted, admitted}
use Rattle.turn.specs.Step.{after_of, verdict_by, verdict_of}
use Rattle.turn.specs.Store.{seen_of, stored}
use Rattle.promises.specs.Demand3.{ren_channel, ren_open, ren_row}
use Rattle.promises.proofs.InRow.{free_rows, in_held, in_seen, seen_in, set-map}
use Rattle.wire.specs.declared.message.Asked.{Asked}
use Rattle.wire.specs.declared.message.Unfit.{Unfit}
use Rattle.wire.specs.declared.message.Unfit.TheVariants as unfit
use Rattle.rules.specs.Verdict.{Verdict}

-- ---- what is said of a message
abbrev ren_act : (ℕ → ℕ) → Act → Act
ren_act f (act.Take at row) = act.Take at (ren_row f row)
ren_act f a = a

abbrev pub ren_verdict : (ℕ → ℕ) → Verdict → Verdict
ren_verdict f (Err r) = Err r
ren_verdict f (Ok a) = Ok (record a { cause = f a.cause; act = ren_act f a.act })

-- a test that no number is part of
through : (f : ℕ → ℕ) (b : Bool) (v w x y : Verdict) → v ≡ ren_verdict f x → w ≡ ren_verdict f y → cond b v w ≡ ren_verdict f (cond b x y)
through f true v w x y p q = p
through f false v w x y p q = q

module _ (f : ℕ → ℕ) (z : f 0 ≡ 0) where
  taken_ren : (k : Kind) (r : Request) (s : Sort) (here : Held) (w : Option ℕ) → taken k r (in_sort (ren_open f) s) (in_held (ren_open f) here) w ≡ ren_verdict f (taken k r s here w)
  unfolding taken
  taken_ren k r s held.Nothing (Some at) = rw z
  taken_ren k r s held.Nothing None = refl
  taken_ren k r s (held.Io at o) w = refl
  taken_ren k r s (held.In at o) w = refl
  taken_ren k r s (held.Out at o) w = refl

  out_ren : (k : Kind) (r : Request) (n jitter : ℕ) (here : Held) (w : Option ℕ)
      → transfer_out_decided k r (f n) jitter (in_held (ren_open f) here) w ≡ ren_verdict f (transfer_out_decided k r n jitter here w)
  unfolding opened
  out_ren k r n jitter here w =
      through f r.noack _ _ _ _ (through f (eqb jitter 0) _ _ _ _ refl (rw z)) (taken_ren k r (Out (opened r n)) here w)

  io_ren : (k : Kind) (d : IoCompleted) (here : Held) → io_completed k d (in_held (ren_open f) here) ≡ ren_verdict f (io_completed k d here)
  io_ren k d held.Nothing = refl
  io_ren k d (held.Io at o) = through f (ltb o.size d.size) _ _ _ _ refl (through f (result_agrees d o) _ _ _ _ refl refl)
  io_ren k d (held.In at o) = refl
  io_ren k d (held.Out at o) = refl

  closed_ren : (k : Kind) (d : UrbCompleted) (most at : ℕ) (o : Open) → urb_closed k d most at (ren_open f o) ≡ ren_verdict f (urb_closed k d most at o)
  closed_ren k d most at o = through f (ltb most d.size) _ _ _ _ refl refl

  urb_ren : (k : Kind) (d : UrbCompleted) (here : Held) → urb_completed k d (in_held (ren_open f) here) ≡ ren_verdict f (urb_completed k d here)
  urb_ren k d held.Nothing = refl
  urb_ren k d (held.Io at o) = refl
  urb_ren k d (held.In at o) = closed_ren k d o.size at o
  urb_ren k d (held.Out at o) = refl

  no_data_ren : (k : Kind) (d : UrbCompleted) (here : Held) → no_data_completed k d (in_held (ren_open f) here) ≡ ren_verdict f (no_data_completed k d here)
  no_data_ren k d held.Nothing = refl
  no_data_ren k d (held.Io at o) = refl
  no_data_ren k d (held.In at o) = closed_ren k d 0 at o
  no_data_ren k d (held.Out at o) = closed_ren k d o.size at o

  marks_ren : (k : Kind) (id : RequestId) (at : ℕ) (o : Open) → marks k id at (ren_open f o) ≡ ren_verdict f (marks k id at o)
  marks_ren k id at o = through f o.marked _ _ _ _ (rw z) refl

  cancelled_ren : (k : Kind) (id : RequestId) (here : Held) → cancelled k id (in_held (ren_open f) here) ≡ ren_verdict f (cancelled k id here)
  cancelled_ren k id held.Nothing = rw z
  cancelled_ren k id (held.Io at o) = marks_ren k id at o
  cancelled_ren k id (held.In at o) = marks_ren k id at o
  cancelled_ren k id (held.Out at o) = marks_ren k id at o

  decided_ren : (k : Kind) (a : Result Asked Unfit) (n jitter : ℕ) (s : Seen) → decided k a (f n) jitter (in_seen (ren_open f) s) ≡ ren_verdict f (decided k a n jitter s)
  unfolding decided opened
  decided_ren k (Err (unfit.Sizes fault)) n jitter s = refl
  decided_ren k (Err unfit.Value) n jitter s = refl
  decided_ren k (Ok asks.Step) n jitter s = rw z
  decided_ren k (Ok (asks.Device id ms)) n jitter s = rw z
  decided_ren k (Ok (asks.Callback id)) n jitter s = rw z
  decided_ren k (Ok (asks.IoControl r)) n jitter s = taken_ren k r (Io (opened r n)) s.here s.free
  decided_ren k (Ok (asks.TransferIn r)) n jitter s = taken_ren k r (In (opened r n)) s.here s.free
  decided_ren k (Ok (asks.TransferOut r)) n jitter s = out_ren k r n jitter s.here s.free
  decided_ren k (Ok (asks.Cancel id)) n jitter s = cancelled_ren k id s.here
  decided_ren k (Ok asks.Retract) n jitter s = rw z
  decided_ren k (Ok (asks.IoCompletion d)) n jitter s = io_ren k d s.here
  decided_ren k (Ok (asks.UrbCompletion d)) n jitter s = urb_ren k d s.here
  decided_ren k (Ok (asks.UrbCompletionNoData d)) n jitter s = no_data_ren k d s.here

  said_ren : (c : Channel) (n : ℕ) (a : Admitted) → verdict_by (ren_channel f c) (f n) a ≡ ren_verdict f (verdict_by c n a)
  said_ren c n (Err r) = refl
  said_ren c n (Ok (k, a)) = ap (decided k a (f n) c.jitter) (seen_in (ren_open f) (λ o. refl) c a) ∙ decided_ren k a n c.jitter (seen_of c a)

  pub verdict_ren : (c : Channel) (n side : ℕ) (m : List ℕ) → verdict_of (ren_channel f c) (f n) side m ≡ ren_verdict f (verdict_of c n side m)
  unfolding verdict_of
  verdict_ren c n side m = said_ren c n (admitted c.phase c.device c.callback side m)

-- ---- what is done to the channel
marked_ren : (f : ℕ → ℕ) (s : Sort) → in_sort marked_open (in_sort (ren_open f) s) ≡ in_sort (ren_open f) (in_sort marked_open s)
marked_ren f Free = refl
marked_ren f (Io o) = refl
marked_ren f (In o) = refl
marked_ren f (Out o) = refl

-- the row that is to be marked
row_marked_ren : (f : ℕ → ℕ) (rs : List Row) (i : ℕ) → marked_row (get_or (map (ren_row f) rs) i free_row) ≡ ren_row f (marked_row (get_or rs i free_row))
row_marked_ren f rs i = ap marked_row (get_or-map (ren_row f) rs i free_row) ∙ ap (λ (s : Sort). record { sort = s }) (marked_ren f (get_or rs i free_row).sort)

acted_ren : (f : ℕ → ℕ) (c : Channel) (phase : ℕ) (a : Act) → stored (ren_channel f c) phase (ren_act f a) ≡ ren_channel f (stored c phase a)
unfolding stored
acted_ren f c phase act.Keep = refl
acted_ren f c phase (act.Device id ms) = refl
acted_ren f c phase (act.Callback k) = refl
acted_ren f c phase (act.Take at row) = rw (set-map (ren_row f) c.rows at row)
acted_ren f c phase (act.Free at) = rw (set-map (ren_row f) c.rows at free_row)
acted_ren f c phase (act.Mark at) = rw (row_marked_ren f c.rows at, set-map (ren_row f) c.rows at (marked_row (get_or c.rows at free_row)))
acted_ren f c phase act.Empty = rw (free_rows (ren_open f) 16)

pub after_ren : (f : ℕ → ℕ) (c : Channel) (v : Verdict) → after_of (ren_channel f c) (ren_verdict f v) ≡ ren_channel f (after_of c v)
unfolding after_of
after_ren f c (Err r) = refl
after_ren f c (Ok a) = acted_ren f c a.phase a.act
