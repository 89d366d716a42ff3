-- A mark decides nothing but the cause of a cancel, and marks.
use Rattle.std.specs.Prelude.{Option, Some, Result, Ok, Err}
use Prim.Native.Nat.{ℕ, zero, suc}
use mathlib.Core.Path.{◌≡◌, refl, sym, ap, ◌∙◌}
use mathlib.Core.List.{List, [], ◌∷◌, map}
use mathlib.Core.Bool.{Bool, true, false, cond}
use lib.Dec.{eqb, ltb}
use lib.ListN.{get_or, set, get_or-map}
use Rattle.header.specs.declared.ids.RequestId.{RequestId}
use Rattle.answers.specs.Kind.{kind_number}
use Rattle.answers.specs.declared.answer.Answer.{Answer}
use Rattle.answers.specs.declared.kind.Kind.{Kind}
use Rattle.wire.specs.Message.{asked_of, empty_part}
use Rattle.wire.specs.declared.message.Asked.TheVariants as asks
use Rattle.wire.specs.declared.message.IoCompleted.{IoCompleted}
use Rattle.wire.specs.declared.message.Request.{Request}
use Rattle.wire.specs.declared.message.UrbCompleted.{UrbCompleted}
use Rattle.channel.specs.Rows.{free_row, in_channel, in_row, in_sort, marked_row, marked_open, new_channel, with_rows}
use Rattle.channel.specs.declared.channel.Channel.{Channel}
use Rattle.channel.specs.declared.row.Open.{Open}
use Rattle.channel.specs.declared.row.Row.{Row}
use Rattle.channel.specs.declared.row.Sort.{Sort}
use Rattle.channel.specs.declared.row.Sort.TheVariants.{Free, Io, In, Out}
use Rattle.rows.specs.Search.{open_count}
use Rattle.requests.specs.declared.open.Held.{Held}
use Rattle.requests.specs.declared.open.Held.TheVariants as held
use Rattle.rules.specs.Cancel.{accepted_cancel, cancelled, marks}
use Rattle.rules.specs.Completion.{io_completed, no_data_completed, urb_completed}
use Rattle.rules.specs.Decide.{decided}
use Rattle.rules.specs.Request.{opened, taken, unacknowledged}
use Rattle.rules.specs.declared.decide.Seen.{Seen}
use Rattle.rules.specs.declared.verdict.Act.{Act}
use Rattle.rules.specs.declared.verdict.Act.TheVariants as act
use Rattle.turn.specs.Step.{after_of, verdict_by, verdict_of}
use Rattle.turn.specs.Store.{seen_of, stored}
use Rattle.table.specs.Entry.{answer_of, close_entry, judged_entry}
use Rattle.table.specs.Table.{blank_channel, channel_of, close_of, judged_by, judge_of, numbered, with_channel}
use Rattle.table.specs.declared.table.Judged.{Judged}
use Rattle.table.specs.declared.table.Table.{Table}
use Rattle.places.specs.Place.{no_place, used_up}
use Rattle.payloads.specs.Payload.{cut_of, payload_of, shown_by, shown_of, start_in, start_of}
use Rattle.journal.specs.Calls.{Asks, Call, called, called_by, closing, judging}
use Rattle.promises.specs.Demand3.{payload_by, start_by}
use Rattle.promises.specs.Marks.{but_marks, MarkBlind, uncaused, unmarked_open, unmarked_table}
use Rattle.promises.proofs.Admitted.{admitted_has}
use Rattle.promises.proofs.InRow.{count_in, in_held, in_seen, seen_in, set-map}
use Rattle.promises.proofs.Kinded.{Kinded, kinded}
use Rattle.answers.specs.declared.entry.Entry.{Entry}
use Rattle.wire.specs.declared.message.Asked.{Asked}
use Rattle.wire.specs.declared.message.Unfit.{Unfit}
use Rattle.wire.specs.declared.message.Unfit.TheVariants as unfit
use Rattle.rules.specs.Verdict.{Verdict}

abbrev unmarked : Channel → Channel
unmarked c = in_channel unmarked_open c

-- ---- what is said of a message
abbrev but_mark : Act → Act
but_mark (act.Take at row) = act.Take at (in_row unmarked_open row)
but_mark (act.Mark at) = act.Keep
but_mark a = a

abbrev said : Verdict → Verdict
said (Err r) = Err r
said (Ok a) = Ok (record a { cause = cond (eqb a.kind 13) 0 a.cause; act = but_mark a.act })

taken_same : (k : Kind) (r : Request) (s : Sort) (here : Held) (w : Option ℕ) → taken k r s (in_held unmarked_open here) w ≡ taken k r s here w
unfolding taken
taken_same k r s held.Nothing w = refl
taken_same k r s (held.Io at o) w = refl
taken_same k r s (held.In at o) w = refl
taken_same k r s (held.Out at o) w = refl

io_same : (k : Kind) (d : IoCompleted) (here : Held) → io_completed k d (in_held unmarked_open here) ≡ io_completed k d here
io_same k d held.Nothing = refl
io_same k d (held.Io at o) = refl
io_same k d (held.In at o) = refl
io_same k d (held.Out at o) = refl

urb_same : (k : Kind) (d : UrbCompleted) (here : Held) → urb_completed k d (in_held unmarked_open here) ≡ urb_completed k d here
urb_same k d held.Nothing = refl
urb_same k d (held.Io at o) = refl
urb_same k d (held.In at o) = refl
urb_same k d (held.Out at o) = refl

no_data_same : (k : Kind) (d : UrbCompleted) (here : Held) → no_data_completed k d (in_held unmarked_open here) ≡ no_data_completed k d here
no_data_same k d held.Nothing = refl
no_data_same k d (held.Io at o) = refl
no_data_same k d (held.In at o) = refl
no_data_same k d (held.Out at o) = refl

marks_same : (k : Kind) (id : RequestId) (at : ℕ) (o : Open) → kind_number k ≡ 13 → said (marks k id at (unmarked_open o)) ≡ said (marks k id at o)
marks_same k id at o h = go o.marked
  where
    go : (b : Bool) → said (accepted_cancel k id o.number (act.Mark at)) ≡ said (cond b (accepted_cancel k id 0 act.Keep) (accepted_cancel k id o.number (act.Mark at)))
    go true = rw h
    go false = refl

cancelled_same : (k : Kind) (id : RequestId) (here : Held) → kind_number k ≡ 13 → said (cancelled k id (in_held unmarked_open here)) ≡ said (cancelled k id here)
cancelled_same k id held.Nothing h = refl
cancelled_same k id (held.Io at o) h = marks_same k id at o h
cancelled_same k id (held.In at o) h = marks_same k id at o h
cancelled_same k id (held.Out at o) h = marks_same k id at o h

decided_same : (k : Kind) (a : Result Asked Unfit) (n jitter : ℕ) (s : Seen) → Kinded (kind_number k) a → said (decided k a n jitter (in_seen unmarked_open s)) ≡ said (decided k a n jitter s)
unfolding decided
decided_same k (Err (unfit.Sizes fault)) n jitter s h = refl
decided_same k (Err unfit.Value) n jitter s h = refl
decided_same k (Ok asks.Step) n jitter s h = refl
decided_same k (Ok (asks.Device id ms)) n jitter s h = refl
decided_same k (Ok (asks.Callback id)) n jitter s h = refl
decided_same k (Ok (asks.IoControl r)) n jitter s h = ap said (taken_same k r (Io (opened r n)) s.here s.free)
decided_same k (Ok (asks.TransferIn r)) n jitter s h = ap said (taken_same k r (In (opened r n)) s.here s.free)
decided_same k (Ok (asks.TransferOut r)) n jitter s h = ap (λ v. said (cond r.noack (unacknowledged k r jitter) v)) (taken_same k r (Out (opened r n)) s.here s.free)
decided_same k (Ok (asks.Cancel id)) n jitter s h = cancelled_same k id s.here h
decided_same k (Ok asks.Retract) n jitter s h = refl
decided_same k (Ok (asks.IoCompletion d)) n jitter s h = ap said (io_same k d s.here)
decided_same k (Ok (asks.UrbCompletion d)) n jitter s h = ap said (urb_same k d s.here)
decided_same k (Ok (asks.UrbCompletionNoData d)) n jitter s h = ap said (no_data_same k d s.here)

verdict_same : (c : Channel) (n side : ℕ) (m : List ℕ) → said (verdict_of (unmarked c) n side m) ≡ said (verdict_of c n side m)
unfolding verdict_of
verdict_same c n side m =
    admitted_has (λ a. said (verdict_by (unmarked c) n a) ≡ said (verdict_by c n a)) m refl refl refl (λ k. refl) (λ k. asked k) c.phase c.device c.callback side
  where
    asked : (k : Kind) → said (decided k (asked_of k m) n c.jitter (seen_of (unmarked c) (asked_of k m))) ≡ said (decided k (asked_of k m) n c.jitter (seen_of c (asked_of k m)))
    asked k =
        ap (λ s. said (decided k (asked_of k m) n c.jitter s)) (seen_in unmarked_open (λ o. refl) c (asked_of k m))
        ∙ decided_same k (asked_of k m) n c.jitter (seen_of c (asked_of k m)) (kinded k m)

-- ---- what is done to the channel
map_twice : {A : Type 0} (g : A → A) → ((x : A) → g (g x) ≡ g x) → (l : List A) → map g (map g l) ≡ map g l
map_twice g h [] = refl
map_twice g h (x ∷ l) = rw (h x, map_twice g h l)

sort_twice : (s : Sort) → in_sort unmarked_open (in_sort unmarked_open s) ≡ in_sort unmarked_open s
sort_twice Free = refl
sort_twice (Io o) = refl
sort_twice (In o) = refl
sort_twice (Out o) = refl

rows_twice : (rs : List Row) → map (in_row unmarked_open) (map (in_row unmarked_open) rs) ≡ map (in_row unmarked_open) rs
rows_twice rs = map_twice (in_row unmarked_open) (λ r. ap (λ (s : Sort). record { sort = s }) (sort_twice r.sort)) rs

channel_twice : (c : Channel) → unmarked (unmarked c) ≡ unmarked c
channel_twice c = ap (with_rows c) (rows_twice c.rows)

sort_marked : (s : Sort) → in_sort unmarked_open (in_sort marked_open s) ≡ in_sort unmarked_open s
sort_marked Free = refl
sort_marked (Io o) = refl
sort_marked (In o) = refl
sort_marked (Out o) = refl

-- a mark that is set and taken off again
mark_gone : (rs : List Row) (at : ℕ) → map (in_row unmarked_open) (set rs at (marked_row (get_or rs at free_row))) ≡ map (in_row unmarked_open) rs
mark_gone [] at = refl
mark_gone (r ∷ rs) zero = ap (λ (s : Sort). record { sort = s } ∷ map (in_row unmarked_open) rs) (sort_marked r.sort)
mark_gone (r ∷ rs) (suc at) = ap (λ l. in_row unmarked_open r ∷ l) (mark_gone rs at)

row_put : (rs : List Row) (at : ℕ) (row : Row) → map (in_row unmarked_open) (set (map (in_row unmarked_open) rs) at (in_row unmarked_open row)) ≡ map (in_row unmarked_open) (set rs at row)
row_put rs at row = ap (map (in_row unmarked_open)) (set-map (in_row unmarked_open) rs at row) ∙ rows_twice (set rs at row)

acted_same : (c : Channel) (phase : ℕ) (a : Act) → unmarked (stored (unmarked c) phase (but_mark a)) ≡ unmarked (stored c phase a)
unfolding stored
acted_same c phase act.Keep = ap (with_rows (stored c phase act.Keep)) (rows_twice c.rows)
acted_same c phase (act.Device id ms) = ap (with_rows (stored c phase (act.Device id ms))) (rows_twice c.rows)
acted_same c phase (act.Callback k) = ap (with_rows (stored c phase (act.Callback k))) (rows_twice c.rows)
acted_same c phase (act.Take at row) = ap (with_rows (stored c phase (act.Take at row))) (row_put c.rows at row)
acted_same c phase (act.Free at) = ap (with_rows (stored c phase (act.Free at))) (row_put c.rows at free_row)
acted_same c phase (act.Mark at) = ap (with_rows (stored c phase (act.Mark at))) (rows_twice c.rows ∙ sym (mark_gone c.rows at))
acted_same c phase act.Empty = refl

after_said : (c : Channel) (v : Verdict) → unmarked (after_of (unmarked c) (said v)) ≡ unmarked (after_of c v)
unfolding after_of
after_said c (Err r) = channel_twice c
after_said c (Ok a) = acted_same c a.phase a.act

-- two verdicts that say the same but for marks, on a channel without its marks and on the channel itself
after_same : (c : Channel) (v w : Verdict) → said v ≡ said w → unmarked (after_of (unmarked c) v) ≡ unmarked (after_of c w)
after_same c v w e =
    sym (after_said (unmarked c) v)
    ∙ ap (λ d. unmarked (after_of d (said v))) (channel_twice c)
    ∙ ap (λ x. unmarked (after_of (unmarked c) x)) e
    ∙ after_said c w

-- ---- what a call gives
answer_said : (v : Verdict) → answer_of (said v) ≡ answer_of v
unfolding answer_of
answer_said (Err r) = refl
answer_said (Ok a) = refl

shown_said : (v : Verdict) → shown_by (said v) ≡ shown_by v
shown_said (Err r) = refl
shown_said (Ok a) = refl

none_twice : (b : Bool) (n : ℕ) → cond b 0 (cond b 0 n) ≡ cond b 0 n
none_twice true n = refl
none_twice false n = refl

entry_said : (n ch side stamp : ℕ) (v : Verdict) → uncaused (judged_entry n ch side stamp (said v)) ≡ uncaused (judged_entry n ch side stamp v)
unfolding judged_entry
entry_said n ch side stamp (Err r) = refl
entry_said n ch side stamp (Ok a) =
    ap (λ (x : ℕ). record { number = n; channel = ch; side = side; kind = a.kind; answer = 0; request = a.request; cause = x; size = a.size; stamp = stamp })
    (none_twice (eqb a.kind 13) a.cause)

glue : (a b : Answer) (d e : Option Entry) (t u : Table) → a ≡ b → d ≡ e → t ≡ u → ◌≡◌ {A = Judged} (record { answer = a; entry = d; table = t }) (record { answer = b; entry = e; table = u })
glue a b d e t u p q r = rw (p, q, r)

channel_there : (t : Table) (ch : ℕ) → channel_of (unmarked_table t) ch ≡ unmarked (channel_of t ch)
channel_there t ch = get_or-map (in_channel unmarked_open) t.channels ch blank_channel

table_twice : (n : ℕ) (l : List Channel) → ◌≡◌ {A = Table} (record { next = n; channels = map (in_channel unmarked_open) (map (in_channel unmarked_open) l) }) (record { next = n; channels = map (in_channel unmarked_open) l })
table_twice n l = ap (λ (x : List Channel). record { next = n; channels = x }) (map_twice (in_channel unmarked_open) channel_twice l)

put_same : (t : Table) (ch : ℕ) (c d : Channel) → unmarked c ≡ unmarked d → unmarked_table (with_channel (numbered (unmarked_table t)) ch c) ≡ unmarked_table (with_channel (numbered t) ch d)
put_same t ch c d e =
    ap (λ (x : List Channel). record { next = (numbered t).next; channels = x })
    (sym (set-map (in_channel unmarked_open) (map (in_channel unmarked_open) t.channels) ch c)
    ∙ ap (λ l. set l ch (unmarked c)) (map_twice (in_channel unmarked_open) channel_twice t.channels)
    ∙ ap (set (map (in_channel unmarked_open) t.channels) ch) e
    ∙ set-map (in_channel unmarked_open) t.channels ch d)

through : (b : Bool) (j k l m : Judged) → but_marks j ≡ but_marks l → but_marks k ≡ but_marks m → but_marks (cond b j k) ≡ but_marks (cond b l m)
through true j k l m p q = p
through false j k l m p q = q

verdict_there : (t : Table) (ch side : ℕ) (m : List ℕ) → said (verdict_of (channel_of (unmarked_table t) ch) t.next side m) ≡ said (verdict_of (channel_of t ch) t.next side m)
verdict_there t ch side m = ap (λ c. said (verdict_of c t.next side m)) (channel_there t ch) ∙ verdict_same (channel_of t ch) t.next side m

judged_same : (t : Table) (ch side stamp : ℕ) (v w : Verdict) → said v ≡ said w → but_marks (judged_by (unmarked_table t) ch side stamp v) ≡ but_marks (judged_by t ch side stamp w)
judged_same t ch side stamp v w e =
    glue _ _ _ _ _ _
    (sym (answer_said v) ∙ ap answer_of e ∙ answer_said w)
    (ap Some (sym (entry_said t.next ch side stamp v) ∙ ap (λ x. uncaused (judged_entry t.next ch side stamp x)) e ∙ entry_said t.next ch side stamp w))
    (put_same t ch _ _ (ap (λ c. unmarked (after_of c v)) (channel_there t ch) ∙ after_same (channel_of t ch) v w e))

by_call : (t : Table) (ch : ℕ) (a : Asks) → but_marks (called_by (unmarked_table t) ch a) ≡ but_marks (called_by t ch a)
unfolding judge_of close_of
by_call t ch (judging side stamp m) =
    through (used_up t.next) _ _ _ _ (glue _ _ _ _ _ _ refl refl (table_twice t.next t.channels))
    (through (no_place ch side) _ _ _ _ (glue _ _ _ _ _ _ refl refl (table_twice (numbered t).next t.channels))
    (judged_same t ch side stamp (verdict_of (channel_of (unmarked_table t) ch) t.next side m) (verdict_of (channel_of t ch) t.next side m) (verdict_there t ch side m)))
by_call t ch (closing stamp) =
    through (used_up t.next) _ _ _ _ (glue _ _ _ _ _ _ refl refl (table_twice t.next t.channels))
    (through (ltb 7 ch) _ _ _ _ (glue _ _ _ _ _ _ refl refl (table_twice (numbered t).next t.channels))
    (glue _ _ _ _ _ _ refl
    (ap (λ n. Some (close_entry t.next ch stamp n)) (ap (λ (c : Channel). open_count c.rows) (channel_there t ch) ∙ count_in unmarked_open (channel_of t ch).rows))
    (put_same t ch new_channel new_channel refl)))

by_shown : (t : Table) (ch side : ℕ) (m : List ℕ) → shown_of (unmarked_table t) ch side m ≡ shown_of t ch side m
unfolding shown_of
by_shown t ch side m = go (used_up t.next) (no_place ch side)
  where
    go : (a b : Bool) → cond a empty_part (cond b empty_part (shown_by (verdict_of (channel_of (unmarked_table t) ch) t.next side m))) ≡ cond a empty_part (cond b empty_part (shown_by (verdict_of (channel_of t ch) t.next side m)))
    go true b = refl
    go false true = refl
    go false false =
        sym (shown_said (verdict_of (channel_of (unmarked_table t) ch) t.next side m)) ∙ ap shown_by (verdict_there t ch side m) ∙ shown_said (verdict_of (channel_of t ch) t.next side m)

payload_same : (t : Table) (ch : ℕ) (a : Asks) → payload_by (unmarked_table t) ch a ≡ payload_by t ch a
unfolding payload_of
payload_same t ch (judging side stamp m) = ap (cut_of m) (by_shown t ch side m)
payload_same t ch (closing stamp) = refl

start_same : (t : Table) (ch : ℕ) (a : Asks) → start_by (unmarked_table t) ch a ≡ start_by t ch a
unfolding start_of
start_same t ch (judging side stamp m) = ap (start_in m) (by_shown t ch side m)
start_same t ch (closing stamp) = refl

-- On every table: without its marks a call gives the same answer, payload and entry, and the same table afterwards, but for marks and the cause of a cancel.
pub mark_decides_nothing : (t : Table) (x : Call) → MarkBlind t x
mark_decides_nothing t x = record { call = by_call t x.channel x.asks; payload = payload_same t x.channel x.asks; start = start_same t x.channel x.asks }

-- So two tables that differ in marks alone give the same but for these, and differ in marks alone again afterwards.
pub marks_alone : (t u : Table) (x : Call) → unmarked_table t ≡ unmarked_table u → but_marks (called t x) ≡ but_marks (called u x)
marks_alone t u x e = sym (by_call t x.channel x.asks) ∙ ap (λ v. but_marks (called v x)) e ∙ by_call u x.channel x.asks
