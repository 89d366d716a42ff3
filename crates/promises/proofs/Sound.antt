-- Every table that is reached from a new one is sound.
use Rattle.std.specs.Prelude.{Some, Result, Ok, Err}
use Prim.Native.Nat.{ℕ, zero, suc, ◌+◌, ◌≤◌}
use native.Mathlib.Omega.{arith}
use mathlib.Core.Path.{◌≡◌, refl, sym, ap, subst, ◌∙◌}
use mathlib.Core.Logic.{◌⊎◌, inl, inr}
use mathlib.Core.List.{List, [], ◌∷◌}
use mathlib.Core.Bool.{Bool, true, false, ◌||◌, true≢false}
use lib.ListN.{get_or, set, replicate}
use lib.Dec.{ltb, eqb}
use borrow.Author.Tests.{eqb-true, eqb-false}
use Rattle.words.proofs.Steps.{either}
use Rattle.header.specs.declared.ids.RequestId.{RequestId}
use Rattle.answers.specs.declared.kind.Kind.{Kind}
use Rattle.wire_laws.specs.Assigned.{Assigned, Given}
use Rattle.wire.specs.declared.message.Asked.TheVariants as asks
use Rattle.wire.specs.declared.message.Request.{Request}
use Rattle.wire_laws.proofs.Assigned.{assigned}
use Rattle.channel.specs.Rows.{free_row, in_sort, marked_row, marked_open, new_channel, with_mark, with_row}
use Rattle.rows.specs.Search.{lowest_of}
use Rattle.requests.specs.Held.{held_of, holds, holds_by}
use Rattle.channel.specs.declared.row.Row.{Row}
use Rattle.channel.specs.declared.row.Sort.{Sort}
use Rattle.channel.specs.declared.row.Sort.TheVariants.{Free, Io, In, Out}
use Rattle.channel.specs.declared.channel.Channel.{Channel}
use Rattle.requests.specs.declared.open.Held.TheVariants as held
use Rattle.channel.proofs.Laws.{all_alike, set_read}
use Rattle.requests.proofs.Laws.{nothing_held}
use Rattle.rules.specs.Request.{opened}
use Rattle.rules.specs.Decide.{decided}
use Rattle.rules.specs.declared.verdict.Act.{Act}
use Rattle.rules.specs.declared.verdict.Act.TheVariants as act
use Rattle.turn.specs.Admit.{Admitted, admitted}
use Rattle.turn.specs.Step.{after_of, verdict_by, verdict_of}
use Rattle.turn.specs.Store.{here_of, seen_of, stored}
use Rattle.table.specs.Table.{blank_channel, channel_of, close_of, judge_of, open_of}
use Rattle.places.specs.Place.{no_place, used_up}
use Rattle.table.specs.declared.table.Judged.{Judged}
use Rattle.table.specs.declared.table.Table.{Table}
use Rattle.journal.specs.Calls.{after, Asks, Call, called, called_by, closing, judging}
use Rattle.promises.proofs.Admitted.{admitted_has}
use Rattle.promises.proofs.InRow.{holds_in}
use Rattle.promises.proofs.Decided.{cancelled_has, io_has, no_data_has, out_has, taken_has, urb_has}
use Rattle.promises.specs.Sound.{Numbered, row_of, Sound, SoundChannel}
use Rattle.wire.specs.declared.message.Asked.{Asked}
use Rattle.wire.specs.declared.message.Unfit.{Unfit}
use Rattle.wire.specs.declared.message.Unfit.TheVariants as unfit
use Rattle.rules.specs.Verdict.{Verdict}

-- What an act asks of the channel that it is done to, so that it stays sound: n is the call's number.
abbrev Fits : Channel → ℕ → Act → Type 0
Fits c n act.Keep = Unit {0}
Fits c n (act.Device id ms) = Given (Some id)
Fits c n (act.Callback known) = Given known
Fits c n (act.Take at row) = Numbered (n + 1) row.sort × ((id : RequestId) → holds id row ≡ true → (i : ℕ) → holds id (row_of c i) ≡ false)
Fits c n (act.Free at) = Unit {0}
Fits c n (act.Mark at) = Unit {0}
Fits c n act.Empty = Unit {0}

abbrev Safe : Channel → ℕ → Verdict → Type 0
Safe c n (Err r) = Unit {0}
Safe c n (Ok a) = Fits c n a.act

names_it : (r : Request) (id : RequestId) → eqb r.request.0 id.0 ≡ true → r.request ≡ id
names_it r id e = ap (λ (x : ℕ). record { 0 = x }) (eqb-true r.request.0 id.0 e)

-- a request that is given a row: its id is open nowhere else
alone : (c : Channel) (r : Request) (s : Sort) → ((id : RequestId) → holds_by id s ≡ true → r.request ≡ id) → held_of c r.request ≡ held.Nothing
    → (id : RequestId) → holds id (record { sort = s }) ≡ true → (i : ℕ) → holds id (row_of c i) ≡ false
alone c r s nm e id h i = subst (λ q. holds q (row_of c i) ≡ false) (nm id h) (nothing_held c r.request e i)

decided_safe : (c : Channel) (n : ℕ) (k : Kind) (a : Result Asked Unfit) → 1 ≤ n → Assigned a → Safe c n (decided k a n c.jitter (seen_of c a))
unfolding decided here_of opened
decided_safe c n k (Err (unfit.Sizes fault)) h g = tt
decided_safe c n k (Err unfit.Value) h g = tt
decided_safe c n k (Ok asks.Step) h g = tt
decided_safe c n k (Ok (asks.Device id ms)) h g = g
decided_safe c n k (Ok (asks.Callback id)) h g = g
decided_safe c n k (Ok (asks.IoControl r)) h g =
    taken_has (Safe c n) k (λ b q. tt) r (Io (opened r n)) (held_of c r.request) (lowest_of c) (λ at e. ((h, omega arith), alone c r (Io (opened r n)) (names_it r) e))
decided_safe c n k (Ok (asks.TransferIn r)) h g =
    taken_has (Safe c n) k (λ b q. tt) r (In (opened r n)) (held_of c r.request) (lowest_of c) (λ at e. ((h, omega arith), alone c r (In (opened r n)) (names_it r) e))
decided_safe c n k (Ok (asks.TransferOut r)) h g =
    out_has (Safe c n) k (λ b q. tt) r n c.jitter (held_of c r.request) (lowest_of c) tt (λ at e. ((h, omega arith), alone c r (Out (opened r n)) (names_it r) e))
decided_safe c n k (Ok (asks.Cancel id)) h g = cancelled_has (Safe c n) k (λ b q. tt) id (held_of c id) tt (λ at o e m. tt) (λ at o e m. tt) (λ at o e m. tt)
decided_safe c n k (Ok asks.Retract) h g = tt
decided_safe c n k (Ok (asks.IoCompletion d)) h g = io_has (Safe c n) k (λ b q. tt) d (held_of c d.request) (λ at o e. tt)
decided_safe c n k (Ok (asks.UrbCompletion d)) h g = urb_has (Safe c n) k (λ b q. tt) d (held_of c d.request) (λ at o e. tt)
decided_safe c n k (Ok (asks.UrbCompletionNoData d)) h g = no_data_has (Safe c n) k (λ b q. tt) d (held_of c d.request) (λ at o e. tt) (λ at o e. tt)

-- what is admitted asks only for interfaces that may be given
abbrev Learns : Admitted → Type 0
Learns (Err r) = Unit {0}
Learns (Ok (k, a)) = Assigned a

by_safe : (c : Channel) (n : ℕ) (a : Admitted) → 1 ≤ n → Learns a → Safe c n (verdict_by c n a)
by_safe c n (Err r) h g = tt
by_safe c n (Ok (k, a)) h g = decided_safe c n k a h g

safe : (c : Channel) (n side : ℕ) (m : List ℕ) → 1 ≤ n → Safe c n (verdict_of c n side m)
unfolding verdict_of
safe c n side m h =
    by_safe c n (admitted c.phase c.device c.callback side m) h
    (admitted_has Learns m tt tt tt (λ k. tt) (λ k. assigned k m) c.phase c.device c.callback side)

-- what holds below a number holds below the next
older : (n : ℕ) (s : Sort) → Numbered n s → Numbered (n + 1) s
older n Free h = tt
older n (Io o) h = (h.0, omega (arith, h.1))
older n (In o) h = (h.0, omega (arith, h.1))
older n (Out o) h = (h.0, omega (arith, h.1))

kept : (n : ℕ) (c : Channel) → SoundChannel n c → SoundChannel (n + 1) c
kept n c s = record { device = s.device; callback = s.callback; numbers = λ i. older n (row_of c i).sort (s.numbers i); once = s.once }

-- a row is put where its id stands nowhere else
put : (n : ℕ) (c : Channel) (at : ℕ) (row : Row) → SoundChannel n c → Numbered (n + 1) row.sort
    → ((id : RequestId) → holds id row ≡ true → (i : ℕ) → holds id (row_of c i) ≡ false) → SoundChannel (n + 1) (with_row c at row)
put n c at row s num alone = record {
  device = s.device;
  callback = s.callback;
  numbers = λ i. number i (set_read c.rows at row i free_row);
  once = λ id i j p q. apart id i j p q (set_read c.rows at row i free_row) (set_read c.rows at row j free_row);
}
  where
    now : ℕ → Row
    now i = get_or (set c.rows at row) i free_row

    number : (i : ℕ) → (now i ≡ row_of c i) ⊎ ((at ≡ i) × (now i ≡ row)) → Numbered (n + 1) (now i).sort
    number i (inl e) = subst (λ r. Numbered (n + 1) r.sort) (sym e) (older n (row_of c i).sort (s.numbers i))
    number i (inr e) = subst (λ r. Numbered (n + 1) r.sort) (sym e.1) num

    apart : (id : RequestId) (i j : ℕ) → holds id (now i) ≡ true → holds id (now j) ≡ true
        → (now i ≡ row_of c i) ⊎ ((at ≡ i) × (now i ≡ row)) → (now j ≡ row_of c j) ⊎ ((at ≡ j) × (now j ≡ row)) → i ≡ j
    apart id i j p q (inl e) (inl f) = s.once id i j (ap (holds id) (sym e) ∙ p) (ap (holds id) (sym f) ∙ q)
    apart id i j p q (inl e) (inr f) = absurd (true≢false (sym p ∙ ap (holds id) e ∙ alone id (ap (holds id) (sym f.1) ∙ q) i))
    apart id i j p q (inr e) (inl f) = absurd (true≢false (sym q ∙ ap (holds id) f ∙ alone id (ap (holds id) (sym e.1) ∙ p) j))
    apart id i j p q (inr e) (inr f) = sym e.0 ∙ f.0

-- a marked row has the number that it had
marked_number : (n : ℕ) (s : Sort) → Numbered n s → Numbered n (in_sort marked_open s)
marked_number n Free h = h
marked_number n (Io o) h = h
marked_number n (In o) h = h
marked_number n (Out o) h = h

mark : (n : ℕ) (c : Channel) (at : ℕ) → SoundChannel n c → SoundChannel (n + 1) (with_mark c at)
mark n c at s = record {
  device = s.device;
  callback = s.callback;
  numbers = λ i. number i (set_read c.rows at (marked_row (row_of c at)) i free_row);
  once = λ id i j p q. s.once id i j (sym (holds_as id i (set_read c.rows at (marked_row (row_of c at)) i free_row)) ∙ p) (sym (holds_as id j (set_read c.rows at (marked_row (row_of c at)) j free_row)) ∙ q);
}
  where
    now : ℕ → Row
    now i = get_or (set c.rows at (marked_row (row_of c at))) i free_row

    number : (i : ℕ) → (now i ≡ row_of c i) ⊎ ((at ≡ i) × (now i ≡ marked_row (row_of c at))) → Numbered (n + 1) (now i).sort
    number i (inl e) = subst (λ r. Numbered (n + 1) r.sort) (sym e) (older n (row_of c i).sort (s.numbers i))
    number i (inr e) = subst (λ r. Numbered (n + 1) r.sort) (sym e.1) (marked_number (n + 1) (row_of c at).sort (older n (row_of c at).sort (s.numbers at)))

    holds_as : (id : RequestId) (i : ℕ) → (now i ≡ row_of c i) ⊎ ((at ≡ i) × (now i ≡ marked_row (row_of c at))) → holds id (now i) ≡ holds id (row_of c i)
    holds_as id i (inl e) = ap (holds id) e
    holds_as id i (inr e) = ap (holds id) e.1 ∙ holds_in marked_open (λ o. refl) id (row_of c at).sort ∙ ap (λ k. holds id (row_of c k)) e.0

empty_number : (n i : ℕ) → Numbered n (get_or (replicate 16 free_row) i free_row).sort
empty_number n i = subst (λ r. Numbered n r.sort) (sym (all_alike 16 free_row i)) tt

empty_holds : (id : RequestId) (i : ℕ) → holds id (get_or (replicate 16 free_row) i free_row) ≡ true → ⊥
empty_holds id i p = true≢false (sym p ∙ ap (holds id) (all_alike 16 free_row i))

acted : (n : ℕ) (c : Channel) (phase : ℕ) (a : Act) → SoundChannel n c → Fits c n a → SoundChannel (n + 1) (stored c phase a)
unfolding stored
acted n c phase act.Keep s f = let r = kept n c s in record { device = r.device; callback = r.callback; numbers = r.numbers; once = r.once }
acted n c phase (act.Device id ms) s f = let r = kept n c s in record { device = f; callback = r.callback; numbers = r.numbers; once = r.once }
acted n c phase (act.Callback known) s f = let r = kept n c s in record { device = r.device; callback = f; numbers = r.numbers; once = r.once }
acted n c phase (act.Take at row) s f =
    let r = put n c at row s f.0 f.1 in record { device = r.device; callback = r.callback; numbers = r.numbers; once = r.once }
acted n c phase (act.Free at) s f =
    let r = put n c at free_row s tt (λ id p. absurd (true≢false (sym p))) in
    record { device = r.device; callback = r.callback; numbers = r.numbers; once = r.once }
acted n c phase (act.Mark at) s f = let r = mark n c at s in record { device = r.device; callback = r.callback; numbers = r.numbers; once = r.once }
acted n c phase act.Empty s f =
    record { device = s.device; callback = s.callback; numbers = empty_number (n + 1); once = λ id i j p q. absurd (empty_holds id i p) }

said : (n : ℕ) (c : Channel) (v : Verdict) → SoundChannel n c → Safe c n v → SoundChannel (n + 1) (after_of c v)
unfolding after_of
said n c (Err r) s f = kept n c s
said n c (Ok a) s f = acted n c a.phase a.act s f

new_sound : (n : ℕ) → SoundChannel n new_channel
new_sound n = record { device = tt; callback = tt; numbers = empty_number n; once = λ id i j p q. absurd (empty_holds id i p) }

blank_sound : (n : ℕ) → SoundChannel n blank_channel
blank_sound n = record { device = tt; callback = tt; numbers = nothing; once = λ id i j p q. absurd (no id i p) }
  where
    nothing : (i : ℕ) → Numbered n (row_of blank_channel i).sort
    nothing zero = tt
    nothing (suc i) = tt

    no : (id : RequestId) (i : ℕ) → holds id (row_of blank_channel i) ≡ true → ⊥
    no id zero p = true≢false (sym p)
    no id (suc i) p = true≢false (sym p)

-- one channel is put back, and a number is used
moved_sound : (t : Table) (at : ℕ) (c : Channel) → Sound t → SoundChannel (t.next + 1) c → Sound (record { next = t.next + 1; channels = set t.channels at c })
moved_sound t at c s h i = go (set_read t.channels at c i blank_channel)
  where
    go : (get_or (set t.channels at c) i blank_channel ≡ channel_of t i) ⊎ ((at ≡ i) × (get_or (set t.channels at c) i blank_channel ≡ c))
        → SoundChannel (t.next + 1) (get_or (set t.channels at c) i blank_channel)
    go (inl e) = subst (SoundChannel (t.next + 1)) (sym e) (kept t.next (channel_of t i) (s i))
    go (inr e) = subst (SoundChannel (t.next + 1)) (sym e.1) h

pub usable : (n : ℕ) → used_up n ≡ false → 1 ≤ n
usable n e = let z = eqb-false n 0 (go (eqb n 0) (eqb n 4294967295) e) in omega (arith, z)
  where
    go : (a b : Bool) → (a || b) ≡ false → a ≡ false
    go true b e = e
    go false b e = refl

by_call : (t : Table) (channel : ℕ) (a : Asks) → Sound t → Sound (called_by t channel a).table
unfolding judge_of close_of
by_call t channel (judging side stamp m) s =
    either (λ (j : Judged). Sound j.table) (used_up t.next) _ _ (λ e. s)
    (λ e. either (λ (j : Judged). Sound j.table) (no_place channel side) _ _ (λ f i. kept t.next (channel_of t i) (s i))
    (λ f. moved_sound t channel _ s
    (said t.next (channel_of t channel) (verdict_of (channel_of t channel) t.next side m) (s channel)
    (safe (channel_of t channel) t.next side m (usable t.next e)))))
by_call t channel (closing stamp) s =
    either (λ (j : Judged). Sound j.table) (used_up t.next) _ _ (λ e. s)
    (λ e. either (λ (j : Judged). Sound j.table) (ltb 7 channel) _ _ (λ f i. kept t.next (channel_of t i) (s i))
    (λ f. moved_sound t channel new_channel s (new_sound (t.next + 1))))

-- Both calls keep a table sound.
pub sound_call : (t : Table) (x : Call) → Sound t → Sound (called t x).table
sound_call t x s = by_call t x.channel x.asks s

pub sound_open : (first : ℕ) → Sound (open_of first)
sound_open first i = go 8 i
  where
    go : (n i : ℕ) → SoundChannel first (get_or (replicate n new_channel) i blank_channel)
    go zero zero = blank_sound first
    go zero (suc i) = blank_sound first
    go (suc n) zero = new_sound first
    go (suc n) (suc i) = go n i

pub sound_after : (t : Table) (xs : List Call) → Sound t → Sound (after t xs)
sound_after t [] s = s
sound_after t (x ∷ xs) s = sound_after (called t x).table xs (sound_call t x s)

-- On every table that is reached from a new one device and callback are never 0 to 3, no id stands twice on a channel, and every row's number is
-- at least 1 and below the next.
pub reached_sound : (first : ℕ) (xs : List Call) → Sound (after (open_of first) xs)
reached_sound first xs = sound_after (open_of first) xs (sound_open first)
