-- Within the limit of the numbers, a run of the real calls is a run of the gate's machine.
use Rattle.std.specs.Prelude.{Some, Ok, Err}
use Prim.Native.Nat.{ℕ, zero, suc, ◌+◌, ◌-◌, ◌<◌, ◌≤◌}
use native.Mathlib.Omega.{arith}
use native.Mathlib.Numerals.{add-one}
use mathlib.Core.Path.{◌≡◌, refl, sym, ap, subst, ◌∙◌}
use mathlib.Core.List.{List, [], ◌∷◌, map}
use mathlib.Core.Bool.{Bool, true, false}
use lib.ListN.{get_or, length, length-map, length-set, set, get_or-eq_default}
use lib.Seq.{set_out}
use lib.Dec.{ltb}
use borrow.Author.Tests.{le-ltb, lt-ltb, ltb-false, ltb-true, ne_eqb}
use Rattle.wire.specs.Message.{empty_part}
use Rattle.channel.specs.Rows.{new_channel}
use Rattle.channel.specs.declared.channel.Channel.{Channel}
use Rattle.turn.specs.Step.{after_of, verdict_of}
use Rattle.table.specs.Entry.{answer_of, judged_entry}
use Rattle.payloads.specs.Payload.{cut_of, payload_of, shown_by, shown_of, start_in, start_of}
use Rattle.table.specs.Table.{blank_channel, channel_of, close_of, judge_of}
use Rattle.places.specs.Place.{of_side, used_up}
use Rattle.answers.specs.declared.entry.Entry.{Entry}
use Rattle.table.specs.declared.table.Table.{Table}
use Rattle.journal.specs.Calls.{after, Asks, Call, called, called_by, closing, judging}
use Rattle.order.specs.Machine.{Given, ends, gives}
use Rattle.promises.specs.Gate.{gate_step, Gave, inside, outside, Place, said_gave}
use Rattle.promises.specs.Demand3.{Done, done_by, run, tagged}
use Rattle.promises.proofs.Gate.{gate}
use Rattle.rules.specs.Verdict.{Verdict}

-- a call of the machine's run, as the real one gives it: the entry gets its number and its channel
abbrev pub entry_of : Given Gave → Entry
entry_of g =
    record g.out.entry { number = g.number; channel = g.chan }

abbrev pub done_of : Given Gave → Done
done_of g = record { channel = g.chan; answer = g.out.answer; entry = Some (entry_of g); payload = g.out.payload; start = g.out.start }

abbrev places : Table → List Place
places t = map inside t.channels

-- one call: what it gives, and the table after it
record Tied (t : Table) (channel : ℕ) (a : Asks) (s : Place) : Type 0 where
  done : done_by t (record { channel = channel; asks = a }) ≡ done_of (record { number = t.next; chan = channel; out = (gate_step t.next s a).0 })
  next : (called_by t channel a).table.next ≡ t.next + 1
  size : length (called_by t channel a).table.channels ≡ length t.channels
  table : places (called_by t channel a).table ≡ set (places t) channel (gate_step t.next s a).1

-- a number that is left: not answered 1
left : (n : ℕ) → 1 ≤ n → n < 4294967295 → used_up n ≡ false
left n h k = rw (ne_eqb n 0 (λ p. omega arith), ne_eqb n 4294967295 (λ p. omega arith))

map-set : (l : List Channel) (i : ℕ) (c : Channel) → map inside (set l i c) ≡ set (map inside l) i (inside c)
map-set [] i c = refl
map-set (x ∷ l) zero c = refl
map-set (x ∷ l) (suc i) c = ap (λ r. inside x ∷ r) (map-set l i c)

-- a channel that is one of the 8, by its place
get_inside : (l : List Channel) (i : ℕ) → i < length l → get_or (map inside l) i outside ≡ inside (get_or l i blank_channel)
get_inside [] i h = absurd (omega arith)
get_inside (x ∷ l) zero h = refl
get_inside (x ∷ l) (suc i) h = get_inside l i (omega arith)

-- the empty part has no bytes, and lies where the message starts
cut_empty : (m : List ℕ) → cut_of m empty_part ≡ []
unfolding cut_of
cut_empty m = rw (le-ltb (length m) 0 (omega arith), le-ltb (length m - 0) 0 (omega arith))

start_empty : (m : List ℕ) → start_in m empty_part ≡ 0
unfolding start_in
start_empty m = rw (le-ltb (length m) 0 (omega arith), le-ltb (length m - 0) 0 (omega arith))

-- a call on a channel above 7
tied_outside : (t : Table) (channel : ℕ) (a : Asks) → used_up t.next ≡ false → length t.channels ≡ 8 → 8 ≤ channel → Tied t channel a outside
unfolding judge_of close_of payload_of start_of shown_of
tied_outside t channel (judging side stamp m) u l h =
    let b : ltb 7 channel ≡ true = lt-ltb 7 channel (omega arith) in
    let o : length (places t) ≤ channel = rw length-map (omega arith) in
    record { done = rw (u, b, cut_empty m, start_empty m); next = rw (u, b); size = rw (u, b); table = rw (u, b) (sym (set_out (places t) channel outside o)) }
tied_outside t channel (closing stamp) u l h =
    let b : ltb 7 channel ≡ true = lt-ltb 7 channel (omega arith) in
    let o : length (places t) ≤ channel = rw length-map (omega arith) in
    record { done = rw (u, b); next = rw (u, b); size = rw (u, b); table = rw (u, b) (sym (set_out (places t) channel outside o)) }

set_same : (l : List Place) (i : ℕ) (s : Place) → get_or l i outside ≡ s → i < length l → set l i s ≡ l
set_same [] i s e h = refl
set_same (x ∷ l) zero s e h = rw e
set_same (x ∷ l) (suc i) s e h = ap (λ r. x ∷ r) (set_same l i s e (omega arith))

-- the entry of a judged message, from what the machine says of it
entry_as : (n channel side stamp : ℕ) (m : List ℕ) (v : Verdict) → judged_entry n channel side stamp v ≡ entry_of (record { number = n; chan = channel; out = said_gave side stamp m v })
unfolding judged_entry
entry_as n channel side stamp m (Err r) = refl
entry_as n channel side stamp m (Ok a) = refl

-- a call on one of the 8, by the tests of the two
tied_inside : (t : Table) (channel : ℕ) (a : Asks) → used_up t.next ≡ false → length t.channels ≡ 8 → channel < 8 → Tied t channel a (inside (channel_of t channel))
unfolding judge_of close_of payload_of start_of shown_of
tied_inside t channel (judging side stamp m) u l h = go (of_side side) refl
  where
    b : ltb 7 channel ≡ false
    b = le-ltb 7 channel (omega arith)

    here : get_or (places t) channel outside ≡ inside (channel_of t channel)
    here = get_inside t.channels channel (omega arith)

    w : Verdict
    w = verdict_of (channel_of t channel) t.next side m

    go : (o : Bool) → of_side side ≡ o → Tied t channel (judging side stamp m) (inside (channel_of t channel))
    go true o = record {
      done = rw (u, b, o) (ap (λ (e : Entry). record { channel = channel; answer = answer_of w; entry = Some e; payload = cut_of m (shown_by w); start = start_in m (shown_by w) }) (entry_as t.next channel side stamp m w));
      next = rw (u, b, o);
      size = rw (u, b, o, length-set);
      table = rw (u, b, o) (map-set t.channels channel (after_of (channel_of t channel) w));
    }
    go false o = record {
      done = rw (u, b, o, cut_empty m, start_empty m);
      next = rw (u, b, o);
      size = rw (u, b, o);
      table = rw (u, b, o) (sym (set_same (places t) channel (inside (channel_of t channel)) here (rw length-map (omega arith))));
    }
tied_inside t channel (closing stamp) u l h =
    let b : ltb 7 channel ≡ false = le-ltb 7 channel (omega arith) in
    record { done = rw (u, b); next = rw (u, b); size = rw (u, b, length-set); table = rw (u, b) (map-set t.channels channel new_channel) }

tied : (t : Table) (channel : ℕ) (a : Asks) → used_up t.next ≡ false → length t.channels ≡ 8 → Tied t channel a (get_or (places t) channel outside)
tied t channel a u l = go (ltb channel 8) (λ e. ltb-true channel 8 e) (λ e. ltb-false channel 8 e)
  where
    go : (b : Bool) → (b ≡ true → channel < 8) → (b ≡ false → 8 ≤ channel) → Tied t channel a (get_or (places t) channel outside)
    go true p q =
        let h : channel < length t.channels = let z = p refl in omega arith in
        subst (Tied t channel a) (sym (get_inside t.channels channel h)) (tied_inside t channel a u l (p refl))
    go false p q =
        let z = q refl in
        let o : length (places t) ≤ channel = rw length-map (omega arith) in
        subst (Tied t channel a) (sym (get_or-eq_default (places t) outside o)) (tied_outside t channel a u l z)

-- a run
pub run_is : (t : Table) (xs : List Call) → 1 ≤ t.next → t.next + length xs ≤ 4294967295 → length t.channels ≡ 8
    → run t xs ≡ map done_of (gives gate t.next (places t) (map tagged xs))
run_is t [] h k l = refl
run_is t (x ∷ xs) h k l =
    let e = tied t x.channel x.asks (left t.next h (omega arith)) l in
    let n : (called_by t x.channel x.asks).table.next ≡ suc t.next = e.next ∙ add-one t.next in
    let r = run_is (called t x).table xs (rw n (omega arith)) (rw n (omega arith)) (e.size ∙ l) in
    cc (e.done, r, n, e.table)

pub after_is : (t : Table) (xs : List Call) → 1 ≤ t.next → t.next + length xs ≤ 4294967295 → length t.channels ≡ 8
    → places (after t xs) ≡ ends gate t.next (places t) (map tagged xs)
after_is t [] h k l = refl
after_is t (x ∷ xs) h k l =
    let e = tied t x.channel x.asks (left t.next h (omega arith)) l in
    let n : (called_by t x.channel x.asks).table.next ≡ suc t.next = e.next ∙ add-one t.next in
    let r = after_is (called t x).table xs (rw n (omega arith)) (rw n (omega arith)) (e.size ∙ l) in
    cc (r, n, e.table)

-- each call of the run uses one number
pub next_is : (t : Table) (xs : List Call) → 1 ≤ t.next → t.next + length xs ≤ 4294967295 → length t.channels ≡ 8 → (after t xs).next ≡ t.next + length xs
next_is t [] h k l = omega arith
next_is t (x ∷ xs) h k l =
    let e = tied t x.channel x.asks (left t.next h (omega arith)) l in
    let n : (called_by t x.channel x.asks).table.next ≡ suc t.next = e.next ∙ add-one t.next in
    let r = next_is (called t x).table xs (rw n (omega arith)) (rw n (omega arith)) (e.size ∙ l) in
    omega (arith, r, n)
