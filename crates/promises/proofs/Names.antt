-- In every journal from a new table, each accepted completion names one earlier accepted request of its channel; of those that name one request at most one is a cancel and at most one a completion.
use Rattle.std.specs.Prelude.{Some, None, Ok, Err}
use Prim.Native.Nat.{ℕ, zero, suc, ◌+◌, ◌<◌, ◌≤◌}
use native.Mathlib.Omega.{arith}
use mathlib.Core.Path.{◌≡◌, refl, sym, ap, subst, ◌∙◌}
use mathlib.Core.Logic.{◌⊎◌, inl, inr, ◌≢◌}
use mathlib.Core.List.{List, [], ◌∷◌, ◌++◌}
use mathlib.Core.Bool.{Bool, true, false, true≢false}
use lib.ListN.{get_or, length, replicate, set}
use lib.Seq.{get_or-set_same}
use lib.Dec.{eqb, ltb}
use borrow.Author.Tests.{eqb-false, eqb-true, ltb-false}
use Rattle.words.proofs.Steps.{either}
use Rattle.channel.specs.Rows.{free_row, in_sort, marked_row, marked_open, new_channel}
use Rattle.rows.specs.Search.{open_count}
use Rattle.channel.specs.declared.channel.Channel.{Channel}
use Rattle.channel.specs.declared.row.Open.{Open}
use Rattle.channel.specs.declared.row.Row.{Row}
use Rattle.channel.specs.declared.row.Sort.{Sort}
use Rattle.channel.specs.declared.row.Sort.TheVariants.{Free, Io, In, Out}
use Rattle.channel.proofs.Laws.{all_alike}
use Rattle.answers.specs.declared.answer.Answer.TheVariants as answer
use Rattle.rules.specs.declared.verdict.Accepted.{Accepted}
use Rattle.rules.specs.declared.verdict.Act.{Act}
use Rattle.rules.specs.declared.verdict.Act.TheVariants as act
use Rattle.turn.specs.Step.{after_of, verdict_of}
use Rattle.turn.specs.Store.{stored}
use Rattle.table.specs.Entry.{accepted_entry, answer_of, close_entry, judged_entry, refused_entry}
use Rattle.table.specs.Table.{blank_channel, channel_of, close_of, judged_by, judge_of, moved, open_of, unplaced}
use Rattle.places.specs.Place.{no_place, used_up}
use Rattle.places.proofs.Steps.{placed}
use Rattle.answers.specs.declared.entry.Entry.{Entry}
use Rattle.table.specs.declared.table.Judged.{Judged}
use Rattle.table.specs.declared.table.Table.{Table}
use Rattle.journal.specs.Calls.{Asks, Call, called, called_by, closing, judging}
use Rattle.journal.specs.Journal.{joined, journal_from, journal_of}
use Rattle.journal.proofs.Runs.{journal_kept}
use Rattle.promises.specs.Names.{AllName, Cancel, Completion, Names, Withdraws}
use Rattle.promises.specs.Sound.{row_of, Sound, Used}
use Rattle.promises.proofs.Demand1.{set_same}
use Rattle.promises.proofs.Kinded.{NoCompletion, Quiet}
use Rattle.promises.proofs.Sound.{sound_call, sound_open, usable}
use Rattle.promises.proofs.Story.{kind_for, open_is, Opens, Picks, Story, story, Tells}
use Rattle.promises.proofs.Story.{Is as Holds}
use Rattle.promises.proofs.Verdicts.{Proper, proper}
use Rattle.promises.proofs.Kept.{as_was, Backed, changed_there, From, Kept, length_put, less, names_none, Newly, one_more, put, row_set, row_used, row_in, sub}
use Rattle.rules.specs.Verdict.{Verdict, kind_told}

-- ---- what a row holds
-- a marked row holds its request, with the mark, and is for the same kinds
marked_holds : (x : Sort) (o : Open) → Holds x o → Holds (in_sort marked_open x) (marked_open o)
marked_holds Free o y = y
marked_holds (Io q) o y = ap marked_open y
marked_holds (In q) o y = ap marked_open y
marked_holds (Out q) o y = ap marked_open y

marked_kind : (x : Sort) (k : ℕ) → kind_for (in_sort marked_open x) k ≡ kind_for x k
marked_kind Free k = refl
marked_kind (Io o) k = refl
marked_kind (In o) k = refl
marked_kind (Out o) k = refl

-- kinds up to 13, and completions, withdraw nothing
quiet_stays : (e : Entry) → Quiet e.kind → Withdraws e → ⊥
quiet_stays e q (a, inl k) = omega (arith, q, k)
quiet_stays e q (a, inr k) = omega (arith, q, k)

completion_stays : (e : Entry) → Completion e → Withdraws e → ⊥
completion_stays e c (a, inl k) = omega (arith, c.0, k)
completion_stays e c (a, inr k) = omega (arith, c.1, k)

-- no cancel is a completion
not_both : (e : Entry) → Cancel e → Completion e → ⊥
not_both e k c = omega (arith, k, c.0)

same_or : (x y : ℕ) → (x ≡ y) ⊎ (x ≢ y)
same_or x y = go (eqb x y) refl
  where
    go : (b : Bool) → eqb x y ≡ b → (x ≡ y) ⊎ (x ≢ y)
    go true e = inl (eqb-true x y e)
    go false e = inr (eqb-false x y e)

-- no row of sixteen free ones is in use
no_row : (i : ℕ) (o : Open) → Holds (get_or (replicate 16 free_row) i free_row).sort o → ⊥
no_row i o p = subst (λ (r : Row). Holds r.sort o) (all_alike 16 free_row i) p

-- the channel that was put back has no row in use
emptied_there : (t : Table) (ch : ℕ) (c : Channel) → ch < length t.channels → ((i : ℕ) (o : Open) → Holds (row_of c i).sort o → ⊥)
    → (d i : ℕ) (o : Open) → Holds (row_in (put t ch c) d i).sort o → ch ≡ d → ⊥
emptied_there t ch c l f d i o p q =
    f i o (subst (λ x. Holds (row_of x i).sort o) (get_or-set_same t.channels ch c blank_channel l) (subst (λ x. Holds (row_in (put t ch c) x i).sort o) (sym q) p))

-- ---- an accepted message, by what it does
module _ (h : List Entry) (t : Table) (ch side stamp : ℕ) (k : Kept h t) (s : Sound t) (one : 1 ≤ t.next) (low : ch < 8) (a : Accepted) where
  abbrev e : Entry
  e = accepted_entry t.next ch side stamp a

  abbrev Fine : Act → Type 0
  Fine x = Names h e × Kept (e ∷ h) (put t ch (stored (channel_of t ch) a.phase x))

  -- an act that names nothing, opens no row and marks none
  quiet : (x : Act) → a.cause ≡ 0 → NoCompletion a.kind
      → ((i : ℕ) (o : Open) → Holds (row_of (stored (channel_of t ch) a.phase x) i).sort o → (row_of (stored (channel_of t ch) a.phase x) i).sort ≡ (row_in t ch i).sort)
      → ((d i : ℕ) (o : Open) → Holds (row_in (put t ch (stored (channel_of t ch) a.phase x)) d i).sort o → ch ≡ d → Withdraws e → ⊥) → Fine x
  quiet x c n f st =
      let u = put t ch (stored (channel_of t ch) a.phase x) in
      let same = sub t ch (stored (channel_of t ch) a.phase x) f in (
        names_none h _ c (λ z. n),
        less h _ t u k s (length_put t ch _ k.size) refl refl (omega (arith, c)) same
            (λ d i o p z. let v = row_used t s d i o (subst (λ q. Holds q o) (same d i o p) p) in absurd (omega (arith, z, c, v.0))) st,
      )

  takes : (at : ℕ) (row : Row) → a.cause ≡ 0 → Quiet a.kind → Opens t.next a.request a.kind row.sort → Fine (act.Take at row)
  unfolding stored
  takes at row c n w = (
    names_none h _ c (λ z v. omega (arith, n, v.0)),
    one_more h _ t u ch at k s (length_put t ch _ k.size) refl (omega (arith, c)) refl (λ d i o p. from d i o p (row_set t ch c' at row refl d i)),
  )
    where
      c' : Channel
      c' = stored (channel_of t ch) a.phase (act.Take at row)

      u : Table
      u = put t ch (stored (channel_of t ch) a.phase (act.Take at row))

      from : (d i : ℕ) (o : Open) → Holds (row_in u d i).sort o → (row_in u d i ≡ row_in t d i) ⊎ ((ch ≡ d) × (at ≡ i) × (row_in u d i ≡ row)) → From t u e d i o ⊎ Newly t u e ch at d i o
      from d i o p (inl y) =
          let q = ap (λ (r : Row). r.sort) y in
          inl (as_was t u e d i o p q (λ z. let v = row_used t s d i o (subst (λ x. Holds x o) q p) in absurd (omega (arith, z, c, v.0))) (λ x. quiet_stays e n))
      from d i o p (inr y) =
          let q = ap (λ (r : Row). r.sort) y.2 in
          let is = open_is row.sort w.open' o w.is (subst (λ x. Holds x o) q p) in
          let m : o.number ≡ t.next = ap (λ (x : Open). x.number) (sym is) ∙ w.number in
          inr (y.0, y.1, m, ap (λ (x : Open). x.request.0) (sym is) ∙ w.id, ap (λ x. kind_for x a.kind) q ∙ w.fits, (λ v. absurd (omega (arith, v, m, c, one))), refl, refl)

  -- the entry of a completion, or of a cancel that finds the row unmarked, names the row's request
  picked : (at : ℕ) (w : Picks a.cause a.request a.kind (row_in t ch at).sort) → Cancel e ⊎ Completion e → (Cancel e → w.open'.marked ≡ false) → Names h e
  picked at w by fresh = record {
    completes = λ x c. omega (arith, w.number, used'.0);
    namers = λ l. (refl, by);
    named = λ l. record {
      request = b.request;
      there = b.there;
      number = b.number ∙ w.number;
      accepted = b.accepted;
      channel = b.channel;
      id = b.id ∙ w.id;
      kind = w.may b.request.kind b.kind;
      only = λ q m z. k.once q b.request m b.there (z ∙ sym (b.number ∙ w.number));
      between = b.since;
    };
    one_cancel = λ l c q m x z. true≢false (sym (b.namers q m (z ∙ sym w.number)).1 ∙ fresh c);
    one_completion = λ l c q m x z. not_both q (b.namers q m (z ∙ sym w.number)).0 x;
    not_completed = λ l c q m x z. not_both q (b.namers q m (z ∙ sym w.number)).0 x;
  }
    where
      b : Backed h ch (row_in t ch at).sort w.open'
      b = k.rows ch at w.open' w.is

      used' : Used t.next w.open'
      used' = row_used t s ch at w.open' w.is

  -- its row becomes another one, and no other row holds its request
  changes : (x : Act) (at : ℕ) (row : Row) → Picks a.cause a.request a.kind (row_in t ch at).sort → (stored (channel_of t ch) a.phase x).rows ≡ set (channel_of t ch).rows at row
      → get_or (set (channel_of t ch).rows at row) at free_row ≡ row → (Withdraws e → ⊥)
      → ((o : Open) → row_in (put t ch (stored (channel_of t ch) a.phase x)) ch at ≡ row → Holds row.sort o → From t (put t ch (stored (channel_of t ch) a.phase x)) e ch at o)
      → Kept (e ∷ h) (put t ch (stored (channel_of t ch) a.phase x))
  changes x at row w rows' there st f =
      one_more h e t u ch at k s (length_put t ch _ k.size) refl (omega (arith, w.number, (row_used t s ch at w.open' w.is).1)) refl (λ d i o p. inl (from d i o p (same_or ch d) (same_or at i)))
    where
      c' : Channel
      c' = stored (channel_of t ch) a.phase x

      u : Table
      u = put t ch (stored (channel_of t ch) a.phase x)

      now : row_in u ch at ≡ row
      now =
          let l : ch < length t.channels = omega (arith, k.size) in
          ap (λ y. row_of y at) (get_or-set_same t.channels ch c' blank_channel l) ∙ ap (λ l. get_or l at free_row) rows' ∙ there

      elsewhere : (d i : ℕ) (o : Open) → Holds (row_in u d i).sort o → ((ch ≡ d) × (at ≡ i) → ⊥) → (row_in u d i ≡ row_in t d i) ⊎ ((ch ≡ d) × (at ≡ i) × (row_in u d i ≡ row)) → From t u e d i o
      elsewhere d i o p n (inl y) =
          let q = ap (λ (r : Row). r.sort) y in
          as_was t u e d i o p q (λ z. n (k.apart ch at d i w.open' o w.is (subst (λ y. Holds y o) q p) (w.number ∙ z))) (λ y. st)
      elsewhere d i o p n (inr y) = absurd (n (y.0, y.1))

      from : (d i : ℕ) (o : Open) → Holds (row_in u d i).sort o → (ch ≡ d) ⊎ (ch ≢ d) → (at ≡ i) ⊎ (at ≢ i) → From t u e d i o
      from d i o p (inl q) (inl v) =
          subst (λ y. From t u e y i o) q
          (subst (λ y. From t u e ch y o) v
          (f o now (subst (λ (y : Row). Holds y.sort o) (ap (λ y. row_in u y i) (sym q) ∙ ap (λ y. row_in u ch y) (sym v) ∙ now) p)))
      from d i o p (inl q) (inr n) = elsewhere d i o p (λ y. n y.1) (row_set t ch c' at row rows' d i)
      from d i o p (inr n) v = elsewhere d i o p (λ y. n y.0) (row_set t ch c' at row rows' d i)

  frees : (at : ℕ) → Picks a.cause a.request a.kind (row_in t ch at).sort → Completion e → Fine (act.Free at)
  unfolding stored
  frees at w c = (
    picked at w (inr c) (λ x. absurd (not_both e x c)),
    changes (act.Free at) at free_row w refl (changed_there (λ r. free_row) free_row refl (channel_of t ch).rows at) (completion_stays e c) (λ o y p. absurd p),
  )

  marks : (at : ℕ) (w : Picks a.cause a.request a.kind (row_in t ch at).sort) → Cancel e → w.open'.marked ≡ false → Fine (act.Mark at)
  unfolding stored
  marks at w c m = (
    picked at w (inl c) (λ x. m),
    changes (act.Mark at) at (marked_row (row_in t ch at)) w refl (changed_there marked_row free_row refl (channel_of t ch).rows at) (quiet_stays e (omega (arith, c))) from,
  )
    where
      u : Table
      u = put t ch (stored (channel_of t ch) a.phase (act.Mark at))

      from : (o : Open) → row_in u ch at ≡ marked_row (row_in t ch at) → Holds (in_sort marked_open (row_in t ch at).sort) o → From t u e ch at o
      from o y p =
          let is : marked_open w.open' ≡ o = open_is (in_sort marked_open (row_in t ch at).sort) (marked_open w.open') o (marked_holds (row_in t ch at).sort w.open' w.is) p in
          let now : o.marked ≡ true = ap (λ (x : Open). x.marked) (sym is) in
          record {
            was = w.open';
            held = w.is;
            number = ap (λ (x : Open). x.number) is;
            id = ap (λ (x : Open). x.request.0) is;
            kind = λ j f. ap (λ (r : Row). kind_for r.sort j) y ∙ marked_kind (row_in t ch at).sort j ∙ f;
            mark = λ f. now;
            named = λ f. (c, now);
            stays = λ x. quiet_stays e (omega (arith, c));
          }

  -- an act of a kind up to 13 that leaves the rows
  plain : (x : Act) → (a.cause ≡ 0) × Quiet a.kind → ((i : ℕ) → (row_of (stored (channel_of t ch) a.phase x) i).sort ≡ (row_in t ch i).sort) → Fine x
  plain x w f = quiet x w.0 (λ v. omega (arith, w.1, v.0)) (λ i o p. f i) (λ d i o p q. quiet_stays e w.1)

  by_act : (x : Act) → Tells (channel_of t ch) t.next a.kind a.request a.cause x → Fine x
  unfolding stored
  by_act act.Keep w = plain act.Keep w (λ i. refl)
  by_act (act.Device id ms) w = plain (act.Device id ms) w (λ i. refl)
  by_act (act.Callback id) w = plain (act.Callback id) w (λ i. refl)
  by_act (act.Take at row) w = takes at row w.0 w.1 w.2
  by_act (act.Free at) w = frees at w.0 w.1
  by_act (act.Mark at) w = marks at w.0 w.1 (w.2 w.0.open' w.0.is)
  by_act act.Empty w =
      quiet act.Empty w.0 (λ v. omega (arith, w.1, v.0)) (λ i o p. absurd (no_row i o p)) (λ d i o p q v. emptied_there t ch (stored (channel_of t ch) a.phase act.Empty) (omega (arith, k.size)) no_row d i o p q)

-- ---- every call
-- what a call leaves: no entry and the same table, or an entry that names as it should
abbrev Well : List Entry → Judged → Type 0
Well h j = ((j.entry ≡ None) × Kept h j.table) ⊎ ((e : Entry) × ((j.entry ≡ Some e) × Names h e × Kept (e ∷ h) j.table))

-- a refused entry, and rows that are as they were
still : (h : List Entry) (e : Entry) (t u : Table) → Kept h t → Sound t → e.answer ≢ 0 → e.number ≡ t.next → e.cause ≡ 0 → u.next ≡ t.next + 1 → u.channels ≡ t.channels → Kept (e ∷ h) u
still h e t u k s ref num c n l =
    less h e t u k s (ap length l ∙ k.size) n num (omega (arith, n, c))
    (λ d i o p. ap (λ (x : List Channel). (row_of (get_or x d blank_channel) i).sort) l)
    (λ d i o p z. let v = row_used t s d i o (subst (λ (x : List Channel). Holds (row_of (get_or x d blank_channel) i).sort o) l p) in absurd (omega (arith, z, c, v.0)))
    (λ d i o p q v. ref v.0)

said_well : (h : List Entry) (t : Table) (ch side stamp : ℕ) → Kept h t → Sound t → 1 ≤ t.next → ch < 8
    → (v : Verdict) → Proper v → Story (channel_of t ch) t.next v → Well h (judged_by t ch side stamp v)
unfolding after_of answer_of judged_entry
said_well h t ch side stamp k s one low (Err r) p w =
    inr (refused_entry t.next ch side stamp (kind_told r.kind) r.answer, (refl, names_none h _ refl (λ z. absurd (omega (arith, z, p.0))), still h _ t _ k s (λ z. absurd (omega (arith, z, p.0))) refl refl refl (set_same t.channels ch blank_channel)))
said_well h t ch side stamp k s one low (Ok a) p w =
    let f = by_act h t ch side stamp k s one low a a.act w in
    inr (accepted_entry t.next ch side stamp a, (refl, f.0, f.1))

unplaced_well : (h : List Entry) (t : Table) (ch side stamp : ℕ) → Kept h t → Sound t → Well h (unplaced t ch side stamp)
unplaced_well h t ch side stamp k s =
    inr (refused_entry t.next ch side stamp 0 answer.NoPlace, (refl, names_none h _ refl (λ z. absurd (omega (arith, z))), still h _ t _ k s (λ z. absurd (omega (arith, z))) refl refl refl refl))

closed_well : (h : List Entry) (t : Table) (ch stamp : ℕ) → Kept h t → Sound t → ch < 8
    → Well h (moved t ch new_channel answer.Accepted (close_entry t.next ch stamp (open_count (channel_of t ch).rows)))
closed_well h t ch stamp k s low =
    inr (
      close_entry t.next ch stamp (open_count (channel_of t ch).rows),
      (
        refl,
        names_none h _ refl (λ z v. omega (arith, v.1)),
        less h _ t (put t ch new_channel) k s (length_put t ch new_channel k.size) refl refl (omega arith) same
            (λ d i o p z. let v = row_used t s d i o (subst (λ q. Holds q o) (same d i o p) p) in absurd (omega (arith, z, v.0)))
            (λ d i o p q v. emptied_there t ch new_channel (omega (arith, k.size)) no_row d i o p q),
      ),
    )
  where
    same : (d i : ℕ) (o : Open) → Holds (row_in (put t ch new_channel) d i).sort o → (row_in (put t ch new_channel) d i).sort ≡ (row_in t d i).sort
    same = sub t ch new_channel (λ i o p. absurd (no_row i o p))

by_call : (h : List Entry) (t : Table) (ch : ℕ) (a : Asks) → Kept h t → Sound t → Well h (called_by t ch a)
unfolding judge_of close_of
by_call h t ch (judging side stamp m) k s =
    either (Well h) (used_up t.next) _ _ (λ z. inl (refl, k))
    (λ z. either (Well h) (no_place ch side) _ _ (λ y. unplaced_well h t ch side stamp k s)
    (λ y. said_well h t ch side stamp k s (usable t.next z) (placed ch side (no_place ch side) refl y) (verdict_of (channel_of t ch) t.next side m) (proper (channel_of t ch) t.next side m) (story (channel_of t ch) t.next side m)))
by_call h t ch (closing stamp) k s =
    either (Well h) (used_up t.next) _ _ (λ z. inl (refl, k))
    (λ z. either (Well h) (ltb 7 ch) _ _ (λ y. unplaced_well h t ch 3 stamp k s) (λ y. let c = ltb-false 7 ch y in closed_well h t ch stamp k s (omega arith)))

-- ---- and every run
run_names : (h : List Entry) (t : Table) (xs : List Call) → Kept h t → Sound t → AllName h (journal_of t xs)
run_names h t [] k s = tt
run_names h t (x ∷ xs) k s = go (by_call h t x.channel x.asks k s) (λ j l. run_names j (called t x).table xs l (sound_call t x s))
  where
    go : Well h (called t x) → ((j : List Entry) → Kept j (called t x).table → AllName j (journal_of (called t x).table xs)) → AllName h (journal_of t (x ∷ xs))
    go (inl w) f = subst (AllName h) (sym (ap (λ n. journal_from (joined [] n) (called t x).table xs) w.0)) (f h w.1)
    go (inr w) f =
        let e = w.0 in
        let r : journal_of t (x ∷ xs) ≡ e ∷ journal_of (called t x).table xs = journal_kept t (x ∷ []) xs ∙ ap (λ n. joined [] n ++ journal_of (called t x).table xs) w.1.0 in
        subst (AllName h) (sym r) (w.1.1, f (e ∷ h) w.1.2)

new_kept : (first : ℕ) → Kept [] (open_of first)
new_kept first = record {
  size = refl;
  rows = λ d i o p. absurd (none 8 d i o p);
  apart = λ d i f j o p x y z. absurd (none 8 d i o x);
  causes = λ q m. absurd m;
  numbers = λ q m. absurd m;
  once = λ p q m. absurd m;
}
  where
    none : (n d i : ℕ) (o : Open) → Holds (row_of (get_or (replicate n new_channel) d blank_channel) i).sort o → ⊥
    none zero zero zero o p = p
    none zero zero (suc i) o p = p
    none zero (suc d) zero o p = p
    none zero (suc d) (suc i) o p = p
    none (suc n) zero i o p = subst (λ (r : Row). Holds r.sort o) (all_alike 16 free_row i) p
    none (suc n) (suc d) i o p = none n d i o p

-- In every journal of a run from a new table: each accepted completion names one earlier accepted request of its own channel, and one alone, with its RequestId and of a kind that it may name, with no
-- accepted retract or close of the channel between; of those that name one request at most one is a cancel and at most one a completion, and no cancel comes behind the completion.
pub all_name : (first : ℕ) (xs : List Call) → AllName [] (journal_of (open_of first) xs)
all_name first xs = run_names [] (open_of first) xs (new_kept first) (sound_open first)
