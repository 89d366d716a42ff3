-- What the journal so far says of the rows in use: each has its entry there, no completion has named it, and a cancel only where the row is marked.
use Prim.Native.Nat.{ℕ, zero, suc, ◌+◌, ◌<◌, ◌≤◌}
use native.Mathlib.Omega.{arith}
use mathlib.Core.Path.{◌≡◌, refl, sym, ap, subst, ◌∙◌}
use mathlib.Core.Logic.{◌⊎◌, inl, inr, ◌≢◌}
use mathlib.Core.List.{List, [], ◌∷◌}
use mathlib.Core.Bool.{true}
use lib.ListN.{get_or, length, length-set, set}
use Rattle.channel.specs.Rows.{free_row}
use Rattle.channel.specs.declared.channel.Channel.{Channel}
use Rattle.channel.specs.declared.row.Open.{Open}
use Rattle.channel.specs.declared.row.Row.{Row}
use Rattle.channel.specs.declared.row.Sort.{Sort}
use Rattle.channel.specs.declared.row.Sort.TheVariants.{Free, Io, In, Out}
use Rattle.channel.proofs.Laws.{set_read}
use Rattle.table.specs.Table.{blank_channel, channel_of, numbered, with_channel}
use Rattle.answers.specs.declared.entry.Entry.{Entry}
use Rattle.table.specs.declared.table.Table.{Table}
use Rattle.promises.specs.Names.{Among, Cancel, Names, Withdraws}
use Rattle.promises.specs.Sound.{Numbered, row_of, Sound, Used}
use Rattle.promises.proofs.Kinded.{NoCompletion}
use Rattle.promises.proofs.Story.{kind_for}
use Rattle.promises.proofs.Story.{Is as Holds}

abbrev pub row_in : Table → ℕ → ℕ → Row
row_in t d i = row_of (channel_of t d) i

-- an open request has its entry in the journal; what names it there is a cancel, and then its row is marked; and since that entry its channel was neither retracted nor closed
pub record Backed (h : List Entry) (d : ℕ) (s : Sort) (o : Open) : Type 0 where
  pub request : Entry
  pub there : Among request h
  pub number : request.number ≡ o.number
  pub accepted : request.answer ≡ 0
  pub channel : request.channel ≡ d
  pub id : request.request ≡ o.request.0
  pub kind : kind_for s request.kind ≡ true
  pub namers : (q : Entry) → Among q h → q.cause ≡ o.number → Cancel q × (o.marked ≡ true)
  pub since : (q : Entry) → Among q h → request.number < q.number → q.channel ≡ d → Withdraws q → ⊥

abbrev pub Once : List Entry → Type 0
Once h = (p q : Entry) → Among p h → Among q h → p.number ≡ q.number → p ≡ q

pub record Kept (h : List Entry) (t : Table) : Type 0 where
  pub size : length t.channels ≡ 8
  pub rows : (d i : ℕ) (o : Open) → Holds (row_in t d i).sort o → Backed h d (row_in t d i).sort o
  pub apart : (d i e j : ℕ) (o p : Open) → Holds (row_in t d i).sort o → Holds (row_in t e j).sort p → o.number ≡ p.number → (d ≡ e) × (i ≡ j)
  pub causes : (q : Entry) → Among q h → q.cause < t.next
  -- and no two entries have one number
  pub numbers : (q : Entry) → Among q h → q.number < t.next
  pub once : Once h

pub used : (n : ℕ) (s : Sort) (o : Open) → Numbered n s → Holds s o → Used n o
used n Free o u h = absurd h
used n (Io p) o u h = subst (Used n) h u
used n (In p) o u h = subst (Used n) h u
used n (Out p) o u h = subst (Used n) h u

pub row_used : (t : Table) → Sound t → (d i : ℕ) (o : Open) → Holds (row_in t d i).sort o → Used t.next o
row_used t s d i o h = used t.next (row_in t d i).sort o ((s d).numbers i) h

more_causes : (h : List Entry) (e : Entry) (n m : ℕ) → n ≤ m → e.cause < m → ((q : Entry) → Among q h → q.cause < n) → (q : Entry) → Among q (e ∷ h) → q.cause < m
more_causes h e n m l b f q (inl p) = let z = ap (λ (x : Entry). x.cause) p in omega (arith, b)
more_causes h e n m l b f q (inr i) = let z = f q i in omega arith

-- an entry with the next number
more_numbers : (h : List Entry) (e : Entry) (n m : ℕ) → m ≡ n + 1 → e.number ≡ n → ((q : Entry) → Among q h → q.number < n) → (q : Entry) → Among q (e ∷ h) → q.number < m
more_numbers h e n m l b f q (inl p) = let z = ap (λ (x : Entry). x.number) p in omega (arith, b)
more_numbers h e n m l b f q (inr i) = let z = f q i in omega arith

more_once : (h : List Entry) (e : Entry) (n : ℕ) → e.number ≡ n → ((q : Entry) → Among q h → q.number < n) → Once h → Once (e ∷ h)
more_once h e n b f o p q (inl x) (inl y) z = x ∙ sym y
more_once h e n b f o p q (inl x) (inr y) z = let w = ap (λ (r : Entry). r.number) x in let v = f q y in absurd (omega (arith, b, z))
more_once h e n b f o p q (inr x) (inl y) z = let w = ap (λ (r : Entry). r.number) y in let v = f p x in absurd (omega (arith, b, z))
more_once h e n b f o p q (inr x) (inr y) z = o p q x y z

-- A row in use after a call, by what it was before it. The same request held it, and if the call's entry names that request, it is a cancel and the row is marked now ..
pub record From (t u : Table) (e : Entry) (d i : ℕ) (o : Open) : Type 0 where
  pub was : Open
  pub held : Holds (row_in t d i).sort was
  pub number : was.number ≡ o.number
  pub id : was.request.0 ≡ o.request.0
  pub kind : (k : ℕ) → kind_for (row_in t d i).sort k ≡ true → kind_for (row_in u d i).sort k ≡ true
  pub mark : was.marked ≡ true → o.marked ≡ true
  pub named : e.cause ≡ o.number → Cancel e × (o.marked ≡ true)
  pub stays : e.channel ≡ d → Withdraws e → ⊥

-- .. or it is the row of the call's own entry
abbrev pub Newly : Table → Table → Entry → ℕ → ℕ → ℕ → ℕ → Open → Type 0
Newly t u e ch at d i o =
    (ch ≡ d) × (at ≡ i) × (o.number ≡ t.next) × (o.request.0 ≡ e.request) × (kind_for (row_in u d i).sort e.kind ≡ true) × (e.cause ≢ o.number) × (e.answer ≡ 0) × (e.channel ≡ ch)

-- a row that is as it was
pub as_was : (t u : Table) (e : Entry) (d i : ℕ) (o : Open) → Holds (row_in u d i).sort o → (row_in u d i).sort ≡ (row_in t d i).sort → e.cause ≢ o.number → (e.channel ≡ d → Withdraws e → ⊥) → From t u e d i o
as_was t u e d i o p q ne st = record {
  was = o;
  held = subst (λ s. Holds s o) q p;
  number = refl;
  id = refl;
  kind = λ k m. ap (λ s. kind_for s k) q ∙ m;
  mark = λ m. m;
  named = λ z. absurd (ne z);
  stays = st;
}

-- every call with an entry: its rows are those from before and, at most, one that is its own
pub one_more : (h : List Entry) (e : Entry) (t u : Table) (ch at : ℕ) → Kept h t → Sound t → length u.channels ≡ 8 → u.next ≡ t.next + 1 → e.cause < u.next → e.number ≡ t.next
    → ((d i : ℕ) (o : Open) → Holds (row_in u d i).sort o → From t u e d i o ⊎ Newly t u e ch at d i o)
    → Kept (e ∷ h) u
one_more h e t u ch at k s l n low num from = record {
  size = l;
  rows = λ d i o p. rows' d i o (from d i o p);
  apart = λ d i f j o p x y z. apart' d i f j o p z (from d i o x) (from f j p y);
  causes = more_causes h e t.next u.next (omega (arith, n)) low k.causes;
  numbers = more_numbers h e t.next u.next n num k.numbers;
  once = more_once h e t.next num k.numbers k.once;
}
  where
    before : (d i : ℕ) (o : Open) (f : From t u e d i o) → Backed h d (row_in t d i).sort f.was
    before d i o f = k.rows d i f.was f.held

    namers' : (d i : ℕ) (o : Open) → From t u e d i o → (q : Entry) → Among q (e ∷ h) → q.cause ≡ o.number → Cancel q × (o.marked ≡ true)
    namers' d i o f q (inl p) c =
        let w = f.named (ap (λ (x : Entry). x.cause) (sym p) ∙ c) in
        (ap (λ (x : Entry). x.kind) p ∙ w.0, w.1)
    namers' d i o f q (inr m) c =
        let w = (before d i o f).namers q m (c ∙ sym f.number) in
        (w.0, f.mark w.1)

    since' : (d i : ℕ) (o : Open) (f : From t u e d i o) (q : Entry) → Among q (e ∷ h) → (before d i o f).request.number < q.number → q.channel ≡ d → Withdraws q → ⊥
    since' d i o f q (inl p) b c w = f.stays (ap (λ (x : Entry). x.channel) (sym p) ∙ c) (subst Withdraws p w)
    since' d i o f q (inr m) b c w = (before d i o f).since q m b c w

    own_namers : (o : Open) → o.number ≡ t.next → e.cause ≢ o.number → (q : Entry) → Among q (e ∷ h) → q.cause ≢ o.number
    own_namers o m ne q (inl p) c = ne (ap (λ (x : Entry). x.cause) (sym p) ∙ c)
    own_namers o m ne q (inr i) c = let z = k.causes q i in absurd (omega (arith, c, m))

    own_since : (q : Entry) → Among q (e ∷ h) → e.number < q.number → ⊥
    own_since q (inl p) b = let z = ap (λ (x : Entry). x.number) p in omega (arith, b, z)
    own_since q (inr m) b = let z = k.numbers q m in omega (arith, b, z, num)

    rows' : (d i : ℕ) (o : Open) → From t u e d i o ⊎ Newly t u e ch at d i o → Backed (e ∷ h) d (row_in u d i).sort o
    rows' d i o (inl f) =
        let b = before d i o f in
        record {
          request = b.request;
          there = inr b.there;
          number = b.number ∙ f.number;
          accepted = b.accepted;
          channel = b.channel;
          id = b.id ∙ f.id;
          kind = f.kind b.request.kind b.kind;
          namers = namers' d i o f;
          since = since' d i o f;
        }
    rows' d i o (inr q) = record {
      request = e;
      there = inl refl;
      number = num ∙ sym q.2;
      accepted = q.6;
      channel = q.7 ∙ q.0;
      id = sym q.3;
      kind = q.4;
      namers = λ x m c. absurd (own_namers o q.2 q.5 x m c);
      since = λ x m b c w. own_since x m b;
    }

    apart' : (d i f j : ℕ) (o p : Open) → o.number ≡ p.number → From t u e d i o ⊎ Newly t u e ch at d i o → From t u e f j p ⊎ Newly t u e ch at f j p → (d ≡ f) × (i ≡ j)
    apart' d i f j o p z (inl a) (inl b) = k.apart d i f j a.was b.was a.held b.held (a.number ∙ z ∙ sym b.number)
    apart' d i f j o p z (inl a) (inr b) = let v = row_used t s d i a.was a.held in absurd (omega (arith, z, v.1, b.2, a.number))
    apart' d i f j o p z (inr a) (inl b) = let v = row_used t s f j b.was b.held in absurd (omega (arith, z, v.1, a.2, b.number))
    apart' d i f j o p z (inr a) (inr b) = (sym a.0 ∙ b.0, sym a.1 ∙ b.1)

-- a call after which no row is open that was not before, and none is marked
pub less : (h : List Entry) (e : Entry) (t u : Table) → Kept h t → Sound t → length u.channels ≡ 8 → u.next ≡ t.next + 1 → e.number ≡ t.next → e.cause < u.next
    → ((d i : ℕ) (o : Open) → Holds (row_in u d i).sort o → (row_in u d i).sort ≡ (row_in t d i).sort)
    → ((d i : ℕ) (o : Open) → Holds (row_in u d i).sort o → e.cause ≢ o.number)
    → ((d i : ℕ) (o : Open) → Holds (row_in u d i).sort o → e.channel ≡ d → Withdraws e → ⊥) → Kept (e ∷ h) u
less h e t u k s l n num low same ne st =
    one_more h e t u 0 0 k s l n low num (λ d i o p. inl (as_was t u e d i o p (same d i o p) (ne d i o p) (st d i o p)))

-- an entry that names none
pub names_none : (h : List Entry) (e : Entry) → e.cause ≡ 0 → (e.answer ≡ 0 → NoCompletion e.kind) → Names h e
names_none h e c f = record {
  completes = λ a w. absurd (f a w);
  namers = λ l. absurd (omega (arith, l, c));
  named = λ l. absurd (omega (arith, l, c));
  one_cancel = λ l. absurd (omega (arith, l, c));
  one_completion = λ l. absurd (omega (arith, l, c));
  not_completed = λ l. absurd (omega (arith, l, c));
}

-- ---- one channel is put back
abbrev pub put : Table → ℕ → Channel → Table
put t ch c = with_channel (numbered t) ch c

-- a row afterwards: as it was, or a row of the channel that was put back
row_after : (t : Table) (ch : ℕ) (c : Channel) (d i : ℕ) → (row_in (put t ch c) d i ≡ row_in t d i) ⊎ ((ch ≡ d) × (row_in (put t ch c) d i ≡ row_of c i))
row_after t ch c d i = go (set_read t.channels ch c d blank_channel)
  where
    go : (get_or (set t.channels ch c) d blank_channel ≡ channel_of t d) ⊎ ((ch ≡ d) × (get_or (set t.channels ch c) d blank_channel ≡ c))
        → (row_in (put t ch c) d i ≡ row_in t d i) ⊎ ((ch ≡ d) × (row_in (put t ch c) d i ≡ row_of c i))
    go (inl e) = inl (ap (λ x. row_of x i) e)
    go (inr e) = inr (e.0, ap (λ x. row_of x i) e.1)

-- it is as it was where the channel's own rows, those in use, are
pub sub : (t : Table) (ch : ℕ) (c : Channel) → ((i : ℕ) (o : Open) → Holds (row_of c i).sort o → (row_of c i).sort ≡ (row_in t ch i).sort)
    → (d i : ℕ) (o : Open) → Holds (row_in (put t ch c) d i).sort o → (row_in (put t ch c) d i).sort ≡ (row_in t d i).sort
sub t ch c f d i o h = go (row_after t ch c d i)
  where
    go : (row_in (put t ch c) d i ≡ row_in t d i) ⊎ ((ch ≡ d) × (row_in (put t ch c) d i ≡ row_of c i)) → (row_in (put t ch c) d i).sort ≡ (row_in t d i).sort
    go (inl e) = ap (λ (r : Row). r.sort) e
    go (inr e) =
        ap (λ (r : Row). r.sort) e.1
        ∙ f i o (subst (λ (r : Row). Holds r.sort o) e.1 h)
        ∙ ap (λ x. (row_in t x i).sort) e.0

pub length_put : (t : Table) (ch : ℕ) (c : Channel) → length t.channels ≡ 8 → length (put t ch c).channels ≡ 8
length_put t ch c l = rw length-set l

-- where one row of it was replaced: as it was, or that row
pub row_set : (t : Table) (ch : ℕ) (c : Channel) (at : ℕ) (row : Row) → c.rows ≡ set (channel_of t ch).rows at row
    → (d i : ℕ) → (row_in (put t ch c) d i ≡ row_in t d i) ⊎ ((ch ≡ d) × (at ≡ i) × (row_in (put t ch c) d i ≡ row))
row_set t ch c at row e d i = go (row_after t ch c d i)
  where
    by : (ch ≡ d) → row_in (put t ch c) d i ≡ row_of c i → (get_or (set (channel_of t ch).rows at row) i free_row ≡ row_in t ch i) ⊎ ((at ≡ i) × (get_or (set (channel_of t ch).rows at row) i free_row ≡ row))
        → (row_in (put t ch c) d i ≡ row_in t d i) ⊎ ((ch ≡ d) × (at ≡ i) × (row_in (put t ch c) d i ≡ row))
    by q y (inl z) = inl (y ∙ ap (λ l. get_or l i free_row) e ∙ z ∙ ap (λ x. row_in t x i) q)
    by q y (inr z) = inr (q, z.0, y ∙ ap (λ l. get_or l i free_row) e ∙ z.1)

    go : (row_in (put t ch c) d i ≡ row_in t d i) ⊎ ((ch ≡ d) × (row_in (put t ch c) d i ≡ row_of c i)) → (row_in (put t ch c) d i ≡ row_in t d i) ⊎ ((ch ≡ d) × (at ≡ i) × (row_in (put t ch c) d i ≡ row))
    go (inl y) = inl y
    go (inr y) = by y.0 y.1 (set_read (channel_of t ch).rows at row i free_row)

-- a row that is made of the one that stood at its place, where one past the end stays as it is
pub changed_there : {A : Type 0} (f : A → A) (d : A) → f d ≡ d → (l : List A) (i : ℕ) → get_or (set l i (f (get_or l i d))) i d ≡ f (get_or l i d)
changed_there f d e [] zero = sym e
changed_there f d e [] (suc i) = sym e
changed_there f d e (x ∷ l) zero = refl
changed_there f d e (x ∷ l) (suc i) = changed_there f d e l i
