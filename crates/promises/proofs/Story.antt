-- What an accepted message does with rows and numbers: it opens a request under its own number, or names one, whose row it frees or marks, or neither.
use Rattle.std.specs.Prelude.{Option, Some, None, Result, Ok, Err}
use Prim.Native.Nat.{ℕ, ◌≤◌}
use native.Mathlib.Omega.{arith}
use mathlib.Core.Path.{◌≡◌, refl, sym, ap, subst, ◌∙◌}
use mathlib.Core.List.{List}
use mathlib.Core.Bool.{Bool, true, false, false≢true, ◌||◌}
use lib.ListN.{get_or}
use lib.Dec.{eqb}
use borrow.Author.Tests.{eqb-true}
use Rattle.answers.specs.Kind.{kind_number}
use Rattle.header.specs.declared.ids.RequestId.{RequestId}
use Rattle.answers.specs.declared.kind.Kind.{Kind}
use Rattle.wire.specs.declared.message.Asked.TheVariants as asks
use Rattle.channel.specs.Rows.{free_row}
use Rattle.rows.specs.Search.{lowest_of}
use Rattle.requests.specs.Held.{find_of, held_at, held_by, held_of, holds}
use Rattle.channel.specs.declared.channel.Channel.{Channel}
use Rattle.requests.specs.declared.open.Held.{Held}
use Rattle.requests.specs.declared.open.Held.TheVariants as held
use Rattle.channel.specs.declared.row.Open.{Open}
use Rattle.channel.specs.declared.row.Sort.{Sort}
use Rattle.channel.specs.declared.row.Sort.TheVariants.{Free, Io, In, Out}
use Rattle.rows.proofs.Laws.{first_there}
use Rattle.rules.specs.Request.{opened}
use Rattle.rules.specs.Decide.{decided}
use Rattle.rules.specs.declared.verdict.Act.{Act}
use Rattle.rules.specs.declared.verdict.Act.TheVariants as act
use Rattle.turn.specs.Admit.{Admitted, admitted}
use Rattle.turn.specs.Step.{verdict_by, verdict_of}
use Rattle.turn.specs.Store.{here_of, seen_of}
use Rattle.promises.specs.Names.{in_kind, io_kind, may_name, out_kind}
use Rattle.promises.specs.Sound.{row_of}
use Rattle.promises.proofs.Admitted.{admitted_has}
use Rattle.promises.proofs.Decided.{cancelled_has, io_has, no_data_has, out_has, taken_has, urb_has}
use Rattle.promises.proofs.Kinded.{Kinded, kinded, Quiet}
use Rattle.wire.specs.declared.message.Asked.{Asked}
use Rattle.wire.specs.declared.message.Unfit.{Unfit}
use Rattle.wire.specs.declared.message.Unfit.TheVariants as unfit
use Rattle.rules.specs.Verdict.{Verdict}

-- the kinds of request that a row's sort is for
abbrev pub kind_for : Sort → ℕ → Bool
kind_for Free kind = false
kind_for (Io o) kind = io_kind kind
kind_for (In o) kind = in_kind kind
kind_for (Out o) kind = out_kind kind

-- the open request of a row
abbrev pub Is : Sort → Open → Type 0
Is Free o = ⊥
Is (Io p) o = p ≡ o
Is (In p) o = p ≡ o
Is (Out p) o = p ≡ o

-- a row taken: by a request with this number, id and kind
pub record Opens (n request kind : ℕ) (s : Sort) : Type 0 where
  pub open' : Open
  pub is : Is s open'
  pub number : open'.number ≡ n
  pub id : open'.request.0 ≡ request
  pub fits : kind_for s kind ≡ true

-- a row whose request is named: it has this number and id, and this kind may name any request that such a row is for
pub record Picks (cause request kind : ℕ) (s : Sort) : Type 0 where
  pub open' : Open
  pub is : Is s open'
  pub number : open'.number ≡ cause
  pub id : open'.request.0 ≡ request
  pub may : (k : ℕ) → kind_for s k ≡ true → may_name kind k ≡ true

abbrev pub Tells : Channel → ℕ → ℕ → ℕ → ℕ → Act → Type 0
Tells c n kind request cause act.Keep = (cause ≡ 0) × Quiet kind
Tells c n kind request cause (act.Device id ms) = (cause ≡ 0) × Quiet kind
Tells c n kind request cause (act.Callback k) = (cause ≡ 0) × Quiet kind
Tells c n kind request cause (act.Take at row) = (cause ≡ 0) × Quiet kind × Opens n request kind row.sort
-- a completion frees the row, whether it is marked or not; a cancel marks one that is not
Tells c n kind request cause (act.Free at) = Picks cause request kind (row_of c at).sort × ((15 ≤ kind) × (kind ≤ 17))
Tells c n kind request cause (act.Mark at) = Picks cause request kind (row_of c at).sort × (kind ≡ 13) × ((o : Open) → Is (row_of c at).sort o → o.marked ≡ false)
Tells c n kind request cause act.Empty = (cause ≡ 0) × (kind ≡ 14)

abbrev pub Story : Channel → ℕ → Verdict → Type 0
Story c n (Err r) = Unit {0}
Story c n (Ok a) = Tells c n a.kind a.request a.cause a.act

-- ---- what is held under an id stands in its row
abbrev Stands : Channel → RequestId → Held → Type 0
Stands c id held.Nothing = Unit {0}
Stands c id (held.Io at o) = ((row_of c at).sort ≡ Io o) × (o.request.0 ≡ id.0)
Stands c id (held.In at o) = ((row_of c at).sort ≡ In o) × (o.request.0 ≡ id.0)
Stands c id (held.Out at o) = ((row_of c at).sort ≡ Out o) × (o.request.0 ≡ id.0)

by_stands : (c : Channel) (id : RequestId) (at : ℕ) (s : Sort) → (row_of c at).sort ≡ s → holds id (record { sort = s }) ≡ true → Stands c id (held_by at s)
by_stands c id at Free e h = tt
by_stands c id at (Io o) e h = (e, eqb-true o.request.0 id.0 h)
by_stands c id at (In o) e h = (e, eqb-true o.request.0 id.0 h)
by_stands c id at (Out o) e h = (e, eqb-true o.request.0 id.0 h)

stands : (c : Channel) (id : RequestId) → Stands c id (held_of c id)
unfolding held_of
stands c id = go (find_of c id) refl
  where
    go : (f : Option ℕ) → find_of c id ≡ f → Stands c id (held_at c.rows f)
    go None t = tt
    go (Some at) t =
        let (k, h) = first_there (holds id) c.rows 0 at t in
        let q : at ≡ k = omega (arith, h.0) in
        by_stands c id at (row_of c at).sort refl (ap (λ n. holds id (get_or c.rows n free_row)) q ∙ h.1)

-- ---- the rules
io_low : (n : ℕ) → io_kind n ≡ true → Quiet n
io_low n e = go (eqb n 8) (eqb n 9) (λ h. eqb-true n 8 h) (λ h. eqb-true n 9 h) e
  where
    go : (a b : Bool) → (a ≡ true → n ≡ 8) → (b ≡ true → n ≡ 9) → (a || b) ≡ true → Quiet n
    go true b p q h = let z = p refl in omega arith
    go false true p q h = let z = q refl in omega arith
    go false false p q h = let z : ◌≡◌ {A = ℕ} 0 1 = cc in absurd (omega arith)

-- a completion, or a cancel, names the request of the row that was found
row_picked : (c : Channel) (at : ℕ) (s : Sort) (o : Open) (id : RequestId) (kind : ℕ) → Is s o → ((k : ℕ) → kind_for s k ≡ true → may_name kind k ≡ true)
    → ((row_of c at).sort ≡ s) × (o.request.0 ≡ id.0) → Picks o.number id.0 kind (row_of c at).sort
row_picked c at s o id kind q m h = record { open' = o; is = subst (λ x. Is x o) (sym h.0) q; number = refl; id = h.1; may = λ k e. m k (ap (λ x. kind_for x k) (sym h.0) ∙ e) }

pub open_is : (s : Sort) (o p : Open) → Is s o → Is s p → o ≡ p
open_is Free o p y z = absurd y
open_is (Io q) o p y z = sym y ∙ z
open_is (In q) o p y z = sym y ∙ z
open_is (Out q) o p y z = sym y ∙ z

row_unmarked : (c : Channel) (at : ℕ) (s : Sort) (o : Open) (id : RequestId) → Is s o → o.marked ≡ false → ((row_of c at).sort ≡ s) × (o.request.0 ≡ id.0) → (p : Open) → Is (row_of c at).sort p → p.marked ≡ false
row_unmarked c at s o id q m h p y = ap (λ (x : Open). x.marked) (open_is s p o (subst (λ x. Is x p) h.0 y) q) ∙ m

or_left : (a b : Bool) → a ≡ true → (a || b) ≡ true
or_left true b e = refl
or_left false b e = absurd (false≢true e)

or_right : (a b : Bool) → b ≡ true → (a || b) ≡ true
or_right true b e = refl
or_right false b e = e

-- what was found under an id, where it was found to be this
found_there : (c : Channel) (id : RequestId) (here : Held) → held_of c id ≡ here → Stands c id here
found_there c id here e = subst (Stands c id) e (stands c id)

decided_story : (c : Channel) (n : ℕ) (k : Kind) (a : Result Asked Unfit) → Kinded (kind_number k) a → Story c n (decided k a n c.jitter (seen_of c a))
unfolding decided here_of opened
decided_story c n k (Err (unfit.Sizes fault)) h = tt
decided_story c n k (Err unfit.Value) h = tt
decided_story c n k (Ok asks.Step) h = (refl, h)
decided_story c n k (Ok (asks.Device id ms)) h = (refl, h)
decided_story c n k (Ok (asks.Callback id)) h = (refl, h)
decided_story c n k (Ok (asks.IoControl r)) h =
    taken_has (Story c n) k (λ b q. tt) r (Io (opened r n)) (held_of c r.request) (lowest_of c) (λ at e. (refl, io_low (kind_number k) h, (record { open' = opened r n; is = refl; number = refl; id = refl; fits = h })))
decided_story c n k (Ok (asks.TransferIn r)) h =
    taken_has (Story c n) k (λ b q. tt) r (In (opened r n)) (held_of c r.request) (lowest_of c) (λ at e. (refl, omega (arith, h), (record { open' = opened r n; is = refl; number = refl; id = refl; fits = rw h })))
decided_story c n k (Ok (asks.TransferOut r)) h =
    out_has (Story c n) k (λ b q. tt) r n c.jitter (held_of c r.request) (lowest_of c) (refl, omega arith) (λ at e. (refl, omega (arith, h), (record { open' = opened r n; is = refl; number = refl; id = refl; fits = rw h })))
decided_story c n k (Ok (asks.Cancel id)) h =
    cancelled_has (Story c n) k (λ b q. tt) id (held_of c id) (refl, omega (arith, h))
    (λ at o e m. (row_picked c at (Io o) o id (kind_number k) refl (λ j n. rw h (or_left (io_kind j) _ n)) (found_there c id _ e), h, row_unmarked c at (Io o) o id refl m (found_there c id _ e)))
    (λ at o e m. (row_picked c at (In o) o id (kind_number k) refl (λ j n. rw h (or_right (io_kind j) _ (or_left (in_kind j) (out_kind j) n))) (found_there c id _ e), h, row_unmarked c at (In o) o id refl m (found_there c id _ e)))
    (λ at o e m. (row_picked c at (Out o) o id (kind_number k) refl (λ j n. rw h (or_right (io_kind j) _ (or_right (in_kind j) (out_kind j) n))) (found_there c id _ e), h, row_unmarked c at (Out o) o id refl m (found_there c id _ e)))
decided_story c n k (Ok asks.Retract) h = (refl, h)
decided_story c n k (Ok (asks.IoCompletion d)) h =
    io_has (Story c n) k (λ b q. tt) d (held_of c d.request) (λ at o e. (row_picked c at (Io o) o d.request (kind_number k) refl (λ j m. rw h m) (found_there c d.request _ e), (omega (arith, h), omega (arith, h))))
decided_story c n k (Ok (asks.UrbCompletion d)) h =
    urb_has (Story c n) k (λ b q. tt) d (held_of c d.request) (λ at o e. (row_picked c at (In o) o d.request (kind_number k) refl (λ j m. rw h m) (found_there c d.request _ e), (omega (arith, h), omega (arith, h))))
decided_story c n k (Ok (asks.UrbCompletionNoData d)) h =
    no_data_has (Story c n) k (λ b q. tt) d (held_of c d.request)
    (λ at o e. (row_picked c at (In o) o d.request (kind_number k) refl (λ j m. rw h (or_left (in_kind j) (out_kind j) m)) (found_there c d.request _ e), (omega (arith, h), omega (arith, h))))
    (λ at o e. (row_picked c at (Out o) o d.request (kind_number k) refl (λ j m. rw h (or_right (in_kind j) (out_kind j) m)) (found_there c d.request _ e), (omega (arith, h), omega (arith, h))))

-- ---- from the message
abbrev Asking : Admitted → Type 0
Asking (Err r) = Unit {0}
Asking (Ok (k, a)) = Kinded (kind_number k) a

by_story : (c : Channel) (n : ℕ) (a : Admitted) → Asking a → Story c n (verdict_by c n a)
by_story c n (Err r) h = tt
by_story c n (Ok (k, a)) h = decided_story c n k a h

pub story : (c : Channel) (n side : ℕ) (m : List ℕ) → Story c n (verdict_of c n side m)
unfolding verdict_of
story c n side m =
    by_story c n (admitted c.phase c.device c.callback side m)
    (admitted_has Asking m tt tt tt (λ k. tt) (λ k. kinded k m) c.phase c.device c.callback side)
