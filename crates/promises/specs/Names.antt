-- Demand 3, the causes: which entry names which.
use Rattle.std.specs.Prelude.{ℕ, ◌<◌, ◌≤◌, ◌≡◌, ◌⊎◌, ◌≢◌, List, [], ◌∷◌, Bool, true, false, cond, ◌||◌, eqb}
use Rattle.answers.specs.declared.entry.Entry.{Entry}

abbrev pub Among : {A : Type 0} → A → List A → Type 0
Among x [] = ⊥
Among x (y ∷ ys) = (x ≡ y) ⊎ Among x ys

-- the kinds of the requests that take a row
abbrev pub io_kind : ℕ → Bool
io_kind kind = eqb kind 8 || eqb kind 9

abbrev pub in_kind : ℕ → Bool
in_kind kind = eqb kind 10

abbrev pub out_kind : ℕ → Bool
out_kind kind = eqb kind 11

-- 01 "Completions": 15 closes IO requests, 16 transfers in, 17 both transfers; 02 R-2: a cancel, 13, marks any of them; no other kind names one
abbrev pub may_name : ℕ → ℕ → Bool
may_name kind request =
    cond (eqb kind 15) (io_kind request)
    (cond (eqb kind 16) (in_kind request)
    (cond (eqb kind 17) (in_kind request || out_kind request)
    (cond (eqb kind 13) (io_kind request || (in_kind request || out_kind request)) false)))

abbrev pub Cancel : Entry → Type 0
Cancel e = e.kind ≡ 13

abbrev pub Completion : Entry → Type 0
Completion e = (15 ≤ e.kind) × (e.kind ≤ 17)

-- an accepted retract or close, which empties the rows of its channel
abbrev pub Withdraws : Entry → Type 0
Withdraws e = (e.answer ≡ 0) × ((e.kind ≡ 14) ⊎ (e.kind ≡ 18))

-- the request that an entry names: an earlier accepted one of its own channel, with its RequestId, of a kind that it may name
pub record Named (earlier : List Entry) (e : Entry) : Type 0 where
  pub request : Entry
  pub there : Among request earlier
  pub number : request.number ≡ e.cause
  pub accepted : request.answer ≡ 0
  pub channel : request.channel ≡ e.channel
  pub id : request.request ≡ e.request
  pub kind : may_name e.kind request.kind ≡ true
  -- and it is one: no other earlier entry has that number
  pub only : (q : Entry) → Among q earlier → q.number ≡ e.cause → q ≡ request
  -- and no accepted retract or close of the channel stands between the two; a later entry has a higher number (`journal_numbered`)
  pub between : (q : Entry) → Among q earlier → request.number < q.number → q.channel ≡ e.channel → Withdraws q → ⊥

-- an entry names one where its cause is not 0
pub record Names (earlier : List Entry) (e : Entry) : Type 0 where
  -- every accepted completion names one; cancels may; no other entry does, and none that is refused
  pub completes : e.answer ≡ 0 → Completion e → 1 ≤ e.cause
  pub namers : 1 ≤ e.cause → (e.answer ≡ 0) × (Cancel e ⊎ Completion e)
  pub named : 1 ≤ e.cause → Named earlier e
  -- 02 R-2: of those that name one request, at most one is a cancel and at most one a completion
  pub one_cancel : 1 ≤ e.cause → Cancel e → (q : Entry) → Among q earlier → Cancel q → q.cause ≢ e.cause
  pub one_completion : 1 ≤ e.cause → Completion e → (q : Entry) → Among q earlier → Completion q → q.cause ≢ e.cause
  -- and no cancel names a request that was completed before it
  pub not_completed : 1 ≤ e.cause → Cancel e → (q : Entry) → Among q earlier → Completion q → q.cause ≢ e.cause

-- of every entry of a journal, by the entries before it
abbrev pub AllName : List Entry → List Entry → Type 0
AllName earlier [] = Unit {0}
AllName earlier (e ∷ es) = Names earlier e × AllName (e ∷ earlier) es
