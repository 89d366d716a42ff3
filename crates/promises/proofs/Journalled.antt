-- The entries of a run are its journal, and their numbers are the table's next and those behind it.
use Rattle.std.specs.Prelude.{Option, Some, None}
use Prim.Native.Nat.{ℕ, suc, ◌+◌, ◌≤◌}
use native.Mathlib.Numerals.{add-one}
use mathlib.Core.Path.{◌≡◌, refl, ap, subst, ◌∙◌}
use mathlib.Core.List.{List, [], ◌∷◌, ◌++◌, map}
use mathlib.Core.Bool.{Bool, true, false}
use lib.Dec.{eqb}
use lib.ListN.{length}
use borrow.Author.Tests.{eqb-false, eqb-true}
use Rattle.answers.specs.Answer.{answer_number}
use Rattle.answers.specs.declared.entry.Entry.{Entry}
use Rattle.table.specs.Table.{open_of}
use Rattle.table.specs.declared.table.Table.{Table}
use Rattle.journal.specs.Calls.{Call, called}
use Rattle.journal.specs.Journal.{joined, journal_of}
use Rattle.journal.proofs.Runs.{journal_kept}
use Rattle.order.specs.Machine.{Given, gives}
use Rattle.promises.specs.Demand1.{Demand1}
use Rattle.promises.specs.Demand3.{entries_of, Journalled, run, tagged, up_from, with_entry}
use Rattle.promises.specs.Gate.{Gave, inside, Place}
use Rattle.promises.proofs.Demand1.{demand_1}
use Rattle.promises.proofs.Gate.{gate}
use Rattle.promises.proofs.Names.{all_name}
use Rattle.promises.proofs.Runs.{done_of, run_is}

in_front : (n : Option Entry) (es : List Entry) → joined [] n ++ es ≡ with_entry n es
in_front None es = refl
in_front (Some e) es = refl

-- On every table: the journal of a run is the entries that its calls gave, in their order.
pub journal_of_run : (t : Table) (xs : List Call) → journal_of t xs ≡ entries_of (run t xs)
journal_of_run t [] = refl
journal_of_run t (x ∷ xs) =
    journal_kept t (x ∷ []) xs ∙ in_front (called t x).entry (journal_of (called t x).table xs) ∙ ap (with_entry (called t x).entry) (journal_of_run (called t x).table xs)

abbrev numbers_in : List Entry → List ℕ
numbers_in es = map (λ (e : Entry). e.number) es

abbrev Counts : ℕ → List Entry → Type 0
Counts n es = numbers_in es ≡ up_from n (length es)

counted : (t : Table) (xs : List Call) → Counts t.next (entries_of (run t xs))
counted t [] = refl
counted t (x ∷ xs) = go (eqb (answer_number (called t x).answer) 1) refl (demand_1 t x) (counted (called t x).table xs)
  where
    go : (b : Bool) → eqb (answer_number (called t x).answer) 1 ≡ b → Demand1 t x (called t x)
        → Counts (called t x).table.next (entries_of (run (called t x).table xs)) → Counts t.next (with_entry (called t x).entry (entries_of (run (called t x).table xs)))
    go true e d ih = let (n, same) = d.refusal_1 (eqb-true _ 1 e) in rw (n, same) (subst (λ u. Counts u.next (entries_of (run u xs))) same ih)
    go false e d ih =
        let ne = eqb-false _ 1 e in
        let w = d.entered ne in
        rw w.one (cc (w.number, d.next ne ∙ add-one t.next, ih))

-- On every table: the numbers of the entries of a run are the table's next, the one behind it, and so on.
pub journal_numbered : (t : Table) (xs : List Call) → map (λ (e : Entry). e.number) (journal_of t xs) ≡ up_from t.next (length (journal_of t xs))
journal_numbered t xs = rw (journal_of_run t xs) (counted t xs)

-- within the limit of the numbers every call has its entry
entries_done : (gs : List (Given Gave)) → length (entries_of (map done_of gs)) ≡ length gs
entries_done [] = refl
entries_done (g ∷ gs) = ap suc (entries_done gs)

length-gives : (n : ℕ) (t : List Place) (xs : List Call) → length (gives gate n t (map tagged xs)) ≡ length xs
length-gives n t [] = refl
length-gives n t (x ∷ xs) = ap suc (length-gives (suc n) _ xs)

pub one_each : (t : Table) (xs : List Call) → 1 ≤ t.next → t.next + length xs ≤ 4294967295 → length t.channels ≡ 8 → length (journal_of t xs) ≡ length xs
one_each t xs h k l =
    ap length (journal_of_run t xs ∙ ap entries_of (run_is t xs h k l))
    ∙ entries_done (gives gate t.next (map inside t.channels) (map tagged xs))
    ∙ length-gives t.next (map inside t.channels) xs

pub journalled : (k : ℕ) (xs : List Call) → 1 ≤ k → k + length xs ≤ 4294967295 → Journalled k xs
journalled k xs h l = record {
  entries = journal_of_run (open_of k) xs;
  numbers = journal_numbered (open_of k) xs ∙ ap (up_from k) (one_each (open_of k) xs h l refl);
  names = all_name k xs;
}
