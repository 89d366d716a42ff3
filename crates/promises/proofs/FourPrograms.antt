-- 01's four wrong programs are shut out, each by the case that 01 names for it: the contracts ask for another answer there, whatever a proof's shape.
use Prim.Native.Nat.{ℕ}
use native.Mathlib.Omega.{arith}
use mathlib.Core.Path.{◌≡◌, ap, ◌∙◌}
use mathlib.Core.Logic.{◌≢◌}
use mathlib.Core.List.{List}
use lib.ListN.{get_or}
use Rattle.answers.specs.Answer.{answer_number}
use Rattle.table.specs.declared.table.Judged.{Judged}
use Rattle.promises.specs.Cases.{Case, case1, case3, case4, cases, Shown}
use Rattle.promises.specs.FourPrograms.{OtherAnswerIn, Program, right, ShutOut}
use Rattle.promises.proofs.Cases.{cases_hold}

abbrev answer_in : Case → ℕ
answer_in k = answer_number (right k.start k.before k.call).answer

-- the answer of the i-th case
abbrev at : ℕ → List Shown → ℕ
at i l = (get_or l i case1.shows).answer

answer_1 : answer_in case1 ≡ 0
unfolding cases
answer_1 = ap (at 0) cases_hold

answer_3 : answer_in case3 ≡ 11
unfolding cases
answer_3 = ap (at 2) cases_hold

answer_4 : answer_in case4 ≡ 9
unfolding cases
answer_4 = ap (at 3) cases_hold

pub shut_out : ShutOut
shut_out = record {
  refuses = λ a n e. n (e ∙ answer_1);
  accepts = λ e. let q = e in absurd (omega (arith, answer_3));
  untouched = λ e. let q = e in absurd (omega (arith, answer_1, answer_4));
  repeats = λ e. let q = e in absurd (omega (arith, answer_1, answer_3));
}

-- And where a program gives another answer, it does not give what the contracts ask for.
pub not_met : (k : Case) (p : Program) → OtherAnswerIn k p → p k.start k.before k.call ≢ right k.start k.before k.call
not_met k p other m = other (ap (λ (j : Judged). answer_number j.answer) m)
