-- 01 "How much a contract has to say": four programs that have to be shut out, as what each gives for a call.
use Rattle.std.specs.Prelude.{List, [], ◌∷◌, ◌≢◌, Option, Some, option_map}
use Rattle.answers.specs.Answer.{answer_number}
use Rattle.answers.specs.declared.answer.Answer.{Answer}
use Rattle.answers.specs.declared.answer.Answer.TheVariants.{Accepted}
use Rattle.table.specs.Entry.{refused_entry}
use Rattle.table.specs.Table.{numbered}
use Rattle.table.specs.declared.table.Judged.{Judged}
use Rattle.table.specs.declared.table.Table.{Table}
use Rattle.journal.specs.Calls.{after, Call, called, side_by, stamp_by}
use Rattle.promises.specs.Cases.{Case, case1, case3, case4}
use Rattle.answers.specs.declared.entry.Entry.{Entry}

-- A program, by what it gives for the last of a run of calls: from a table, after these calls, for this one. The contracts ask for `right`.
abbrev pub Program : Type 0
Program = Table → List Call → Call → Judged

abbrev pub right : Program
right t before x = called (after t before) x

-- one that keeps nothing but its table
abbrev pub from_table : (Table → Call → Judged) → Program
from_table p t [] x = p t x
from_table p t (y ∷ ys) x = from_table p (p t y).table ys x

-- what a call gives, but with this answer, in its entry too
abbrev pub answered_in : Answer → Option Entry → Option Entry
answered_in a e = option_map (λ (x : Entry). record x { answer = answer_number a }) e

abbrev pub answered : Answer → Judged → Judged
answered a j = record j { answer = a; entry = answered_in a j.entry }

-- it refuses everything, with one answer, and uses a number for each
abbrev pub refuses_everything : Answer → Program
refuses_everything a =
    from_table (λ t x. record { answer = a; entry = Some (refused_entry t.next x.channel (side_by x.asks) (stamp_by x.asks) 0 a); table = numbered t })

-- it answers 0 always, and is right in all else
abbrev pub answers0_always : Program
answers0_always = from_table (λ t x. answered Accepted (called t x))

-- it hands the table back untouched, and is right in all else
abbrev pub table_untouched : Program
table_untouched = from_table (λ t x. record (called t x) { table = t })

-- it judges the first call of a run rightly and repeats that answer, and is right in all else
abbrev pub repeats_first_answer : Program
repeats_first_answer t [] x = called t x
repeats_first_answer t (y ∷ ys) x = answered (called t y).answer (called (after t (y ∷ ys)) x)

-- in a case it gives another answer than the right one
abbrev pub OtherAnswerIn : Case → Program → Type 0
OtherAnswerIn k p = answer_number (p k.start k.before k.call).answer ≢ answer_number (right k.start k.before k.call).answer

-- each is shut out by the case that 01 names for it
pub record ShutOut : Type 0 where
  pub refuses : (a : Answer) → answer_number a ≢ 0 → OtherAnswerIn case1 (refuses_everything a)
  pub accepts : OtherAnswerIn case3 answers0_always
  pub untouched : OtherAnswerIn case4 table_untouched
  pub repeats : OtherAnswerIn case3 repeats_first_answer
