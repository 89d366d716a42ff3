-- Demand 1, and what 01 "Journal" says of every entry, of what a call gives.
use Rattle.std.specs.Prelude.{◌+◌, ◌≤◌, ◌≡◌, ◌≢◌, Some, None}
use Rattle.answers.specs.Answer.{answer_number}
use Rattle.table.specs.Table.{numbered}
use Rattle.answers.specs.declared.entry.Entry.{Entry}
use Rattle.table.specs.declared.table.Judged.{Judged}
use Rattle.table.specs.declared.table.Table.{Table}
use Rattle.journal.specs.Calls.{Call, side_by, stamp_by}

-- the entry of a call that was answered otherwise than by 1
pub record Entered (t : Table) (x : Call) (j : Judged) : Type 0 where
  pub entry : Entry
  pub one : j.entry ≡ Some entry
  -- its number is the table's next, and its answer the call's
  pub number : entry.number ≡ t.next
  pub answer : entry.answer ≡ answer_number j.answer
  -- channel, side and stamp are what the caller gave; a close has side 3
  pub channel : entry.channel ≡ x.channel
  pub side : entry.side ≡ side_by x.asks
  pub stamp : entry.stamp ≡ stamp_by x.asks
  -- in a refused entry request, cause and size are 0
  pub refused : answer_number j.answer ≢ 0 → (entry.request ≡ 0) × (entry.cause ≡ 0) × (entry.size ≡ 0)
  -- the kind is 0 for answers 2 to 5
  pub kindless : 2 ≤ answer_number j.answer → answer_number j.answer ≤ 5 → entry.kind ≡ 0

pub record Demand1 (t : Table) (x : Call) (j : Judged) : Type 0 where
  -- with answer 1 there is no entry, and the table is the very same
  pub refusal_1 : answer_number j.answer ≡ 1 → (j.entry ≡ None) × (j.table ≡ t)
  -- any other refused call changes nothing but the next number, which is one higher
  pub refusal : answer_number j.answer ≢ 1 → answer_number j.answer ≢ 0 → j.table ≡ numbered t
  -- every call but those answered 1 gives one entry and uses one number
  pub entered : answer_number j.answer ≢ 1 → Entered t x j
  pub next : answer_number j.answer ≢ 1 → j.table.next ≡ t.next + 1
