-- 02 R-2: a mark decides nothing but the cause of a cancel, and marks. The same table without its marks, and an entry without that cause.
use Rattle.std.specs.Prelude.{◌≡◌, map, cond, false, eqb, Option, option_map}
use Rattle.channel.specs.Rows.{in_channel}
use Rattle.channel.specs.declared.row.Open.{Open}
use Rattle.answers.specs.declared.entry.Entry.{Entry}
use Rattle.table.specs.declared.table.Judged.{Judged}
use Rattle.table.specs.declared.table.Table.{Table}
use Rattle.journal.specs.Calls.{Call, called}
use Rattle.promises.specs.Demand3.{payload_by, start_by}

abbrev pub unmarked_open : Open → Open
unmarked_open o = record o { marked = false }

abbrev pub unmarked_table : Table → Table
unmarked_table t = record t { channels = map (in_channel unmarked_open) t.channels }

-- a first cancel has a cause and a second has none; no other field of an entry tells of a mark
abbrev pub uncaused : Entry → Entry
uncaused e = record e { cause = cond (eqb e.kind 13) 0 e.cause }

abbrev pub uncaused_noted : Option Entry → Option Entry
uncaused_noted e = option_map uncaused e

abbrev pub but_marks : Judged → Judged
but_marks j = record j { entry = uncaused_noted j.entry; table = unmarked_table j.table }

-- a call on the table without its marks: the same answer, payload and entry, and the same table afterwards, but for marks and the cause of a cancel (what becomes of a mark itself is in the contracts)
pub record MarkBlind (t : Table) (x : Call) : Type 0 where
  pub call : but_marks (called (unmarked_table t) x) ≡ but_marks (called t x)
  pub payload : payload_by (unmarked_table t) x.channel x.asks ≡ payload_by t x.channel x.asks
  pub start : start_by (unmarked_table t) x.channel x.asks ≡ start_by t x.channel x.asks
