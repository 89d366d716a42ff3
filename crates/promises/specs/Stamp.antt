-- The stamp, as a caller gives it and as an entry carries it.
use Rattle.std.specs.Prelude.{ℕ, Option, option_map}
use Rattle.answers.specs.declared.entry.Entry.{Entry}
use Rattle.table.specs.declared.table.Judged.{Judged}
use Rattle.journal.specs.Calls.{Asks, Call, judging, closing}

-- the same call with another stamp
abbrev pub asks_at : ℕ → Asks → Asks
asks_at stamp (judging side s m) = judging side stamp m
asks_at stamp (closing s) = closing stamp

abbrev pub call_at : ℕ → Call → Call
call_at stamp x = record x { asks = asks_at stamp x.asks }

-- the same entry with another stamp
abbrev pub entry_at : ℕ → Entry → Entry
entry_at stamp e = record e { stamp = stamp }

abbrev pub noted_at : ℕ → Option Entry → Option Entry
noted_at stamp e = option_map (entry_at stamp) e

abbrev pub judged_at : ℕ → Judged → Judged
judged_at stamp j = record j { entry = noted_at stamp j.entry }
