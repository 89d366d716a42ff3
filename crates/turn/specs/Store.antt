-- What is found in a channel's rows, and what an accepted message does to the channel.
use Rattle.std.specs.Prelude.{ℕ, Some, Result, Ok, Err}
use Rattle.wire.specs.declared.message.Asked.TheVariants as asks
use Rattle.channel.specs.Rows.{free_row, with_row, with_mark, emptied}
use Rattle.rows.specs.Search.{lowest_of, open_count}
use Rattle.requests.specs.Held.{held_of}
use Rattle.channel.specs.declared.channel.Channel.{Channel}
use Rattle.requests.specs.declared.open.Held.{Held}
use Rattle.requests.specs.declared.open.Held.TheVariants.{Nothing}
use Rattle.rules.specs.declared.decide.Seen.{Seen}
use Rattle.rules.specs.declared.verdict.Act.{Act}
use Rattle.rules.specs.declared.verdict.Act.TheVariants.{Keep, Device, Callback, Take, Free, Mark, Empty}
use Rattle.wire.specs.declared.message.Asked.{Asked}
use Rattle.wire.specs.declared.message.Unfit.{Unfit}

-- what is open under the RequestId that the message carries, if it carries one
unfoldable pub here_of : Channel → Result Asked Unfit → Held
here_of c (Err unfit) = Nothing
here_of c (Ok asks.Step) = Nothing
here_of c (Ok (asks.Device id ms)) = Nothing
here_of c (Ok (asks.Callback id)) = Nothing
here_of c (Ok (asks.IoControl r)) = held_of c r.request
here_of c (Ok (asks.TransferIn r)) = held_of c r.request
here_of c (Ok (asks.TransferOut r)) = held_of c r.request
here_of c (Ok (asks.Cancel id)) = held_of c id
here_of c (Ok asks.Retract) = Nothing
here_of c (Ok (asks.IoCompletion d)) = held_of c d.request
here_of c (Ok (asks.UrbCompletion d)) = held_of c d.request
here_of c (Ok (asks.UrbCompletionNoData d)) = held_of c d.request

abbrev pub seen_of : Channel → Result Asked Unfit → Seen
seen_of c a = record { here = here_of c a; free = lowest_of c; count = open_count c.rows }

abbrev pub done : Channel → Act → Channel
done c Keep = c
done c (Device id ms) = record c { device = Some id; jitter = ms }
done c (Callback known) = record c { callback = known }
done c (Take at row) = with_row c at row
done c (Free at) = with_row c at free_row
done c (Mark at) = with_mark c at
done c Empty = emptied c

abbrev pub in_phase : Channel → ℕ → Channel
in_phase c phase = record c { phase = phase }

unfoldable pub stored : Channel → ℕ → Act → Channel
stored c phase act = in_phase (done c act) phase
