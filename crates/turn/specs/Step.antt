-- A message on one channel: answers 3 to 14 and 0, and the channel afterwards.
use Rattle.std.specs.Prelude.{ℕ, List, Option, Some, None, Ok, Err}
use Rattle.std.specs.Result.{result_ok}
use Rattle.channel.specs.declared.channel.Channel.{Channel}
use Rattle.rules.specs.Decide.{decided}
use Rattle.turn.specs.Admit.{Admitted, admitted}
use Rattle.turn.specs.Store.{seen_of, stored}
use Rattle.rules.specs.declared.verdict.Accepted.{Accepted}
use Rattle.rules.specs.Verdict.{Verdict}

abbrev pub verdict_by : Channel → ℕ → Admitted → Verdict
verdict_by c number (Err r) = Err r
verdict_by c number (Ok (kind, asked)) = decided kind asked number c.jitter (seen_of c asked)

unfoldable pub verdict_of : Channel → ℕ → ℕ → List ℕ → Verdict
verdict_of c number side m = verdict_by c number (admitted c.phase c.device c.callback side m)

-- by what was accepted: a refused message leaves the channel as it was, whatever is told of the refusal
abbrev pub left_of : Channel → Option Accepted → Channel
left_of c None = c
left_of c (Some a) = stored c a.phase a.act

unfoldable pub after_of : Channel → Verdict → Channel
after_of c v = left_of c (result_ok v)
