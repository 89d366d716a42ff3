-- `urb_values::values::incoming` meets its contract: what is let in comes without NoAck, and with OutputBufferSize 0 where the function comes only so.
use Rattle.std.proofs.Common.{◌≡◌, false, rules, arith}
use Rattle.urb_values.proofs.values.incoming.Goals as goal

pub returns-then-not-only_in : goal.returns-then-not-only_in
returns-then-not-only_in c = let with_ack : c.args.noack ≡ false = grind arith in search rules

pub returns-else-not-only_in : goal.returns-else-not-only_in
returns-else-not-only_in c = search rules
