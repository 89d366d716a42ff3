-- `urb_values::values::outgoing` meets its contract: what is let out is no function that comes only in kind 10, and has NoAck only where the function may.
use Rattle.std.proofs.Common.{◌≡◌, false, rules, arith}
use Rattle.urb_values.specs.Values.{only_in}
use Rattle.urb_values.proofs.values.outgoing.Goals as goal

pub returns-then-not-noack : goal.returns-then-not-noack
returns-then-not-noack c = let goes_out : only_in c.args.urb ≡ false = grind arith in search rules

pub returns-else-not-noack : goal.returns-else-not-noack
returns-else-not-noack c = search rules
