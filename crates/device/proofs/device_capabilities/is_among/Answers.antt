-- Below the low end of a range there is no value of it.
use Rattle.std.proofs.Common.{◌<◌, rules, arith}
use Rattle.device.proofs.device_capabilities.is_among.Goals as goal

pub returns-else-low-v : goal.returns-else-low-v
returns-else-low-v c = let below : c.args.v < c.in-OneOr.low = omega arith in search rules
