-- `texts::text::read` meets its contract: a text ends behind all of its units, of two bytes each.
use Rattle.std.proofs.Common.{arith}
use Rattle.texts.proofs.text.read.Goals as goal

pub unit_back-requires : goal.unit_back-requires
unit_back-requires c = omega arith

pub unit_back-requires-2 : goal.unit_back-requires-2
unit_back-requires-2 c = omega arith
