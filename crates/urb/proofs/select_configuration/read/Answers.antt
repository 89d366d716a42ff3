-- The walk's end lies behind its start.
use Rattle.std.proofs.Common.{sym}
use Rattle.urb.proofs.Walk.{interfaces_end}
use Rattle.urb.proofs.select_configuration.read.Goals as goal

pub configuration-requires : goal.configuration-requires
configuration-requires c = (interfaces_end _ _ _ 32 _ _ (sym c.in_ok-end.ensures)).0
