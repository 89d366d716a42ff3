-- The walk's end lies behind its start.
use Rattle.std.proofs.Common.{sym}
use Rattle.urb.proofs.Walk.{interfaces_end}
use Rattle.urb.proofs.select_interface.read.Goals as goal

pub overflow_sub-interface : goal.overflow_sub-interface
overflow_sub-interface c = (interfaces_end _ 1 0 28 _ _ (sym c.in_ok-end.ensures)).0
