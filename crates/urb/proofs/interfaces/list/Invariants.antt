-- `urb::interfaces::list` meets its contract. The invariant: what is left of the list, walked from here on, is what the whole list is.
use mathlib.Core.Path.{◌≡◌}
use Rattle.urb.specs.Interfaces.{interfaces_of}
use Rattle.urb.proofs.interfaces.list.Given as goal

abbrev pub invariant-loop-left : goal.invariant-loop-left
invariant-loop-left l = interfaces_of l.s l.count 0 l.at ≡ interfaces_of l.s l.left l.most l.start

abbrev pub decreases-loop-left : goal.decreases-loop-left
decreases-loop-left l = l.left
