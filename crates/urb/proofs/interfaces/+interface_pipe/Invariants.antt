-- The cycle {interface, pipe}. From one interface to the next there are fewer of them and fewer bytes left, so the measure is twice the smaller of the two, and
-- one more in `pipe`: with at most 32 interfaces left the readers go at most 64 calls deep.
use Rattle.std.proofs.Common.{◌+◌, ◌-◌, ◌*◌, length}
use Prim.Native.Nat.{min}
use Rattle.urb.proofs.interfaces.+interface_pipe.Given as goal

abbrev pub decreases-interface : goal.decreases-interface
decreases-interface l = 2 * min l.left (length l.s.now - l.at)

abbrev pub decreases-pipe : goal.decreases-pipe
decreases-pipe l = 2 * min l.left (length l.s.now - l.at) + 1
