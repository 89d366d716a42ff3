-- `device::device_capabilities::word` meets its contract: no row starts behind byte 24.
use native.Mathlib.Omega.{arith}
use Rattle.device.proofs.Walk.{offset_bound}
use Rattle.device.proofs.device_capabilities.word.Goals as goal

pub overflow_add-at : goal.overflow_add-at
overflow_add-at c = rw c.rows-rows.ensures (omega (arith, offset_bound c.args.k))
