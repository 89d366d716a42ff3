-- Each field lies within the 28 bytes.
use Rattle.std.proofs.Common.{arith}
use Rattle.device.proofs.device_capabilities.read.Goals as goal

pub word-requires : goal.word-requires
word-requires c = (omega arith, omega arith)
