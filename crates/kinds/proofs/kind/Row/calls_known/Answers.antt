-- `kinds::kind::Row::calls_known` meets its contract: where the interface is not known, no function is called.
use Rattle.kinds.proofs.kind.Row.calls_known.Goals as goal

pub returns-in-None : goal.returns-in-None
returns-in-None c = rw c.in-None.is
