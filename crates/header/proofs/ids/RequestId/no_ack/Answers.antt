-- `header::ids::RequestId::no_ack` meets its contract: it is made of the word at that place.
use Rattle.header.proofs.ids.RequestId.no_ack.Goals as goal

pub returns : goal.returns
returns c = rw c.u32_at.ensures
