-- `pieces::interface::put` meets its contract.
use Rattle.pieces.proofs.Numbers.{interface_put}
use Rattle.pieces.proofs.interface.put.Goals as goal

pub returns : goal.returns
returns c = interface_put _ _ _ _ c.requires.whole c.requires.size c.put_words.ensures c.put_numbers.ensures
