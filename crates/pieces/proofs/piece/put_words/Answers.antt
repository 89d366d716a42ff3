-- `pieces::piece::put_words` meets its contract.
use Rattle.pieces.proofs.Pieces.{words_three}
use Rattle.pieces.proofs.piece.put_words.Goals as goal

pub returns : goal.returns
returns c = words_three _ _ _ _ _ _ _ _ c.put_word.ensures c.put_word-2.ensures c.put_word-3.ensures
