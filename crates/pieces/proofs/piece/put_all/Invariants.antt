-- `pieces::piece::put_all` meets its contract. The invariant: the pieces left add up to the same behind what is written, and written from here on give the whole message.
use Rattle.std.specs.Prelude.{Some}
use mathlib.Core.Path.{◌≡◌}
use lib.ListN.{drop, length}
use Rattle.words.specs.Written.{written}
use Rattle.pieces.specs.Pieces.{encode, total_from}
use Rattle.pieces.proofs.piece.put_all.Given as goal

abbrev pub invariant-loop-p : goal.invariant-loop-p
invariant-loop-p l = (total_from (length l.lent) l.at (drop l.p-index l.fn.pieces) ≡ Some (length l.initial.buf)) × (written l.buf l.at (encode l.lent (drop l.p-index l.fn.pieces)) ≡ written l.initial.buf 0 (encode l.lent l.fn.pieces))
