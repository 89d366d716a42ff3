-- `pieces::piece::add_up` meets its contract. The invariant: the pieces left, behind what the others make up, come to what all of them come to.
use Prim.Native.Nat.{◌≤◌}
use mathlib.Core.Path.{◌≡◌}
use lib.ListN.{drop}
use Rattle.pieces.specs.Pieces.{total_from}
use Rattle.pieces.proofs.piece.add_up.Given as goal

abbrev pub invariant-loop-p : goal.invariant-loop-p
invariant-loop-p l = record {
  bound : l.sum ≤ 65535;
  left : total_from l.n l.sum (drop l.p-index l.fn.pieces) ≡ total_from l.n 0 l.fn.pieces;
}
