-- `pieces::piece::put_interfaces` meets its contract. The invariant: the rows left, written from here on, give all of them.
use Prim.Native.Nat.{◌+◌, ◌*◌, ◌-◌}
use mathlib.Core.Path.{◌≡◌}
use Rattle.words.specs.Written.{written}
use Rattle.pieces.specs.Pieces.{rows_from}
use Rattle.pieces.proofs.piece.put_interfaces.Given as goal

abbrev pub invariant-loop-i : goal.invariant-loop-i
invariant-loop-i l = written l.buf (l.at + 12 * l.i) (rows_from l.lent (l.rows - l.i) l.pipes (l.part.start + 12 * l.i)) ≡ written l.initial.buf l.at (rows_from l.lent l.rows 0 l.part.start)
