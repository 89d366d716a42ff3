-- `pieces::interface::put_numbers` meets its contract. The invariant: the numbers left, written from here on, give all of them.
use Prim.Native.Nat.{◌+◌, ◌*◌}
use mathlib.Core.Path.{◌≡◌}
use lib.ListN.{drop}
use Rattle.words.specs.Written.{written}
use Rattle.pieces.specs.Interface.{numbers_bytes}
use Rattle.pieces.proofs.interface.put_numbers.Given as goal

abbrev pub invariant-loop-i : goal.invariant-loop-i
invariant-loop-i l = written l.buf (l.at + 4 * l.i) (numbers_bytes (drop l.i l.numbers)) ≡ written l.initial.buf l.at (numbers_bytes l.numbers)
