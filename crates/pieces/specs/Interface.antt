-- One interface with its pipes, out of plain numbers in rows of three: NumberOfPipesExpected, InterfaceNumber, AlternateSetting; then of each pipe MaximumPacketSize, MaximumTransferSize,
-- PipeFlags (000 2.2.9.1.2, 2.2.9.1.3).
use Rattle.std.specs.Prelude.{ℕ, zero, suc, ◌+◌, ◌*◌, ◌-◌, ◌/◌, ◌%◌, List, [], ◌∷◌, ◌++◌, Bool, true, cond, ◌&&◌, length, drop, get_or, eqb, ltb, leb, Result, Ok, Err}
use Rattle.words.specs.Written.{word_bytes}
use Rattle.pieces.specs.declared.piece.Unwritten.{Unwritten}
use Rattle.pieces.specs.declared.piece.Unwritten.TheVariants as unwritten

-- MaximumPacketSize of so many pipes, the first of which starts at a number, has two bytes
unfoldable pub narrow_from : List ℕ → ℕ → ℕ → Bool
narrow_from ns at zero = true
narrow_from ns at (suc pipes) = leb (get_or ns at 0) 65535 && narrow_from ns (at + 3) pipes

-- an interface and at most 30 pipes, and every number goes into its field
unfoldable pub numbers_allowed : List ℕ → Bool
numbers_allowed ns =
    leb 3 (length ns) &&
    (leb (length ns) 93 &&
    (eqb (length ns % 3) 0 &&
    (leb (get_or ns 0 0) 65535 &&
    (leb (get_or ns 1 0) 255 &&
    (leb (get_or ns 2 0) 255 &&
    narrow_from ns 3 (length ns / 3 - 1))))))

unfoldable pub numbers_bytes : List ℕ → List ℕ
numbers_bytes [] = []
numbers_bytes (n ∷ ns) = word_bytes n ++ numbers_bytes ns

-- Length, which is 12 times the rows, and NumberOfPipesExpected; InterfaceNumber and AlternateSetting; NumberOfPipes; the pipes. Padding is 0
unfoldable pub interface_bytes : List ℕ → List ℕ
interface_bytes ns =
    word_bytes (4 * length ns + 65536 * get_or ns 0 0) ++
    (word_bytes (get_or ns 1 0 + 256 * get_or ns 2 0) ++
    (word_bytes (length ns / 3 - 1) ++ numbers_bytes (drop 3 ns)))

-- 15, then 16
unfoldable pub interface_written : List ℕ → ℕ → Result ℕ Unwritten
interface_written ns room = cond (numbers_allowed ns) (cond (ltb room (4 * length ns)) (Err unwritten.Room) (Ok (4 * length ns))) (Err unwritten.Value)
