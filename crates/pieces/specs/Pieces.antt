-- The bytes of pieces, and what becomes of a buffer that they are written into (02 R-1).
use Rattle.std.specs.Prelude.{ℕ, zero, suc, ◌+◌, ◌*◌, ◌-◌, ◌/◌, List, [], ◌∷◌, ◌++◌, Bool, true, false, cond, length, take, drop, eqb, ltb, leb, Option, Some, None, Result, Ok, Err}
use Rattle.words.specs.Words.{half_at, word_at}
use Rattle.words.specs.Written.{word_bytes}
use Rattle.words.specs.declared.layout.Part.{Part}
use Rattle.pieces.specs.declared.piece.Piece.{Piece}
use Rattle.pieces.specs.declared.piece.Piece.TheVariants as piece
use Rattle.pieces.specs.declared.piece.Row.{Row}
use Rattle.pieces.specs.declared.piece.Unwritten.{Unwritten}
use Rattle.pieces.specs.declared.piece.Unwritten.TheVariants as unwritten

-- 02 R-1: the number of each answer
abbrev pub written_number : Result ℕ Unwritten → ℕ
written_number (Ok n) = 0
written_number (Err unwritten.Value) = 15
written_number (Err unwritten.Room) = 16

-- a part lies in n bytes
abbrev pub lies_in : ℕ → Part → Bool
lies_in n p = cond (ltb n p.start) false (leb p.size (n - p.start))

-- the bytes of a part
abbrev pub cut : List ℕ → Part → List ℕ
cut s p = take p.size (drop p.start s)

-- a row of an interface list. Where no pipe is to come it is an interface: Length and NumberOfPipesExpected, InterfaceNumber and AlternateSetting with 0 for their padding, NumberOfPipes;
-- else a pipe: MaximumPacketSize with 0 for its padding, MaximumTransferSize, PipeFlags
abbrev pub row_of : List ℕ → ℕ → ℕ → Row
row_of s at pipes =
    cond (eqb pipes 0)
    (record { first = word_at s at; second = half_at s (at + 4); third = word_at s (at + 8); pipes = word_at s (at + 8) })
    (record { first = half_at s at; second = word_at s (at + 4); third = word_at s (at + 8); pipes = pipes - 1 })

abbrev pub row_bytes : Row → List ℕ
row_bytes r = word_bytes r.first ++ (word_bytes r.second ++ word_bytes r.third)

-- rows from a place on, where so many pipes are to come
unfoldable pub rows_from : List ℕ → ℕ → ℕ → ℕ → List ℕ
rows_from s zero pipes at = []
rows_from s (suc n) pipes at = row_bytes (row_of s at pipes) ++ rows_from s n (row_of s at pipes).pipes (at + 12)

-- s are the lent bytes
abbrev pub bytes_of : List ℕ → Piece → List ℕ
bytes_of s piece.Nothing = []
bytes_of s (piece.Word n) = word_bytes n
bytes_of s (piece.Run p) = cut s p
bytes_of s (piece.Interfaces p) = rows_from s (p.size / 12) 0 p.start

unfoldable pub encode : List ℕ → List Piece → List ℕ
encode s [] = []
encode s (p ∷ ps) = bytes_of s p ++ encode s ps

abbrev pub size_of : Piece → ℕ
size_of piece.Nothing = 0
size_of (piece.Word n) = 4
size_of (piece.Run p) = p.size
size_of (piece.Interfaces p) = p.size / 12 * 12

abbrev pub piece_lies : ℕ → Piece → Bool
piece_lies n piece.Nothing = true
piece_lies n (piece.Word x) = true
piece_lies n (piece.Run p) = lies_in n p
piece_lies n (piece.Interfaces p) = lies_in n p

-- what pieces add up to behind so many bytes: each part lies in the n lent bytes, and the sum is at most 65,535
unfoldable pub total_from : ℕ → ℕ → List Piece → Option ℕ
total_from n sum [] = Some sum
total_from n sum (p ∷ ps) =
    cond (piece_lies n p)
    (cond (ltb (65535 - sum) (size_of p)) None (total_from n (sum + size_of p) ps))
    None

-- 15, then 16: the room is shorter than the message
abbrev pub written_by : ℕ → Option ℕ → Result ℕ Unwritten
written_by room None = Err unwritten.Value
written_by room (Some n) = cond (ltb room n) (Err unwritten.Room) (Ok n)

unfoldable pub written_of : List ℕ → ℕ → List Piece → Result ℕ Unwritten
written_of s room ps = written_by room (total_from (length s) 0 ps)

-- a refused call leaves the buffer as it was lent; else only the message's bytes change
abbrev pub buffer_by : List ℕ → List ℕ → Result ℕ Unwritten → List ℕ
buffer_by bytes buf (Ok n) = bytes ++ drop n buf
buffer_by bytes buf (Err unwritten.Value) = buf
buffer_by bytes buf (Err unwritten.Room) = buf

unfoldable pub buffer_of : List ℕ → List Piece → List ℕ → List ℕ
buffer_of s ps buf = buffer_by (encode s ps) buf (written_of s (length buf) ps)
