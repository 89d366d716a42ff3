-- The layout of a message: its fields one behind the other, with the padding that 000 has beside some of them.
use Rattle.std.specs.Prelude.{ℕ, zero, suc, ◌+◌, ◌*◌, ◌-◌, ◌<◌, List, [], ◌∷◌, ◌++◌, cond, take, drop, eqb}
use Rattle.words.specs.Words.{byte_at, half_at, word_at}
use Rattle.wire.specs.Message.{empty_part}
use Rattle.pieces.specs.declared.piece.Piece.{Piece}
use Rattle.pieces.specs.declared.piece.Piece.TheVariants.{Nothing, Word, Run, Interfaces}

pub data Field : Type 0 where
  -- no bytes: no piece, or the empty part
  none : Field
  empty : Field
  -- four bytes
  word : Field
  -- two bytes, and two of padding
  half : Field
  -- one byte, and three of padding
  byte : Field
  -- so many bytes
  run : ℕ → Field
  -- so many rows of an interface list
  interfaces : ℕ → Field

abbrev pub span_of : Field → ℕ
span_of none = 0
span_of empty = 0
span_of word = 4
span_of half = 4
span_of byte = 4
span_of (run n) = n
span_of (interfaces n) = 12 * n

unfoldable pub spans_of : List Field → ℕ
spans_of [] = 0
spans_of (f ∷ fs) = span_of f + spans_of fs

-- the piece that a field is, cut out of a message m at a place
abbrev pub cut_at : List ℕ → ℕ → Field → Piece
cut_at m at none = Nothing
cut_at m at empty = Run empty_part
cut_at m at word = Word (word_at m at)
cut_at m at half = Word (half_at m at)
cut_at m at byte = Word (byte_at m at)
cut_at m at (run n) = Run (record { start = at; size = n })
cut_at m at (interfaces n) = Interfaces (record { start = at; size = 12 * n })

unfoldable pub cuts_from : List ℕ → ℕ → List Field → List Piece
cuts_from m at [] = []
cuts_from m at (f ∷ fs) = cut_at m at f ∷ cuts_from m (at + span_of f) fs

-- n bytes of a message from a place on
abbrev pub bytes_from : List ℕ → ℕ → ℕ → List ℕ
bytes_from m at n = take n (drop at m)

-- 000 2.2.9.1.2 and 2.2.9.1.3: bytes 6 and 7 of an interface are padding, and bytes 2 and 3 of a pipe. The row is an interface where no pipe is to come
abbrev pub cleared_row : List ℕ → ℕ → ℕ → List ℕ
cleared_row m pipes at =
    cond (eqb pipes 0)
    (bytes_from m at 6 ++ (0 ∷ 0 ∷ bytes_from m (at + 8) 4))
    (bytes_from m at 2 ++ (0 ∷ 0 ∷ bytes_from m (at + 4) 8))

unfoldable pub cleared_rows : List ℕ → ℕ → ℕ → ℕ → List ℕ
cleared_rows m zero pipes at = []
cleared_rows m (suc n) pipes at = cleared_row m pipes at ++ cleared_rows m n (cond (eqb pipes 0) (word_at m (at + 8)) (pipes - 1)) (at + 12)

-- the bytes of a field, with its padding 0
abbrev pub cleared_at : List ℕ → ℕ → Field → List ℕ
cleared_at m at none = []
cleared_at m at empty = []
cleared_at m at word = bytes_from m at 4
cleared_at m at half = bytes_from m at 2 ++ (0 ∷ 0 ∷ [])
cleared_at m at byte = bytes_from m at 1 ++ (0 ∷ 0 ∷ 0 ∷ [])
cleared_at m at (run n) = bytes_from m at n
cleared_at m at (interfaces n) = cleared_rows m n 0 at

-- a message with its padding 0
unfoldable pub cleared_from : List ℕ → ℕ → List Field → List ℕ
cleared_from m at [] = []
cleared_from m at (f ∷ fs) = cleared_at m at f ++ cleared_from m (at + span_of f) fs

-- a layout with no padding in it
abbrev pub Kept : List Field → Type 0
Kept [] = Unit {0}
Kept (none ∷ fs) = Kept fs
Kept (empty ∷ fs) = Kept fs
Kept (word ∷ fs) = Kept fs
Kept (half ∷ fs) = ⊥
Kept (byte ∷ fs) = ⊥
Kept (run n ∷ fs) = Kept fs
Kept (interfaces n ∷ fs) = ⊥

-- every number of a list is a byte
abbrev pub Bytes : List ℕ → Type 0
Bytes m = (i : ℕ) → byte_at m i < 256
