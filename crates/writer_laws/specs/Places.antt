-- Where the pieces of a message that was written stand in it.
use Rattle.std.specs.Prelude.{ℕ, ◌+◌, ◌*◌, ◌/◌, ◌%◌, ◌<◌, ◌≡◌, List, [], ◌∷◌, length}
use Rattle.words.specs.Words.{byte_at, half_at, word_at}
use Rattle.pieces.specs.Pieces.{cut, rows_from, size_of}
use Rattle.pieces.specs.declared.piece.Piece.{Piece}
use Rattle.pieces.specs.declared.piece.Piece.TheVariants.{Nothing, Word, Run, Interfaces}

-- what stands at a place of a message w for a number of four bytes: the number, its halves and its lowest byte
abbrev pub WordStands : List ℕ → ℕ → ℕ → Type 0
WordStands w at n = (word_at w at ≡ n) × (half_at w at ≡ n % 65536) × (half_at w (at + 2) ≡ n / 65536) × (byte_at w at ≡ n % 256)

-- for so many rows of an interface list, from a place a of the lent bytes s on: row by row the same Length, or the same two bytes there, and the same NumberOfPipes
abbrev pub RowsStand : List ℕ → List ℕ → ℕ → ℕ → ℕ → Type 0
RowsStand w s at a n = (j x y : ℕ) → x ≡ a + 12 * j → y ≡ at + 12 * j → j < n → (half_at w y ≡ half_at s x) × (word_at w (y + 8) ≡ word_at s (x + 8))

-- for a piece whose part is of the lent bytes s
abbrev pub Stands : List ℕ → List ℕ → ℕ → Piece → Type 0
Stands w s at Nothing = Unit {0}
Stands w s at (Word n) = n < 4294967296 → WordStands w at n
Stands w s at (Run p) = cut w (record { start = at; size = p.size }) ≡ cut s p
Stands w s at (Interfaces p) = (rows_from w (p.size / 12) 0 at ≡ rows_from s (p.size / 12) 0 p.start) × RowsStand w s at p.start (p.size / 12)

-- pieces one behind the other from a place on, to the end of the message
abbrev pub Places : List ℕ → List ℕ → ℕ → List Piece → Type 0
Places w s at [] = length w ≡ at
Places w s at (p ∷ ps) = Stands w s at p × Places w s (at + size_of p) ps
