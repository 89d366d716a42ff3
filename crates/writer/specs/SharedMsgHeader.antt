-- 000 2.2.1: the pieces that a message starts with.
use Rattle.std.specs.Prelude.{ℕ, ◌+◌, ◌-◌, ◌*◌, List, [], ◌∷◌, ◌++◌, Bool, ◌&&◌, length, replicate, leb, ltb}
use Rattle.header.specs.declared.ids.MessageId.{MessageId}
use Rattle.pieces.specs.declared.piece.Piece.{Piece}
use Rattle.pieces.specs.declared.piece.Piece.TheVariants.{Nothing, Word}

-- 02 R-1: a device or callback interface for the header is not below 4 and not over 30 bits
abbrev pub interface_allowed : ℕ → Bool
interface_allowed interface = leb 4 interface && ltb interface 0x4000_0000

-- InterfaceId in the low 30 bits, Mask in the top 2; MessageId; FunctionId
abbrev pub head : ℕ → ℕ → MessageId → ℕ → List Piece
head interface mask id function = Word (interface + 0x4000_0000 * mask) ∷ Word id.0 ∷ Word function ∷ []

-- as many pieces as the code's arrays have: those behind the last have no bytes
abbrev pub padded : List Piece → List Piece
padded ps = ps ++ replicate (20 - length ps) Nothing
