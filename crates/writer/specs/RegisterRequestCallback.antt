-- 000 2.2.6.2, kind 7.
use Rattle.std.specs.Prelude.{ℕ, Bool, false, cond, ◌&&◌, eqb, List, [], ◌∷◌, ◌++◌, Option, Some, None}
use Rattle.header.specs.Ids.{assignable, interface_in}
use Rattle.header.specs.declared.ids.MessageId.{MessageId}
use Rattle.pieces.specs.declared.piece.Piece.{Piece}
use Rattle.pieces.specs.declared.piece.Piece.TheVariants.{Word}
use Rattle.writer.specs.SharedMsgHeader.{head, interface_allowed}
use Rattle.writer.specs.declared.register_request_callback.RegisterRequestCallbackFields.{RegisterRequestCallbackFields}

-- a (Option ℕ) exactly when the count is not 0, of an interface that may be given
abbrev pub completion_allowed : ℕ → Option ℕ → Bool
completion_allowed count None = eqb count 0
completion_allowed count (Some word) = cond (eqb count 0) false (assignable (interface_in word))

abbrev pub register_request_callback_given : ℕ → RegisterRequestCallbackFields → Bool
register_request_callback_given interface b = interface_allowed interface && completion_allowed b.count b.completion

abbrev pub completion_piece : Option ℕ → List Piece
completion_piece None = []
completion_piece (Some word) = Word word ∷ []

abbrev pub register_request_callback_pieces : MessageId → ℕ → RegisterRequestCallbackFields → List Piece
register_request_callback_pieces id interface b = head interface 1 id 0x101 ++ (Word b.count ∷ completion_piece b.completion)
