-- 000 2.2.6.1, kind 13.
use Rattle.std.specs.Prelude.{ℕ, List, [], ◌∷◌, ◌++◌}
use Rattle.header.specs.declared.ids.MessageId.{MessageId}
use Rattle.pieces.specs.declared.piece.Piece.{Piece}
use Rattle.pieces.specs.declared.piece.Piece.TheVariants.{Word}
use Rattle.wire.specs.declared.cancel_request.CancelRequest.{CancelRequest}
use Rattle.writer.specs.SharedMsgHeader.{head}

abbrev pub cancel_request_pieces : MessageId → ℕ → CancelRequest → List Piece
cancel_request_pieces id interface b = head interface 1 id 0x100 ++ (Word b.request.0 ∷ [])
