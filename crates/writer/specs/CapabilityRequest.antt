-- 000 2.2.3.1, kind 1.
use Rattle.std.specs.Prelude.{List, [], ◌∷◌, ◌++◌}
use Rattle.header.specs.declared.ids.MessageId.{MessageId}
use Rattle.pieces.specs.declared.piece.Piece.{Piece}
use Rattle.pieces.specs.declared.piece.Piece.TheVariants.{Word}
use Rattle.wire.specs.declared.capability_request.CapabilityRequest.{CapabilityRequest}
use Rattle.writer.specs.SharedMsgHeader.{head}

abbrev pub capability_request_pieces : MessageId → CapabilityRequest → List Piece
capability_request_pieces id b = head 0 0 id 0x100 ++ (Word b.capability ∷ [])
