-- 000 2.2.3.2, kind 2: CapabilityValue stands where other messages have their function.
use Rattle.std.specs.Prelude.{List, [], ◌∷◌, ◌++◌}
use Rattle.header.specs.declared.ids.MessageId.{MessageId}
use Rattle.pieces.specs.declared.piece.Piece.{Piece}
use Rattle.pieces.specs.declared.piece.Piece.TheVariants.{Word}
use Rattle.wire.specs.declared.capability_response.CapabilityResponse.{CapabilityResponse}
use Rattle.writer.specs.SharedMsgHeader.{head}

abbrev pub capability_response_pieces : MessageId → CapabilityResponse → List Piece
capability_response_pieces id b = head 0 0 id b.capability ++ (Word b.result ∷ [])
