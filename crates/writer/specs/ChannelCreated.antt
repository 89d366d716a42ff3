-- 000 2.2.5.1, kinds 3 and 4, which differ in their interface.
use Rattle.std.specs.Prelude.{ℕ, List, [], ◌∷◌, ◌++◌}
use Rattle.header.specs.declared.ids.MessageId.{MessageId}
use Rattle.pieces.specs.declared.piece.Piece.{Piece}
use Rattle.pieces.specs.declared.piece.Piece.TheVariants.{Word}
use Rattle.wire.specs.declared.channel_created.ChannelCreated.{ChannelCreated}
use Rattle.writer.specs.SharedMsgHeader.{head}

abbrev pub channel_created_pieces : MessageId → ℕ → ChannelCreated → List Piece
channel_created_pieces id interface b = head interface 1 id 0x100 ++ (Word b.major ∷ Word b.minor ∷ Word b.capabilities ∷ [])
