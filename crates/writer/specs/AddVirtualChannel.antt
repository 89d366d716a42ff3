-- 000 2.2.4.1, kind 5: the header alone.
use Rattle.std.specs.Prelude.{List}
use Rattle.header.specs.declared.ids.MessageId.{MessageId}
use Rattle.pieces.specs.declared.piece.Piece.{Piece}
use Rattle.writer.specs.SharedMsgHeader.{head}

abbrev pub add_virtual_channel_pieces : MessageId → List Piece
add_virtual_channel_pieces id = head 1 1 id 0x100
