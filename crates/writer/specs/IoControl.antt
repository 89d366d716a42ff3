-- 000 2.2.6.3 and 2.2.6.4, kinds 8 and 9, which differ in their function.
use Rattle.std.specs.Prelude.{ℕ, Bool, ◌&&◌, List, [], ◌∷◌, ◌++◌}
use Rattle.header.specs.declared.ids.MessageId.{MessageId}
use Rattle.pieces.specs.declared.piece.Piece.{Piece}
use Rattle.pieces.specs.declared.piece.Piece.TheVariants.{Word, Run}
use Rattle.wire.specs.declared.io_control.IoControl.{IoControl}
use Rattle.writer.specs.SharedMsgHeader.{head, interface_allowed}
use Rattle.writer.specs.Part.{part_allowed}

abbrev pub io_control_given : List ℕ → ℕ → IoControl → Bool
io_control_given s interface b = interface_allowed interface && part_allowed s b.input

-- IoControlCode, InputBufferSize, InputBuffer, OutputBufferSize, RequestId
abbrev pub io_control_pieces : MessageId → ℕ → ℕ → IoControl → List Piece
io_control_pieces id interface function b =
    head interface 1 id function ++ (Word b.code ∷ Word b.input.size ∷ Run b.input ∷ Word b.size ∷ Word b.request.0 ∷ [])
