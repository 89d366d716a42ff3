-- 000 2.2.7.1, kind 15.
use Rattle.std.specs.Prelude.{ℕ, Bool, ◌&&◌, List, [], ◌∷◌, ◌++◌}
use Rattle.header.specs.declared.ids.MessageId.{MessageId}
use Rattle.pieces.specs.declared.piece.Piece.{Piece}
use Rattle.pieces.specs.declared.piece.Piece.TheVariants.{Word, Run}
use Rattle.writer.specs.SharedMsgHeader.{head, interface_allowed}
use Rattle.writer.specs.Part.{part_allowed}
use Rattle.writer.specs.declared.io_control_completion.IoControlCompletionFields.{IoControlCompletionFields}

abbrev pub io_control_completion_given : List ℕ → ℕ → IoControlCompletionFields → Bool
io_control_completion_given s interface b = interface_allowed interface && part_allowed s b.output

-- RequestId, HResult, Information, OutputBufferSize, OutputBuffer
abbrev pub io_control_completion_pieces : MessageId → ℕ → IoControlCompletionFields → List Piece
io_control_completion_pieces id interface b =
    head interface 1 id 0x100 ++ (Word b.request.0 ∷ Word b.result ∷ Word b.information ∷ Word b.output.size ∷ Run b.output ∷ [])
