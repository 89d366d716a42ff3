-- 000 2.2.7.2 and 2.2.7.3, kinds 16 and 17.
use Rattle.std.specs.Prelude.{ℕ, ◌+◌, Bool, not, ◌&&◌, eqb, List, [], ◌∷◌, ◌++◌}
use Rattle.words.specs.declared.layout.Part.{Part}
use Rattle.header.specs.declared.ids.MessageId.{MessageId}
use Rattle.pieces.specs.declared.piece.Piece.{Piece}
use Rattle.pieces.specs.declared.piece.Piece.TheVariants.{Word, Run}
use Rattle.writer.specs.SharedMsgHeader.{head, interface_allowed}
use Rattle.writer.specs.Part.{part_allowed}
use Rattle.writer.specs.declared.urb_completion.UrbResultFields.{UrbResultFields}
use Rattle.writer.specs.declared.urb_completion.UrbCompletionFields.{UrbCompletionFields}

abbrev pub result_given : List ℕ → ℕ → UrbResultFields → Bool
result_given s interface b = interface_allowed interface && part_allowed s b.rest

-- a kind 16 has data
abbrev pub urb_completion_given : List ℕ → ℕ → UrbCompletionFields → Bool
urb_completion_given s interface b = result_given s interface b.urb && (part_allowed s b.output && not (eqb b.output.size 0))

-- RequestId, CbTsUrbResult, TsUrbResult (Size with 0 for its padding, UsbdStatus, the rest), HResult, OutputBufferSize, OutputBuffer
abbrev pub completion_pieces : MessageId → ℕ → ℕ → UrbResultFields → ℕ → Part → List Piece
completion_pieces id interface function b size output =
    head interface 1 id function ++
    (Word b.request.0 ∷ Word (8 + b.rest.size) ∷
    Word (8 + b.rest.size) ∷ Word b.status ∷ Run b.rest ∷
    Word b.result ∷ Word size ∷ Run output ∷ [])
