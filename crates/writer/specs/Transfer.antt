-- The two transfer requests from their fields (000 2.2.6.7, 2.2.6.8), kinds 10 to 12.
use Rattle.std.specs.Prelude.{ℕ, ◌+◌, ◌*◌, List, [], ◌∷◌, ◌++◌, Bool, false, cond, ◌&&◌, ltb, Option, Some, None}
use Rattle.words.specs.declared.layout.Part.{Part}
use Rattle.header.specs.declared.ids.MessageId.{MessageId}
use Rattle.header.specs.declared.ids.RequestId.{RequestId}
use Rattle.urb.specs.declared.ts_urb.Urb.{Urb}
use Rattle.urb_values.specs.Values.{incoming_allowed, outgoing_allowed}
use Rattle.pieces.specs.declared.piece.Piece.{Piece}
use Rattle.pieces.specs.declared.piece.Piece.TheVariants.{Word, Run}
use Rattle.writer.specs.SharedMsgHeader.{head, interface_allowed}
use Rattle.writer.specs.Part.{part_allowed}
use Rattle.writer.specs.TsUrb.{stated_of, structure_pieces, structure_size}
use Rattle.writer.specs.declared.ts_urb.TsUrbFields.{TsUrbFields}
use Rattle.writer.specs.declared.transfer.TransferInFields.{TransferInFields}
use Rattle.writer.specs.declared.transfer.TransferOutFields.{TransferOutFields}

abbrev pub incoming_by : TransferInFields → Option Urb → Bool
incoming_by b None = false
incoming_by b (Some urb) = incoming_allowed b.urb.noack urb b.size

abbrev pub outgoing_by : TransferOutFields → Option Urb → Bool
outgoing_by b None = false
outgoing_by b (Some urb) = outgoing_allowed b.urb.noack urb

-- RequestId in 31 bits
abbrev pub request_allowed : RequestId → Bool
request_allowed id = ltb id.0 0x8000_0000

unfoldable pub transfer_in_given : List ℕ → ℕ → TransferInFields → Bool
transfer_in_given s interface b =
    interface_allowed interface &&
    (request_allowed b.urb.request &&
    incoming_by b (stated_of s b.urb.function b.urb.structure))

unfoldable pub transfer_out_given : List ℕ → ℕ → TransferOutFields → Bool
transfer_out_given s interface b =
    interface_allowed interface &&
    (request_allowed b.urb.request &&
    (part_allowed s b.output &&
    outgoing_by b (stated_of s b.urb.function b.urb.structure)))

-- NoAck is the top bit of the RequestId's word
abbrev pub request_word : RequestId → Bool → ℕ
request_word id noack = cond noack (0x8000_0000 + id.0) id.0

-- CbTsUrb; TsUrb: Size and URB Function, RequestId with NoAck, the structure; OutputBufferSize; OutputBuffer
abbrev pub transfer_pieces : MessageId → ℕ → ℕ → TsUrbFields → ℕ → Part → List Piece
transfer_pieces id interface function t size output =
    head interface 1 id function ++
    (Word (structure_size t.structure) ∷
    Word (structure_size t.structure + 65536 * t.function) ∷ Word (request_word t.request t.noack) ∷
    (structure_pieces t.structure ++
    (Word size ∷ Run output ∷ [])))
