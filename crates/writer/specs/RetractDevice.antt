-- 000 2.2.6.9, kind 14.
use Rattle.std.specs.Prelude.{ℕ, Bool, ◌&&◌, List, [], ◌∷◌, ◌++◌}
use Rattle.header.specs.declared.ids.MessageId.{MessageId}
use Rattle.pieces.specs.declared.piece.Piece.{Piece}
use Rattle.pieces.specs.declared.piece.Piece.TheVariants.{Word}
use Rattle.wire.specs.RetractDevice.{retract_device_allowed}
use Rattle.wire.specs.declared.retract_device.RetractDevice.{RetractDevice}
use Rattle.writer.specs.SharedMsgHeader.{head, interface_allowed}

abbrev pub retract_device_given : ℕ → RetractDevice → Bool
retract_device_given interface b = interface_allowed interface && retract_device_allowed b

abbrev pub retract_device_pieces : MessageId → ℕ → RetractDevice → List Piece
retract_device_pieces id interface b = head interface 1 id 0x107 ++ (Word b.reason ∷ [])
