-- ADD_DEVICE (000 2.2.4.2), kind 6.
use Rattle.std.specs.Prelude.{ℕ, ◌+◌, ◌-◌, ◌/◌, ◌%◌, Bool, cond, ◌&&◌, eqb, ltb, List, [], ◌∷◌, ◌++◌}
use Rattle.words.specs.Words.{half_at}
use Rattle.words.specs.declared.layout.Part.{Part}
use Rattle.header.specs.Ids.{assignable, interface_in}
use Rattle.texts.specs.Text.{text_allowed, list_allowed}
use Rattle.texts.specs.declared.text.Text.{Text}
use Rattle.device.specs.DeviceCapabilities.{capabilities_allowed}
use Rattle.header.specs.declared.ids.MessageId.{MessageId}
use Rattle.pieces.specs.declared.piece.Piece.{Piece}
use Rattle.pieces.specs.declared.piece.Piece.TheVariants.{Word, Run}
use Rattle.writer.specs.SharedMsgHeader.{head}
use Rattle.writer.specs.Part.{part_allowed}
use Rattle.writer.specs.declared.add_device.AddDeviceFields.{AddDeviceFields}

-- the unit that starts so many bytes before the end of a part, 0 where the part has none
abbrev pub unit_before : List ℕ → Part → ℕ → ℕ
unit_before s p back = cond (ltb p.size back) 0 (half_at s (p.start + (p.size - back)))

-- the text that a reader makes of a part
abbrev pub text_given : List ℕ → Part → Text
text_given s p = record { count = p.size / 2; units = p; last = unit_before s p 2; prior = unit_before s p 4 }

-- a part of whole units, which the rule of 01 allows
abbrev pub text_fits : List ℕ → Part → Bool
text_fits s p = part_allowed s p && (eqb (p.size % 2) 0 && text_allowed (text_given s p))

abbrev pub list_fits : List ℕ → Part → Bool
list_fits s p = part_allowed s p && (eqb (p.size % 2) 0 && list_allowed (text_given s p))

unfoldable pub add_device_given : List ℕ → AddDeviceFields → Bool
add_device_given s b =
    eqb b.count 1 &&
    (assignable (interface_in b.device) &&
    (text_fits s b.instance &&
    (list_fits s b.hardware &&
    (list_fits s b.compatible &&
    (text_fits s b.container &&
    capabilities_allowed b.capabilities)))))

-- NumUsbDevice, UsbDevice, four texts each behind its count of units, the capabilities
abbrev pub add_device_pieces : MessageId → AddDeviceFields → List Piece
add_device_pieces id b =
    head 1 1 id 0x101 ++
    (Word b.count ∷ Word b.device ∷
    Word (b.instance.size / 2) ∷ Run b.instance ∷
    Word (b.hardware.size / 2) ∷ Run b.hardware ∷
    Word (b.compatible.size / 2) ∷ Run b.compatible ∷
    Word (b.container.size / 2) ∷ Run b.container ∷
    Word b.capabilities.size ∷ Word b.capabilities.bus ∷ Word b.capabilities.usbdi ∷ Word b.capabilities.usb ∷
    Word b.capabilities.host ∷ Word b.capabilities.speed ∷ Word b.capabilities.jitter ∷ [])
