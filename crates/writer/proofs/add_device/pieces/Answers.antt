-- `writer::add_device::pieces` meets its contract: behind those of `start` the pieces are the fields in message order.
use Prim.Native.Nat.{ℕ, ◌/◌}
use mathlib.Core.Path.{◌≡◌}
use mathlib.Core.List.{[], ◌∷◌, ◌++◌}
use native.Mathlib.Omega.{arith}
use Rattle.header.specs.declared.ids.MessageId.{MessageId}
use Rattle.pieces.specs.declared.piece.Piece.TheVariants.{Word, Run}
use Rattle.writer.specs.SharedMsgHeader.{head}
use Rattle.writer.specs.AddDevice.{add_device_pieces}
use Rattle.writer.specs.declared.add_device.AddDeviceFields.{AddDeviceFields}
use Rattle.writer.proofs.add_device.pieces.Goals as goal

-- the counts of the four texts are of units
counted : {i h k n : ℕ} (id : MessageId) (b : AddDeviceFields) → i ≡ b.instance.size / 2 → h ≡ b.hardware.size / 2 → k ≡ b.compatible.size / 2 → n ≡ b.container.size / 2 →
    head 1 1 id 0x101 ++
    (Word b.count ∷ Word b.device ∷ Word i ∷ Run b.instance ∷ Word h ∷ Run b.hardware ∷ Word k ∷ Run b.compatible ∷ Word n ∷ Run b.container ∷
    Word b.capabilities.size ∷ Word b.capabilities.bus ∷ Word b.capabilities.usbdi ∷ Word b.capabilities.usb ∷
    Word b.capabilities.host ∷ Word b.capabilities.speed ∷ Word b.capabilities.jitter ∷ []) ≡ add_device_pieces id b
counted id b e f g h = rw (e, f, g, h)

pub returns : goal.returns
returns c = rw c.start-h.ensures (counted c.args.id c.args.b (omega arith) (omega arith) (omega arith) (omega arith))
