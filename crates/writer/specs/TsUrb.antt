-- A TS_URB from its fields (000 2.2.9): what a reader is to make of them, and its pieces.
use Rattle.std.specs.Prelude.{ℕ, ◌+◌, ◌/◌, ◌%◌, ◌≤◌, List, [], ◌∷◌, Bool, true, cond, take, drop, eqb, ltb, leb, Option, Some, None, Result, Ok, Err}
use Rattle.words.specs.Words.{byte_at}
use Rattle.words.specs.declared.layout.Part.{Part}
use Rattle.urb.specs.Interfaces.{interfaces_of}
use Rattle.urb.specs.declared.control_transfer.ControlTransfer.{ControlTransfer}
use Rattle.urb.specs.declared.ts_urb.Urb.TheVariants as urb
use Rattle.pieces.specs.declared.piece.Piece.{Piece}
use Rattle.pieces.specs.declared.piece.Piece.TheVariants as piece
use Rattle.writer.specs.Part.{part_allowed}
use Rattle.writer.specs.declared.ts_urb.SelectConfigurationFields.{SelectConfigurationFields}
use Rattle.writer.specs.declared.ts_urb.SelectInterfaceFields.{SelectInterfaceFields}
use Rattle.writer.specs.declared.ts_urb.IsochTransferFields.{IsochTransferFields}
use Rattle.writer.specs.declared.ts_urb.Structure.{Structure}
use Rattle.writer.specs.declared.ts_urb.Structure.TheVariants as structure
use Rattle.words.specs.declared.layout.Fault.{Fault}
use Rattle.urb.specs.declared.ts_urb.Urb.{Urb}

-- interfaces as bytes: so many of them, each as long as its Length says, fill their part
abbrev pub listed_by : ℕ → Result (ℕ × ℕ) Fault → Option ℕ
listed_by end (Ok (last, pipes)) = cond (eqb last end) (Some pipes) None
listed_by end (Err fault) = None

unfoldable pub listed_of : List ℕ → Part → ℕ → Option ℕ
listed_of s p count = listed_by (p.start + p.size) (interfaces_of (take (p.start + p.size) s) count 0 p.start)

-- no descriptor beside flag 0, and at least 9 bytes beside another
abbrev pub descriptor_sized : ℕ → ℕ → Bool
descriptor_sized flag size = cond (eqb flag 0) (eqb size 0) (leb 9 size)

abbrev pub configuration_by : List ℕ → SelectConfigurationFields → Option ℕ → Option Urb
configuration_by s b None = None
configuration_by s b (Some pipes) =
    Some (urb.SelectConfiguration (record { flag = b.flag; count = b.count; interfaces = b.interfaces; pipes = pipes; descriptor = record { part = b.descriptor; first = byte_at (drop b.descriptor.start s) 0; second = byte_at (drop b.descriptor.start s) 1 } }))

-- the flag has one byte
unfoldable pub configuration_stated : List ℕ → SelectConfigurationFields → Option Urb
configuration_stated s b =
    cond (ltb 255 b.flag) None
    (cond (part_allowed s b.interfaces)
    (cond (part_allowed s b.descriptor)
    (cond (descriptor_sized b.flag b.descriptor.size)
    (configuration_by s b (listed_of s b.interfaces b.count))
    None) None) None)

abbrev pub interface_by : SelectInterfaceFields → Option ℕ → Option Urb
interface_by b None = None
interface_by b (Some pipes) = Some (urb.SelectInterface (record { handle = b.handle; interface = b.interface; pipes = pipes }))

unfoldable pub interface_stated : List ℕ → SelectInterfaceFields → Option Urb
interface_stated s b = cond (part_allowed s b.interface) (interface_by b (listed_of s b.interface 1)) None

-- a setup packet has 8 bytes
unfoldable pub control_stated : List ℕ → ControlTransfer → Option Urb
control_stated s b = cond (part_allowed s b.setup) (cond (eqb b.setup.size 8) (Some (urb.ControlTransfer b)) None) None

-- a packet has 12
unfoldable pub isoch_stated : List ℕ → IsochTransferFields → Option Urb
isoch_stated s b =
    cond (part_allowed s b.list)
    (cond (eqb (b.list.size % 12) 0)
    (Some (urb.IsochTransfer (record { pipe = b.pipe; flags = b.flags; start = b.start; packets = b.list.size / 12; errors = b.errors; list = b.list })))
    None) None

-- whether a structure has a function
abbrev pub suited : ℕ → Structure → Bool
suited function (structure.SelectConfiguration b) = eqb function 0x0000
suited function (structure.SelectInterface b) = eqb function 0x0001
suited function structure.GetCurrentFrameNumber = eqb function 0x0007
suited function (structure.PipeRequest b) = cond (eqb function 0x0002) true (eqb function 0x001E)
suited function (structure.BulkOrInterruptTransfer b) = eqb function 0x0009
suited function (structure.ControlTransfer b) = eqb function 0x0008
suited function (structure.IsochTransfer b) = eqb function 0x000A

-- a structure under a function that it has
unfoldable pub stated_of : List ℕ → ℕ → Structure → Option Urb
stated_of s function (structure.SelectConfiguration b) = cond (eqb function 0x0000) (configuration_stated s b) None
stated_of s function (structure.SelectInterface b) = cond (eqb function 0x0001) (interface_stated s b) None
stated_of s function structure.GetCurrentFrameNumber = cond (eqb function 0x0007) (Some urb.GetCurrentFrameNumber) None
stated_of s function (structure.PipeRequest b) = cond (eqb function 0x0002) (Some (urb.PipeRequest b)) (cond (eqb function 0x001E) (Some (urb.PipeRequest b)) None)
stated_of s function (structure.BulkOrInterruptTransfer b) = cond (eqb function 0x0009) (Some (urb.BulkOrInterruptTransfer b)) None
stated_of s function (structure.ControlTransfer b) = cond (eqb function 0x0008) (control_stated s b) None
stated_of s function (structure.IsochTransfer b) = cond (eqb function 0x000A) (isoch_stated s b) None

-- its bytes, those of its header too
abbrev pub structure_size : Structure → ℕ
structure_size (structure.SelectConfiguration b) = 16 + b.interfaces.size + b.descriptor.size
structure_size (structure.SelectInterface b) = 12 + b.interface.size
structure_size structure.GetCurrentFrameNumber = 8
structure_size (structure.PipeRequest b) = 12
structure_size (structure.BulkOrInterruptTransfer b) = 16
structure_size (structure.ControlTransfer b) = 16 + b.setup.size
structure_size (structure.IsochTransfer b) = 28 + b.list.size

-- the pieces behind its header, of which no structure has more than six
abbrev pub structure_pieces : Structure → List Piece
structure_pieces (structure.SelectConfiguration b) = piece.Word b.flag ∷ piece.Word b.count ∷ piece.Interfaces b.interfaces ∷ piece.Run b.descriptor ∷ piece.Nothing ∷ piece.Nothing ∷ []
structure_pieces (structure.SelectInterface b) = piece.Word b.handle ∷ piece.Interfaces b.interface ∷ piece.Nothing ∷ piece.Nothing ∷ piece.Nothing ∷ piece.Nothing ∷ []
structure_pieces structure.GetCurrentFrameNumber = piece.Nothing ∷ piece.Nothing ∷ piece.Nothing ∷ piece.Nothing ∷ piece.Nothing ∷ piece.Nothing ∷ []
structure_pieces (structure.PipeRequest b) = piece.Word b.pipe ∷ piece.Nothing ∷ piece.Nothing ∷ piece.Nothing ∷ piece.Nothing ∷ piece.Nothing ∷ []
structure_pieces (structure.BulkOrInterruptTransfer b) = piece.Word b.pipe ∷ piece.Word b.flags ∷ piece.Nothing ∷ piece.Nothing ∷ piece.Nothing ∷ piece.Nothing ∷ []
structure_pieces (structure.ControlTransfer b) = piece.Word b.pipe ∷ piece.Word b.flags ∷ piece.Run b.setup ∷ piece.Nothing ∷ piece.Nothing ∷ piece.Nothing ∷ []
structure_pieces (structure.IsochTransfer b) = piece.Word b.pipe ∷ piece.Word b.flags ∷ piece.Word b.start ∷ piece.Word (b.list.size / 12) ∷ piece.Word b.errors ∷ piece.Run b.list ∷ []

-- its parts are not longer than a message: what the code adds can't wrap
abbrev pub Small : Structure → Type 0
Small (structure.SelectConfiguration b) = (b.interfaces.size ≤ 65535) × (b.descriptor.size ≤ 65535)
Small (structure.SelectInterface b) = b.interface.size ≤ 65535
Small structure.GetCurrentFrameNumber = Unit {0}
Small (structure.PipeRequest b) = Unit {0}
Small (structure.BulkOrInterruptTransfer b) = Unit {0}
Small (structure.ControlTransfer b) = b.setup.size ≤ 65535
Small (structure.IsochTransfer b) = b.list.size ≤ 65535
