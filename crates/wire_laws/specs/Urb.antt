-- The parts of a TsUrb, and what its fields add up to. No contract cites this file: the laws do.
use Rattle.std.specs.Prelude.{ℕ, ◌+◌}
use Rattle.words.specs.Layout.{Within}
use Rattle.urb.specs.declared.ts_urb.Urb.{Urb}
use Rattle.urb.specs.declared.ts_urb.Urb.TheVariants.{SelectConfiguration, SelectInterface, GetCurrentFrameNumber, PipeRequest, BulkOrInterruptTransfer, ControlTransfer, IsochTransfer, Unknown}

abbrev pub UrbWithin : ℕ → Urb → Type 0
UrbWithin n (SelectConfiguration b) = Within n b.interfaces × Within n b.descriptor.part
UrbWithin n (SelectInterface b) = Within n b.interface
UrbWithin n GetCurrentFrameNumber = Unit {0}
UrbWithin n (PipeRequest b) = Unit {0}
UrbWithin n (BulkOrInterruptTransfer b) = Unit {0}
UrbWithin n (ControlTransfer b) = Within n b.setup
UrbWithin n (IsochTransfer b) = Within n b.list
UrbWithin n Unknown = Unit {0}

-- what the fields of a structure add up to, with the 8 bytes of its header. Of a function that is not known it is all that Size says
abbrev pub urb_length : ℕ → Urb → ℕ
urb_length n (SelectConfiguration b) = 16 + b.interfaces.size + b.descriptor.part.size
urb_length n (SelectInterface b) = 12 + b.interface.size
urb_length n GetCurrentFrameNumber = 8
urb_length n (PipeRequest b) = 12
urb_length n (BulkOrInterruptTransfer b) = 16
urb_length n (ControlTransfer b) = 16 + b.setup.size
urb_length n (IsochTransfer b) = 28 + b.list.size
urb_length n Unknown = n
