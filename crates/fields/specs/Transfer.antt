-- The fields of 000 2.2.6.7 and 2.2.6.8, kinds 10 to 12: n is CbTsUrb.
use Rattle.std.specs.Prelude.{ℕ, ◌+◌, List, false, take, Result, Ok, Err}
use Rattle.words.specs.Words.{word_at}
use Rattle.header.specs.Ids.{urb_request_in}
use Rattle.urb.specs.TsUrb.{ts_urb_of}
use Rattle.urb.specs.declared.ts_urb.Urb.{Urb}
use Rattle.urb.specs.declared.ts_urb.Urb.TheVariants as urb
use Rattle.writer.specs.declared.ts_urb.Structure.{Structure}
use Rattle.writer.specs.declared.ts_urb.Structure.TheVariants as structure
use Rattle.writer.specs.declared.ts_urb.TsUrbFields.{TsUrbFields}
use Rattle.writer.specs.declared.transfer.TransferInFields.{TransferInFields}
use Rattle.writer.specs.declared.transfer.TransferOutFields.{TransferOutFields}
use Rattle.words.specs.declared.layout.Fault.{Fault}
use Rattle.urb.specs.declared.ts_urb.TsUrb.{TsUrb}

-- the structure without what follows from others. Of a function that is not known there is none, and any other stands for it
abbrev pub structure_in : Urb → Structure
structure_in (urb.SelectConfiguration b) = structure.SelectConfiguration (record { flag = b.flag; count = b.count; interfaces = b.interfaces; descriptor = b.descriptor.part })
structure_in (urb.SelectInterface b) = structure.SelectInterface (record { handle = b.handle; interface = b.interface })
structure_in urb.GetCurrentFrameNumber = structure.GetCurrentFrameNumber
structure_in (urb.PipeRequest b) = structure.PipeRequest b
structure_in (urb.BulkOrInterruptTransfer b) = structure.BulkOrInterruptTransfer b
structure_in (urb.ControlTransfer b) = structure.ControlTransfer b
structure_in (urb.IsochTransfer b) = structure.IsochTransfer (record { pipe = b.pipe; flags = b.flags; start = b.start; errors = b.errors; list = b.list })
structure_in urb.Unknown = structure.GetCurrentFrameNumber

-- a TsUrb whose sizes do not add up has a function that no TsUrb has
abbrev pub urb_by : List ℕ → Result (TsUrb × ℕ) Fault → TsUrbFields
urb_by m (Ok (t, last)) = record { function = t.function; request = t.request; noack = t.noack; structure = structure_in t.urb }
urb_by m (Err fault) = record { function = 0x1_0000; request = urb_request_in (word_at m 20); noack = false; structure = structure.GetCurrentFrameNumber }

abbrev pub urb_in : List ℕ → ℕ → TsUrbFields
urb_in m n = urb_by m (ts_urb_of (take (16 + n) m))

unfoldable pub transfer_in : List ℕ → TransferInFields
transfer_in m = record { urb = urb_in m (word_at m 12); size = word_at m (16 + word_at m 12) }

unfoldable pub transfer_out : List ℕ → TransferOutFields
transfer_out m = record { urb = urb_in m (word_at m 12); output = record { start = 16 + word_at m 12 + 4; size = word_at m (16 + word_at m 12) } }
