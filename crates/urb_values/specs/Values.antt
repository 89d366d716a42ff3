-- The values of a TsUrb (01 "Bodies").
use Rattle.std.specs.Prelude.{ℕ, Bool, true, false, ◌&&◌, ◌||◌, leb, eqb, cond, not}
use Rattle.urb.specs.declared.select_configuration.SelectConfiguration.{SelectConfiguration}
use Rattle.urb.specs.declared.select_interface.SelectInterface.{SelectInterface}
use Rattle.urb.specs.declared.isoch_transfer.IsochTransfer.{IsochTransfer}
use Rattle.urb.specs.declared.ts_urb.Urb.{Urb}
use Rattle.urb.specs.declared.ts_urb.Urb.TheVariants as urb

-- at most 30 pipes
abbrev pub pipes_allowed : ℕ → Bool
pipes_allowed pipes = leb pipes 30

-- at most 32 interfaces, of at most 30 pipes each; the descriptor's first two bytes are 9 and 2
abbrev pub select_configuration_allowed : SelectConfiguration → Bool
select_configuration_allowed b = leb b.count 32 && (pipes_allowed b.pipes && (eqb b.flag 0 || (eqb b.descriptor.first 9 && eqb b.descriptor.second 2)))

abbrev pub select_interface_allowed : SelectInterface → Bool
select_interface_allowed b = pipes_allowed b.pipes

-- at most 1,024 packets
abbrev pub isoch_transfer_allowed : IsochTransfer → Bool
isoch_transfer_allowed b = leb b.packets 1024

-- a known function, and counts within their limits
abbrev pub urb_allowed : Urb → Bool
urb_allowed (urb.SelectConfiguration b) = select_configuration_allowed b
urb_allowed (urb.SelectInterface b) = select_interface_allowed b
urb_allowed urb.GetCurrentFrameNumber = true
urb_allowed (urb.PipeRequest b) = true
urb_allowed (urb.BulkOrInterruptTransfer b) = true
urb_allowed (urb.ControlTransfer b) = true
urb_allowed (urb.IsochTransfer b) = isoch_transfer_allowed b
urb_allowed urb.Unknown = false

-- 0x0000, 0x0001, 0x0002, 0x0007 and 0x001E come only in kind 10 with OutputBufferSize 0
abbrev pub only_in : Urb → Bool
only_in (urb.SelectConfiguration b) = true
only_in (urb.SelectInterface b) = true
only_in urb.GetCurrentFrameNumber = true
only_in (urb.PipeRequest b) = true
only_in (urb.BulkOrInterruptTransfer b) = false
only_in (urb.ControlTransfer b) = false
only_in (urb.IsochTransfer b) = false
only_in urb.Unknown = false

-- NoAck is for function 0x000A alone
abbrev pub may_no_ack : Urb → Bool
may_no_ack (urb.SelectConfiguration b) = false
may_no_ack (urb.SelectInterface b) = false
may_no_ack urb.GetCurrentFrameNumber = false
may_no_ack (urb.PipeRequest b) = false
may_no_ack (urb.BulkOrInterruptTransfer b) = false
may_no_ack (urb.ControlTransfer b) = false
may_no_ack (urb.IsochTransfer b) = true
may_no_ack urb.Unknown = false

-- a transfer in: no NoAck; a function and counts that 01 allows; OutputBufferSize 0 where the function says so
abbrev pub incoming_allowed : Bool → Urb → ℕ → Bool
incoming_allowed noack urb size = not noack && (urb_allowed urb && cond (only_in urb) (eqb size 0) true)

-- a transfer out: a function and counts that 01 allows, none of those that come only in kind 10; NoAck only with function 0x000A
abbrev pub outgoing_allowed : Bool → Urb → Bool
outgoing_allowed noack urb = urb_allowed urb && (not (only_in urb) && cond noack (may_no_ack urb) true)
