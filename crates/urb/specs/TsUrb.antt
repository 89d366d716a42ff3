-- A TS_URB (000 2.2.9). u is the message up to the end of its TsUrb, which starts at byte 16.
use Rattle.std.specs.Prelude.{ℕ, List, [], ◌∷◌, cond, length, eqb, Result, Ok, Err}
use Rattle.words.specs.Words.{half_at, word_at}
use Rattle.header.specs.Ids.{urb_request_in, no_ack_in}
use Rattle.words.specs.Layout.{left, agrees}
use Rattle.urb.specs.SelectConfiguration.{select_configuration_of}
use Rattle.urb.specs.SelectInterface.{select_interface_of}
use Rattle.urb.specs.IsochTransfer.{isoch_transfer_of}
use Rattle.urb.specs.declared.ts_urb.Urb.{Urb}
use Rattle.urb.specs.declared.ts_urb.TsUrb.{TsUrb}
use Rattle.urb.specs.declared.ts_urb.Urb.TheVariants.{GetCurrentFrameNumber, PipeRequest, BulkOrInterruptTransfer, ControlTransfer, Unknown}
use Rattle.words.specs.declared.layout.Fault.{Fault}

-- A function whose TsUrb has one size: its number, that size, and the structure behind the header.
pub record OneSize : Type 0 where
  pub function : ℕ
  pub size : ℕ
  pub structure : List ℕ → Urb

abbrev pub pipe_request : List ℕ → Urb
pipe_request u = PipeRequest (record { pipe = word_at u 24 })

abbrev pub get_current_frame_number : OneSize
get_current_frame_number = record { function = 0x0007; size = 8; structure = λ u. GetCurrentFrameNumber }

abbrev pub abort_pipe : OneSize
abort_pipe = record { function = 0x0002; size = 12; structure = pipe_request }

abbrev pub sync_reset_pipe_and_clear_stall : OneSize
sync_reset_pipe_and_clear_stall = record { function = 0x001E; size = 12; structure = pipe_request }

abbrev pub bulk_or_interrupt_transfer : OneSize
bulk_or_interrupt_transfer = record { function = 0x0009; size = 16; structure = λ u. BulkOrInterruptTransfer (record { pipe = word_at u 24; flags = word_at u 28 }) }

abbrev pub control_transfer : OneSize
control_transfer = record { function = 0x0008; size = 24; structure = λ u. ControlTransfer (record { pipe = word_at u 24; flags = word_at u 28; setup = record { start = 32; size = 8 } }) }

-- the table of those functions (01 "Bodies": "Sizes")
abbrev pub one_sizes : List OneSize
one_sizes = get_current_frame_number ∷ abort_pipe ∷ sync_reset_pipe_and_clear_stall ∷ bulk_or_interrupt_transfer ∷ control_transfer ∷ []

-- the structure where the TsUrb has the size of its function
abbrev pub sized : OneSize → List ℕ → Result (Urb × ℕ) Fault
sized row u = agrees (eqb (left u 16) row.size) 16 (Ok ((row.structure u), (length u)))

-- the row of a function; a function of no row is unknown
abbrev pub row_of : List OneSize → List ℕ → ℕ → Result (Urb × ℕ) Fault
row_of [] u function = Ok (Unknown, (length u))
row_of (row ∷ rows) u function = cond (eqb function row.function) (sized row u) (row_of rows u function)

unfoldable pub one_size_of : List ℕ → ℕ → Result (Urb × ℕ) Fault
one_size_of u function = row_of one_sizes u function

unfoldable pub structure_of : List ℕ → ℕ → Result (Urb × ℕ) Fault
structure_of u function =
    cond (eqb function 0x0000) (select_configuration_of u)
    (cond (eqb function 0x0001) (select_interface_of u)
    (cond (eqb function 0x000A) (isoch_transfer_of u)
    (one_size_of u function)))

abbrev pub urb_with : List ℕ → Result (Urb × ℕ) Fault → Result (TsUrb × ℕ) Fault
urb_with u (Ok (urb, end)) = Ok ((record { size = half_at u 16; function = half_at u 18; request = urb_request_in (word_at u 20); noack = no_ack_in (word_at u 20); urb = urb }), end)
urb_with u (Err fault) = Err fault

-- its Size is CbTsUrb, which is all of u from 16 on
unfoldable pub ts_urb_of : List ℕ → Result (TsUrb × ℕ) Fault
ts_urb_of u = agrees (eqb (half_at u 16) (left u 16)) 16 (urb_with u (structure_of u (half_at u 18)))
