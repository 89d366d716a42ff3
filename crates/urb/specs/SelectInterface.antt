-- TS_URB_SELECT_INTERFACE (000 2.2.9.3). u is the message up to the end of its TsUrb.
use Rattle.std.specs.Prelude.{ℕ, ◌-◌, List, Result, Ok, Err}
use Rattle.words.specs.Words.{word_at}
use Rattle.words.specs.Layout.{field}
use Rattle.urb.specs.Interfaces.{interfaces_of}
use Rattle.urb.specs.declared.ts_urb.Urb.TheVariants as urb
use Rattle.words.specs.declared.layout.Fault.{Fault}
use Rattle.urb.specs.declared.ts_urb.Urb.{Urb}

abbrev pub interface_from : List ℕ → Result (ℕ × ℕ) Fault → Result (Urb × ℕ) Fault
interface_from u (Ok (end, pipes)) = Ok ((urb.SelectInterface (record { handle = word_at u 24; interface = record { start = 28; size = end - 28 }; pipes = pipes })), end)
interface_from u (Err fault) = Err fault

unfoldable pub select_interface_of : List ℕ → Result (Urb × ℕ) Fault
select_interface_of u = field u 24 4 (interface_from u (interfaces_of u 1 0 28))
