-- TS_URB_ISOCH_TRANSFER (000 2.2.9.8). u is the message up to the end of its TsUrb.
use Rattle.std.specs.Prelude.{ℕ, ◌+◌, ◌*◌, List, length, eqb, Result, Ok}
use Rattle.words.specs.Words.{word_at}
use Rattle.words.specs.Layout.{left, agrees, at_least}
use Rattle.urb.specs.declared.ts_urb.Urb.TheVariants as urb
use Rattle.words.specs.declared.layout.Fault.{Fault}
use Rattle.urb.specs.declared.ts_urb.Urb.{Urb}

-- 28 + 12 n bytes, n the packet count at byte 20, which they have to reach
unfoldable pub isoch_transfer_of : List ℕ → Result (Urb × ℕ) Fault
isoch_transfer_of u =
    at_least 24 (left u 16) 16
    (agrees (eqb (left u 16) (28 + 12 * word_at u 36)) 16
    (Ok ((urb.IsochTransfer (record { pipe = word_at u 24; flags = word_at u 28; start = word_at u 32; packets = word_at u 36; errors = word_at u 40; list = record { start = 44; size = 12 * word_at u 36 } })), (length u))))
