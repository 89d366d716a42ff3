-- What the two transfer requests begin with (000 2.2.6.7, 2.2.6.8): CbTsUrb, TsUrb, OutputBufferSize.
use Rattle.std.specs.Prelude.{ℕ, ◌+◌, List, take, Result, Ok, Err}
use Rattle.words.specs.Words.{word_at}
use Rattle.words.specs.Layout.{field, at_least}
use Rattle.urb.specs.TsUrb.{ts_urb_of}
use Rattle.urb.specs.declared.ts_urb.TsUrb.{TsUrb}
use Rattle.words.specs.declared.layout.Fault.{Fault}
use Rattle.wire.specs.declared.transfer.Transfer.{Transfer}

unfoldable pub output_of : List ℕ → TsUrb → ℕ → ℕ → Result Transfer Fault
output_of m urb last end = field m end 4 (Ok (record { urb = urb; last = last; end = end; size = word_at m end; after = end + 4 }))

abbrev pub transfer_from : List ℕ → ℕ → Result (TsUrb × ℕ) Fault → Result Transfer Fault
transfer_from m end (Ok (urb, last)) = output_of m urb last end
transfer_from m end (Err fault) = Err fault

-- a TsUrb of n bytes
unfoldable pub transfer_with : List ℕ → ℕ → Result Transfer Fault
transfer_with m n = at_least 8 n 12 (field m 16 n (transfer_from m (16 + n) (ts_urb_of (take (16 + n) m))))

unfoldable pub transfer_of : List ℕ → Result Transfer Fault
transfer_of m = field m 12 4 (transfer_with m (word_at m 12))
