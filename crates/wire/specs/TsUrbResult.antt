-- What the two URB completions begin with (000 2.2.7.2, 2.2.7.3): RequestId, CbTsUrbResult, TsUrbResult, HResult, OutputBufferSize.
use Rattle.std.specs.Prelude.{ℕ, ◌+◌, ◌-◌, List, eqb, Result, Ok}
use Rattle.words.specs.Words.{half_at, word_at}
use Rattle.header.specs.Ids.{request_in}
use Rattle.words.specs.Layout.{field, agrees, at_least}
use Rattle.words.specs.declared.layout.Fault.{Fault}
use Rattle.wire.specs.declared.ts_urb_result.Completion.{Completion}

-- what follows a result of n bytes
unfoldable pub completed_of : List ℕ → ℕ → Result Completion Fault
completed_of m n =
    field m (20 + n) 4
    (field m (20 + n + 4) 4
    (Ok (record { request = request_in (word_at m 12); urb = record { size = n; status = word_at m 24; rest = record { start = 28; size = n - 8 } }; result = word_at m (20 + n); size = word_at m (20 + n + 4); after = 20 + n + 8 })))

-- a result of n bytes: at least 8, all there, and its own Size is n
unfoldable pub completion_with : List ℕ → ℕ → Result Completion Fault
completion_with m n = at_least 8 n 16 (field m 20 n (agrees (eqb (half_at m 20) n) 20 (completed_of m n)))

unfoldable pub completion_of : List ℕ → Result Completion Fault
completion_of m = field m 12 4 (field m 16 4 (completion_with m (word_at m 16)))
