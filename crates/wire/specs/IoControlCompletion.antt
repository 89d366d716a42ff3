-- 000 2.2.7.1, kind 15.
use Rattle.std.specs.Prelude.{ℕ, ◌+◌, List, Result, Ok}
use Rattle.words.specs.Words.{word_at}
use Rattle.header.specs.Ids.{request_in}
use Rattle.words.specs.Layout.{field, ended}
use Rattle.words.specs.declared.layout.Fault.{Fault}
use Rattle.wire.specs.declared.io_control_completion.IoControlCompletion.{IoControlCompletion}

-- n is OutputBufferSize
unfoldable pub io_control_completion_with : List ℕ → ℕ → Result IoControlCompletion Fault
io_control_completion_with m n =
    field m 28 n
    (ended m (28 + n)
    (Ok (record { request = request_in (word_at m 12); result = word_at m 16; information = word_at m 20; size = n; output = record { start = 28; size = n } })))

unfoldable pub io_control_completion_of : List ℕ → Result IoControlCompletion Fault
io_control_completion_of m =
    field m 12 4
    (field m 16 4
    (field m 20 4
    (field m 24 4
    (io_control_completion_with m (word_at m 24)))))
