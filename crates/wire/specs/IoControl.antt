-- 000 2.2.6.3 and 2.2.6.4, kinds 8 and 9.
use Rattle.std.specs.Prelude.{ℕ, ◌+◌, List, Result, Ok}
use Rattle.words.specs.Words.{word_at}
use Rattle.header.specs.Ids.{request_in}
use Rattle.words.specs.Layout.{field, ended}
use Rattle.words.specs.declared.layout.Fault.{Fault}
use Rattle.wire.specs.declared.io_control.IoControl.{IoControl}

-- a is InputBufferSize
unfoldable pub io_control_with : List ℕ → ℕ → Result IoControl Fault
io_control_with m a =
    field m 20 a
    (field m (20 + a) 4
    (field m (20 + a + 4) 4
    (ended m (20 + a + 8)
    (Ok (record { code = word_at m 12; input = record { start = 20; size = a }; size = word_at m (20 + a); request = request_in (word_at m (20 + a + 4)) })))))

unfoldable pub io_control_of : List ℕ → Result IoControl Fault
io_control_of m =
    field m 12 4
    (field m 16 4
    (io_control_with m (word_at m 16)))
