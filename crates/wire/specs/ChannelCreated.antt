-- 000 2.2.5.1, kinds 3 and 4.
use Rattle.std.specs.Prelude.{ℕ, List, Bool, ◌&&◌, eqb, Result, Ok}
use Rattle.words.specs.Words.{word_at}
use Rattle.words.specs.Layout.{field, ended}
use Rattle.wire.specs.declared.channel_created.ChannelCreated.{ChannelCreated}
use Rattle.words.specs.declared.layout.Fault.{Fault}

unfoldable pub channel_created_of : List ℕ → Result ChannelCreated Fault
channel_created_of m =
    field m 12 4
    (field m 16 4
    (field m 20 4
    (ended m 24
    (Ok (record { major = word_at m 12; minor = word_at m 16; capabilities = word_at m 20 })))))

abbrev pub channel_created_allowed : ChannelCreated → Bool
channel_created_allowed b = eqb b.major 1 && (eqb b.minor 0 && eqb b.capabilities 0)
