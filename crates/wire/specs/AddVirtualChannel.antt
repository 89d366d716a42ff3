-- 000 2.2.4.1, kind 5: nothing behind the header.
use Rattle.std.specs.Prelude.{ℕ, List, Result, Ok}
use Rattle.words.specs.Layout.{ended}
use Rattle.words.specs.declared.layout.Fault.{Fault}
use Rattle.wire.specs.declared.add_virtual_channel.AddVirtualChannel.{AddVirtualChannel}

unfoldable pub add_virtual_channel_of : List ℕ → Result AddVirtualChannel Fault
add_virtual_channel_of m = ended m 12 (Ok (record {}))
