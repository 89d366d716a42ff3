-- 000 2.2.1, and answer 3: a message under 12 bytes has no header.
use Rattle.std.specs.Prelude.{ℕ, List, cond, length, ltb, Option, Some, None}
use Rattle.words.specs.Words.{word_at}
use Rattle.header.specs.Ids.{interface_in, mask_in, message_in}
use Rattle.header.specs.declared.shared_msg_header.Header.{Header}

unfoldable pub header_of : List ℕ → Option Header
header_of m =
    cond (ltb (length m) 12) None
    (Some (record { interface = interface_in (word_at m 0); mask = mask_in (word_at m 0); message = message_in (word_at m 4); function = word_at m 8 }))
