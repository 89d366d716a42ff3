-- 000 2.2.6.1, kind 13.
use Rattle.std.specs.Prelude.{ℕ, List, Result, Ok}
use Rattle.words.specs.Words.{word_at}
use Rattle.header.specs.Ids.{request_in}
use Rattle.words.specs.Layout.{field, ended}
use Rattle.words.specs.declared.layout.Fault.{Fault}
use Rattle.wire.specs.declared.cancel_request.CancelRequest.{CancelRequest}

unfoldable pub cancel_request_of : List ℕ → Result CancelRequest Fault
cancel_request_of m =
    field m 12 4
    (ended m 16
    (Ok (record { request = request_in (word_at m 12) })))
