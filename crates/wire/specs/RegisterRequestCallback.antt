-- 000 2.2.6.2, kind 7: a RequestCompletion exactly when the count is not 0.
use Rattle.std.specs.Prelude.{ℕ, List, Bool, true, cond, eqb, Option, Some, None, Result, Ok}
use Rattle.words.specs.Words.{word_at}
use Rattle.header.specs.Ids.{assignable, interface_in, mask_in}
use Rattle.words.specs.Layout.{field, ended}
use Rattle.wire.specs.declared.register_request_callback.RegisterRequestCallback.{RegisterRequestCallback}
use Rattle.header.specs.declared.ids.InterfaceId.{InterfaceId}
use Rattle.words.specs.declared.layout.Fault.{Fault}

unfoldable pub register_request_callback_of : List ℕ → Result RegisterRequestCallback Fault
register_request_callback_of m =
    field m 12 4
    (cond (eqb (word_at m 12) 0)
    (ended m 16
    (Ok (record { count = word_at m 12; callback = None; top = 0 })))
    (field m 16 4
    (ended m 20
    (Ok (record { count = word_at m 12; callback = Some (interface_in (word_at m 16)); top = mask_in (word_at m 16) })))))

-- an interface that is given is none of 0 to 3
abbrev pub given_allowed : Option InterfaceId → Bool
given_allowed None = true
given_allowed (Some id) = assignable id

abbrev pub register_request_callback_allowed : RegisterRequestCallback → Bool
register_request_callback_allowed b = given_allowed b.callback
