-- URB_COMPLETION (000 2.2.7.2), kind 16.
use Rattle.std.specs.Prelude.{ℕ, ◌+◌, List, Bool, not, eqb, Result, Ok, Err}
use Rattle.words.specs.Layout.{field, ended}
use Rattle.wire.specs.TsUrbResult.{completion_of}
use Rattle.wire.specs.declared.ts_urb_result.Completion.{Completion}
use Rattle.wire.specs.declared.urb_completion.UrbCompletion.{UrbCompletion}
use Rattle.words.specs.declared.layout.Fault.{Fault}

unfoldable pub with_output_of : List ℕ → Completion → Result UrbCompletion Fault
with_output_of m c =
    field m c.after c.size
    (ended m (c.after + c.size)
    (Ok (record { request = c.request; urb = c.urb; result = c.result; size = c.size; output = record { start = c.after; size = c.size } })))

abbrev pub with_output_from : List ℕ → Result Completion Fault → Result UrbCompletion Fault
with_output_from m (Ok c) = with_output_of m c
with_output_from m (Err fault) = Err fault

unfoldable pub urb_completion_of : List ℕ → Result UrbCompletion Fault
urb_completion_of m = with_output_from m (completion_of m)

-- OutputBufferSize 0 gives 8
abbrev pub urb_completion_allowed : UrbCompletion → Bool
urb_completion_allowed b = not (eqb b.size 0)
