-- URB_COMPLETION_NO_DATA (000 2.2.7.3), kind 17: no bytes behind OutputBufferSize, whatever it says.
use Rattle.std.specs.Prelude.{ℕ, List, Result, Ok, Err}
use Rattle.words.specs.Layout.{ended}
use Rattle.wire.specs.TsUrbResult.{completion_of}
use Rattle.words.specs.declared.layout.Fault.{Fault}
use Rattle.wire.specs.declared.ts_urb_result.Completion.{Completion}
use Rattle.wire.specs.declared.urb_completion_no_data.UrbCompletionNoData.{UrbCompletionNoData}

abbrev pub no_data_from : List ℕ → Result Completion Fault → Result UrbCompletionNoData Fault
no_data_from m (Ok c) = ended m c.after (Ok (record { request = c.request; urb = c.urb; result = c.result; size = c.size }))
no_data_from m (Err fault) = Err fault

unfoldable pub urb_completion_no_data_of : List ℕ → Result UrbCompletionNoData Fault
urb_completion_no_data_of m = no_data_from m (completion_of m)
