-- C1 to C12 hold, in one statement, of the definitions that the contracts cite, and so do the cases of 02 R-2: by computation.
use mathlib.Core.Path.{◌≡◌, refl}
use mathlib.Core.List.{map}
use Rattle.header.specs.Header.{header_of}
use Rattle.wire.specs.Message.{asked_of}
use Rattle.wire.specs.Reading.{reading_of}
use Rattle.urb.specs.TsUrb.{one_size_of, structure_of, ts_urb_of}
use Rattle.wire.specs.Transfer.{output_of, transfer_of, transfer_with}
use Rattle.wire.specs.TransferInRequest.{transfer_in_request_allowed, transfer_in_request_of}
use Rattle.wire.specs.TsUrbResult.{completed_of, completion_of, completion_with}
use Rattle.wire.specs.UrbCompletion.{urb_completion_of, with_output_of}
use Rattle.wire.specs.CancelRequest.{cancel_request_of}
use Rattle.wire.specs.RetractDevice.{retract_device_of}
use Rattle.rows.specs.Search.{first_from, open_count}
use Rattle.requests.specs.Held.{held_of}
use Rattle.rules.specs.Request.{opened, taken}
use Rattle.rules.specs.Decide.{decided}
use Rattle.turn.specs.Admit.{admitted, asks_in, from_header}
use Rattle.turn.specs.Step.{after_of, verdict_of}
use Rattle.turn.specs.Store.{here_of, stored}
use Rattle.table.specs.Entry.{answer_of, judged_entry}
use Rattle.payloads.specs.Payload.{cut_of, payload_of, shown_of, start_in, start_of}
use Rattle.table.specs.Table.{close_of, judge_of}
use Rattle.promises.specs.Cases.{Case, cases, late_cases, outcome}

pub cases_hold : map outcome cases ≡ map (λ (k : Case). k.shows) cases
unfolding cases judge_of close_of payload_of start_of shown_of cut_of start_in answer_of judged_entry after_of verdict_of here_of stored admitted asks_in from_header decided opened taken first_from held_of open_count header_of asked_of transfer_in_request_of transfer_in_request_allowed transfer_of transfer_with output_of ts_urb_of structure_of one_size_of urb_completion_of with_output_of completion_of completion_with completed_of cancel_request_of reading_of
cases_hold = refl

pub late_cases_hold : map outcome late_cases ≡ map (λ (k : Case). k.shows) late_cases
unfolding late_cases judge_of close_of payload_of start_of shown_of cut_of start_in answer_of judged_entry after_of verdict_of here_of stored admitted asks_in from_header decided opened taken first_from held_of open_count header_of asked_of transfer_in_request_of transfer_in_request_allowed transfer_of transfer_with output_of ts_urb_of structure_of one_size_of urb_completion_of with_output_of completion_of completion_with completed_of cancel_request_of reading_of retract_device_of
late_cases_hold = refl
