-- Answers 7 to 14 and 0, by what a message asks and what was found in the rows.
use Rattle.std.specs.Prelude.{ℕ, Result, Ok, Err}
use Rattle.answers.specs.declared.kind.Kind.{Kind}
use Rattle.wire.specs.Message.{empty_part}
use Rattle.wire.specs.declared.message.Asked.TheVariants as asks
use Rattle.channel.specs.declared.row.Sort.TheVariants.{Io, In}
use Rattle.rules.specs.Verdict.{Verdict, accepted, refused}
use Rattle.rules.specs.Request.{opened, taken, transfer_out_decided}
use Rattle.rules.specs.Cancel.{cancelled}
use Rattle.rules.specs.Completion.{io_completed, urb_completed, no_data_completed}
use Rattle.answers.specs.declared.answer.Answer.TheVariants.{Sizes, Value}
use Rattle.rules.specs.declared.decide.Seen.{Seen}
use Rattle.rules.specs.declared.verdict.Act.TheVariants.{Keep, Device, Callback, Empty}
use Rattle.wire.specs.declared.message.Asked.{Asked}
use Rattle.wire.specs.declared.message.Unfit.{Unfit}
use Rattle.wire.specs.declared.message.Unfit.TheVariants as unfit

unfoldable pub decided : Kind → Result Asked Unfit → ℕ → ℕ → Seen → Verdict
decided kind (Err (unfit.Sizes fault)) number jitter seen = refused kind Sizes
decided kind (Err unfit.Value) number jitter seen = refused kind Value
decided kind (Ok asks.Step) number jitter seen = accepted kind 0 0 0 empty_part Keep
decided kind (Ok (asks.Device id ms)) number jitter seen = accepted kind 0 0 0 empty_part (Device id ms)
decided kind (Ok (asks.Callback id)) number jitter seen = accepted kind 0 0 0 empty_part (Callback id)
decided kind (Ok (asks.IoControl r)) number jitter seen = taken kind r (Io (opened r number)) seen.here seen.free
decided kind (Ok (asks.TransferIn r)) number jitter seen = taken kind r (In (opened r number)) seen.here seen.free
decided kind (Ok (asks.TransferOut r)) number jitter seen = transfer_out_decided kind r number jitter seen.here seen.free
decided kind (Ok (asks.Cancel id)) number jitter seen = cancelled kind id seen.here
-- the entry's size is the number of rows that were open
decided kind (Ok asks.Retract) number jitter seen = accepted kind 0 0 seen.count empty_part Empty
decided kind (Ok (asks.IoCompletion c)) number jitter seen = io_completed kind c seen.here
decided kind (Ok (asks.UrbCompletion c)) number jitter seen = urb_completed kind c seen.here
decided kind (Ok (asks.UrbCompletionNoData c)) number jitter seen = no_data_completed kind c seen.here
