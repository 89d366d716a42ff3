-- 02 R-2, which corrects 01 "Completions, cancel, retract": a cancel marks the row of its request, names that request as its cause, and leaves the row open.
use Rattle.std.specs.Prelude.{ℕ, cond}
use Rattle.header.specs.declared.ids.RequestId.{RequestId}
use Rattle.answers.specs.declared.kind.Kind.{Kind}
use Rattle.wire.specs.Message.{empty_part}
use Rattle.channel.specs.declared.row.Open.{Open}
use Rattle.requests.specs.declared.open.Held.{Held}
use Rattle.requests.specs.declared.open.Held.TheVariants.{Nothing, Io, In, Out}
use Rattle.rules.specs.Verdict.{Verdict, accepted}
use Rattle.rules.specs.declared.verdict.Act.{Act}
use Rattle.rules.specs.declared.verdict.Act.TheVariants.{Keep, Mark}

-- a cancel that gets as far as the rows is accepted; its request is the id, and its size 0
abbrev pub accepted_cancel : Kind → RequestId → ℕ → Act → Verdict
accepted_cancel kind id cause act = accepted kind id.0 cause 0 empty_part act

-- of an open request: the first cancel names it and marks its row; of a marked row a cancel has cause 0, and nothing is done
abbrev pub marks : Kind → RequestId → ℕ → Open → Verdict
marks kind id at o = cond o.marked (accepted_cancel kind id 0 Keep) (accepted_cancel kind id o.number (Mark at))

-- of an id that is not open: cause 0, and nothing is done
abbrev pub cancelled : Kind → RequestId → Held → Verdict
cancelled kind id Nothing = accepted_cancel kind id 0 Keep
cancelled kind id (Io at o) = marks kind id at o
cancelled kind id (In at o) = marks kind id at o
cancelled kind id (Out at o) = marks kind id at o
