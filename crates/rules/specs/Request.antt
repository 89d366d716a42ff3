-- Requests, kinds 8 to 12: answers 9 and 10, the row that a request takes, and NoAck.
use Rattle.std.specs.Prelude.{ℕ, cond, false, eqb, Option, Some, None, Ok}
use Rattle.answers.specs.declared.kind.Kind.{Kind}
use Rattle.wire.specs.declared.message.Request.{Request}
use Rattle.channel.specs.declared.row.Open.{Open}
use Rattle.channel.specs.declared.row.Sort.{Sort}
use Rattle.channel.specs.declared.row.Sort.TheVariants.{Out}
use Rattle.requests.specs.declared.open.Held.{Held}
use Rattle.requests.specs.declared.open.Held.TheVariants as held
use Rattle.answers.specs.Phase.{phases_of}
use Rattle.rules.specs.Verdict.{Verdict, accepted, refused}
use Rattle.answers.specs.declared.answer.Answer.TheVariants.{Value, AlreadyOpen, Full}
use Rattle.rules.specs.declared.verdict.Act.TheVariants.{Keep, Take}

-- an open request: its id, the number of its entry, and the OutputBufferSize that its completion is held to; no cancel has marked it yet
unfoldable pub opened : Request → ℕ → Open
opened r number = record { request = r.request; number = number; size = r.size; marked = false }

-- 10: all rows open; else the lowest free row is taken
abbrev pub taken_at : Kind → Request → Sort → Option ℕ → Verdict
taken_at kind r sort (Some at) = accepted kind r.request.0 0 r.size r.payload (Take at (record { sort = sort }))
taken_at kind r sort None = refused kind Full

-- 9: the id is already open
unfoldable pub taken : Kind → Request → Sort → Held → Option ℕ → Verdict
taken kind r sort held.Nothing free = taken_at kind r sort free
taken kind r sort (held.Io at o) free = refused kind AlreadyOpen
taken kind r sort (held.In at o) free = refused kind AlreadyOpen
taken kind r sort (held.Out at o) free = refused kind AlreadyOpen

-- NoAck takes no row and skips 9 and 10: kind 12. It is allowed only where the device's NoAck milliseconds are not 0
abbrev pub unacknowledged : Kind → Request → ℕ → Verdict
unacknowledged kind r jitter =
    cond (eqb jitter 0) (refused kind Value)
    (Ok (record { kind = 12; request = r.request.0; cause = 0; size = r.size; payload = r.payload; phase = (phases_of kind).after; act = Keep }))

abbrev pub transfer_out_decided : Kind → Request → ℕ → ℕ → Held → Option ℕ → Verdict
transfer_out_decided kind r number jitter here free =
    cond r.noack (unacknowledged kind r jitter) (taken kind r (Out (opened r number)) here free)
