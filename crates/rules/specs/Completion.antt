-- 01 "Completions, cancel, retract": completions. A mark enters no answer (02 R-2): a completion of a marked row is judged as ever, and frees it.
use Rattle.std.specs.Prelude.{ℕ, Bool, cond, ltb, eqb}
use Rattle.words.specs.Hresult.{succeeded}
use Rattle.header.specs.declared.ids.RequestId.{RequestId}
use Rattle.answers.specs.declared.kind.Kind.{Kind}
use Rattle.words.specs.declared.layout.Part.{Part}
use Rattle.wire.specs.declared.message.IoCompleted.{IoCompleted}
use Rattle.wire.specs.declared.message.UrbCompleted.{UrbCompleted}
use Rattle.channel.specs.declared.row.Open.{Open}
use Rattle.requests.specs.declared.open.Held.{Held}
use Rattle.requests.specs.declared.open.Held.TheVariants.{Nothing, Io, In, Out}
use Rattle.rules.specs.Verdict.{Verdict, accepted, refused}
use Rattle.answers.specs.declared.answer.Answer.TheVariants.{NotOpen, WrongSort, TooMuch, ResultDisagrees}
use Rattle.rules.specs.declared.verdict.Act.TheVariants.{Free}

-- the request's row is freed, and the number of the request's entry is the cause
abbrev pub closes : Kind → ℕ → Open → RequestId → ℕ → Part → Verdict
closes kind at o id size payload = accepted kind id.0 o.number size payload (Free at)

-- 14: success needs Information equal to the size; 0x8007007A needs the size equal to the request's; otherwise size 0
abbrev pub result_agrees : IoCompleted → Open → Bool
result_agrees c o =
    cond (succeeded c.result) (eqb c.information c.size)
    (cond (eqb c.result 0x8007007A) (eqb c.size o.size)
    (eqb c.size 0))

-- 13, then 14
abbrev pub io_closed : Kind → IoCompleted → ℕ → Open → Verdict
io_closed kind c at o =
    cond (ltb o.size c.size) (refused kind TooMuch)
    (cond (result_agrees c o) (closes kind at o c.request c.size c.payload) (refused kind ResultDisagrees))

-- kind 15 closes IO requests, else 12; 11 where the id is not open
abbrev pub io_completed : Kind → IoCompleted → Held → Verdict
io_completed kind c Nothing = refused kind NotOpen
io_completed kind c (Io at o) = io_closed kind c at o
io_completed kind c (In at o) = refused kind WrongSort
io_completed kind c (Out at o) = refused kind WrongSort

-- 13: a transfer is completed with at most so much data
abbrev pub urb_closed : Kind → UrbCompleted → ℕ → ℕ → Open → Verdict
urb_closed kind c most at o =
    cond (ltb most c.size) (refused kind TooMuch) (closes kind at o c.request c.size c.payload)

-- kind 16 closes transfers in
abbrev pub urb_completed : Kind → UrbCompleted → Held → Verdict
urb_completed kind c Nothing = refused kind NotOpen
urb_completed kind c (Io at o) = refused kind WrongSort
urb_completed kind c (In at o) = urb_closed kind c o.size at o
urb_completed kind c (Out at o) = refused kind WrongSort

-- kind 17 closes both transfers: of a transfer in with size 0
abbrev pub no_data_completed : Kind → UrbCompleted → Held → Verdict
no_data_completed kind c Nothing = refused kind NotOpen
no_data_completed kind c (Io at o) = refused kind WrongSort
no_data_completed kind c (In at o) = urb_closed kind c 0 at o
no_data_completed kind c (Out at o) = urb_closed kind c o.size at o
