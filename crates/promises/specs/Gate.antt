-- The gate as a machine of `order`: what a call on one channel gives and does, and every journal number in it sent through f.
use Rattle.std.specs.Prelude.{ℕ, List, [], cond}
use Rattle.channel.specs.Rows.{new_channel}
use Rattle.rows.specs.Search.{open_count}
use Rattle.channel.specs.declared.channel.Channel.{Channel}
use Rattle.answers.specs.declared.answer.Answer.{Answer}
use Rattle.answers.specs.declared.answer.Answer.TheVariants as answer
use Rattle.turn.specs.Step.{after_of, verdict_of}
use Rattle.table.specs.Entry.{answer_of, close_entry, close_side, judged_entry, refused_entry}
use Rattle.payloads.specs.Payload.{cut_of, shown_by, start_in}
use Rattle.places.specs.Place.{of_side}
use Rattle.answers.specs.declared.entry.Entry.{Entry}
use Rattle.journal.specs.Calls.{Asks, judging, closing}
use Rattle.promises.specs.Demand3.{ren_channel}
use Rattle.rules.specs.Verdict.{Verdict}

-- a channel, or where there is none: a channel above 7
pub data Place : Type 0 where
  outside : Place
  inside : Channel → Place

-- what a call gives: its answer, its entry, and its payload with its place. The entry's number and channel are the run's to say, and stand as 0
pub record Gave : Type 0 where
  pub answer : Answer
  pub entry : Entry
  pub payload : List ℕ
  pub start : ℕ

abbrev pub unplaced_gave : ℕ → ℕ → Gave
unplaced_gave side stamp = record { answer = answer.NoPlace; entry = refused_entry 0 0 side stamp 0 answer.NoPlace; payload = []; start = 0 }

abbrev pub said_gave : ℕ → ℕ → List ℕ → Verdict → Gave
said_gave side stamp m v = record { answer = answer_of v; entry = judged_entry 0 0 side stamp v; payload = cut_of m (shown_by v); start = start_in m (shown_by v) }

abbrev pub closed_gave : ℕ → ℕ → Gave
closed_gave stamp count = record { answer = answer.Accepted; entry = close_entry 0 0 stamp count; payload = []; start = 0 }

-- the call with journal number n
abbrev pub gate_step : ℕ → Place → Asks → Gave × Place
gate_step n outside (judging side stamp m) = (unplaced_gave side stamp, outside)
gate_step n outside (closing stamp) = (unplaced_gave close_side stamp, outside)
gate_step n (inside c) (judging side stamp m) =
    cond (of_side side)
    (said_gave side stamp m (verdict_of c n side m), inside (after_of c (verdict_of c n side m)))
    (unplaced_gave side stamp, inside c)
gate_step n (inside c) (closing stamp) = (closed_gave stamp (open_count c.rows), inside new_channel)

-- every journal number sent through f: in a row the number of its request, in an entry the cause (its own number is the run's)
abbrev pub ren_place : (ℕ → ℕ) → Place → Place
ren_place f outside = outside
ren_place f (inside c) = inside (ren_channel f c)

abbrev pub ren_cause : (ℕ → ℕ) → Entry → Entry
ren_cause f e = record e { cause = f e.cause }

abbrev pub ren_gave : (ℕ → ℕ) → Gave → Gave
ren_gave f g = record g { entry = ren_cause f g.entry }
