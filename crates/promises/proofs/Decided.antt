-- What holds of each verdict that the rules can give holds of what they decide. One law for each part of `decided`, for any P: all refusals are answered
-- together, and what is accepted is asked for with what was found in the rows.
use Rattle.std.specs.Prelude.{Option, Some, None, Ok, Err}
use Prim.Native.Nat.{ℕ, ◌≤◌}
use native.Mathlib.Omega.{arith}
use mathlib.Core.Path.{◌≡◌, refl}
use mathlib.Core.Bool.{false}
use lib.Dec.{eqb, ltb}
use Rattle.words.proofs.Steps.{either}
use Rattle.header.specs.declared.ids.RequestId.{RequestId}
use Rattle.answers.specs.declared.kind.Kind.{Kind}
use Rattle.wire.specs.declared.message.IoCompleted.{IoCompleted}
use Rattle.wire.specs.declared.message.Request.{Request}
use Rattle.wire.specs.declared.message.UrbCompleted.{UrbCompleted}
use Rattle.channel.specs.declared.row.Open.{Open}
use Rattle.channel.specs.declared.row.Sort.{Sort}
use Rattle.channel.specs.declared.row.Sort.TheVariants.{Out}
use Rattle.requests.specs.declared.open.Held.{Held}
use Rattle.requests.specs.declared.open.Held.TheVariants as held
use Rattle.answers.specs.Answer.{answer_number}
use Rattle.answers.specs.Phase.{phases_of}
use Rattle.answers.specs.declared.answer.Answer.{Answer}
use Rattle.answers.specs.declared.answer.Answer.TheVariants.{AlreadyOpen, Full, NotOpen, ResultDisagrees, TooMuch, Value, WrongSort}
use Rattle.rules.specs.Request.{opened, taken, taken_at, transfer_out_decided}
use Rattle.rules.specs.Cancel.{accepted_cancel, cancelled, marks}
use Rattle.rules.specs.Completion.{closes, io_completed, no_data_completed, result_agrees, urb_closed, urb_completed}
use Rattle.rules.specs.declared.verdict.Act.TheVariants.{Keep, Mark}
use Rattle.rules.specs.Verdict.{Verdict, refusal_of}

module _ (P : Verdict → Type 0) (k : Kind) (refuses : (a : Answer) → 7 ≤ answer_number a → P (Err (refusal_of (Some k) a))) where
  -- a request takes the row that was found free, where nothing is open under its id
  pub taken_has : (r : Request) (s : Sort) (here : Held) (free : Option ℕ) → ((at : ℕ) → here ≡ held.Nothing → P (taken_at k r s (Some at))) → P (taken k r s here free)
  unfolding taken
  taken_has r s held.Nothing (Some at) h = h at refl
  taken_has r s held.Nothing None h = refuses Full (omega arith)
  taken_has r s (held.Io at o) free h = refuses AlreadyOpen (omega arith)
  taken_has r s (held.In at o) free h = refuses AlreadyOpen (omega arith)
  taken_has r s (held.Out at o) free h = refuses AlreadyOpen (omega arith)

  -- a transfer out: with NoAck, or a request like others
  pub out_has : (r : Request) (n jitter : ℕ) (here : Held) (free : Option ℕ)
      → P (Ok (record { kind = 12; request = r.request.0; cause = 0; size = r.size; payload = r.payload; phase = (phases_of k).after; act = Keep }))
      → ((at : ℕ) → here ≡ held.Nothing → P (taken_at k r (Out (opened r n)) (Some at))) → P (transfer_out_decided k r n jitter here free)
  out_has r n jitter here free a h =
      either P r.noack _ _ (λ e. either P (eqb jitter 0) _ _ (λ f. refuses Value (omega arith)) (λ f. a)) (λ e. taken_has r (Out (opened r n)) here free h)

  -- a completion closes the request of the row that was found
  pub io_has : (d : IoCompleted) (here : Held) → ((at : ℕ) (o : Open) → here ≡ held.Io at o → P (closes k at o d.request d.size d.payload)) → P (io_completed k d here)
  io_has d held.Nothing h = refuses NotOpen (omega arith)
  io_has d (held.Io at o) h =
      either P (ltb o.size d.size) _ _ (λ e. refuses TooMuch (omega arith))
      (λ e. either P (result_agrees d o) _ _ (λ f. h at o refl) (λ f. refuses ResultDisagrees (omega arith)))
  io_has d (held.In at o) h = refuses WrongSort (omega arith)
  io_has d (held.Out at o) h = refuses WrongSort (omega arith)

  closed_has : (d : UrbCompleted) (most at : ℕ) (o : Open) → P (closes k at o d.request d.size d.payload) → P (urb_closed k d most at o)
  closed_has d most at o h = either P (ltb most d.size) _ _ (λ e. refuses TooMuch (omega arith)) (λ e. h)

  pub urb_has : (d : UrbCompleted) (here : Held) → ((at : ℕ) (o : Open) → here ≡ held.In at o → P (closes k at o d.request d.size d.payload)) → P (urb_completed k d here)
  urb_has d held.Nothing h = refuses NotOpen (omega arith)
  urb_has d (held.Io at o) h = refuses WrongSort (omega arith)
  urb_has d (held.In at o) h = closed_has d o.size at o (h at o refl)
  urb_has d (held.Out at o) h = refuses WrongSort (omega arith)

  pub no_data_has : (d : UrbCompleted) (here : Held) → ((at : ℕ) (o : Open) → here ≡ held.In at o → P (closes k at o d.request d.size d.payload))
      → ((at : ℕ) (o : Open) → here ≡ held.Out at o → P (closes k at o d.request d.size d.payload)) → P (no_data_completed k d here)
  no_data_has d held.Nothing g h = refuses NotOpen (omega arith)
  no_data_has d (held.Io at o) g h = refuses WrongSort (omega arith)
  no_data_has d (held.In at o) g h = closed_has d 0 at o (g at o refl)
  no_data_has d (held.Out at o) g h = closed_has d o.size at o (h at o refl)

  -- a cancel finds nothing to mark, or marks the row that was found
  marks_has : (id : RequestId) (at : ℕ) (o : Open) → P (accepted_cancel k id 0 Keep) → (o.marked ≡ false → P (accepted_cancel k id o.number (Mark at))) → P (marks k id at o)
  marks_has id at o h f = either P o.marked _ _ (λ e. h) f

  pub cancelled_has : (id : RequestId) (here : Held) → P (accepted_cancel k id 0 Keep)
      → ((at : ℕ) (o : Open) → here ≡ held.Io at o → o.marked ≡ false → P (accepted_cancel k id o.number (Mark at)))
      → ((at : ℕ) (o : Open) → here ≡ held.In at o → o.marked ≡ false → P (accepted_cancel k id o.number (Mark at)))
      → ((at : ℕ) (o : Open) → here ≡ held.Out at o → o.marked ≡ false → P (accepted_cancel k id o.number (Mark at))) → P (cancelled k id here)
  cancelled_has id held.Nothing h x y z = h
  cancelled_has id (held.Io at o) h x y z = marks_has id at o h (x at o refl)
  cancelled_has id (held.In at o) h x y z = marks_has id at o h (y at o refl)
  cancelled_has id (held.Out at o) h x y z = marks_has id at o h (z at o refl)
