-- What a channel refuses, it refuses with one of answers 3 to 14, and with kind 0 for 3 to 5.
use Rattle.std.specs.Prelude.{Result, Ok, Err}
use Prim.Native.Nat.{ℕ, ◌≤◌}
use native.Mathlib.Omega.{arith}
use mathlib.Core.Path.{◌≡◌, refl}
use mathlib.Core.List.{List}
use Rattle.answers.specs.Kind.{kind_number}
use Rattle.answers.specs.declared.kind.Kind.{Kind}
use Rattle.wire.specs.declared.message.Asked.TheVariants as asks
use Rattle.channel.specs.declared.channel.Channel.{Channel}
use Rattle.answers.specs.Answer.{answer_number}
use Rattle.answers.specs.declared.answer.Answer.{Answer}
use Rattle.rules.specs.Decide.{decided}
use Rattle.rules.specs.declared.decide.Seen.{Seen}
use Rattle.turn.specs.Admit.{Admitted, admitted}
use Rattle.turn.specs.Step.{verdict_by, verdict_of}
use Rattle.turn.specs.Store.{seen_of}
use Rattle.promises.proofs.Admitted.{admitted_has}
use Rattle.promises.proofs.Decided.{cancelled_has, io_has, no_data_has, out_has, taken_has, urb_has}
use Rattle.wire.specs.declared.message.Asked.{Asked}
use Rattle.wire.specs.declared.message.Unfit.{Unfit}
use Rattle.wire.specs.declared.message.Unfit.TheVariants as unfit
use Rattle.rules.specs.Verdict.{Verdict, kind_told}

abbrev Late : ℕ → ℕ → Type 0
Late n k = (3 ≤ n) × (n ≤ 5 → k ≡ 0)

abbrev pub Proper : Verdict → Type 0
Proper (Err r) = Late (answer_number r.answer) (kind_told r.kind)
Proper (Ok a) = Unit {0}

late : (n k : ℕ) → 6 ≤ n → Late n k
late n k h = (omega arith, λ g. absurd (omega arith))

refuses : (k : Kind) (a : Answer) → 7 ≤ answer_number a → Late (answer_number a) (kind_number k)
refuses k a h = late (answer_number a) (kind_number k) (omega (arith, h))

decided_proper : (k : Kind) (a : Result Asked Unfit) (n jitter : ℕ) (seen : Seen) → Proper (decided k a n jitter seen)
unfolding decided
decided_proper k (Err (unfit.Sizes fault)) n jitter seen = late 7 (kind_number k) (omega arith)
decided_proper k (Err unfit.Value) n jitter seen = late 8 (kind_number k) (omega arith)
decided_proper k (Ok asks.Step) n jitter seen = tt
decided_proper k (Ok (asks.Device id ms)) n jitter seen = tt
decided_proper k (Ok (asks.Callback id)) n jitter seen = tt
decided_proper k (Ok (asks.IoControl r)) n jitter seen = taken_has Proper k (refuses k) r _ seen.here seen.free (λ at e. tt)
decided_proper k (Ok (asks.TransferIn r)) n jitter seen = taken_has Proper k (refuses k) r _ seen.here seen.free (λ at e. tt)
decided_proper k (Ok (asks.TransferOut r)) n jitter seen = out_has Proper k (refuses k) r n jitter seen.here seen.free tt (λ at e. tt)
decided_proper k (Ok (asks.Cancel id)) n jitter seen = cancelled_has Proper k (refuses k) id seen.here tt (λ at o e m. tt) (λ at o e m. tt) (λ at o e m. tt)
decided_proper k (Ok asks.Retract) n jitter seen = tt
decided_proper k (Ok (asks.IoCompletion c)) n jitter seen = io_has Proper k (refuses k) c seen.here (λ at o e. tt)
decided_proper k (Ok (asks.UrbCompletion c)) n jitter seen = urb_has Proper k (refuses k) c seen.here (λ at o e. tt)
decided_proper k (Ok (asks.UrbCompletionNoData c)) n jitter seen = no_data_has Proper k (refuses k) c seen.here (λ at o e. tt) (λ at o e. tt)

abbrev Admits : Admitted → Type 0
Admits (Err r) = Late (answer_number r.answer) (kind_told r.kind)
Admits (Ok (k, a)) = Unit {0}

by_proper : (c : Channel) (n : ℕ) (a : Admitted) → Admits a → Proper (verdict_by c n a)
by_proper c n (Err r) h = h
by_proper c n (Ok (k, a)) h = decided_proper k a n c.jitter (seen_of c a)

pub proper : (c : Channel) (n side : ℕ) (m : List ℕ) → Proper (verdict_of c n side m)
unfolding verdict_of
proper c n side m =
    by_proper c n (admitted c.phase c.device c.callback side m)
    (admitted_has Admits m (omega arith, λ g. refl) (omega arith, λ g. refl) (omega arith, λ g. refl) (λ k. late 6 (kind_number k) (omega arith)) (λ k. tt) c.phase c.device c.callback side)
