-- What holds of each of answers 3 to 6, and of what a message asks where none of them is given, holds of what is admitted.
use Rattle.std.specs.Prelude.{Option, Some, None, Ok, Err}
use Prim.Native.Nat.{ℕ}
use mathlib.Core.List.{List}
use lib.ListN.{length}
use lib.Dec.{eqb, ltb}
use Rattle.words.proofs.Steps.{either}
use Rattle.header.specs.Header.{header_of}
use Rattle.answers.specs.declared.kind.Kind.{Kind}
use Rattle.wire.specs.Message.{asked_of}
use Rattle.kinds.specs.Kinds.{first_fitting, kinds}
use Rattle.answers.specs.Phase.{phases_of}
use Rattle.answers.specs.declared.answer.Answer.TheVariants.{Short, Long, NoKind, WrongPhase}
use Rattle.turn.specs.Admit.{Admitted, admitted, asks_as, asks_in, from_head, from_header}
use Rattle.header.specs.declared.shared_msg_header.Header.{Header}
use Rattle.header.specs.declared.ids.InterfaceId.{InterfaceId}
use Rattle.rules.specs.Verdict.{refusal_of}

module _ (P : Admitted → Type 0) (m : List ℕ) (short : P (Err (refusal_of None Short))) (long : P (Err (refusal_of None Long))) (no_kind : P (Err (refusal_of None NoKind)))
    (phase : (k : Kind) → P (Err (refusal_of (Some k) WrongPhase))) (asks : (k : Kind) → P (Ok (k, (asked_of k m)))) where
  as_has : (ph : ℕ) (k : Option Kind) → P (asks_as ph k m)
  unfolding asks_in
  as_has ph None = no_kind
  as_has ph (Some k) = either P (eqb (phases_of k).before ph) _ _ (λ e. asks k) (λ e. phase k)

  head_has : (ph : ℕ) (d b : Option InterfaceId) (side : ℕ) (h : Option Header) → P (from_head ph d b side h m)
  unfolding from_header
  head_has ph d b side None = short
  head_has ph d b side (Some h) = either P (ltb 65535 (length m)) _ _ (λ e. long) (λ e. as_has ph (first_fitting kinds h side d b))

  pub admitted_has : (ph : ℕ) (d b : Option InterfaceId) (side : ℕ) → P (admitted ph d b side m)
  unfolding admitted
  admitted_has ph d b side = head_has ph d b side (header_of m)
