-- Answers 3 to 6, in their order, and then what the message asks. The kind is 0 for 3 to 5.
use Rattle.std.specs.Prelude.{ℕ, List, cond, length, ltb, eqb, Option, Some, None, Result, Ok, Err}
use Rattle.header.specs.Header.{header_of}
use Rattle.header.specs.declared.shared_msg_header.Header.{Header}
use Rattle.answers.specs.declared.kind.Kind.{Kind}
use Rattle.kinds.specs.Kinds.{first_fitting, kinds}
use Rattle.wire.specs.Message.{asked_of}
use Rattle.answers.specs.Phase.{phases_of}
use Rattle.answers.specs.declared.answer.Answer.TheVariants.{Short, Long, NoKind, WrongPhase}
use Rattle.header.specs.declared.ids.InterfaceId.{InterfaceId}
use Rattle.wire.specs.declared.message.Asked.{Asked}
use Rattle.wire.specs.declared.message.Unfit.{Unfit}
use Rattle.rules.specs.declared.verdict.Refusal.{Refusal}
use Rattle.rules.specs.Verdict.{refusal_of}

-- a message by 3 to 6: refused, or its kind and what it asks
abbrev pub Admitted : Type 0
Admitted = Result (Kind × Result Asked Unfit) Refusal

-- 6: the kind is not allowed in this phase
unfoldable pub asks_in : ℕ → Kind → List ℕ → Admitted
asks_in phase k m = cond (eqb (phases_of k).before phase) (Ok (k, (asked_of k m))) (Err (refusal_of (Some k) WrongPhase))

-- 5: there is no kind
abbrev pub asks_as : ℕ → Option Kind → List ℕ → Admitted
asks_as phase None m = Err (refusal_of None NoKind)
asks_as phase (Some k) m = asks_in phase k m

-- 4: over 65,535 bytes
unfoldable pub from_header : ℕ → Option InterfaceId → Option InterfaceId → ℕ → Header → List ℕ → Admitted
from_header phase device callback side h m =
    cond (ltb 65535 (length m)) (Err (refusal_of None Long)) (asks_as phase (first_fitting kinds h side device callback) m)

-- 3: under 12 bytes
abbrev pub from_head : ℕ → Option InterfaceId → Option InterfaceId → ℕ → Option Header → List ℕ → Admitted
from_head phase device callback side None m = Err (refusal_of None Short)
from_head phase device callback side (Some h) m = from_header phase device callback side h m

-- on a channel in a phase, that knows a device and a callback
unfoldable pub admitted : ℕ → Option InterfaceId → Option InterfaceId → ℕ → List ℕ → Admitted
admitted phase device callback side m = from_head phase device callback side (header_of m) m
