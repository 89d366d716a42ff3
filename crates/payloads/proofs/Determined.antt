-- Every public function of payloads asks nothing of its caller, and any two results that its contract allows are equal.
use mathlib.Core.Path.{◌≡◌}
use contract.Lifetimes.{Lfts}
use denote.Triple.Clauses.{AtExit}
use borrow.Fn.Kinds.{Dens, res_t, ended_of}
use Rattle.words.proofs.Determined.{same}
use Rattle.payloads.proofs.payload.payload.Reads as payload
use Rattle.payloads.proofs.payload.payload.Kinds as payload_kinds

-- The payload call gives a part of the message as it was lent: its bytes are determined, and the place where it lies.
pub payload_asks_nothing : (κs : Lfts 1) (a : Dens κs payload_kinds.ps) → payload.Pre κs a
payload_asks_nothing κs a = tt

pub payload_one_result : (κs : Lfts 1) (a : Dens κs payload_kinds.ps) (x y : (res_t payload_kinds.r κs).Denot) (s t : AtExit (ended_of 1 payload_kinds.ps payload_kinds.r) κs)
    → payload.Post κs a x s → payload.Post κs a y t → (x.now ≡ y.now) × (x.ref_ptr ≡ y.ref_ptr)
payload_one_result κs a x y s t p q = (same x.now y.now _ p.0 q.0, same x.ref_ptr y.ref_ptr _ p.1 q.1)
