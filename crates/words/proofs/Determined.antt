-- Every public function of words asks nothing of its caller, and any two results that its contract allows are equal.
use Prim.Native.Nat.{ℕ}
use mathlib.Core.Path.{◌≡◌, sym, ◌∙◌}
use mathlib.Core.List.{List}
use contract.Lifetimes.{Lfts}
use denote.Triple.Clauses.{AtExit}
use borrow.Fn.Kinds.{ParamKind, ResultKind, In, Out, Dens, res_t, ended_of}
use Rattle.words.proofs.numbers.byte_at.Reads as byte_at
use Rattle.words.proofs.numbers.byte_at.Kinds as byte_at_kinds
use Rattle.words.proofs.numbers.u16_at.Reads as u16_at
use Rattle.words.proofs.numbers.u16_at.Kinds as u16_at_kinds
use Rattle.words.proofs.numbers.u32_at.Reads as u32_at
use Rattle.words.proofs.numbers.u32_at.Kinds as u32_at_kinds
use Rattle.words.proofs.numbers.rest.Reads as rest
use Rattle.words.proofs.numbers.rest.Kinds as rest_kinds
use Rattle.words.proofs.hresult.is_success.Reads as is_success
use Rattle.words.proofs.hresult.is_success.Kinds as is_success_kinds
use Rattle.words.proofs.layout.field.Reads as field
use Rattle.words.proofs.layout.field.Kinds as field_kinds
use Rattle.words.proofs.layout.ended.Reads as ended
use Rattle.words.proofs.layout.ended.Kinds as ended_kinds
use Rattle.words.proofs.layout.agrees.Reads as agrees
use Rattle.words.proofs.layout.agrees.Kinds as agrees_kinds
use Rattle.words.proofs.layout.filled.Reads as filled
use Rattle.words.proofs.layout.filled.Kinds as filled_kinds

-- What a public contract owes: it can always be called, and it leaves its result no choice.
pub record Determined (n : ℕ) (ps : List (ParamKind n)) (r : ResultKind n) (pre : In n ps) (post : Out n ps r) : Type 0 where
  pub asks_nothing : (κs : Lfts n) (a : Dens κs ps) → pre κs a
  pub one_result : (κs : Lfts n) (a : Dens κs ps) (x y : (res_t r κs).Denot) (s t : AtExit (ended_of n ps r) κs) → post κs a x s → post κs a y t → x ≡ y

-- The law that all of them cite: what is equal to the same is equal.
pub same : {A : Type 0} (x y z : A) → x ≡ z → y ≡ z → x ≡ y
same x y z p q = p ∙ sym q

pub byte_at_determined : Determined 1 byte_at_kinds.ps byte_at_kinds.r byte_at.Pre byte_at.Post
byte_at_determined = record { asks_nothing = λ κs a. tt; one_result = λ κs a x y s t p q. same x y _ p.0 q.0 }

pub u16_at_determined : Determined 1 u16_at_kinds.ps u16_at_kinds.r u16_at.Pre u16_at.Post
u16_at_determined = record { asks_nothing = λ κs a. tt; one_result = λ κs a x y s t p q. same x y _ p q }

pub u32_at_determined : Determined 1 u32_at_kinds.ps u32_at_kinds.r u32_at.Pre u32_at.Post
u32_at_determined = record { asks_nothing = λ κs a. tt; one_result = λ κs a x y s t p q. same x y _ p q }

pub rest_determined : Determined 1 rest_kinds.ps rest_kinds.r rest.Pre rest.Post
rest_determined = record { asks_nothing = λ κs a. tt; one_result = λ κs a x y s t p q. same x y _ p q }

pub is_success_determined : Determined 0 is_success_kinds.ps is_success_kinds.r is_success.Pre is_success.Post
is_success_determined = record { asks_nothing = λ κs a. tt; one_result = λ κs a x y s t p q. same x y _ p q }

pub field_determined : Determined 1 field_kinds.ps field_kinds.r field.Pre field.Post
field_determined = record { asks_nothing = λ κs a. tt; one_result = λ κs a x y s t p q. same x y _ p q }

pub ended_determined : Determined 1 ended_kinds.ps ended_kinds.r ended.Pre ended.Post
ended_determined = record { asks_nothing = λ κs a. tt; one_result = λ κs a x y s t p q. same x y _ p q }

pub agrees_determined : Determined 0 agrees_kinds.ps agrees_kinds.r agrees.Pre agrees.Post
agrees_determined = record { asks_nothing = λ κs a. tt; one_result = λ κs a x y s t p q. same x y _ p q }

pub filled_determined : Determined 0 filled_kinds.ps filled_kinds.r filled.Pre filled.Post
filled_determined = record { asks_nothing = λ κs a. tt; one_result = λ κs a x y s t p q. same x y _ p q }
