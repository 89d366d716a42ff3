-- Every public function of answers asks nothing of its caller, and any two results that its contract allows are equal.
use Rattle.words.proofs.Determined.{Determined, same}
use Rattle.answers.proofs.answer.U8FromAnswer.from.Reads as answer_number
use Rattle.answers.proofs.answer.U8FromAnswer.from.Kinds as answer_number_kinds
use Rattle.answers.proofs.kind.U8FromKind.from.Reads as kind_number
use Rattle.answers.proofs.kind.U8FromKind.from.Kinds as kind_number_kinds
use Rattle.answers.proofs.phase.of.Reads as phase_of
use Rattle.answers.proofs.phase.of.Kinds as phase_of_kinds
use Rattle.answers.proofs.kind.KindTryFromU8.try_from.Reads as kind_at
use Rattle.answers.proofs.kind.KindTryFromU8.try_from.Kinds as kind_at_kinds

pub answer_number_determined : Determined 0 answer_number_kinds.ps answer_number_kinds.r answer_number.Pre answer_number.Post
answer_number_determined = record { asks_nothing = λ κs a. tt; one_result = λ κs a x y s t p q. same x y _ p q }

pub kind_number_determined : Determined 0 kind_number_kinds.ps kind_number_kinds.r kind_number.Pre kind_number.Post
kind_number_determined = record { asks_nothing = λ κs a. tt; one_result = λ κs a x y s t p q. same x y _ p q }

pub phase_of_determined : Determined 0 phase_of_kinds.ps phase_of_kinds.r phase_of.Pre phase_of.Post
phase_of_determined = record { asks_nothing = λ κs a. tt; one_result = λ κs a x y s t p q. same x y _ p q }

pub kind_at_determined : Determined 0 kind_at_kinds.ps kind_at_kinds.r kind_at.Pre kind_at.Post
kind_at_determined = record { asks_nothing = λ κs a. tt; one_result = λ κs a x y s t p q. same x y _ p q }
