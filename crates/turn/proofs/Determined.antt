-- Every public function of turn asks nothing of its caller, and any two results that its contract allows are equal.
use Rattle.words.proofs.Determined.{Determined, same}
use Rattle.turn.proofs.step.judge.Reads as judge
use Rattle.turn.proofs.step.judge.Kinds as judge_kinds
use Rattle.turn.proofs.step.after.Reads as after
use Rattle.turn.proofs.step.after.Kinds as after_kinds

pub judge_determined : Determined 1 judge_kinds.ps judge_kinds.r judge.Pre judge.Post
judge_determined = record { asks_nothing = λ κs a. tt; one_result = λ κs a x y s t p q. same x y _ p q }

pub after_determined : Determined 0 after_kinds.ps after_kinds.r after.Pre after.Post
after_determined = record { asks_nothing = λ κs a. tt; one_result = λ κs a x y s t p q. same x y _ p q }
