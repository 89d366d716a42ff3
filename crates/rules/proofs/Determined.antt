-- Every public function of rules asks nothing of its caller, and any two results that its contract allows are equal.
use Rattle.words.proofs.Determined.{Determined, same}
use Rattle.rules.proofs.decide.decide.Reads as decide
use Rattle.rules.proofs.decide.decide.Kinds as decide_kinds

pub decide_determined : Determined 0 decide_kinds.ps decide_kinds.r decide.Pre decide.Post
decide_determined = record { asks_nothing = λ κs a. tt; one_result = λ κs a x y s t p q. same x y _ p q }
