-- Every public function of requests asks nothing of its caller, and any two results that its contract allows are equal.
use Rattle.words.proofs.Determined.{Determined, same}
use Rattle.requests.proofs.open.under.Reads as under
use Rattle.requests.proofs.open.under.Kinds as under_kinds

pub under_determined : Determined 0 under_kinds.ps under_kinds.r under.Pre under.Post
under_determined = record { asks_nothing = λ κs a. tt; one_result = λ κs a x y s t p q. same x y _ p q }
