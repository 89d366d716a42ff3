-- Every public function of wire asks nothing of its caller, and any two results that its contract allows are equal.
use Rattle.words.proofs.Determined.{Determined, same}
use Rattle.wire.proofs.message.ask.Reads as ask
use Rattle.wire.proofs.message.ask.Kinds as ask_kinds
use Rattle.wire.proofs.message.UnfitFromFault.from.Reads as unfit
use Rattle.wire.proofs.message.UnfitFromFault.from.Kinds as unfit_kinds

pub ask_determined : Determined 1 ask_kinds.ps ask_kinds.r ask.Pre ask.Post
ask_determined = record { asks_nothing = λ κs a. tt; one_result = λ κs a x y s t p q. same x y _ p q }

pub unfit_determined : Determined 0 unfit_kinds.ps unfit_kinds.r unfit.Pre unfit.Post
unfit_determined = record { asks_nothing = λ κs a. tt; one_result = λ κs a x y s t p q. same x y _ p q }
