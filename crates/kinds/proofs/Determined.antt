-- Every public function of kinds asks nothing of its caller, and any two results that its contract allows are equal.
use Rattle.words.proofs.Determined.{Determined, same}
use Rattle.kinds.proofs.kind.kind_of.Reads as kind_of
use Rattle.kinds.proofs.kind.kind_of.Kinds as kind_of_kinds
use Rattle.kinds.proofs.kind.U8FromSide.from.Reads as number_of
use Rattle.kinds.proofs.kind.U8FromSide.from.Kinds as number_of_kinds
use Rattle.kinds.proofs.kind.SideTryFromU8.try_from.Reads as side_of
use Rattle.kinds.proofs.kind.SideTryFromU8.try_from.Kinds as side_of_kinds

pub kind_of_determined : Determined 0 kind_of_kinds.ps kind_of_kinds.r kind_of.Pre kind_of.Post
kind_of_determined = record { asks_nothing = λ κs a. tt; one_result = λ κs a x y s t p q. same x y _ p q }

pub number_of_determined : Determined 0 number_of_kinds.ps number_of_kinds.r number_of.Pre number_of.Post
number_of_determined = record { asks_nothing = λ κs a. tt; one_result = λ κs a x y s t p q. same x y _ p q }

pub side_of_determined : Determined 0 side_of_kinds.ps side_of_kinds.r side_of.Pre side_of.Post
side_of_determined = record { asks_nothing = λ κs a. tt; one_result = λ κs a x y s t p q. same x y _ p q }
