-- Every public function of texts asks nothing of its caller, and any two results that its contract allows are equal.
use Rattle.words.proofs.Determined.{Determined, same}
use Rattle.texts.proofs.text.read.Reads as text_read
use Rattle.texts.proofs.text.read.Kinds as text_read_kinds
use Rattle.texts.proofs.text.allowed.Reads as text_allowed
use Rattle.texts.proofs.text.allowed.Kinds as text_allowed_kinds
use Rattle.texts.proofs.text.list_allowed.Reads as list_allowed
use Rattle.texts.proofs.text.list_allowed.Kinds as list_allowed_kinds

pub text_read_determined : Determined 1 text_read_kinds.ps text_read_kinds.r text_read.Pre text_read.Post
text_read_determined = record { asks_nothing = λ κs a. tt; one_result = λ κs a x y s t p q. same x y _ p q }

pub text_allowed_determined : Determined 0 text_allowed_kinds.ps text_allowed_kinds.r text_allowed.Pre text_allowed.Post
text_allowed_determined = record { asks_nothing = λ κs a. tt; one_result = λ κs a x y s t p q. same x y _ p q }

pub list_allowed_determined : Determined 0 list_allowed_kinds.ps list_allowed_kinds.r list_allowed.Pre list_allowed.Post
list_allowed_determined = record { asks_nothing = λ κs a. tt; one_result = λ κs a x y s t p q. same x y _ p q }
