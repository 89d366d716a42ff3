-- Every public function of urb asks nothing of its caller, and any two results that its contract allows are equal.
use Rattle.words.proofs.Determined.{Determined, same}
use Rattle.urb.proofs.interfaces.list.Reads as list
use Rattle.urb.proofs.interfaces.list.Kinds as list_kinds
use Rattle.urb.proofs.ts_urb.read.Reads as ts_urb_read
use Rattle.urb.proofs.ts_urb.read.Kinds as ts_urb_read_kinds

pub list_determined : Determined 1 list_kinds.ps list_kinds.r list.Pre list.Post
list_determined = record { asks_nothing = λ κs a. tt; one_result = λ κs a x y s t p q. same x y _ p q }

pub ts_urb_read_determined : Determined 1 ts_urb_read_kinds.ps ts_urb_read_kinds.r ts_urb_read.Pre ts_urb_read.Post
ts_urb_read_determined = record { asks_nothing = λ κs a. tt; one_result = λ κs a x y s t p q. same x y _ p q }
