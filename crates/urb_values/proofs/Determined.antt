-- Every public function of urb_values asks nothing of its caller, and any two results that its contract allows are equal.
use Rattle.words.proofs.Determined.{Determined, same}
use Rattle.urb_values.proofs.values.allowed.Reads as urb_allowed
use Rattle.urb_values.proofs.values.allowed.Kinds as urb_allowed_kinds
use Rattle.urb_values.proofs.values.only_in.Reads as only_in
use Rattle.urb_values.proofs.values.only_in.Kinds as only_in_kinds
use Rattle.urb_values.proofs.values.may_no_ack.Reads as may_no_ack
use Rattle.urb_values.proofs.values.may_no_ack.Kinds as may_no_ack_kinds
use Rattle.urb_values.proofs.values.incoming.Reads as incoming
use Rattle.urb_values.proofs.values.incoming.Kinds as incoming_kinds
use Rattle.urb_values.proofs.values.outgoing.Reads as outgoing
use Rattle.urb_values.proofs.values.outgoing.Kinds as outgoing_kinds

pub urb_allowed_determined : Determined 0 urb_allowed_kinds.ps urb_allowed_kinds.r urb_allowed.Pre urb_allowed.Post
urb_allowed_determined = record { asks_nothing = λ κs a. tt; one_result = λ κs a x y s t p q. same x y _ p q }

pub only_in_determined : Determined 0 only_in_kinds.ps only_in_kinds.r only_in.Pre only_in.Post
only_in_determined = record { asks_nothing = λ κs a. tt; one_result = λ κs a x y s t p q. same x y _ p q }

pub may_no_ack_determined : Determined 0 may_no_ack_kinds.ps may_no_ack_kinds.r may_no_ack.Pre may_no_ack.Post
may_no_ack_determined = record { asks_nothing = λ κs a. tt; one_result = λ κs a x y s t p q. same x y _ p q }

pub incoming_determined : Determined 0 incoming_kinds.ps incoming_kinds.r incoming.Pre incoming.Post
incoming_determined = record { asks_nothing = λ κs a. tt; one_result = λ κs a x y s t p q. same x y _ p q }

pub outgoing_determined : Determined 0 outgoing_kinds.ps outgoing_kinds.r outgoing.Pre outgoing.Post
outgoing_determined = record { asks_nothing = λ κs a. tt; one_result = λ κs a x y s t p q. same x y _ p q }
