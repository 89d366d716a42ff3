-- Every public function of channel asks nothing of its caller, and any two results that its contract allows are equal.
use Rattle.words.proofs.Determined.{Determined, same}
use Rattle.channel.proofs.channel.new.Reads as new
use Rattle.channel.proofs.channel.new.Kinds as new_kinds
use Rattle.channel.proofs.channel.put.Reads as put
use Rattle.channel.proofs.channel.put.Kinds as put_kinds
use Rattle.channel.proofs.channel.mark.Reads as mark
use Rattle.channel.proofs.channel.mark.Kinds as mark_kinds
use Rattle.channel.proofs.channel.empty.Reads as empty
use Rattle.channel.proofs.channel.empty.Kinds as empty_kinds

pub new_determined : Determined 0 new_kinds.ps new_kinds.r new.Pre new.Post
new_determined = record { asks_nothing = λ κs a. tt; one_result = λ κs a x y s t p q. same x y _ p q }

pub put_determined : Determined 0 put_kinds.ps put_kinds.r put.Pre put.Post
put_determined = record { asks_nothing = λ κs a. tt; one_result = λ κs a x y s t p q. same x y _ p q }

pub mark_determined : Determined 0 mark_kinds.ps mark_kinds.r mark.Pre mark.Post
mark_determined = record { asks_nothing = λ κs a. tt; one_result = λ κs a x y s t p q. same x y _ p q }

pub empty_determined : Determined 0 empty_kinds.ps empty_kinds.r empty.Pre empty.Post
empty_determined = record { asks_nothing = λ κs a. tt; one_result = λ κs a x y s t p q. same x y _ p q }
