-- The public function of fields asks nothing of its caller, and any two results that its contract allows are equal.
use Rattle.words.proofs.Determined.{Determined, same}
use Rattle.fields.proofs.message.read.Reads as message_read
use Rattle.fields.proofs.message.read.Kinds as message_read_kinds

pub message_read_determined : Determined 1 message_read_kinds.ps message_read_kinds.r message_read.Pre message_read.Post
message_read_determined = record { asks_nothing = λ κs a. tt; one_result = λ κs a x y s t p q. same x y _ p q }
