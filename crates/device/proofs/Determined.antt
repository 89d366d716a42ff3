-- Every public function of device asks nothing of its caller, and any two results that its contract allows are equal.
use Rattle.words.proofs.Determined.{Determined, same}
use Rattle.device.proofs.device_capabilities.read.Reads as capabilities_read
use Rattle.device.proofs.device_capabilities.read.Kinds as capabilities_read_kinds
use Rattle.device.proofs.device_capabilities.allowed.Reads as capabilities_allowed
use Rattle.device.proofs.device_capabilities.allowed.Kinds as capabilities_allowed_kinds

pub capabilities_read_determined : Determined 1 capabilities_read_kinds.ps capabilities_read_kinds.r capabilities_read.Pre capabilities_read.Post
capabilities_read_determined = record { asks_nothing = λ κs a. tt; one_result = λ κs a x y s t p q. same x y _ p q }

pub capabilities_allowed_determined : Determined 0 capabilities_allowed_kinds.ps capabilities_allowed_kinds.r capabilities_allowed.Pre capabilities_allowed.Post
capabilities_allowed_determined = record { asks_nothing = λ κs a. tt; one_result = λ κs a x y s t p q. same x y _ p q }
