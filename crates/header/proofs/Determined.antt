-- Every public function of header asks nothing of its caller, and any two results that its contract allows are equal.
use Rattle.words.proofs.Determined.{Determined, same}
use Rattle.header.proofs.ids.InterfaceId.read.Reads as interface_read
use Rattle.header.proofs.ids.InterfaceId.read.Kinds as interface_read_kinds
use Rattle.header.proofs.ids.InterfaceId.mask.Reads as interface_mask
use Rattle.header.proofs.ids.InterfaceId.mask.Kinds as interface_mask_kinds
use Rattle.header.proofs.ids.InterfaceId.number.Reads as interface_number
use Rattle.header.proofs.ids.InterfaceId.number.Kinds as interface_number_kinds
use Rattle.header.proofs.ids.MessageId.read.Reads as message_read
use Rattle.header.proofs.ids.MessageId.read.Kinds as message_read_kinds
use Rattle.header.proofs.ids.MessageId.number.Reads as message_number
use Rattle.header.proofs.ids.MessageId.number.Kinds as message_number_kinds
use Rattle.header.proofs.ids.RequestId.read.Reads as request_read
use Rattle.header.proofs.ids.RequestId.read.Kinds as request_read_kinds
use Rattle.header.proofs.ids.RequestId.read_urb.Reads as request_read_urb
use Rattle.header.proofs.ids.RequestId.read_urb.Kinds as request_read_urb_kinds
use Rattle.header.proofs.ids.RequestId.no_ack.Reads as request_no_ack
use Rattle.header.proofs.ids.RequestId.no_ack.Kinds as request_no_ack_kinds
use Rattle.header.proofs.ids.RequestId.number.Reads as request_number
use Rattle.header.proofs.ids.RequestId.number.Kinds as request_number_kinds
use Rattle.header.proofs.ids.InterfaceId.assignable.Reads as assignable
use Rattle.header.proofs.ids.InterfaceId.assignable.Kinds as assignable_kinds
use Rattle.header.proofs.shared_msg_header.read.Reads as header_read
use Rattle.header.proofs.shared_msg_header.read.Kinds as header_read_kinds

pub interface_read_determined : Determined 1 interface_read_kinds.ps interface_read_kinds.r interface_read.Pre interface_read.Post
interface_read_determined = record { asks_nothing = λ κs a. tt; one_result = λ κs a x y s t p q. same x y _ p q }

pub interface_mask_determined : Determined 1 interface_mask_kinds.ps interface_mask_kinds.r interface_mask.Pre interface_mask.Post
interface_mask_determined = record { asks_nothing = λ κs a. tt; one_result = λ κs a x y s t p q. same x y _ p q }

pub interface_number_determined : Determined 0 interface_number_kinds.ps interface_number_kinds.r interface_number.Pre interface_number.Post
interface_number_determined = record { asks_nothing = λ κs a. tt; one_result = λ κs a x y s t p q. same x y _ p q }

pub message_read_determined : Determined 1 message_read_kinds.ps message_read_kinds.r message_read.Pre message_read.Post
message_read_determined = record { asks_nothing = λ κs a. tt; one_result = λ κs a x y s t p q. same x y _ p q }

pub message_number_determined : Determined 0 message_number_kinds.ps message_number_kinds.r message_number.Pre message_number.Post
message_number_determined = record { asks_nothing = λ κs a. tt; one_result = λ κs a x y s t p q. same x y _ p q }

pub request_read_determined : Determined 1 request_read_kinds.ps request_read_kinds.r request_read.Pre request_read.Post
request_read_determined = record { asks_nothing = λ κs a. tt; one_result = λ κs a x y s t p q. same x y _ p q }

pub request_read_urb_determined : Determined 1 request_read_urb_kinds.ps request_read_urb_kinds.r request_read_urb.Pre request_read_urb.Post
request_read_urb_determined = record { asks_nothing = λ κs a. tt; one_result = λ κs a x y s t p q. same x y _ p q }

pub request_no_ack_determined : Determined 1 request_no_ack_kinds.ps request_no_ack_kinds.r request_no_ack.Pre request_no_ack.Post
request_no_ack_determined = record { asks_nothing = λ κs a. tt; one_result = λ κs a x y s t p q. same x y _ p q }

pub request_number_determined : Determined 0 request_number_kinds.ps request_number_kinds.r request_number.Pre request_number.Post
request_number_determined = record { asks_nothing = λ κs a. tt; one_result = λ κs a x y s t p q. same x y _ p q }

pub header_read_determined : Determined 1 header_read_kinds.ps header_read_kinds.r header_read.Pre header_read.Post
header_read_determined = record { asks_nothing = λ κs a. tt; one_result = λ κs a x y s t p q. same x y _ p q }

pub assignable_determined : Determined 0 assignable_kinds.ps assignable_kinds.r assignable.Pre assignable.Post
assignable_determined = record { asks_nothing = λ κs a. tt; one_result = λ κs a x y s t p q. same x y _ p q }
