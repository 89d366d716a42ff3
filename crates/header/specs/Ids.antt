-- The ids that a word holds.
use Rattle.std.specs.Prelude.{ℕ, ◌/◌, ◌%◌, Bool, leb}
use Rattle.header.specs.declared.ids.InterfaceId.{InterfaceId}
use Rattle.header.specs.declared.ids.MessageId.{MessageId}
use Rattle.header.specs.declared.ids.RequestId.{RequestId}

-- 000 2.2.1: InterfaceId is the low 30 bits of its word, and Mask the top 2
abbrev pub interface_in : ℕ → InterfaceId
interface_in word = record { 0 = word % 0x4000_0000 }

abbrev pub mask_in : ℕ → ℕ
mask_in word = word / 0x4000_0000

-- 01 "Bodies": device and callback ids 0 to 3 give 8
abbrev pub assignable : InterfaceId → Bool
assignable id = leb 4 id.0

abbrev pub message_in : ℕ → MessageId
message_in word = record { 0 = word }

abbrev pub request_in : ℕ → RequestId
request_in word = record { 0 = word }

-- 000 2.2.9.1.1: the RequestId of a TsUrb is the low 31 bits of its word
abbrev pub urb_request_in : ℕ → RequestId
urb_request_in word = record { 0 = word % 0x8000_0000 }

-- and NoAck is the top bit of the same word
abbrev pub no_ack_in : ℕ → Bool
no_ack_in word = leb 0x8000_0000 word
