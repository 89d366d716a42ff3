-- What the fields of a body add up to, and that its parts lie within its message. No contract cites this file: the laws of proofs/Laws.antt do.
use Rattle.std.specs.Prelude.{ℕ, ◌+◌, cond, eqb}
use Rattle.words.specs.Layout.{Within}
use Rattle.wire_laws.specs.Device.{text_size}
use Rattle.wire_laws.specs.Urb.{UrbWithin, urb_length}
use Rattle.wire.specs.declared.ts_urb_result.TsUrbResult.{TsUrbResult}
use Rattle.wire.specs.Reading.{Body, capability_request_body, capability_response_body, channel_created_body, add_virtual_channel_body, add_device_body, cancel_request_body, register_request_callback_body, io_control_body, transfer_in_request_body, transfer_out_request_body, retract_device_body, io_control_completion_body, urb_completion_body, urb_completion_no_data_body}

-- a TS_URB_RESULT: its header and the rest
abbrev pub result_length : TsUrbResult → ℕ
result_length r = 8 + r.rest.size

-- the length of a message with a body: its header and its fields
abbrev pub length_of : Body → ℕ
length_of (capability_request_body b) = 16
length_of (capability_response_body b) = 16
length_of (channel_created_body b) = 24
length_of add_virtual_channel_body = 12
length_of (add_device_body b) = 20 + text_size b.instance + text_size b.hardware + text_size b.compatible + text_size b.container + 28
length_of (cancel_request_body b) = 16
length_of (register_request_callback_body b) = cond (eqb b.count 0) 16 20
length_of (io_control_body b) = 20 + b.input.size + 8
length_of (transfer_in_request_body b) = 16 + urb_length b.urb.size b.urb.urb + 4
length_of (transfer_out_request_body b) = 16 + urb_length b.urb.size b.urb.urb + 4 + b.output.size
length_of (retract_device_body b) = 16
length_of (io_control_completion_body b) = 28 + b.output.size
length_of (urb_completion_body b) = 20 + result_length b.urb + 8 + b.output.size
length_of (urb_completion_no_data_body b) = 20 + result_length b.urb + 8

-- every part of a body lies within n bytes
abbrev pub PartsWithin : ℕ → Body → Type 0
PartsWithin n (capability_request_body b) = Unit {0}
PartsWithin n (capability_response_body b) = Unit {0}
PartsWithin n (channel_created_body b) = Unit {0}
PartsWithin n add_virtual_channel_body = Unit {0}
PartsWithin n (add_device_body b) = Within n b.instance.units × Within n b.hardware.units × Within n b.compatible.units × Within n b.container.units
PartsWithin n (cancel_request_body b) = Unit {0}
PartsWithin n (register_request_callback_body b) = Unit {0}
PartsWithin n (io_control_body b) = Within n b.input
PartsWithin n (transfer_in_request_body b) = UrbWithin n b.urb.urb
PartsWithin n (transfer_out_request_body b) = UrbWithin n b.urb.urb × Within n b.output
PartsWithin n (retract_device_body b) = Unit {0}
PartsWithin n (io_control_completion_body b) = Within n b.output
PartsWithin n (urb_completion_body b) = Within n b.urb.rest × Within n b.output
PartsWithin n (urb_completion_no_data_body b) = Within n b.urb.rest
