-- The fields of a message of a kind, as the writer takes them. i is the interface of its header.
use Rattle.std.specs.Prelude.{ℕ, ◌+◌, List, cond, eqb, Some, None}
use Rattle.words.specs.Words.{word_at}
use Rattle.header.specs.Ids.{interface_in, request_in}
use Rattle.answers.specs.declared.kind.Kind.{Kind}
use Rattle.answers.specs.declared.kind.Kind.TheVariants as kind
use Rattle.wire.specs.declared.channel_created.ChannelCreated.{ChannelCreated}
use Rattle.wire.specs.declared.io_control.IoControl.{IoControl}
use Rattle.writer.specs.declared.io_control_completion.IoControlCompletionFields.{IoControlCompletionFields}
use Rattle.writer.specs.declared.register_request_callback.RegisterRequestCallbackFields.{RegisterRequestCallbackFields}
use Rattle.writer.specs.declared.message.Fields.{Fields}
use Rattle.writer.specs.declared.message.Fields.TheVariants as fields
use Rattle.fields.specs.AddDevice.{add_device_in}
use Rattle.fields.specs.Transfer.{transfer_in, transfer_out}
use Rattle.fields.specs.UrbCompletion.{no_data_in, urb_completion_in}

abbrev pub channel_created_in : List ℕ → ChannelCreated
channel_created_in m = record { major = word_at m 12; minor = word_at m 16; capabilities = word_at m 20 }

-- a RequestCompletion exactly when the count is not 0
abbrev pub callback_in : List ℕ → RegisterRequestCallbackFields
callback_in m =
    cond (eqb (word_at m 12) 0)
    (record { count = word_at m 12; completion = None })
    (record { count = word_at m 12; completion = Some (word_at m 16) })

abbrev pub io_control_in : List ℕ → IoControl
io_control_in m = record { code = word_at m 12; input = record { start = 20; size = word_at m 16 }; size = word_at m (20 + word_at m 16); request = request_in (word_at m (20 + word_at m 16 + 4)) }

abbrev pub io_completion_in : List ℕ → IoControlCompletionFields
io_completion_in m = record { request = request_in (word_at m 12); result = word_at m 16; information = word_at m 20; output = record { start = 28; size = word_at m 24 } }

abbrev pub fields_with : ℕ → Kind → List ℕ → Fields
fields_with i kind.CapabilityRequest m = fields.CapabilityRequest (record { capability = word_at m 12 })
fields_with i kind.CapabilityResponse m = fields.CapabilityResponse (record { capability = word_at m 8; result = word_at m 12 })
fields_with i kind.ChannelCreatedByServer m = fields.ChannelCreatedByServer (channel_created_in m)
fields_with i kind.ChannelCreatedByClient m = fields.ChannelCreatedByClient (channel_created_in m)
fields_with i kind.AddVirtualChannel m = fields.AddVirtualChannel
fields_with i kind.AddDevice m = fields.AddDevice (add_device_in m)
fields_with i kind.CancelRequest m = fields.CancelRequest i (record { request = request_in (word_at m 12) })
fields_with i kind.RegisterRequestCallback m = fields.RegisterRequestCallback i (callback_in m)
fields_with i kind.IoControl m = fields.IoControl i (io_control_in m)
fields_with i kind.InternalIoControl m = fields.InternalIoControl i (io_control_in m)
fields_with i kind.TransferInRequest m = fields.TransferInRequest i (transfer_in m)
fields_with i kind.TransferOutRequest m = fields.TransferOutRequest i (transfer_out m)
fields_with i kind.RetractDevice m = fields.RetractDevice i (record { reason = word_at m 12 })
fields_with i kind.IoControlCompletion m = fields.IoControlCompletion i (io_completion_in m)
fields_with i kind.UrbCompletion m = fields.UrbCompletion i (urb_completion_in m)
fields_with i kind.UrbCompletionNoData m = fields.UrbCompletionNoData i (no_data_in m)

unfoldable pub fields_in : Kind → List ℕ → Fields
fields_in k m = fields_with (interface_in (word_at m 0)).0 k m
