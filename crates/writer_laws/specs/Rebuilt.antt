-- What a theorem says of a message of a kind: written again from its fields it is the same bytes, padding excepted, which is 0.
use Rattle.std.specs.Prelude.{ℕ, ◌+◌, ◌*◌, ◌-◌, ◌/◌, ◌≡◌, List, [], ◌∷◌, ◌++◌, Bool, true, false, cond, length, take, eqb, Result, Ok, Err}
use Rattle.words.specs.Words.{word_at}
use Rattle.header.specs.Ids.{message_in}
use Rattle.answers.specs.declared.kind.Kind.{Kind}
use Rattle.answers.specs.declared.kind.Kind.TheVariants as kind
use Rattle.urb.specs.TsUrb.{ts_urb_of}
use Rattle.urb.specs.declared.ts_urb.Urb.{Urb}
use Rattle.urb.specs.declared.ts_urb.Urb.TheVariants as urb
use Rattle.wire.specs.declared.message.Asked.TheVariants.{Step, Device, Callback, IoControl, TransferIn, TransferOut, Cancel, Retract, IoCompletion, UrbCompletion, UrbCompletionNoData}
use Rattle.writer.specs.Message.{given_in, pieces_of}
use Rattle.fields.specs.Message.{fields_in}
use Rattle.writer_laws.specs.Layout.{Field, none, empty, word, half, byte, run, interfaces, cuts_from, spans_of}
use Rattle.words.specs.declared.layout.Fault.{Fault}
use Rattle.urb.specs.declared.ts_urb.TsUrb.{TsUrb}
use Rattle.wire.specs.declared.message.Asked.{Asked}
use Rattle.wire.specs.declared.message.Unfit.{Unfit}
use Rattle.wire.specs.declared.message.Unfit.TheVariants as unfit

-- the layout of a message of a kind: its header, and its body as the files of the wire crate have it
abbrev pub headed : List Field → List Field
headed fs = word ∷ word ∷ word ∷ fs

-- 000 2.2.9.2 to 2.2.9.8: what stands behind the header of a TsUrb
abbrev pub structure_layout : Urb → List Field
structure_layout (urb.SelectConfiguration b) = byte ∷ word ∷ interfaces (b.interfaces.size / 12) ∷ run b.descriptor.part.size ∷ none ∷ none ∷ []
structure_layout (urb.SelectInterface b) = word ∷ interfaces (b.interface.size / 12) ∷ none ∷ none ∷ none ∷ none ∷ []
structure_layout urb.GetCurrentFrameNumber = none ∷ none ∷ none ∷ none ∷ none ∷ none ∷ []
structure_layout (urb.PipeRequest b) = word ∷ none ∷ none ∷ none ∷ none ∷ none ∷ []
structure_layout (urb.BulkOrInterruptTransfer b) = word ∷ word ∷ none ∷ none ∷ none ∷ none ∷ []
structure_layout (urb.ControlTransfer b) = word ∷ word ∷ run 8 ∷ none ∷ none ∷ none ∷ []
structure_layout (urb.IsochTransfer b) = word ∷ word ∷ word ∷ word ∷ word ∷ run b.list.size ∷ []
structure_layout urb.Unknown = none ∷ none ∷ none ∷ none ∷ none ∷ none ∷ []

abbrev pub urb_layout : Result (TsUrb × ℕ) Fault → List Field
urb_layout (Ok (t, last)) = structure_layout t.urb
urb_layout (Err fault) = none ∷ none ∷ none ∷ none ∷ none ∷ none ∷ []

-- CbTsUrb, Size and function, RequestId and NoAck, the structure, OutputBufferSize
abbrev pub transfer_layout : List ℕ → List Field → List Field
transfer_layout m rest = headed (word ∷ word ∷ word ∷ (urb_layout (ts_urb_of (take (16 + word_at m 12) m)) ++ (word ∷ rest)))

-- RequestId, CbTsUrbResult, Size with its padding, UsbdStatus, the rest of the result, HResult, OutputBufferSize
abbrev pub completion_layout : List ℕ → List Field → List Field
completion_layout m rest = headed (word ∷ word ∷ half ∷ word ∷ run (word_at m 16 - 8) ∷ word ∷ word ∷ rest)

-- a counted text at a place
abbrev pub units_at : List ℕ → ℕ → ℕ
units_at m at = 2 * word_at m at

abbrev pub device_layout : ℕ → ℕ → ℕ → ℕ → List Field
device_layout a b c d = headed (word ∷ word ∷ word ∷ run a ∷ word ∷ run b ∷ word ∷ run c ∷ word ∷ run d ∷ word ∷ word ∷ word ∷ word ∷ word ∷ word ∷ word ∷ [])

abbrev pub second_text : List ℕ → ℕ
second_text m = 24 + units_at m 20

abbrev pub third_text : List ℕ → ℕ
third_text m = second_text m + 4 + units_at m (second_text m)

abbrev pub fourth_text : List ℕ → ℕ
fourth_text m = third_text m + 4 + units_at m (third_text m)

abbrev pub layout_of : Kind → List ℕ → List Field
layout_of kind.CapabilityRequest m = headed (word ∷ [])
layout_of kind.CapabilityResponse m = headed (word ∷ [])
layout_of kind.ChannelCreatedByServer m = headed (word ∷ word ∷ word ∷ [])
layout_of kind.ChannelCreatedByClient m = headed (word ∷ word ∷ word ∷ [])
layout_of kind.AddVirtualChannel m = headed []
layout_of kind.AddDevice m = device_layout (units_at m 20) (units_at m (second_text m)) (units_at m (third_text m)) (units_at m (fourth_text m))
layout_of kind.CancelRequest m = headed (word ∷ [])
layout_of kind.RegisterRequestCallback m = headed (word ∷ cond (eqb (word_at m 12) 0) [] (word ∷ []))
layout_of kind.IoControl m = headed (word ∷ word ∷ run (word_at m 16) ∷ word ∷ word ∷ [])
layout_of kind.InternalIoControl m = headed (word ∷ word ∷ run (word_at m 16) ∷ word ∷ word ∷ [])
layout_of kind.TransferInRequest m = transfer_layout m (empty ∷ [])
layout_of kind.TransferOutRequest m = transfer_layout m (run (word_at m (16 + word_at m 12)) ∷ [])
layout_of kind.RetractDevice m = headed (word ∷ [])
layout_of kind.IoControlCompletion m = headed (word ∷ word ∷ word ∷ word ∷ run (word_at m 24) ∷ [])
layout_of kind.UrbCompletion m = completion_layout m (run (word_at m (20 + word_at m 16 + 4)) ∷ [])
layout_of kind.UrbCompletionNoData m = completion_layout m (empty ∷ [])

-- the message asks something: it is refused neither with 7 nor with 8 for what stands in it
abbrev pub asks_some : Result Asked Unfit → Bool
asks_some (Err (unfit.Sizes fault)) = false
asks_some (Err unfit.Value) = false
asks_some (Ok Step) = true
asks_some (Ok (Device id ms)) = true
asks_some (Ok (Callback known)) = true
asks_some (Ok (IoControl r)) = true
asks_some (Ok (TransferIn r)) = true
asks_some (Ok (TransferOut r)) = true
asks_some (Ok (Cancel id)) = true
asks_some (Ok Retract) = true
asks_some (Ok (IoCompletion c)) = true
asks_some (Ok (UrbCompletion c)) = true
asks_some (Ok (UrbCompletionNoData c)) = true

-- its fields are within their values, and its pieces are those that its layout cuts out of it, to its very end
pub record Rebuilt (k : Kind) (m : List ℕ) : Type 0 where
  pub given : given_in m (fields_in k m) ≡ true
  pub pieces : pieces_of (message_in (word_at m 4)) (fields_in k m) ≡ cuts_from m 0 (layout_of k m)
  pub spans : spans_of (layout_of k m) ≡ length m
