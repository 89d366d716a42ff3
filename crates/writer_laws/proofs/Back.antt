-- What is written of a message of a kind is read back as the same fields: the kinds but ADD_DEVICE and the transfers.
use Rattle.std.proofs.lemmas.Bool.{and_parts}
use Rattle.std.specs.Prelude.{Some, None, Result, Ok, Err}
use Prim.Native.Nat.{ℕ, ◌+◌, ◌-◌, ◌*◌, ◌%◌, ◌<◌, ◌≤◌}
use native.Mathlib.Omega.{arith}
use mathlib.Core.Path.{◌≡◌, refl, ap, sym, subst, ◌∙◌}
use mathlib.Core.List.{List, [], ◌∷◌}
use mathlib.Core.Bool.{Bool, true, false, cond, not, ◌&&◌}
use lib.ListN.{length}
use lib.Dec.{ltb, leb, eqb}
use borrow.Author.Tests.{eq-eqb, le-ltb, ltb-true}
use Rattle.words.specs.Hresult.{succeeded}
use Rattle.words.specs.Words.{half_at, word_at}
use Rattle.words.specs.Layout.{agrees, at_least, ended, field, filled, left}
use Rattle.words.specs.declared.layout.Part.{Part}
use Rattle.words.specs.declared.layout.Fault.{Fault}
use Rattle.header.specs.Ids.{assignable, interface_in, mask_in, message_in}
use Rattle.header.specs.declared.ids.MessageId.{MessageId}
use Rattle.wire.specs.CapabilityRequest.{capability_request_of, capability_request_allowed}
use Rattle.wire.specs.CapabilityResponse.{capability_response_of, capability_response_allowed}
use Rattle.wire.specs.ChannelCreated.{channel_created_of, channel_created_allowed}
use Rattle.wire.specs.AddVirtualChannel.{add_virtual_channel_of}
use Rattle.wire.specs.CancelRequest.{cancel_request_of}
use Rattle.wire.specs.RegisterRequestCallback.{register_request_callback_of}
use Rattle.wire.specs.IoControl.{io_control_of, io_control_with}
use Rattle.wire.specs.RetractDevice.{retract_device_of, retract_device_allowed}
use Rattle.wire.specs.IoControlCompletion.{io_control_completion_with, io_control_completion_of}
use Rattle.wire.specs.TsUrbResult.{completed_of, completion_with, completion_of}
use Rattle.wire.specs.UrbCompletion.{with_output_of, with_output_from, urb_completion_of}
use Rattle.wire.specs.UrbCompletionNoData.{no_data_from, urb_completion_no_data_of}
use Rattle.wire.specs.Message.{asks_by}
use Rattle.wire.specs.Reading.{capability_request_reading, capability_response_reading, channel_created_reading, add_virtual_channel_reading, cancel_request_reading, register_request_callback_reading, io_control_reading, retract_device_reading, io_control_completion_reading, urb_completion_reading, urb_completion_no_data_reading}
use Rattle.wire.specs.Message.{asked_of}
use Rattle.wire.specs.Reading.{reading_of}
use Rattle.wire.specs.declared.capability_request.CapabilityRequest.{CapabilityRequest}
use Rattle.wire.specs.declared.capability_response.CapabilityResponse.{CapabilityResponse}
use Rattle.wire.specs.declared.channel_created.ChannelCreated.{ChannelCreated}
use Rattle.wire.specs.declared.cancel_request.CancelRequest.{CancelRequest}
use Rattle.wire.specs.declared.io_control.IoControl.{IoControl}
use Rattle.wire.specs.declared.retract_device.RetractDevice.{RetractDevice}
use Rattle.pieces.specs.Pieces.{cut, total_from}
use Rattle.writer.specs.SharedMsgHeader.{interface_allowed}
use Rattle.writer.specs.Part.{part_allowed}
use Rattle.writer.specs.Message.{bytes_of, pieces_of}
use Rattle.writer.specs.RegisterRequestCallback.{completion_allowed}
use Rattle.writer.specs.ChannelCreated.{channel_created_pieces}
use Rattle.writer.specs.IoControl.{io_control_pieces}
use Rattle.writer.specs.UrbCompletion.{result_given, urb_completion_given}
use Rattle.writer.proofs.Lies.{lies}
use Rattle.writer.specs.declared.io_control_completion.IoControlCompletionFields.{IoControlCompletionFields}
use Rattle.writer.specs.declared.urb_completion.UrbCompletionFields.{UrbCompletionFields}
use Rattle.writer.specs.declared.urb_completion.UrbCompletionNoDataFields.{UrbCompletionNoDataFields}
use Rattle.writer.specs.declared.message.Fields.{Fields}
use Rattle.writer.specs.declared.message.Fields.TheVariants as fields
use Rattle.fields.specs.Message.{fields_in}
use Rattle.fields.specs.UrbCompletion.{no_data_in, urb_completion_in}
use Rattle.writer_laws.specs.Layout.{Bytes}
use Rattle.writer_laws.specs.Places.{Places}
use Rattle.writer_laws.specs.Rebuilt.{asks_some}
use Rattle.writer_laws.specs.ReadBack.{Wide32, kind_of, numbers_of, parts_of}
use Rattle.writer_laws.proofs.Places.{fits-length, places}
use Rattle.writer_laws.proofs.Rebuilt.{Headed, refused}
use Rattle.wire.specs.declared.message.Asked.{Asked}
use Rattle.wire.specs.declared.message.Unfit.{Unfit}
use Rattle.wire.specs.declared.message.Unfit.TheVariants as unfit

-- a test that holds
module _ {A : Type 0} where
  pub field_there : (m : List ℕ) (at n : ℕ) (next : Result A Fault) → at + n ≤ length m → field m at n next ≡ next
  field_there m at n next h = rw (le-ltb (left m at) n (omega arith))

  pub ended_there : (m : List ℕ) (at : ℕ) (next : Result A Fault) → length m ≤ at → ended m at next ≡ next
  ended_there m at next h = rw (le-ltb 0 (left m at) (omega arith))

  pub at_least_there : (n size at : ℕ) (next : Result A Fault) → n ≤ size → at_least n size at next ≡ next
  at_least_there n size at next h = rw (le-ltb size n h)

  pub filled_there : (at end : ℕ) (next : Result A Fault) → end ≤ at → filled at end next ≡ next
  filled_there at end next h = rw (le-ltb at end h)

  pub agrees_there : (t : Bool) (at : ℕ) (next : Result A Fault) → t ≡ true → agrees t at next ≡ next
  agrees_there t at next h = rw h

pub same : {A : Type 0} {x y : A} {xs ys : List A} → x ≡ y → xs ≡ ys → x ∷ xs ≡ y ∷ ys
same e f = rw (e, f)

pub some : (t : Bool) (a : Result Asked Unfit) → t ≡ true → asks_some a ≡ true → asks_some (cond t a (Err unfit.Value)) ≡ true
some true a e f = f
some false a e f = e

pub message_back : (w : ℕ) (id : MessageId) → w ≡ id.0 → message_in w ≡ id
message_back w id e = rw e

pub interface_back : (w i : ℕ) → w ≡ i + 0x4000_0000 * 1 → i < 0x4000_0000 → w % 0x4000_0000 ≡ i
interface_back w i e h = omega arith

pub below_30 : (i : ℕ) → interface_allowed i ≡ true → i < 0x4000_0000
below_30 i e = ltb-true i 0x4000_0000 (and_parts (leb 4 i) (ltb i 0x4000_0000) e).1

pub first_below : (i : ℕ) → i < 0x4000_0000 → i + 0x4000_0000 * 1 < 4294967296
first_below i h = omega arith

-- what is read back by the places of the fields
pub record FieldsBack (id : MessageId) (f : Fields) (s : List ℕ) (w : List ℕ) : Type 0 where
  pub asks : asks_some (asked_of (kind_of f) w) ≡ true
  pub message : message_in (word_at w 4) ≡ id
  pub numbers : numbers_of (fields_in (kind_of f) w) ≡ numbers_of f
  pub parts : parts_of w (fields_in (kind_of f) w) ≡ parts_of s f

-- what a message's fields, its header and its length are
pub record Back (id : MessageId) (f : Fields) (s : List ℕ) (i mask function : ℕ) : Type 0 where
  pub back : FieldsBack id f s (bytes_of id f s)
  pub head : Headed i mask function (bytes_of id f s)
  pub long : 12 ≤ length (bytes_of id f s)

pub capability_request_back : (id : MessageId) (b : CapabilityRequest) (s : List ℕ) → Bytes s → (n : ℕ) → total_from (length s) 0 (pieces_of id (fields.CapabilityRequest b)) ≡ Some n → capability_request_allowed b ≡ true → Wide32 id (fields.CapabilityRequest b) → Back id (fields.CapabilityRequest b) s 0 0 0x100
unfolding asked_of reading_of pieces_of fields_in numbers_of parts_of capability_request_of
capability_request_back id b s bytes n t given wide =
    let w = bytes_of id (fields.CapabilityRequest b) s in
    let p = places s (pieces_of id (fields.CapabilityRequest b)) n bytes t in
    let h = (p.0 (omega arith)).0 in
    let m = (p.1.0 wide.0).0 in
    let f = (p.1.1.0 (omega arith)).0 in
    let e3 = (p.1.1.1.0 (wide.1 0)).0 in
    let l = p.1.1.1.1 in
    record {
      back = record {
        asks = ap (λ r. asks_some (asks_by (capability_request_reading r))) (field_there w 12 4 _ (omega (arith, l)) ∙ (ended_there w 16 _ (omega (arith, l)))) ∙ some (eqb (word_at w 12) 1) _ (rw e3 given) refl;
        message = message_back _ id m;
        numbers = same e3 refl;
        parts = refl;
      };
      head = record { first = h; third = f };
      long = omega (arith, l);
    }

pub capability_response_back : (id : MessageId) (b : CapabilityResponse) (s : List ℕ) → Bytes s → (n : ℕ) → total_from (length s) 0 (pieces_of id (fields.CapabilityResponse b)) ≡ Some n → capability_response_allowed b ≡ true → Wide32 id (fields.CapabilityResponse b) → Back id (fields.CapabilityResponse b) s 0 0 b.capability
unfolding asked_of reading_of pieces_of fields_in numbers_of parts_of capability_response_of
capability_response_back id b s bytes n t given wide =
    let w = bytes_of id (fields.CapabilityResponse b) s in
    let p = places s (pieces_of id (fields.CapabilityResponse b)) n bytes t in
    let h = (p.0 (omega arith)).0 in
    let m = (p.1.0 wide.0).0 in
    let f = (p.1.1.0 (wide.1 0)).0 in
    let e3 = (p.1.1.1.0 (wide.1 1)).0 in
    let l = p.1.1.1.1 in
    record {
      back = record {
        asks = ap (λ r. asks_some (asks_by (capability_response_reading r))) (field_there w 8 4 _ (omega (arith, l)) ∙ (field_there w 12 4 _ (omega (arith, l)) ∙ (ended_there w 16 _ (omega (arith, l))))) ∙ some (eqb (word_at w 8) 1 && succeeded (word_at w 12)) _ (rw (f, e3) given) refl;
        message = message_back _ id m;
        numbers = same f (same e3 refl);
        parts = refl;
      };
      head = record { first = h; third = f };
      long = omega (arith, l);
    }

-- kinds 3 and 4 differ in their interface
created_at : (w s : List ℕ) (id : MessageId) (i : ℕ) (b : ChannelCreated) → i + 0x4000_0000 * 1 < 4294967296 → Places w s 0 (channel_created_pieces id i b) → channel_created_allowed b ≡ true → id.0 < 4294967296 → b.major < 4294967296 → b.minor < 4294967296 → b.capabilities < 4294967296
    → (asks_some (asks_by (channel_created_reading (channel_created_of w))) ≡ true) × (message_in (word_at w 4) ≡ id) × (word_at w 12 ∷ word_at w 16 ∷ word_at w 20 ∷ [] ≡ b.major ∷ b.minor ∷ b.capabilities ∷ []) × Headed i 1 0x100 w × (12 ≤ length w)
unfolding channel_created_of
created_at w s id i b small p given w0 w1 w2 w3 =
    let e3 = (p.1.1.1.0 w1).0 in
    let e4 = (p.1.1.1.1.0 w2).0 in
    let e5 = (p.1.1.1.1.1.0 w3).0 in
    let l = p.1.1.1.1.1.1 in (
      ap (λ r. asks_some (asks_by (channel_created_reading r))) (field_there w 12 4 _ (omega (arith, l)) ∙ (field_there w 16 4 _ (omega (arith, l)) ∙ (field_there w 20 4 _ (omega (arith, l)) ∙ ended_there w 24 _ (omega (arith, l))))) ∙ some (eqb (word_at w 12) 1 && (eqb (word_at w 16) 0 && eqb (word_at w 20) 0)) _ (rw (e3, e4, e5) given) refl,
      message_back _ id (p.1.0 w0).0,
      same e3 (same e4 (same e5 refl)),
      record { first = (p.0 small).0; third = (p.1.1.0 (omega arith)).0 },
      omega (arith, l),
    )

pub server_created_back : (id : MessageId) (b : ChannelCreated) (s : List ℕ) → Bytes s → (n : ℕ) → total_from (length s) 0 (pieces_of id (fields.ChannelCreatedByServer b)) ≡ Some n → channel_created_allowed b ≡ true → Wide32 id (fields.ChannelCreatedByServer b) → Back id (fields.ChannelCreatedByServer b) s 3 1 0x100
unfolding asked_of reading_of pieces_of fields_in numbers_of parts_of
server_created_back id b s bytes n t given wide =
    let q = created_at (bytes_of id (fields.ChannelCreatedByServer b) s) s id 3 b (omega arith) (places s (pieces_of id (fields.ChannelCreatedByServer b)) n bytes t) given wide.0 (wide.1 0) (wide.1 1) (wide.1 2) in
    record { back = record { asks = q.0; message = q.1; numbers = q.2; parts = refl }; head = q.3; long = q.4 }

pub client_created_back : (id : MessageId) (b : ChannelCreated) (s : List ℕ) → Bytes s → (n : ℕ) → total_from (length s) 0 (pieces_of id (fields.ChannelCreatedByClient b)) ≡ Some n → channel_created_allowed b ≡ true → Wide32 id (fields.ChannelCreatedByClient b) → Back id (fields.ChannelCreatedByClient b) s 2 1 0x100
unfolding asked_of reading_of pieces_of fields_in numbers_of parts_of
client_created_back id b s bytes n t given wide =
    let q = created_at (bytes_of id (fields.ChannelCreatedByClient b) s) s id 2 b (omega arith) (places s (pieces_of id (fields.ChannelCreatedByClient b)) n bytes t) given wide.0 (wide.1 0) (wide.1 1) (wide.1 2) in
    record { back = record { asks = q.0; message = q.1; numbers = q.2; parts = refl }; head = q.3; long = q.4 }

pub virtual_channel_back : (id : MessageId) (s : List ℕ) → Bytes s → (n : ℕ) → total_from (length s) 0 (pieces_of id (fields.AddVirtualChannel)) ≡ Some n → Wide32 id (fields.AddVirtualChannel) → Back id (fields.AddVirtualChannel) s 1 1 0x100
unfolding asked_of reading_of pieces_of fields_in numbers_of parts_of add_virtual_channel_of
virtual_channel_back id s bytes n t wide =
    let w = bytes_of id (fields.AddVirtualChannel) s in
    let p = places s (pieces_of id (fields.AddVirtualChannel)) n bytes t in
    let h = (p.0 (omega arith)).0 in
    let m = (p.1.0 wide.0).0 in
    let f = (p.1.1.0 (omega arith)).0 in
    let l = p.1.1.1 in
    record {
      back = record {
        asks = ap (λ r. asks_some (asks_by (add_virtual_channel_reading r))) (ended_there w 12 _ (omega (arith, l)));
        message = message_back _ id m;
        numbers = refl;
        parts = refl;
      };
      head = record { first = h; third = f };
      long = omega (arith, l);
    }

pub cancel_back : (id : MessageId) (i : ℕ) (b : CancelRequest) (s : List ℕ) → Bytes s → (n : ℕ) → total_from (length s) 0 (pieces_of id (fields.CancelRequest i b)) ≡ Some n → interface_allowed i ≡ true → Wide32 id (fields.CancelRequest i b) → Back id (fields.CancelRequest i b) s i 1 0x100
unfolding asked_of reading_of pieces_of fields_in numbers_of parts_of cancel_request_of
cancel_back id i b s bytes n t given wide =
    let w = bytes_of id (fields.CancelRequest i b) s in
    let p = places s (pieces_of id (fields.CancelRequest i b)) n bytes t in
    let b30 = below_30 i given in
    let h = (p.0 (first_below i b30)).0 in
    let m = (p.1.0 wide.0).0 in
    let f = (p.1.1.0 (omega arith)).0 in
    let e3 = (p.1.1.1.0 (wide.1 1)).0 in
    let l = p.1.1.1.1 in
    let k = interface_back (word_at w 0) i h b30 in
    record {
      back = record {
        asks = ap (λ r. asks_some (asks_by (cancel_request_reading r))) (field_there w 12 4 _ (omega (arith, l)) ∙ (ended_there w 16 _ (omega (arith, l))));
        message = message_back _ id m;
        numbers = same k (same e3 refl);
        parts = refl;
      };
      head = record { first = h; third = f };
      long = omega (arith, l);
    }

pub retract_back : (id : MessageId) (i : ℕ) (b : RetractDevice) (s : List ℕ) → Bytes s → (n : ℕ) → total_from (length s) 0 (pieces_of id (fields.RetractDevice i b)) ≡ Some n → (interface_allowed i && retract_device_allowed b) ≡ true → Wide32 id (fields.RetractDevice i b) → Back id (fields.RetractDevice i b) s i 1 0x107
unfolding asked_of reading_of pieces_of fields_in numbers_of parts_of retract_device_of
retract_back id i b s bytes n t given wide =
    let w = bytes_of id (fields.RetractDevice i b) s in
    let p = places s (pieces_of id (fields.RetractDevice i b)) n bytes t in
    let b30 = below_30 i (and_parts (interface_allowed i) (retract_device_allowed b) given).0 in
    let h = (p.0 (first_below i b30)).0 in
    let m = (p.1.0 wide.0).0 in
    let f = (p.1.1.0 (omega arith)).0 in
    let e3 = (p.1.1.1.0 (wide.1 1)).0 in
    let l = p.1.1.1.1 in
    let k = interface_back (word_at w 0) i h b30 in
    record {
      back = record {
        asks = ap (λ r. asks_some (asks_by (retract_device_reading r))) (field_there w 12 4 _ (omega (arith, l)) ∙ (ended_there w 16 _ (omega (arith, l)))) ∙ some (eqb (word_at w 12) 1) _ (rw e3 (and_parts (interface_allowed i) (retract_device_allowed b) given).1) refl;
        message = message_back _ id m;
        numbers = same k (same e3 refl);
        parts = refl;
      };
      head = record { first = h; third = f };
      long = omega (arith, l);
    }

pub long_of : (l k : ℕ) → l ≡ k → 12 ≤ k → 12 ≤ l
long_of l k e h = subst (λ x. 12 ≤ x) (sym e) h

pub reach : (l k at : ℕ) → l ≡ k → at ≤ k → at ≤ l
reach l k at e h = subst (λ x. at ≤ x) (sym e) h

pub within : (l k at : ℕ) → l ≡ k → k ≤ at → l ≤ at
within l k at e h = subst (λ x. x ≤ at) (sym e) h

unzero : (a b : Bool) → cond a false b ≡ true → (a ≡ false) × (b ≡ true)
unzero true b e = (sym e, refused e)
unzero false b e = (refl, e)

pub half_same : (x : ℕ) → x < 65536 → x % 65536 ≡ x
half_same x h = omega arith

pub lower : (x k l : ℕ) → l ≡ k → l ≤ 65535 → x ≤ k → x < 65536
lower x k l e h g = omega arith

eight_small : (s : List ℕ) (p : Part) → part_allowed s p ≡ true → 8 + p.size < 4294967296
eight_small s p e = let q = (lies s p e).1 in omega arith

pub part_small : (s : List ℕ) (p : Part) → part_allowed s p ≡ true → p.size < 4294967296
part_small s p e = let q = (lies s p e).1 in omega arith

pub no_callback_back : (id : MessageId) (i : ℕ) (count : ℕ) (s : List ℕ) → Bytes s → (n : ℕ) → total_from (length s) 0 (pieces_of id (fields.RegisterRequestCallback i (record { count = count; completion = None }))) ≡ Some n → (interface_allowed i && eqb count 0) ≡ true → Wide32 id (fields.RegisterRequestCallback i (record { count = count; completion = None })) → Back id (fields.RegisterRequestCallback i (record { count = count; completion = None })) s i 1 0x101
unfolding asked_of reading_of pieces_of fields_in numbers_of parts_of register_request_callback_of
no_callback_back id i count s bytes n t given wide =
    let w = bytes_of id (fields.RegisterRequestCallback i (record { count = count; completion = None })) s in
    let p = places s (pieces_of id (fields.RegisterRequestCallback i (record { count = count; completion = None }))) n bytes t in
    let b30 = below_30 i (and_parts (interface_allowed i) (eqb count 0) given).0 in
    let h = (p.0 (first_below i b30)).0 in
    let m = (p.1.0 wide.0).0 in
    let f = (p.1.1.0 (omega arith)).0 in
    let e3 = (p.1.1.1.0 (wide.1 1)).0 in
    let l = p.1.1.1.1 in
    let k = interface_back (word_at w 0) i h b30 in
    let z : eqb (word_at w 12) 0 ≡ true = rw e3 (and_parts (interface_allowed i) (eqb count 0) given).1 in
    let c : register_request_callback_of w ≡ Ok (record { count = word_at w 12; callback = None; top = 0 }) = field_there w 12 4 _ (reach (length w) 16 16 l (omega arith)) ∙ (rw z (ended_there w 16 _ (within (length w) 16 16 l (omega arith)))) in
    record {
      back = record {
        asks = ap (λ r. asks_some (asks_by (register_request_callback_reading r))) c;
        message = message_back _ id m;
        numbers = same k (rw z (same e3 refl));
        parts = refl;
      };
      head = record { first = h; third = f };
      long = long_of (length w) _ l (omega arith);
    }

pub callback_back : (id : MessageId) (i : ℕ) (count word : ℕ) (s : List ℕ) → Bytes s → (n : ℕ) → total_from (length s) 0 (pieces_of id (fields.RegisterRequestCallback i (record { count = count; completion = Some word }))) ≡ Some n → (interface_allowed i && completion_allowed count (Some word)) ≡ true → Wide32 id (fields.RegisterRequestCallback i (record { count = count; completion = Some word })) → Back id (fields.RegisterRequestCallback i (record { count = count; completion = Some word })) s i 1 0x101
unfolding asked_of reading_of pieces_of fields_in numbers_of parts_of register_request_callback_of
callback_back id i count word s bytes n t given wide =
    let w = bytes_of id (fields.RegisterRequestCallback i (record { count = count; completion = Some word })) s in
    let p = places s (pieces_of id (fields.RegisterRequestCallback i (record { count = count; completion = Some word }))) n bytes t in
    let b30 = below_30 i (and_parts (interface_allowed i) (completion_allowed count (Some word)) given).0 in
    let h = (p.0 (first_below i b30)).0 in
    let m = (p.1.0 wide.0).0 in
    let f = (p.1.1.0 (omega arith)).0 in
    let e3 = (p.1.1.1.0 (wide.1 1)).0 in
    let e4 = (p.1.1.1.1.0 (wide.1 2)).0 in
    let l = p.1.1.1.1.1 in
    let k = interface_back (word_at w 0) i h b30 in
    let y = unzero (eqb count 0) (assignable (interface_in word)) (and_parts (interface_allowed i) (completion_allowed count (Some word)) given).1 in
    let z : eqb (word_at w 12) 0 ≡ false = rw e3 y.0 in
    let c : register_request_callback_of w ≡ Ok (record { count = word_at w 12; callback = Some (interface_in (word_at w 16)); top = mask_in (word_at w 16) }) = field_there w 12 4 _ (reach (length w) 20 16 l (omega arith)) ∙ (rw z (field_there w 16 4 _ (reach (length w) 20 20 l (omega arith)) ∙ ended_there w 20 _ (within (length w) 20 20 l (omega arith)))) in
    record {
      back = record {
        asks = ap (λ r. asks_some (asks_by (register_request_callback_reading r))) c ∙ some (assignable (interface_in (word_at w 16))) _ (rw e4 y.1) refl;
        message = message_back _ id m;
        numbers = same k (rw z (same e3 (same e4 refl)));
        parts = refl;
      };
      head = record { first = h; third = f };
      long = long_of (length w) _ l (omega arith);
    }

-- kinds 8 and 9 differ in their function
io_at : (w s : List ℕ) (id : MessageId) (i function : ℕ) (b : IoControl) → function < 4294967296 → Places w s 0 (io_control_pieces id i function b) → interface_allowed i ≡ true → part_allowed s b.input ≡ true → id.0 < 4294967296 → b.code < 4294967296 → b.size < 4294967296 → b.request.0 < 4294967296
    → (asks_some (asks_by (io_control_reading (io_control_of w))) ≡ true) × (message_in (word_at w 4) ≡ id)
    × ((interface_in (word_at w 0)).0 ∷ word_at w 12 ∷ word_at w (20 + word_at w 16) ∷ word_at w (20 + word_at w 16 + 4) ∷ [] ≡ i ∷ b.code ∷ b.size ∷ b.request.0 ∷ []) × (cut w (record { start = 20; size = word_at w 16 }) ≡ cut s b.input) × Headed i 1 function w × (12 ≤ length w)
unfolding io_control_of io_control_with
io_at w s id i function b small p gi gp w0 w1 w2 w3 =
    let b30 = below_30 i gi in
    let h = (p.0 (first_below i b30)).0 in
    let e3 = (p.1.1.1.0 w1).0 in
    let e4 = (p.1.1.1.1.0 (part_small s b.input gp)).0 in
    let r5 = p.1.1.1.1.1.0 in
    let e6 = (p.1.1.1.1.1.1.0 w2).0 in
    let e7 = (p.1.1.1.1.1.1.1.0 w3).0 in
    let l = p.1.1.1.1.1.1.1.1 in (
      ap (λ r. asks_some (asks_by (io_control_reading r))) (field_there w 12 4 _ (reach (length w) (20 + b.input.size + 4 + 4) 16 l (omega arith)) ∙ (field_there w 16 4 _ (reach (length w) (20 + b.input.size + 4 + 4) 20 l (omega arith)) ∙ (field_there w 20 (word_at w 16) _ (rw e4 (reach (length w) (20 + b.input.size + 4 + 4) (20 + b.input.size) l (omega arith))) ∙ (field_there w (20 + word_at w 16) 4 _ (rw e4 (reach (length w) (20 + b.input.size + 4 + 4) (20 + b.input.size + 4) l (omega arith))) ∙ (field_there w (20 + word_at w 16 + 4) 4 _ (rw e4 (reach (length w) (20 + b.input.size + 4 + 4) (20 + b.input.size + 4 + 4) l (omega arith))) ∙ (ended_there w (20 + word_at w 16 + 8) _ (rw e4 (within (length w) (20 + b.input.size + 4 + 4) (20 + b.input.size + 8) l (omega arith))))))))),
      message_back _ id (p.1.0 w0).0,
      same (interface_back (word_at w 0) i h b30) (same e3 (same (ap (λ x. word_at w (20 + x)) e4 ∙ e6) (same (ap (λ x. word_at w (20 + x + 4)) e4 ∙ e7) refl))),
      ap (λ x. cut w (record { start = 20; size = x })) e4 ∙ r5,
      record { first = h; third = (p.1.1.0 small).0 },
      long_of (length w) _ l (omega arith),
    )

pub io_control_back : (id : MessageId) (i : ℕ) (b : IoControl) (s : List ℕ) → Bytes s → (n : ℕ) → total_from (length s) 0 (pieces_of id (fields.IoControl i b)) ≡ Some n → (interface_allowed i && part_allowed s b.input) ≡ true → Wide32 id (fields.IoControl i b) → Back id (fields.IoControl i b) s i 1 0x102
unfolding asked_of reading_of pieces_of fields_in numbers_of parts_of
io_control_back id i b s bytes n t given wide =
    let g = and_parts (interface_allowed i) (part_allowed s b.input) given in
    let q = io_at (bytes_of id (fields.IoControl i b) s) s id i 0x102 b (omega arith) (places s (pieces_of id (fields.IoControl i b)) n bytes t) g.0 g.1 wide.0 (wide.1 1) (wide.1 2) (wide.1 3) in
    record { back = record { asks = q.0; message = q.1; numbers = q.2; parts = same q.3 refl }; head = q.4; long = q.5 }

pub internal_back : (id : MessageId) (i : ℕ) (b : IoControl) (s : List ℕ) → Bytes s → (n : ℕ) → total_from (length s) 0 (pieces_of id (fields.InternalIoControl i b)) ≡ Some n → (interface_allowed i && part_allowed s b.input) ≡ true → Wide32 id (fields.InternalIoControl i b) → Back id (fields.InternalIoControl i b) s i 1 0x103
unfolding asked_of reading_of pieces_of fields_in numbers_of parts_of
internal_back id i b s bytes n t given wide =
    let g = and_parts (interface_allowed i) (part_allowed s b.input) given in
    let q = io_at (bytes_of id (fields.InternalIoControl i b) s) s id i 0x103 b (omega arith) (places s (pieces_of id (fields.InternalIoControl i b)) n bytes t) g.0 g.1 wide.0 (wide.1 1) (wide.1 2) (wide.1 3) in
    record { back = record { asks = q.0; message = q.1; numbers = q.2; parts = same q.3 refl }; head = q.4; long = q.5 }

pub io_completion_back : (id : MessageId) (i : ℕ) (b : IoControlCompletionFields) (s : List ℕ) → Bytes s → (n : ℕ) → total_from (length s) 0 (pieces_of id (fields.IoControlCompletion i b)) ≡ Some n → (interface_allowed i && part_allowed s b.output) ≡ true → Wide32 id (fields.IoControlCompletion i b) → Back id (fields.IoControlCompletion i b) s i 1 0x100
unfolding asked_of reading_of pieces_of fields_in numbers_of parts_of io_control_completion_of io_control_completion_with
io_completion_back id i b s bytes n t given wide =
    let w = bytes_of id (fields.IoControlCompletion i b) s in
    let p = places s (pieces_of id (fields.IoControlCompletion i b)) n bytes t in
    let b30 = below_30 i (and_parts (interface_allowed i) (part_allowed s b.output) given).0 in
    let h = (p.0 (first_below i b30)).0 in
    let m = (p.1.0 wide.0).0 in
    let f = (p.1.1.0 (omega arith)).0 in
    let e3 = (p.1.1.1.0 (wide.1 1)).0 in
    let e4 = (p.1.1.1.1.0 (wide.1 2)).0 in
    let e5 = (p.1.1.1.1.1.0 (wide.1 3)).0 in
    let e6 = (p.1.1.1.1.1.1.0 (part_small s b.output (and_parts (interface_allowed i) (part_allowed s b.output) given).1)).0 in
    let r7 = p.1.1.1.1.1.1.1.0 in
    let l = p.1.1.1.1.1.1.1.1 in
    let k = interface_back (word_at w 0) i h b30 in
    record {
      back = record {
        asks = ap (λ r. asks_some (asks_by (io_control_completion_reading r))) (field_there w 12 4 _ (reach (length w) (28 + b.output.size) 16 l (omega arith)) ∙ (field_there w 16 4 _ (reach (length w) (28 + b.output.size) 20 l (omega arith)) ∙ (field_there w 20 4 _ (reach (length w) (28 + b.output.size) 24 l (omega arith)) ∙ (field_there w 24 4 _ (reach (length w) (28 + b.output.size) 28 l (omega arith)) ∙ (field_there w 28 (word_at w 24) _ (rw e6 (reach (length w) (28 + b.output.size) (28 + b.output.size) l (omega arith))) ∙ (ended_there w (28 + word_at w 24) _ (rw e6 (within (length w) (28 + b.output.size) (28 + b.output.size) l (omega arith)))))))));
        message = message_back _ id m;
        numbers = same k (same e3 (same e4 (same e5 refl)));
        parts = same (ap (λ x. cut w (record { start = 28; size = x })) e6 ∙ r7) refl;
      };
      head = record { first = h; third = f };
      long = long_of (length w) _ l (omega arith);
    }

pub urb_completion_back : (id : MessageId) (i : ℕ) (b : UrbCompletionFields) (s : List ℕ) → Bytes s → (n : ℕ) → total_from (length s) 0 (pieces_of id (fields.UrbCompletion i b)) ≡ Some n → urb_completion_given s i b ≡ true → Wide32 id (fields.UrbCompletion i b) → Back id (fields.UrbCompletion i b) s i 1 0x101
unfolding asked_of reading_of pieces_of fields_in numbers_of parts_of urb_completion_of with_output_of completion_of completion_with completed_of urb_completion_in no_data_in
urb_completion_back id i b s bytes n t given wide =
    let w = bytes_of id (fields.UrbCompletion i b) s in
    let p = places s (pieces_of id (fields.UrbCompletion i b)) n bytes t in
    let b30 = below_30 i (and_parts (interface_allowed i) (part_allowed s b.urb.rest) (and_parts (result_given s i b.urb) (part_allowed s b.output && not (eqb b.output.size 0)) given).0).0 in
    let h = (p.0 (first_below i b30)).0 in
    let m = (p.1.0 wide.0).0 in
    let f = (p.1.1.0 (omega arith)).0 in
    let e3 = (p.1.1.1.0 (wide.1 1)).0 in
    let q = (p.1.1.1.1.0 (eight_small s b.urb.rest (and_parts (interface_allowed i) (part_allowed s b.urb.rest) (and_parts (result_given s i b.urb) (part_allowed s b.output && not (eqb b.output.size 0)) given).0).1)).0 in
    let y20 = (p.1.1.1.1.1.0 (eight_small s b.urb.rest (and_parts (interface_allowed i) (part_allowed s b.urb.rest) (and_parts (result_given s i b.urb) (part_allowed s b.output && not (eqb b.output.size 0)) given).0).1)).1 in
    let e6 = (p.1.1.1.1.1.1.0 (wide.1 2)).0 in
    let r7 = p.1.1.1.1.1.1.1.0 in
    let e8 = (p.1.1.1.1.1.1.1.1.0 (wide.1 3)).0 in
    let e9 = (p.1.1.1.1.1.1.1.1.1.0 (part_small s b.output (and_parts (part_allowed s b.output) (not (eqb b.output.size 0)) (and_parts (result_given s i b.urb) (part_allowed s b.output && not (eqb b.output.size 0)) given).1).0)).0 in
    let r10 = p.1.1.1.1.1.1.1.1.1.1.0 in
    let l = p.1.1.1.1.1.1.1.1.1.1.1 in
    let k = interface_back (word_at w 0) i h b30 in
    let x20 : half_at w 20 ≡ 8 + b.urb.rest.size = y20 ∙ half_same (8 + b.urb.rest.size) (lower (8 + b.urb.rest.size) _ (length w) l (fits-length s _ n t) (omega arith)) in
    let z : 20 + word_at w 16 ≡ 28 + b.urb.rest.size = rw q (omega arith) in
    let o : word_at w 16 - 8 ≡ b.urb.rest.size = rw q (omega arith) in
    let z4 : 20 + word_at w 16 + 4 ≡ 28 + b.urb.rest.size + 4 = ap (λ x. x + 4) z in
    let z8 : 20 + word_at w 16 + 8 ≡ 28 + b.urb.rest.size + 4 + 4 = rw q (omega arith) in
    let s9 : word_at w (20 + word_at w 16 + 4) ≡ b.output.size = ap (λ x. word_at w x) z4 ∙ e9 in
    record {
      back = record {
        asks = ap (λ r. asks_some (asks_by (urb_completion_reading (with_output_from w r)))) (field_there w 12 4 _ (reach (length w) (28 + b.urb.rest.size + 4 + 4 + b.output.size) 16 l (omega arith)) ∙ (field_there w 16 4 _ (reach (length w) (28 + b.urb.rest.size + 4 + 4 + b.output.size) 20 l (omega arith)) ∙ (at_least_there 8 (word_at w 16) 16 _ (rw q (omega arith)) ∙ (field_there w 20 (word_at w 16) _ (rw q (reach (length w) (28 + b.urb.rest.size + 4 + 4 + b.output.size) (20 + (8 + b.urb.rest.size)) l (omega arith))) ∙ (agrees_there (eqb (half_at w 20) (word_at w 16)) 20 _ (eq-eqb (half_at w 20) (word_at w 16) (x20 ∙ sym q)) ∙ (field_there w (20 + word_at w 16) 4 _ (rw q (reach (length w) (28 + b.urb.rest.size + 4 + 4 + b.output.size) (20 + (8 + b.urb.rest.size) + 4) l (omega arith))) ∙ (field_there w (20 + word_at w 16 + 4) 4 _ (rw q (reach (length w) (28 + b.urb.rest.size + 4 + 4 + b.output.size) (20 + (8 + b.urb.rest.size) + 4 + 4) l (omega arith)))))))))) ∙ (ap (λ r. asks_some (asks_by (urb_completion_reading r))) (field_there w (20 + word_at w 16 + 8) (word_at w (20 + word_at w 16 + 4)) _ (rw (z8, s9) (reach (length w) (28 + b.urb.rest.size + 4 + 4 + b.output.size) (28 + b.urb.rest.size + 4 + 4 + b.output.size) l (omega arith))) ∙ (ended_there w (20 + word_at w 16 + 8 + word_at w (20 + word_at w 16 + 4)) _ (rw (z8, s9) (within (length w) (28 + b.urb.rest.size + 4 + 4 + b.output.size) (28 + b.urb.rest.size + 4 + 4 + b.output.size) l (omega arith))))) ∙ some (not (eqb (word_at w (20 + word_at w 16 + 4)) 0)) _ (rw s9 (and_parts (part_allowed s b.output) (not (eqb b.output.size 0)) (and_parts (result_given s i b.urb) (part_allowed s b.output && not (eqb b.output.size 0)) given).1).1) refl);
        message = message_back _ id m;
        numbers = same k (same e3 (same e6 (same (ap (λ x. word_at w x) z ∙ e8) refl)));
        parts = same (ap (λ x. cut w (record { start = 28; size = x })) o ∙ r7) (same (ap (λ x. cut w (record { start = x; size = word_at w (20 + word_at w 16 + 4) })) z8 ∙ (ap (λ x. cut w (record { start = 28 + b.urb.rest.size + 4 + 4; size = x })) s9 ∙ r10)) refl);
      };
      head = record { first = h; third = f };
      long = long_of (length w) _ l (omega arith);
    }

pub no_data_back : (id : MessageId) (i : ℕ) (b : UrbCompletionNoDataFields) (s : List ℕ) → Bytes s → (n : ℕ) → total_from (length s) 0 (pieces_of id (fields.UrbCompletionNoData i b)) ≡ Some n → result_given s i b.urb ≡ true → Wide32 id (fields.UrbCompletionNoData i b) → Back id (fields.UrbCompletionNoData i b) s i 1 0x102
unfolding asked_of reading_of pieces_of fields_in numbers_of parts_of urb_completion_no_data_of completion_of completion_with completed_of urb_completion_in no_data_in
no_data_back id i b s bytes n t given wide =
    let w = bytes_of id (fields.UrbCompletionNoData i b) s in
    let p = places s (pieces_of id (fields.UrbCompletionNoData i b)) n bytes t in
    let b30 = below_30 i (and_parts (interface_allowed i) (part_allowed s b.urb.rest) given).0 in
    let h = (p.0 (first_below i b30)).0 in
    let m = (p.1.0 wide.0).0 in
    let f = (p.1.1.0 (omega arith)).0 in
    let e3 = (p.1.1.1.0 (wide.1 1)).0 in
    let q = (p.1.1.1.1.0 (eight_small s b.urb.rest (and_parts (interface_allowed i) (part_allowed s b.urb.rest) given).1)).0 in
    let y20 = (p.1.1.1.1.1.0 (eight_small s b.urb.rest (and_parts (interface_allowed i) (part_allowed s b.urb.rest) given).1)).1 in
    let e6 = (p.1.1.1.1.1.1.0 (wide.1 2)).0 in
    let r7 = p.1.1.1.1.1.1.1.0 in
    let e8 = (p.1.1.1.1.1.1.1.1.0 (wide.1 3)).0 in
    let e9 = (p.1.1.1.1.1.1.1.1.1.0 (wide.1 4)).0 in
    let l = p.1.1.1.1.1.1.1.1.1.1.1 in
    let k = interface_back (word_at w 0) i h b30 in
    let x20 : half_at w 20 ≡ 8 + b.urb.rest.size = y20 ∙ half_same (8 + b.urb.rest.size) (lower (8 + b.urb.rest.size) _ (length w) l (fits-length s _ n t) (omega arith)) in
    let z : 20 + word_at w 16 ≡ 28 + b.urb.rest.size = rw q (omega arith) in
    let o : word_at w 16 - 8 ≡ b.urb.rest.size = rw q (omega arith) in
    let z4 : 20 + word_at w 16 + 4 ≡ 28 + b.urb.rest.size + 4 = ap (λ x. x + 4) z in
    record {
      back = record {
        asks = ap (λ r. asks_some (asks_by (urb_completion_no_data_reading (no_data_from w r)))) (field_there w 12 4 _ (reach (length w) (28 + b.urb.rest.size + 4 + 4 + 0) 16 l (omega arith)) ∙ (field_there w 16 4 _ (reach (length w) (28 + b.urb.rest.size + 4 + 4 + 0) 20 l (omega arith)) ∙ (at_least_there 8 (word_at w 16) 16 _ (rw q (omega arith)) ∙ (field_there w 20 (word_at w 16) _ (rw q (reach (length w) (28 + b.urb.rest.size + 4 + 4 + 0) (20 + (8 + b.urb.rest.size)) l (omega arith))) ∙ (agrees_there (eqb (half_at w 20) (word_at w 16)) 20 _ (eq-eqb (half_at w 20) (word_at w 16) (x20 ∙ sym q)) ∙ (field_there w (20 + word_at w 16) 4 _ (rw q (reach (length w) (28 + b.urb.rest.size + 4 + 4 + 0) (20 + (8 + b.urb.rest.size) + 4) l (omega arith))) ∙ (field_there w (20 + word_at w 16 + 4) 4 _ (rw q (reach (length w) (28 + b.urb.rest.size + 4 + 4 + 0) (20 + (8 + b.urb.rest.size) + 4 + 4) l (omega arith)))))))))) ∙ (ap (λ r. asks_some (asks_by (urb_completion_no_data_reading r))) (ended_there w (20 + word_at w 16 + 8) _ (rw q (within (length w) (28 + b.urb.rest.size + 4 + 4 + 0) (20 + (8 + b.urb.rest.size) + 8) l (omega arith)))));
        message = message_back _ id m;
        numbers = same k (same e3 (same e6 (same (ap (λ x. word_at w x) z ∙ e8) (same (ap (λ x. word_at w x) z4 ∙ e9) refl))));
        parts = same (ap (λ x. cut w (record { start = 28; size = x })) o ∙ r7) refl;
      };
      head = record { first = h; third = f };
      long = long_of (length w) _ l (omega arith);
    }
