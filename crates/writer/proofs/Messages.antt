-- What `message::write` leans on: fields that are given are small, and the pieces behind a message's own change nothing.
use Rattle.std.proofs.lemmas.Bool.{and_parts}
use Rattle.std.specs.Prelude.{Option, Some, None, Err}
use Prim.Native.Nat.{ℕ, ◌≤◌}
use mathlib.Core.Path.{◌≡◌, refl}
use mathlib.Core.List.{List}
use mathlib.Core.Bool.{Bool, true, false, cond, not, ◌&&◌}
use lib.Dec.{eqb, ltb}
use lib.ListN.{length}
use native.Mathlib.Omega.{arith}
use Rattle.header.specs.declared.ids.MessageId.{MessageId}
use Rattle.urb.specs.declared.ts_urb.Urb.{Urb}
use Rattle.pieces.specs.Pieces as pieces
use Rattle.pieces.specs.declared.piece.Piece.{Piece}
use Rattle.writer.specs.SharedMsgHeader.{interface_allowed, padded}
use Rattle.writer.specs.Part.{part_allowed}
use Rattle.writer.specs.TsUrb.{Small, configuration_stated, control_stated, interface_stated, isoch_stated, stated_of}
use Rattle.writer.specs.Transfer.{incoming_by, outgoing_by, request_allowed, transfer_in_given, transfer_out_given}
use Rattle.writer.specs.UrbCompletion.{result_given}
use Rattle.writer.specs.Message.{SmallFields, buffer_of, given_in, pieces_of, written_of}
use Rattle.writer.specs.declared.ts_urb.Structure.{Structure}
use Rattle.writer.specs.declared.ts_urb.Structure.TheVariants as structure
use Rattle.writer.specs.declared.urb_completion.UrbResultFields.{UrbResultFields}
use Rattle.writer.specs.declared.transfer.TransferInFields.{TransferInFields}
use Rattle.writer.specs.declared.transfer.TransferOutFields.{TransferOutFields}
use Rattle.writer.specs.declared.message.Fields.{Fields}
use Rattle.writer.specs.declared.message.Fields.TheVariants.{CapabilityRequest, CapabilityResponse, ChannelCreatedByServer, ChannelCreatedByClient, AddVirtualChannel, AddDevice, RegisterRequestCallback, IoControl, InternalIoControl, TransferInRequest, TransferOutRequest, CancelRequest, RetractDevice, IoControlCompletion, UrbCompletion, UrbCompletionNoData}
use Rattle.writer.proofs.Lies.{lies}
use Rattle.writer.proofs.Padded.{buffer_padded, written-padded}
use Rattle.pieces.specs.declared.piece.Unwritten.TheVariants as unwritten

-- a structure that is stated passed its test
tested : (b : Bool) (x : Option Urb) (u : Urb) → cond b x None ≡ Some u → (b ≡ true) × (x ≡ Some u)
tested true x u e = (refl, e)
tested false x u e = let z : ◌≡◌ {A = ℕ} 0 1 = cc in absurd (omega arith)

untested : (b : Bool) (x : Option Urb) (u : Urb) → cond b None x ≡ Some u → x ≡ Some u
untested true x u e = let z : ◌≡◌ {A = ℕ} 0 1 = cc in absurd (omega arith)
untested false x u e = e

-- so its parts are not longer than a message
stated_small : (s : List ℕ) (function : ℕ) (x : Structure) (u : Urb) → stated_of s function x ≡ Some u → Small x
unfolding stated_of configuration_stated interface_stated control_stated isoch_stated
stated_small s function (structure.SelectConfiguration b) u e =
    let a = (tested (eqb function 0x0000) (configuration_stated s b) u e).1 in
    let l = tested (part_allowed s b.interfaces) _ u (untested (ltb 255 b.flag) _ u a) in
    let d = tested (part_allowed s b.descriptor) _ u l.1 in
    ((lies s b.interfaces l.0).1, (lies s b.descriptor d.0).1)
stated_small s function (structure.SelectInterface b) u e =
    (lies s b.interface (tested (part_allowed s b.interface) _ u (tested (eqb function 0x0001) (interface_stated s b) u e).1).0).1
stated_small s function structure.GetCurrentFrameNumber u e = tt
stated_small s function (structure.PipeRequest b) u e = tt
stated_small s function (structure.BulkOrInterruptTransfer b) u e = tt
stated_small s function (structure.ControlTransfer b) u e =
    (lies s b.setup (tested (part_allowed s b.setup) _ u (tested (eqb function 0x0008) (control_stated s b) u e).1).0).1
stated_small s function (structure.IsochTransfer b) u e =
    (lies s b.list (tested (part_allowed s b.list) _ u (tested (eqb function 0x000A) (isoch_stated s b) u e).1).0).1

incoming_small : (s : List ℕ) (b : TransferInFields) (t : Option Urb) → stated_of s b.urb.function b.urb.structure ≡ t → incoming_by b t ≡ true → Small b.urb.structure
incoming_small s b None e q = let z : ◌≡◌ {A = ℕ} 0 1 = cc in absurd (omega arith)
incoming_small s b (Some u) e q = stated_small s b.urb.function b.urb.structure u e

outgoing_small : (s : List ℕ) (b : TransferOutFields) (t : Option Urb) → stated_of s b.urb.function b.urb.structure ≡ t → outgoing_by b t ≡ true → Small b.urb.structure
outgoing_small s b None e q = let z : ◌≡◌ {A = ℕ} 0 1 = cc in absurd (omega arith)
outgoing_small s b (Some u) e q = stated_small s b.urb.function b.urb.structure u e

in_small : (s : List ℕ) (i : ℕ) (b : TransferInFields) → transfer_in_given s i b ≡ true → Small b.urb.structure
unfolding transfer_in_given
in_small s i b e =
    let t = stated_of s b.urb.function b.urb.structure in
    let q = (and_parts (interface_allowed i) (request_allowed b.urb.request && incoming_by b t) e).1 in
    incoming_small s b t refl (and_parts (request_allowed b.urb.request) (incoming_by b t) q).1

out_small : (s : List ℕ) (i : ℕ) (b : TransferOutFields) → transfer_out_given s i b ≡ true → Small b.urb.structure
unfolding transfer_out_given
out_small s i b e =
    let t = stated_of s b.urb.function b.urb.structure in
    let q = (and_parts (interface_allowed i) (request_allowed b.urb.request && (part_allowed s b.output && outgoing_by b t)) e).1 in
    let k = (and_parts (request_allowed b.urb.request) (part_allowed s b.output && outgoing_by b t) q).1 in
    outgoing_small s b t refl (and_parts (part_allowed s b.output) (outgoing_by b t) k).1

result_small : (s : List ℕ) (i : ℕ) (b : UrbResultFields) → result_given s i b ≡ true → b.rest.size ≤ 65535
result_small s i b e = (lies s b.rest (and_parts (interface_allowed i) (part_allowed s b.rest) e).1).1

pub given_small : (s : List ℕ) (f : Fields) → given_in s f ≡ true → SmallFields f
unfolding given_in
given_small s (CapabilityRequest b) e = tt
given_small s (CapabilityResponse b) e = tt
given_small s (ChannelCreatedByServer b) e = tt
given_small s (ChannelCreatedByClient b) e = tt
given_small s AddVirtualChannel e = tt
given_small s (AddDevice b) e = tt
given_small s (RegisterRequestCallback i b) e = tt
given_small s (IoControl i b) e = tt
given_small s (InternalIoControl i b) e = tt
given_small s (TransferInRequest i b) e = in_small s i b e
given_small s (TransferOutRequest i b) e = out_small s i b e
given_small s (CancelRequest i b) e = tt
given_small s (RetractDevice i b) e = tt
given_small s (IoControlCompletion i b) e = tt
given_small s (UrbCompletion i b) e = result_small s i b.urb (and_parts (result_given s i b.urb) (part_allowed s b.output && not (eqb b.output.size 0)) e).0
given_small s (UrbCompletionNoData i b) e = result_small s i b.urb e

-- the two answers of `write`: fields that are not given, and the pieces written
pub not_given : (id : MessageId) (f : Fields) (s buf : List ℕ) → given_in s f ≡ false → (Err unwritten.Value ≡ written_of id f s (length buf)) × (buf ≡ buffer_of id f s buf)
unfolding written_of buffer_of
not_given id f s buf e = (rw e, rw e)

pub as_written : (id : MessageId) (f : Fields) (s buf : List ℕ) (ps : List Piece) → given_in s f ≡ true → ps ≡ padded (pieces_of id f) → (pieces.written_of s (length buf) ps ≡ written_of id f s (length buf)) × (pieces.buffer_of s ps buf ≡ buffer_of id f s buf)
unfolding written_of buffer_of
as_written id f s buf ps e q = (rw (e, q) (written-padded s (length buf) (pieces_of id f)), rw (e, q) (buffer_padded s (pieces_of id f) buf))
