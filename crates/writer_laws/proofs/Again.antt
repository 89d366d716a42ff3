-- Every message that passes checks 3 to 8 on a table reached from a new one is rebuilt.
use Rattle.std.specs.Prelude.{Option, Some, None, Result, Ok, Err}
use Prim.Native.Nat.{ℕ, ◌+◌, ◌≤◌}
use native.Mathlib.Omega.{arith}
use mathlib.Core.Path.{◌≡◌, refl, ap, ◌∙◌}
use mathlib.Core.Logic.{inl, inr}
use mathlib.Core.List.{List}
use mathlib.Core.Bool.{true}
use lib.ListN.{length, take}
use lib.Seq.{take-length}
use lib.Dec.{eqb, ltb}
use borrow.Author.Tests.{ltb-false}
use Rattle.words.specs.Words.{word_at}
use Rattle.words.proofs.Steps.{either}
use Rattle.header.specs.Header.{header_of}
use Rattle.header.specs.Ids.{message_in}
use Rattle.answers.specs.Phase.{phases_of}
use Rattle.answers.specs.declared.kind.Kind.{Kind}
use Rattle.answers.specs.declared.kind.Kind.TheVariants as kind
use Rattle.wire.specs.Message.{asked_of}
use Rattle.wire.specs.Reading.{reading_of}
use Rattle.wire.specs.declared.message.Asked.TheVariants as asks
use Rattle.kinds.specs.Kinds.{first_fitting, kinds}
use Rattle.channel.specs.declared.channel.Channel.{Channel}
use Rattle.rules.specs.Decide.{decided}
use Rattle.rules.specs.declared.decide.Seen.{Seen}
use Rattle.turn.specs.Admit.{admitted, asks_as, asks_in, from_head, from_header}
use Rattle.turn.specs.Step.{verdict_by, verdict_of}
use Rattle.turn.specs.Store.{seen_of}
use Rattle.table.specs.Entry.{answer_of}
use Rattle.table.specs.Table.{channel_of, judge_of, open_of}
use Rattle.table.specs.declared.table.Judged.{Judged}
use Rattle.table.specs.declared.table.Table.{Table}
use Rattle.places.specs.Place.{no_place, used_up}
use Rattle.journal.specs.Calls.{Call, after}
use Rattle.promises.proofs.Sound.{reached_sound}
use Rattle.pieces.specs.Pieces as pieces
use Rattle.pieces.proofs.Pieces.{encode-length}
use Rattle.writer.specs.Message.{pieces_of, written_of}
use Rattle.fields.specs.Message.{fields_in}
use Rattle.writer_laws.specs.Layout.{Bytes, Kept, cleared_from}
use Rattle.writer_laws.specs.Rebuilt.{Rebuilt, asks_some, layout_of}
use Rattle.writer_laws.specs.Passed.{Again, HasKind, Passes, Passing, head_in}
use Rattle.writer_laws.proofs.Cleared.{all_cleared, all_fit, all_kept}
use Rattle.writer_laws.proofs.Rebuilt as simple
use Rattle.writer_laws.proofs.RebuiltDevice.{device_rebuilt}
use Rattle.writer_laws.proofs.RebuiltTransfer.{in_rebuilt, out_rebuilt}
use Rattle.writer_laws.proofs.Headers.{HeadOf, kind_head}
use Rattle.wire.specs.declared.message.Asked.{Asked}
use Rattle.wire.specs.declared.message.Unfit.{Unfit}
use Rattle.wire.specs.declared.message.Unfit.TheVariants as unfit
use Rattle.rules.specs.declared.verdict.Refusal.{Refusal}

-- one law for all kinds
pub rebuilt_kind : (k : Kind) (m : List ℕ) → 12 ≤ length m → length m ≤ 65535 → Bytes m → HeadOf k m → asks_some (asked_of k m) ≡ true → Rebuilt k m
unfolding asked_of reading_of
rebuilt_kind kind.CapabilityRequest m l f b h = simple.capability_request_rebuilt m l f h
rebuilt_kind kind.CapabilityResponse m l f b h = simple.capability_response_rebuilt m l f h
rebuilt_kind kind.ChannelCreatedByServer m l f b h = simple.server_created_rebuilt m l f h
rebuilt_kind kind.ChannelCreatedByClient m l f b h = simple.client_created_rebuilt m l f h
rebuilt_kind kind.AddVirtualChannel m l f b h = simple.virtual_channel_rebuilt m l f h
rebuilt_kind kind.AddDevice m l f b h = device_rebuilt m f h
rebuilt_kind kind.CancelRequest m l f b h = simple.cancel_rebuilt m l f h.0 h.1
rebuilt_kind kind.RegisterRequestCallback m l f b h = simple.callback_rebuilt m l f h.0 h.1
rebuilt_kind kind.IoControl m l f b h = simple.io_control_rebuilt m l f h.0 h.1
rebuilt_kind kind.InternalIoControl m l f b h = simple.internal_rebuilt m l f h.0 h.1
rebuilt_kind kind.TransferInRequest m l f b h = in_rebuilt m f b h.0 h.1
rebuilt_kind kind.TransferOutRequest m l f b h = out_rebuilt m f b h.0 h.1
rebuilt_kind kind.RetractDevice m l f b h = simple.retract_rebuilt m l f h.0 h.1
rebuilt_kind kind.IoControlCompletion m l f b h = simple.io_completion_rebuilt m l f h.0 h.1
rebuilt_kind kind.UrbCompletion m l f b h = simple.urb_completion_rebuilt m l f h.0 h.1
rebuilt_kind kind.UrbCompletionNoData m l f b h = simple.no_data_rebuilt m l f h.0 h.1

-- where a layout has no padding, nothing is cleared
unpadded_same : (k : Kind) (m : List ℕ) → Kept (layout_of k m) → Rebuilt k m → cleared_from m 0 (layout_of k m) ≡ m
unpadded_same k m u r = all_kept m 0 (layout_of k m) u ∙ (ap (λ n. take n m) r.spans ∙ take-length m)

-- what is rebuilt is written
pub again : (k : Kind) (m : List ℕ) → length m ≤ 65535 → Bytes m → Rebuilt k m → Again m k
unfolding written_of pieces.written_of
again k m f b r =
    record {
      answer = λ room. rw (r.given, r.pieces, all_fit m 0 (layout_of k m) f (omega (arith, r.spans)));
      bytes = ap (pieces.encode m) r.pieces ∙ all_cleared m b 0 (layout_of k m) (omega (arith, r.spans));
      long = exact _ _ (encode-length m (pieces_of (message_in (word_at m 4)) (fields_in k m)) 0 (length m) (rw r.pieces (all_fit m 0 (layout_of k m) f (omega (arith, r.spans)))));
      same = λ u. ap (pieces.encode m) r.pieces ∙ (all_cleared m b 0 (layout_of k m) (omega (arith, r.spans)) ∙ unpadded_same k m u r);
    }
  where
    exact : (a b : ℕ) → 0 + a ≡ b → a ≡ b
    exact a b e = omega arith

-- an answer that passes no check
fails : {A : Type 0} (n : ℕ) → 1 ≤ n → n ≤ 8 → Passing n → A
fails n a b (inl e) = absurd (omega arith)
fails n a b (inr e) = absurd (omega arith)

asks_passed : (k : Kind) (a : Result Asked Unfit) (n jitter : ℕ) (seen : Seen) → Passes (answer_of (decided k a n jitter seen)) → asks_some a ≡ true
unfolding decided answer_of
asks_passed k (Err (unfit.Sizes fault)) n jitter seen p = fails 7 (omega arith) (omega arith) p
asks_passed k (Err unfit.Value) n jitter seen p = fails 8 (omega arith) (omega arith) p
asks_passed k (Ok asks.Step) n jitter seen p = refl
asks_passed k (Ok (asks.Device id ms)) n jitter seen p = refl
asks_passed k (Ok (asks.Callback id)) n jitter seen p = refl
asks_passed k (Ok (asks.IoControl r)) n jitter seen p = refl
asks_passed k (Ok (asks.TransferIn r)) n jitter seen p = refl
asks_passed k (Ok (asks.TransferOut r)) n jitter seen p = refl
asks_passed k (Ok (asks.Cancel id)) n jitter seen p = refl
asks_passed k (Ok asks.Retract) n jitter seen p = refl
asks_passed k (Ok (asks.IoCompletion c)) n jitter seen p = refl
asks_passed k (Ok (asks.UrbCompletion c)) n jitter seen p = refl
asks_passed k (Ok (asks.UrbCompletionNoData c)) n jitter seen p = refl

module _ (c : Channel) (n side : ℕ) (m : List ℕ) where
  -- what passes has a kind, a length that is allowed, and asks something
  abbrev Tells : Result (Kind × Result Asked Unfit) Refusal → Type 0
  Tells a = Passes (answer_of (verdict_by c n a)) → (k : Kind) × HasKind c side m k × (12 ≤ length m) × (length m ≤ 65535) × (asks_some (asked_of k m) ≡ true)

  kind_tells : (f : Option Kind) → 12 ≤ length m → length m ≤ 65535 → first_fitting kinds (head_in m) side c.device c.callback ≡ f → Tells (asks_as c.phase f m)
  unfolding asks_in answer_of
  kind_tells None l h e = λ p. fails 5 (omega arith) (omega arith) p
  kind_tells (Some k) l h e =
      either Tells (eqb (phases_of k).before c.phase) _ _
      (λ t. λ p. (k, e, l, h, asks_passed k (asked_of k m) n c.jitter (seen_of c (asked_of k m)) p))
      (λ t. λ p. fails 6 (omega arith) (omega arith) p)

  verdict_tells : Passes (answer_of (verdict_of c n side m)) → (k : Kind) × HasKind c side m k × (12 ≤ length m) × (length m ≤ 65535) × (asks_some (asked_of k m) ≡ true)
  unfolding verdict_of admitted header_of from_header answer_of
  verdict_tells =
      either (λ h. Tells (from_head c.phase c.device c.callback side h m)) (ltb (length m) 12) _ _ (λ t. λ p. fails 3 (omega arith) (omega arith) p)
      (λ t. either Tells (ltb 65535 (length m)) _ _ (λ s. λ p. fails 4 (omega arith) (omega arith) p)
      (λ s. kind_tells (first_fitting kinds (head_in m) side c.device c.callback) (ltb-false (length m) 12 t) (ltb-false 65535 (length m) s) refl))

-- 02 R-1: every message that passes checks 3 to 8 on a table reached from a new one is rebuilt to the same bytes, padding excepted
pub rebuilt : (first : ℕ) (xs : List Call) (channel side stamp : ℕ) (m : List ℕ) → Bytes m → Passes (judge_of (after (open_of first) xs) channel side stamp m).answer
    → (k : Kind) × HasKind (channel_of (after (open_of first) xs) channel) side m k × Again m k
unfolding judge_of
rebuilt first xs channel side stamp m b =
    either P (used_up t.next) _ _ (λ e. λ p. fails 1 (omega arith) (omega arith) p)
    (λ e. either P (no_place channel side) _ _ (λ d. λ p. fails 2 (omega arith) (omega arith) p)
    (λ d. λ p. done (verdict_tells (channel_of t channel) t.next side m p)))
  where
    t : Table
    t = after (open_of first) xs

    P : Judged → Type 0
    P j = Passes j.answer → (k : Kind) × HasKind (channel_of t channel) side m k × Again m k

    done : (k : Kind) × HasKind (channel_of t channel) side m k × (12 ≤ length m) × (length m ≤ 65535) × (asks_some (asked_of k m) ≡ true) → (k : Kind) × HasKind (channel_of t channel) side m k × Again m k
    done (k, e, l, f, a) = let s = reached_sound first xs channel in (k, e, again k m f b (rebuilt_kind k m l f b (kind_head m side (channel_of t channel).device (channel_of t channel).callback s.device s.callback k e) a))
