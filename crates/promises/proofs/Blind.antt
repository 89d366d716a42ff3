-- No byte of a payload decides anything.
use Rattle.std.specs.Prelude.{Option, Some, None, Result, Ok, Err}
use Prim.Native.Nat.{ℕ, ◌≤◌, ◌<◌}
use native.Mathlib.Omega.{arith}
use mathlib.Core.Path.{◌≡◌, refl, sym, ap, subst, ◌∙◌}
use mathlib.Core.Logic.{◌⊎◌, inl, inr}
use mathlib.Core.List.{List}
use mathlib.Core.Bool.{Bool, true, false, cond}
use lib.ListN.{length}
use lib.Dec.{eqb, ltb}
use borrow.Author.Tests.{ltb-true, ltb-false}
use Rattle.header.specs.Header.{header_of}
use Rattle.words.specs.Words.{byte_at}
use Rattle.answers.specs.declared.kind.Kind.{Kind}
use Rattle.words.specs.declared.layout.Part.{Part}
use Rattle.wire.specs.Message.{asked_of, empty_part}
use Rattle.wire.specs.declared.message.Asked.TheVariants as asks
use Rattle.wire_laws.specs.Payload.{AgreeOutside, payload_part}
use Rattle.wire_laws.proofs.Asked.{asked_blind, asked_within}
use Rattle.wire_laws.proofs.Blind.{same_bytes}
use Rattle.kinds.specs.Kinds.{first_fitting, kinds}
use Rattle.channel.specs.declared.channel.Channel.{Channel}
use Rattle.answers.specs.Phase.{phases_of}
use Rattle.answers.specs.declared.answer.Answer.TheVariants.{Long, WrongPhase}
use Rattle.rules.specs.Decide.{decided}
use Rattle.rules.specs.declared.decide.Seen.{Seen}
use Rattle.turn.specs.Admit.{Admitted, admitted, asks_as, asks_in, from_head, from_header}
use Rattle.turn.specs.Step.{verdict_by, verdict_of}
use Rattle.turn.specs.Store.{seen_of}
use Rattle.payloads.specs.Payload.{shown_by, shown_of}
use Rattle.table.specs.Table.{channel_of, judged_by, judge_of, unnumbered, unplaced}
use Rattle.places.specs.Place.{no_place, used_up}
use Rattle.table.specs.declared.table.Table.{Table}
use Rattle.promises.proofs.Admitted.{admitted_has}
use Rattle.promises.proofs.Decided.{cancelled_has, io_has, no_data_has, out_has, taken_has, urb_has}
use Rattle.header.specs.declared.shared_msg_header.Header.{Header}
use Rattle.header.specs.declared.ids.InterfaceId.{InterfaceId}
use Rattle.wire.specs.declared.message.Asked.{Asked}
use Rattle.wire.specs.declared.message.Unfit.{Unfit}
use Rattle.wire.specs.declared.message.Unfit.TheVariants as unfit
use Rattle.rules.specs.Verdict.{Verdict, refusal_of}

-- the payload of a verdict is that of what the message asks, or none
abbrev Shows : Result Asked Unfit → Verdict → Type 0
Shows a v = (shown_by v ≡ payload_part a) ⊎ (shown_by v ≡ empty_part)

shows : (k : Kind) (a : Result Asked Unfit) (n jitter : ℕ) (s : Seen) → Shows a (decided k a n jitter s)
unfolding decided
shows k (Err (unfit.Sizes fault)) n jitter s = inr refl
shows k (Err unfit.Value) n jitter s = inr refl
shows k (Ok asks.Step) n jitter s = inr refl
shows k (Ok (asks.Device id ms)) n jitter s = inr refl
shows k (Ok (asks.Callback id)) n jitter s = inr refl
shows k (Ok (asks.IoControl r)) n jitter s = taken_has (Shows (Ok (asks.IoControl r))) k (λ b q. inr refl) r _ s.here s.free (λ at e. inl refl)
shows k (Ok (asks.TransferIn r)) n jitter s = taken_has (Shows (Ok (asks.TransferIn r))) k (λ b q. inr refl) r _ s.here s.free (λ at e. inl refl)
shows k (Ok (asks.TransferOut r)) n jitter s = out_has (Shows (Ok (asks.TransferOut r))) k (λ b q. inr refl) r n jitter s.here s.free (inl refl) (λ at e. inl refl)
shows k (Ok (asks.Cancel id)) n jitter s =
    cancelled_has (Shows (Ok (asks.Cancel id))) k (λ b q. inr refl) id s.here (inr refl) (λ at o e m. inr refl) (λ at o e m. inr refl) (λ at o e m. inr refl)
shows k (Ok asks.Retract) n jitter s = inr refl
shows k (Ok (asks.IoCompletion d)) n jitter s = io_has (Shows (Ok (asks.IoCompletion d))) k (λ b q. inr refl) d s.here (λ at o e. inl refl)
shows k (Ok (asks.UrbCompletion d)) n jitter s = urb_has (Shows (Ok (asks.UrbCompletion d))) k (λ b q. inr refl) d s.here (λ at o e. inl refl)
shows k (Ok (asks.UrbCompletionNoData d)) n jitter s = no_data_has (Shows (Ok (asks.UrbCompletionNoData d))) k (λ b q. inr refl) d s.here (λ at o e. inl refl) (λ at o e. inl refl)

-- what is admitted asks what the message of its kind asks
abbrev Own : List ℕ → Admitted → Type 0
Own m (Err r) = Unit {0}
Own m (Ok (k, a)) = a ≡ asked_of k m

own : (m : List ℕ) (ph : ℕ) (d b : Option InterfaceId) (side : ℕ) → Own m (admitted ph d b side m)
own m ph d b side = admitted_has (Own m) m tt tt tt (λ k. tt) (λ k. refl) ph d b side

-- two messages that differ only behind their headers have one header
header_same : (p : Part) (m n : List ℕ) → 12 ≤ p.start → AgreeOutside p m n → header_of n ≡ header_of m
unfolding header_of
header_same p m n h g =
    rw (← g.0, ← (byte 0 (omega arith)), ← (byte 1 (omega arith)), ← (byte 2 (omega arith)), ← (byte 3 (omega arith)), ← (byte 4 (omega arith)), ← (byte 5 (omega arith)), ← (byte 6 (omega arith)), ← (byte 7 (omega arith)), ← (byte 8 (omega arith)), ← (byte 9 (omega arith)), ← (byte 10 (omega arith)), ← (byte 11 (omega arith)))
  where
    byte : (i : ℕ) → i < 12 → byte_at m i ≡ byte_at n i
    byte i l = g.1 i (omega arith)

kind_in : Kind → Admitted → Kind
kind_in other (Err r) = other
kind_in other (Ok (k, a)) = k

abbrev Asking : Admitted → Type 0
Asking (Err r) = ⊥
Asking (Ok (k, a)) = Unit {0}

-- with one header and one length the same kind is admitted
module _ (m n : List ℕ) (ph : ℕ) (d b : Option InterfaceId) (side : ℕ) (l : length n ≡ length m) (e : header_of n ≡ header_of m) (k : Kind) (a : Result Asked Unfit) where
  in_phase : (f : Option Kind) → asks_as ph f m ≡ Ok (k, a) → asks_as ph f n ≡ Ok (k, (asked_of k n))
  unfolding asks_in kind_in
  in_phase None q = absurd (subst Asking (sym q) tt)
  in_phase (Some j) q = go (eqb (phases_of j).before ph) q
    where
      go : (t : Bool) → cond {A = Admitted} t (Ok (j, (asked_of j m))) (Err (refusal_of (Some j) WrongPhase)) ≡ Ok (k, a) → cond {A = Admitted} t (Ok (j, (asked_of j n))) (Err (refusal_of (Some j) WrongPhase)) ≡ Ok (k, (asked_of k n))
      go true r = ap (λ (i : Kind). Ok (i, (asked_of i n))) (ap (kind_in k) r)
      go false r = absurd (subst Asking (sym r) tt)

  carried : admitted ph d b side m ≡ Ok (k, a) → admitted ph d b side n ≡ Ok (k, (asked_of k n))
  unfolding admitted from_header
  carried q = ap (λ h. from_head ph d b side h n) e ∙ go (header_of m) q
    where
      long : (h : _) (t : Bool) → cond t (Err (refusal_of None Long)) (asks_as ph (first_fitting kinds h side d b) m) ≡ Ok (k, a) → cond t (Err (refusal_of None Long)) (asks_as ph (first_fitting kinds h side d b) n) ≡ Ok (k, (asked_of k n))
      long h true r = absurd (subst Asking (sym r) tt)
      long h false r = in_phase (first_fitting kinds h side d b) r

      go : (h : Option Header) → from_head ph d b side h m ≡ Ok (k, a) → from_head ph d b side h n ≡ Ok (k, (asked_of k n))
      go None r = absurd (subst Asking (sym r) tt)
      go (Some h) r = rw l (long h (ltb 65535 (length m)) r)

-- a message that differs from another only within its payload is judged alike
turn_blind : (c : Channel) (num side : ℕ) (m n : List ℕ) → AgreeOutside (shown_by (verdict_of c num side m)) m n → verdict_of c num side n ≡ verdict_of c num side m
unfolding verdict_of
turn_blind c num side m n = go (admitted c.phase c.device c.callback side m) refl (own m c.phase c.device c.callback side)
  where
    now : List ℕ → Admitted
    now l = admitted c.phase c.device c.callback side l

    equal : (p : Part) → p.size ≡ 0 → AgreeOutside p m n → verdict_by c num (now n) ≡ verdict_by c num (now m)
    equal p z g = ap (λ l. verdict_by c num (now l)) (sym (same_bytes p m n z g))

    asked : (k : Kind) → AgreeOutside (payload_part (asked_of k m)) m n → now m ≡ Ok (k, (asked_of k m)) → verdict_by c num (now n) ≡ verdict_by c num (now m)
    asked k g q = split (ltb 0 (payload_part (asked_of k m)).size) (λ t. ltb-true 0 _ t) (λ t. ltb-false 0 _ t)
      where
        split : (t : Bool) → (t ≡ true → 0 < (payload_part (asked_of k m)).size) → (t ≡ false → (payload_part (asked_of k m)).size ≤ 0) → verdict_by c num (now n) ≡ verdict_by c num (now m)
        split true x y =
            let h = header_same (payload_part (asked_of k m)) m n ((asked_within k m).1 (x refl)) g in
            let r = carried m n c.phase c.device c.callback side (sym g.0) h k (asked_of k m) q in
            ap (verdict_by c num) (r ∙ ap (λ b. Ok (k, b)) (asked_blind k m n g) ∙ sym q)
        split false x y = equal (payload_part (asked_of k m)) (let z = y refl in omega arith) g

    go : (a : Admitted) → now m ≡ a → Own m a → AgreeOutside (shown_by (verdict_by c num (now m))) m n → verdict_by c num (now n) ≡ verdict_by c num (now m)
    go (Err r) q o g = equal empty_part refl (subst (λ v. AgreeOutside (shown_by (verdict_by c num v)) m n) q g)
    go (Ok (k, a)) q o g = part (shows k (asked_of k m) num c.jitter (seen_of c (asked_of k m)))
      where
        own' : now m ≡ Ok (k, (asked_of k m))
        own' = q ∙ ap (λ b. Ok (k, b)) o

        there : AgreeOutside (shown_by (decided k (asked_of k m) num c.jitter (seen_of c (asked_of k m)))) m n
        there = subst (λ v. AgreeOutside (shown_by (verdict_by c num v)) m n) own' g

        part : Shows (asked_of k m) (decided k (asked_of k m) num c.jitter (seen_of c (asked_of k m))) → verdict_by c num (now n) ≡ verdict_by c num (now m)
        part (inl e) = asked k (subst (λ p. AgreeOutside p m n) e there) own'
        part (inr e) = equal empty_part refl (subst (λ p. AgreeOutside p m n) e there)

-- A message that differs from another only within the payload that the call shows of it gets the same answer, entry and table, and its payload lies at the same place.
pub payload_decides_nothing : (t : Table) (channel side stamp : ℕ) (m n : List ℕ) → AgreeOutside (shown_of t channel side m) m n
    → (judge_of t channel side stamp n ≡ judge_of t channel side stamp m) × (shown_of t channel side n ≡ shown_of t channel side m)
unfolding judge_of shown_of
payload_decides_nothing t channel side stamp m n g = go (used_up t.next) (no_place channel side) g
  where
    c : Channel
    c = channel_of t channel

    go : (u o : Bool) → AgreeOutside (cond u empty_part (cond o empty_part (shown_by (verdict_of (channel_of t channel) t.next side m)))) m n
        → (cond u (unnumbered t) (cond o (unplaced t channel side stamp) (judged_by t channel side stamp (verdict_of (channel_of t channel) t.next side n)))
        ≡ cond u (unnumbered t) (cond o (unplaced t channel side stamp) (judged_by t channel side stamp (verdict_of (channel_of t channel) t.next side m))))
        × (cond u empty_part (cond o empty_part (shown_by (verdict_of (channel_of t channel) t.next side n))) ≡ cond u empty_part (cond o empty_part (shown_by (verdict_of (channel_of t channel) t.next side m))))
    go true o h = (refl, refl)
    go false true h = (refl, refl)
    go false false h =
        let e = turn_blind (channel_of t channel) t.next side m n h in
        (ap (judged_by t channel side stamp) e, ap shown_by e)
