-- Demand 1 of both calls.
use Rattle.std.specs.Prelude.{Ok, Err}
use Prim.Native.Nat.{ℕ, zero, suc, ◌+◌}
use native.Mathlib.Omega.{arith}
use mathlib.Core.Path.{◌≡◌, refl, ap}
use mathlib.Core.List.{List, [], ◌∷◌}
use lib.ListN.{get_or, set}
use lib.Dec.{ltb}
use Rattle.words.proofs.Steps.{either}
use Rattle.channel.specs.Rows.{new_channel}
use Rattle.rows.specs.Search.{open_count}
use Rattle.answers.specs.declared.answer.Answer.TheVariants as answer
use Rattle.turn.specs.Step.{after_of, verdict_of}
use Rattle.table.specs.Entry.{accepted_entry, answer_of, close_entry, judged_entry, refused_entry}
use Rattle.table.specs.Table.{blank_channel, channel_of, close_of, judged_by, judge_of, moved, unnumbered, unplaced}
use Rattle.places.specs.Place.{no_place, used_up}
use Rattle.table.specs.declared.table.Table.{Table}
use Rattle.journal.specs.Calls.{Asks, Call, called, called_by, closing, judging, side_by, stamp_by}
use Rattle.promises.specs.Demand1.{Demand1}
use Rattle.promises.proofs.Verdicts.{Proper, proper}
use Rattle.rules.specs.Verdict.{Verdict, kind_told}

-- a list with what stands at a place put there again
pub set_same : {A : Type 0} (l : List A) (i : ℕ) (d : A) → set l i (get_or l i d) ≡ l
set_same [] i d = refl
set_same (a ∷ l) zero d = refl
set_same (a ∷ l) (suc i) d = ap (λ r. a ∷ r) (set_same l i d)

module _ (t : Table) (x : Call) where
  numberless : Demand1 t x (unnumbered t)
  numberless = record {
    refusal_1 = λ e. (refl, refl);
    refusal = λ n a. absurd (n refl);
    entered = λ n. absurd (n refl);
    next = λ n. absurd (n refl);
  }

  placeless : Demand1 t x (unplaced t x.channel (side_by x.asks) (stamp_by x.asks))
  placeless = record {
    refusal_1 = λ e. let q = e in absurd (omega arith);
    refusal = λ n a. refl;
    entered = λ n. record {
      entry = refused_entry t.next x.channel (side_by x.asks) (stamp_by x.asks) 0 answer.NoPlace;
      one = refl;
      number = refl;
      answer = refl;
      channel = refl;
      side = refl;
      stamp = refl;
      refused = λ a. (refl, refl, refl);
      kindless = λ l h. refl;
    };
    next = λ n. refl;
  }

  said : (v : Verdict) → Proper v → Demand1 t x (judged_by t x.channel (side_by x.asks) (stamp_by x.asks) v)
  unfolding after_of answer_of judged_entry
  said (Err r) h = record {
    refusal_1 = λ e. let q = e in absurd (omega (arith, h.0));
    refusal = λ n p. ap (λ l. record { next = t.next + 1; channels = l }) (set_same t.channels x.channel blank_channel);
    entered = λ n. record {
      entry = refused_entry t.next x.channel (side_by x.asks) (stamp_by x.asks) (kind_told r.kind) r.answer;
      one = refl;
      number = refl;
      answer = refl;
      channel = refl;
      side = refl;
      stamp = refl;
      refused = λ p. (refl, refl, refl);
      kindless = λ l u. h.1 u;
    };
    next = λ n. refl;
  }
  said (Ok a) h = record {
    refusal_1 = λ e. let q = e in absurd (omega arith);
    refusal = λ n p. absurd (p refl);
    entered = λ n. record {
      entry = accepted_entry t.next x.channel (side_by x.asks) (stamp_by x.asks) a;
      one = refl;
      number = refl;
      answer = refl;
      channel = refl;
      side = refl;
      stamp = refl;
      refused = λ p. absurd (p refl);
      kindless = λ l u. absurd (omega arith);
    };
    next = λ n. refl;
  }

closed : (t : Table) (channel stamp : ℕ) → Demand1 t (record { channel = channel; asks = closing stamp }) (moved t channel new_channel answer.Accepted (close_entry t.next channel stamp (open_count (channel_of t channel).rows)))
closed t channel stamp = record {
  refusal_1 = λ e. let q = e in absurd (omega arith);
  refusal = λ n p. absurd (p refl);
  entered = λ n. record {
    entry = close_entry t.next channel stamp (open_count (channel_of t channel).rows);
    one = refl;
    number = refl;
    answer = refl;
    channel = refl;
    side = refl;
    stamp = refl;
    refused = λ p. absurd (p refl);
    kindless = λ l u. absurd (omega arith);
  };
  next = λ n. refl;
}

by_call : (t : Table) (channel : ℕ) (a : Asks) → Demand1 t (record { channel = channel; asks = a }) (called_by t channel a)
unfolding judge_of close_of
by_call t channel (judging side stamp m) =
    let x : Call = record { channel = channel; asks = judging side stamp m } in
    either (Demand1 t x) (used_up t.next) _ _ (λ e. numberless t x)
    (λ e. either (Demand1 t x) (no_place channel side) _ _ (λ f. placeless t x)
    (λ f. said t x (verdict_of (channel_of t channel) t.next side m) (proper (channel_of t channel) t.next side m)))
by_call t channel (closing stamp) =
    let x : Call = record { channel = channel; asks = closing stamp } in
    either (Demand1 t x) (used_up t.next) _ _ (λ e. numberless t x)
    (λ e. either (Demand1 t x) (ltb 7 channel) _ _ (λ f. placeless t x)
    (λ f. closed t channel stamp))

-- Demand 1, on every table and of every call: a refused call changes nothing but the next number, and refusal 1 not even that; every other
-- call gives exactly one entry.
pub demand_1 : (t : Table) (x : Call) → Demand1 t x (called t x)
demand_1 t x = by_call t x.channel x.asks
