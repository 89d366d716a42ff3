-- The gate is a machine of `order`.
use Rattle.std.specs.Prelude.{Ok, Err}
use Prim.Native.Nat.{ℕ}
use mathlib.Core.Path.{◌≡◌, refl, ap}
use mathlib.Core.List.{List}
use mathlib.Core.Bool.{Bool, true, false, cond}
use Rattle.channel.specs.Rows.{new_channel}
use Rattle.turn.specs.Step.{after_of, verdict_of}
use Rattle.table.specs.Entry.{answer_of, judged_entry}
use Rattle.places.specs.Place.{of_side}
use Rattle.journal.specs.Calls.{Asks, judging, closing}
use Rattle.order.specs.Machine.{Machine}
use Rattle.promises.specs.Demand3.{ren_channel, ren_open}
use Rattle.promises.specs.Gate.{gate_step, Gave, inside, outside, Place, ren_gave, ren_place, said_gave, unplaced_gave}
use Rattle.promises.proofs.GateLaw.{after_ren, ren_verdict, verdict_ren}
use Rattle.promises.proofs.InRow.{count_in, free_rows}
use Rattle.rules.specs.Verdict.{Verdict}

pub new_ren : (f : ℕ → ℕ) → ren_channel f new_channel ≡ new_channel
new_ren f = rw (free_rows (ren_open f) 16)

pub stays : (n : ℕ) (a : Asks) → (gate_step n outside a).1 ≡ outside
stays n (judging side stamp m) = refl
stays n (closing stamp) = refl

said_ren : (f : ℕ → ℕ) → f 0 ≡ 0 → (side stamp : ℕ) (m : List ℕ) (v : Verdict) → said_gave side stamp m (ren_verdict f v) ≡ ren_gave f (said_gave side stamp m v)
unfolding answer_of judged_entry
said_ren f z side stamp m (Err r) = rw z
said_ren f z side stamp m (Ok a) = refl

by_side : (f : ℕ → ℕ) (b : Bool) (p q r s : Gave × Place) → p ≡ (ren_gave f r.0, ren_place f r.1) → q ≡ (ren_gave f s.0, ren_place f s.1)
    → cond b p q ≡ (ren_gave f (cond b r s).0, ren_place f (cond b r s).1)
by_side f true p q r s x y = x
by_side f false p q r s x y = y

pub law : (f : ℕ → ℕ) → f 0 ≡ 0 → (n : ℕ) (s : Place) (a : Asks) → gate_step (f n) (ren_place f s) a ≡ (ren_gave f (gate_step n s a).0, ren_place f (gate_step n s a).1)
law f z n outside (judging side stamp m) = rw z
law f z n outside (closing stamp) = rw z
law f z n (inside c) (judging side stamp m) =
    by_side f (of_side side) _ _ (said_gave side stamp m (verdict_of c n side m), inside (after_of c (verdict_of c n side m))) (unplaced_gave side stamp, inside c)
    (rw (verdict_ren f z c n side m, said_ren f z side stamp m (verdict_of c n side m), after_ren f c (verdict_of c n side m)))
    (rw z)
law f z n (inside c) (closing stamp) = rw (count_in (ren_open f) c.rows, z, free_rows (ren_open f) 16)

abbrev pub gate : Machine
gate = record {
  State = Place;
  Call = Asks;
  Out = Gave;
  new = inside new_channel;
  outside = outside;
  step = gate_step;
  ren_s = ren_place;
  ren_o = ren_gave;
  new_law = λ f z. ap inside (new_ren f);
  outside_law = λ f. refl;
  outside_stays = stays;
  law = law;
}
