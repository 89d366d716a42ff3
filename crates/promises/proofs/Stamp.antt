-- The stamp decides nothing.
use Rattle.std.specs.Prelude.{Ok, Err}
use Prim.Native.Nat.{ℕ}
use mathlib.Core.Path.{◌≡◌, refl}
use mathlib.Core.Bool.{Bool, true, false, cond}
use lib.Dec.{ltb}
use Rattle.turn.specs.Step.{verdict_of}
use Rattle.table.specs.Entry.{judged_entry}
use Rattle.table.specs.Table.{channel_of, close_of, judged_by, judge_of}
use Rattle.places.specs.Place.{no_place, used_up}
use Rattle.table.specs.declared.table.Judged.{Judged}
use Rattle.table.specs.declared.table.Table.{Table}
use Rattle.journal.specs.Calls.{Asks, Call, called, called_by, closing, judging}
use Rattle.promises.specs.Stamp.{asks_at, call_at, judged_at}
use Rattle.rules.specs.Verdict.{Verdict}

-- a test that no stamp is part of
through : (s : ℕ) (b : Bool) (j k l m : Judged) → j ≡ judged_at s l → k ≡ judged_at s m → cond b j k ≡ judged_at s (cond b l m)
through s true j k l m p q = p
through s false j k l m p q = q

said : (t : Table) (channel side s r : ℕ) (v : Verdict) → judged_by t channel side s v ≡ judged_at s (judged_by t channel side r v)
unfolding judged_entry
said t channel side s r (Err refusal) = refl
said t channel side s r (Ok a) = refl

by_call : (t : Table) (channel s : ℕ) (a : Asks) → called_by t channel (asks_at s a) ≡ judged_at s (called_by t channel a)
unfolding judge_of close_of
by_call t channel s (judging side r m) =
    through s (used_up t.next) _ _ _ _ refl
    (through s (no_place channel side) _ _ _ _ refl (said t channel side s r (verdict_of (channel_of t channel) t.next side m)))
by_call t channel s (closing r) =
    through s (used_up t.next) _ _ _ _ refl (through s (ltb 7 channel) _ _ _ _ refl refl)

-- With another stamp a call gives the same answer, table and entry, but for the entry's stamp. (The payload call has no stamp.)
pub stamp_decides_nothing : (t : Table) (x : Call) (s : ℕ) → called t (call_at s x) ≡ judged_at s (called t x)
stamp_decides_nothing t x s = by_call t x.channel s x.asks
