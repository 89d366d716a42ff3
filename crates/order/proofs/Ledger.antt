-- It meets the laws of a machine: it stores numbers, hands them back, and computes nothing with them.
use Prim.Native.Nat.{ℕ}
use mathlib.Core.Path.{◌≡◌, refl, ap}
use Rattle.order.specs.Ledger.{last, ledger_step, nowhere, ren_stored, Stored}
use Rattle.order.specs.Machine.{Machine}

stays : (n : ℕ) (c : Unit {0}) → (ledger_step n nowhere c).1 ≡ nowhere
stays n c = refl

law : (f : ℕ → ℕ) → f 0 ≡ 0 → (n : ℕ) (s : Stored) (c : Unit {0}) → ledger_step (f n) (ren_stored f s) c ≡ (f (ledger_step n s c).0, ren_stored f (ledger_step n s c).1)
law f z n nowhere c = rw z
law f z n (last k) c = refl

pub ledger : Machine
ledger = record {
  State = Stored;
  Call = Unit {0};
  Out = ℕ;
  new = last 0;
  outside = nowhere;
  step = ledger_step;
  ren_s = ren_stored;
  ren_o = λ f n. f n;
  new_law = λ f z. ap last z;
  outside_law = λ f. refl;
  outside_stays = stays;
  law = law;
}
