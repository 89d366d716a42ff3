-- A law for each step of a layout, over any reader: what every refusal has, and what follows where the size is right, the reading has.
use Prim.Native.Nat.{ℕ, ◌≤◌}
use Rattle.std.specs.Prelude.{Result, Ok, Err}
use native.Mathlib.Omega.{arith}
use mathlib.Core.Path.{◌≡◌, refl, ap}
use mathlib.Core.List.{List}
use mathlib.Core.Bool.{Bool, true, false, cond}
use lib.ListN.{length}
use lib.Dec.{ltb, eqb}
use borrow.Author.Tests.{ltb-false, eqb-true}
use Rattle.words.specs.Layout.{left, field, agrees, at_least, ended, filled}
use Rattle.words.specs.declared.layout.Fault.{Fault}
use Rattle.words.specs.declared.layout.Fault.TheVariants.{RanOut, Disagrees, LeftOver}

module _ {A : Type 0} (P : Result A Fault → Type 0) (refused : (f : Fault) → P (Err f)) where
  pub by_test : (b : Bool) (f : Fault) (next : Result A Fault) → (b ≡ false → P next) → P (cond b (Err f) next)
  by_test true f next h = refused f
  by_test false f next h = h refl

  pub field_by : (m : List ℕ) (at n : ℕ) (next : Result A Fault) → (n ≤ left m at → P next) → P (field m at n next)
  field_by m at n next h = by_test (ltb (left m at) n) (RanOut at) next (λ e. h (ltb-false (left m at) n e))

  pub at_least_by : (n size at : ℕ) (next : Result A Fault) → (n ≤ size → P next) → P (at_least n size at next)
  at_least_by n size at next h = by_test (ltb size n) (Disagrees at) next (λ e. h (ltb-false size n e))

  pub ended_by : (m : List ℕ) (at : ℕ) (next : Result A Fault) → (length m ≤ at → P next) → P (ended m at next)
  ended_by m at next h = by_test (ltb 0 (left m at)) (LeftOver at) next (λ e. h (let z = ltb-false 0 (left m at) e in omega arith))

  pub filled_by : (at end : ℕ) (next : Result A Fault) → (end ≤ at → P next) → P (filled at end next)
  filled_by at end next h = by_test (ltb at end) (LeftOver at) next (λ e. h (ltb-false at end e))

  pub agrees_by : (a b at : ℕ) (next : Result A Fault) → (a ≡ b → P next) → P (agrees (eqb a b) at next)
  agrees_by a b at next h = go (eqb a b) (λ e. eqb-true a b e)
    where
      go : (t : Bool) → (t ≡ true → a ≡ b) → P (agrees t at next)
      go true e = h (e refl)
      go false e = refused (Disagrees at)

pub either : {A : Type 0} (P : A → Type 0) (t : Bool) (x y : A) → (t ≡ true → P x) → (t ≡ false → P y) → P (cond t x y)
either P true x y f g = f refl
either P false x y f g = g refl

-- a reading with the byte behind it that fits as another does: the two are one, and so are the bytes behind them
pub ok_value : {A B E : Type 0} (x y : A) (m n : B) → ◌≡◌ {A = Result (A × B) E} (Ok (x, m)) (Ok (y, n)) → x ≡ y
ok_value {A = A} {B = B} x y m n e = let q : ◌≡◌ {A = A × B} (x, m) (y, n) = cc in ap (λ (p : A × B). p.0) q

pub ok_end : {A B E : Type 0} (x y : A) (m n : B) → ◌≡◌ {A = Result (A × B) E} (Ok (x, m)) (Ok (y, n)) → m ≡ n
ok_end {A = A} {B = B} x y m n e = let q : ◌≡◌ {A = A × B} (x, m) (y, n) = cc in ap (λ (p : A × B). p.1) q
