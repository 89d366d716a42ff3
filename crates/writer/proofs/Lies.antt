-- A part that is allowed lies in the lent bytes, and is not longer than a message may be.
use Prim.Native.Nat.{ℕ, ◌+◌, ◌-◌, ◌≤◌}
use mathlib.Core.Path.{◌≡◌, refl}
use mathlib.Core.List.{List}
use mathlib.Core.Bool.{Bool, true, false, cond}
use lib.Dec.{leb, ltb}
use lib.ListN.{length}
use native.Mathlib.Omega.{arith}
use borrow.Author.Tests.{leb-true, ltb-false}
use Rattle.words.specs.declared.layout.Part.{Part}
use Rattle.writer.specs.Part.{part_allowed}

abbrev pub Lies : List ℕ → Part → Type 0
Lies s p = (p.start + p.size ≤ length s) × (p.size ≤ 65535)

-- a test that refuses was not met, and what follows it holds
passed : (b x : Bool) → cond b false x ≡ true → (b ≡ false) × (x ≡ true)
passed true x e = let z : ◌≡◌ {A = ℕ} 0 1 = cc in absurd (omega arith)
passed false x e = (refl, e)

pub lies : (s : List ℕ) (p : Part) → part_allowed s p ≡ true → Lies s p
lies s p e =
    let a = passed (ltb (length s) p.start) (cond (ltb (length s - p.start) p.size) false (leb p.size 65535)) e in
    let b = passed (ltb (length s - p.start) p.size) (leb p.size 65535) a.1 in
    (omega (arith, ltb-false (length s) p.start a.0, ltb-false (length s - p.start) p.size b.0), leb-true p.size 65535 b.1)
