-- Two interface lists whose rows are alike are walked alike, wherever they stand: the walk looks at Length and NumberOfPipes alone.
use Rattle.std.specs.Prelude.{Ok, Err, max}
use Prim.Native.Nat.{ℕ, zero, suc, ◌+◌, ◌-◌, ◌*◌, ◌/◌, ◌<◌, ◌≤◌}
use native.Mathlib.Omega.{arith}
use mathlib.Core.Path.{◌≡◌, refl, subst}
use mathlib.Core.List.{List}
use mathlib.Core.Bool.{Bool, true, false, cond}
use lib.ListN.{length, take}
use lib.Seq.{get_or-take}
use lib.Dec.{ltb}
use borrow.Author.Tests.{le-ltb}
use Rattle.words.specs.Words.{byte_at, half_at, word_at}
use Rattle.words.specs.Layout.{left}
use Rattle.words.proofs.Steps.{ok_value, ok_end}
use Rattle.words.specs.declared.layout.Fault.TheVariants.{RanOut, Disagrees}
use Rattle.urb.specs.Interfaces.{interface_field, interfaces_of, length_agrees, pipes_of}
use Rattle.urb.proofs.Walk.{never, interfaces_end, pipes_closed, pipes_end}

-- row by row the same Length, or the same two bytes there, and the same NumberOfPipes
abbrev pub Alike : List ℕ → List ℕ → ℕ → ℕ → ℕ → Type 0
Alike u v a b e = (j x y : ℕ) → x ≡ a + 12 * j → y ≡ b + 12 * j → x + 12 ≤ e → (half_at v y ≡ half_at u x) × (word_at v (y + 8) ≡ word_at u (x + 8))

-- a walk that came to an end: at so many rows behind its start, and in the other list at as many
abbrev pub Along : List ℕ → ℕ → ℕ → ℕ → ℕ → ℕ → ℕ → Type 0
Along v n most a b e p = (r : ℕ) × (e ≡ a + 12 * r) × (interfaces_of v n most b ≡ Ok ((b + 12 * r), p))

-- one interface and its pipes, in the other list
step_along : (u v : List ℕ) (n most a b r : ℕ) (p : ℕ) → b + 12 + 12 * word_at u (a + 8) ≤ length v → half_at v b ≡ half_at u a → word_at v (b + 8) ≡ word_at u (a + 8)
    → length_agrees (half_at u a) (word_at u (a + 8)) ≡ true → interfaces_of v n (max most (word_at u (a + 8))) (b + 12 + 12 * word_at u (a + 8)) ≡ Ok ((b + 12 + 12 * word_at u (a + 8) + 12 * r), p)
    → interfaces_of v (suc n) most b ≡ Ok ((b + 12 + 12 * word_at u (a + 8) + 12 * r), p)
unfolding interfaces_of
step_along u v n most a b r p l h w t i =
    rw (le-ltb (left v b) 12 (omega arith), h, w, t, pipes_closed v (interfaces_of v n (max most (word_at u (a + 8)))) (word_at u (a + 8)) (b + 12), le-ltb (left v (b + 12) / 12) (word_at u (a + 8)) (omega arith)) i

pub along : (u v : List ℕ) (n most a b e p : ℕ) → interfaces_of u n most a ≡ Ok (e, p) → Alike u v a b e → b + (e - a) ≤ length v → Along v n most a b e p
unfolding interfaces_of
along u v zero most a b e p h s l =
    let q = ok_value a e most p h in let o = ok_end a e most p h in
    (0, omega arith, let z : b ≡ b + 12 * 0 = omega arith in rw (← z, o))
along u v (suc n) most a b e p h s l = go (ltb (left u a) 12) refl (length_agrees (half_at u a) (word_at u (a + 8))) refl h (λ x y. along u v n (max most (word_at u (a + 8))) x y e p)
  where
    go : (d : Bool) → ltb (left u a) 12 ≡ d → (t : Bool) → length_agrees (half_at u a) (word_at u (a + 8)) ≡ t
        → cond d (Err (RanOut (a + interface_field (left u a)))) (cond t (pipes_of u (interfaces_of u n (max most (word_at u (a + 8)))) (word_at u (a + 8)) (a + 12)) (Err (Disagrees a))) ≡ Ok (e, p)
        → ((x y : ℕ) → interfaces_of u n (max most (word_at u (a + 8))) x ≡ Ok (e, p) → Alike u v x y e → y + (e - x) ≤ length v → Along v n (max most (word_at u (a + 8))) x y e p) → Along v (suc n) most a b e p
    go true d t f q i = never _ e p (λ z. cc) q
    go false d false f q i = never _ e p (λ z. cc) q
    go false d true f q i =
        let k = word_at u (a + 8) in
        let after = pipes_end u (interfaces_of u n (max most k)) k (a + 12) e p q in
        let x = after.0 in
        let last = (interfaces_end u n (max most k) x e p after.1).0 in
        let y = b + 12 + 12 * k in
        let rest = i x y after.1 (λ j x' y' ex ey m. s (1 + k + j) x' y' (omega (arith, after.2)) (omega arith) m) (omega (arith, after.2, last)) in
        let one = s 0 a b (omega arith) (omega arith) (omega (arith, after.2, last)) in
        let w = step_along u v n most a b rest.0 p (omega (arith, after.2, last)) one.0 one.1 f rest.2 in
        (1 + k + rest.0, omega (arith, after.2, rest.1), subst (λ z. interfaces_of v (suc n) most b ≡ Ok (z, p)) (further b k rest.0) w)
      where
        further : (b k r : ℕ) → b + 12 + 12 * k + 12 * r ≡ b + 12 * (1 + k + r)
        further b k r = omega arith

-- a message cut short: what stands before the cut stands there still
byte-take : (m : List ℕ) (k at : ℕ) → at < k → byte_at (take k m) at ≡ byte_at m at
byte-take m k at h = get_or-take k m at 0 h

pub half-take : (m : List ℕ) (k at : ℕ) → at + 2 ≤ k → half_at (take k m) at ≡ half_at m at
half-take m k at h = rw (byte-take m k at (omega arith), byte-take m k (at + 1) (omega arith))

pub word-take : (m : List ℕ) (k at : ℕ) → at + 4 ≤ k → word_at (take k m) at ≡ word_at m at
word-take m k at h = rw (byte-take m k at (omega arith), byte-take m k (at + 1) (omega arith), byte-take m k (at + 2) (omega arith), byte-take m k (at + 3) (omega arith))
