-- The interface and pipe lists: one step of the interfaces as the code tests it, the pipes all at once, where a list ends, and a list in pieces.
use Rattle.std.specs.Prelude.{Result, Ok, Err, max}
use Prim.Native.Nat.{ℕ, zero, suc, ◌+◌, ◌-◌, ◌*◌, ◌/◌, ◌%◌, ◌≤◌}
use native.Mathlib.Nat.{add-zero, sub-zero, suc-sub-suc}
use native.Mathlib.Numerals.{sub-one}
use native.Mathlib.Omega.{arith}
use mathlib.Core.Path.{◌≡◌, refl}
use mathlib.Core.List.{List}
use mathlib.Core.Bool.{Bool, true, false, cond}
use lib.ListN.{length}
use lib.Dec.{ltb, eqb, eqb-suc-zero, leb-suc-suc}
use borrow.Author.Tests.{ltb-true, ltb-false, lt-ltb, le-ltb}
use Rattle.words.specs.Words.{half_at, word_at}
use Rattle.words.specs.Layout.{left}
use Rattle.words.proofs.Steps.{ok_value}
use Rattle.urb.specs.Interfaces.{interface_field, pipe_field, length_agrees, interfaces_of, pipes_of}
use Rattle.words.specs.declared.layout.Fault.TheVariants.{RanOut, Disagrees}
use Rattle.words.specs.declared.layout.Fault.{Fault}

pub interfaces_step : (u : List ℕ) (n most at : ℕ) → interfaces_of u n most at ≡ cond (eqb n 0) (Ok (at, most)) (cond (ltb (left u at) 12) (Err (RanOut (at + interface_field (left u at)))) (cond (length_agrees (half_at u at) (word_at u (at + 8))) (pipes_of u (interfaces_of u (n - 1) (max most (word_at u (at + 8)))) (word_at u (at + 8)) (at + 12)) (Err (Disagrees at))))
unfolding interfaces_of
interfaces_step u zero most at = refl
interfaces_step u (suc n) most at = simp (eqb-suc-zero, sub-one)

-- pipes passed by their number: the bytes left hold so many whole ones, and where that is too few the next one breaks
abbrev pub passed : ℕ → (ℕ → Result (ℕ × ℕ) Fault) → ℕ → ℕ → Result (ℕ × ℕ) Fault
passed bytes next n at = cond (ltb (bytes / 12) n) (Err (RanOut (at + 12 * (bytes / 12) + pipe_field (bytes % 12)))) (next (at + 12 * n))

pub pipes_closed : (u : List ℕ) (next : ℕ → Result (ℕ × ℕ) Fault) (n at : ℕ) → pipes_of u next n at ≡ passed (left u at) next n at
unfolding pipes_of
pipes_closed u next zero at = rw (le-ltb (left u at / 12) 0 (omega arith), add-zero at)
pipes_closed u next (suc n) at = go (ltb (left u at) 12) refl (pipes_closed u next n (at + 12))
  where
    further : (k : ℕ) → at + 12 * suc k ≡ at + 12 + 12 * k
    further k = omega arith

    go : (b : Bool) → ltb (left u at) 12 ≡ b → pipes_of u next n (at + 12) ≡ passed (left u (at + 12)) next n (at + 12) → cond b (Err (RanOut (at + pipe_field (left u at)))) (pipes_of u next n (at + 12)) ≡ passed (left u at) next (suc n) at
    go true t i =
        let few = ltb-true (left u at) 12 t in
        let none : left u at / 12 ≡ 0 = omega arith in
        let all : left u at % 12 ≡ left u at = omega arith in
        rw (none, all, lt-ltb 0 (suc n) (omega arith), add-zero at)
    go false t i =
        let room = ltb-false (left u at) 12 t in
        let q = left u (at + 12) / 12 in
        let one : left u at / 12 ≡ suc q = omega arith in
        let same : left u at % 12 ≡ left u (at + 12) % 12 = omega arith in
        rw (i, one, same, leb-suc-suc (suc q) n, further q, further n)

pub never : (x : Result (ℕ × ℕ) Fault) (e p : ℕ) {A : Type 0} → (x ≡ Ok (e, p) → ◌≡◌ {A = ℕ} 0 1) → x ≡ Ok (e, p) → A
never x e p f h = let z = f h in absurd (omega arith)

-- pipes that are all there: what follows starts 12 bytes on for each
pub pipes_end : (u : List ℕ) (next : ℕ → Result (ℕ × ℕ) Fault) (n at e p : ℕ) → pipes_of u next n at ≡ Ok (e, p) → (x : ℕ) × (next x ≡ Ok (e, p)) × (x ≡ at + 12 * n) × (at ≤ length u → x ≤ length u)
pipes_end u next n at e p h = go (ltb (left u at / 12) n) refl (rw pipes_closed at h)
  where
    go : (b : Bool) → ltb (left u at / 12) n ≡ b → cond b (Err (RanOut (at + 12 * (left u at / 12) + pipe_field (left u at % 12)))) (next (at + 12 * n)) ≡ Ok (e, p) → (x : ℕ) × (next x ≡ Ok (e, p)) × (x ≡ at + 12 * n) × (at ≤ length u → x ≤ length u)
    go true t q = never _ e p (λ z. cc) q
    go false t q =
        let room = ltb-false (left u at / 12) n t in
        (at + 12 * n, q, refl, λ l. omega arith)

-- interfaces that are all there end behind their start and within the bytes
pub interfaces_end : (u : List ℕ) (n most at e p : ℕ) → interfaces_of u n most at ≡ Ok (e, p) → (at ≤ e) × (at ≤ length u → e ≤ length u)
unfolding interfaces_of
interfaces_end u zero most at e p h =
    let q = ok_value at e most p h in
    (omega arith, λ l. omega arith)
interfaces_end u (suc n) most at e p h = go (ltb (left u at) 12) refl (length_agrees (half_at u at) (word_at u (at + 8))) h (λ m x. interfaces_end u n m x e p)
  where
    go : (b : Bool) → ltb (left u at) 12 ≡ b → (t : Bool) → cond b (Err (RanOut (at + interface_field (left u at)))) (cond t (pipes_of u (interfaces_of u n (max most (word_at u (at + 8)))) (word_at u (at + 8)) (at + 12)) (Err (Disagrees at))) ≡ Ok (e, p) → ((m x : ℕ) → interfaces_of u n m x ≡ Ok (e, p) → (x ≤ e) × (x ≤ length u → e ≤ length u)) → (at ≤ e) × (at ≤ length u → e ≤ length u)
    go true r t q i = never _ e p (λ z. cc) q
    go false r false q i = never _ e p (λ z. cc) q
    go false r true q i =
        let room = ltb-false (left u at) 12 r in
        let after = pipes_end u (interfaces_of u n (max most (word_at u (at + 8)))) (word_at u (at + 8)) (at + 12) e p q in
        let rest = i (max most (word_at u (at + 8))) after.0 after.1 in
        (omega (arith, after.2, rest.0), λ l. rest.1 (after.3 (omega arith)))

-- what follows a walk: it goes on where that ended, with the pipe count that it found
abbrev pub followed : Result (ℕ × ℕ) Fault → (ℕ → ℕ → Result (ℕ × ℕ) Fault) → Result (ℕ × ℕ) Fault
followed (Ok (e, p)) next = next e p
followed (Err fault) next = Err fault

followed_cond : (b : Bool) (v w : Result (ℕ × ℕ) Fault) (next : ℕ → ℕ → Result (ℕ × ℕ) Fault) → followed (cond b v w) next ≡ cond b (followed v next) (followed w next)
followed_cond true v w next = refl
followed_cond false v w next = refl

-- a list is its first k interfaces, followed by the others
pub interfaces_split : (u : List ℕ) (k n most at : ℕ) → k ≤ n → interfaces_of u n most at ≡ followed (interfaces_of u k most at) (λ e p. interfaces_of u (n - k) p e)
unfolding interfaces_of
interfaces_split u zero n most at l = rw (sub-zero n)
interfaces_split u (suc k) zero most at l = absurd (omega arith)
interfaces_split u (suc k) (suc n) most at l = rw (suc-sub-suc, pipes_closed, pipes_closed, followed_cond, followed_cond, followed_cond, interfaces_split u k n (max most (word_at u (at + 8))) (at + 12 + 12 * word_at u (at + 8)) (omega arith))
