-- One interface out of plain numbers: what the tests say of them, how long its bytes are, and a turn of each loop over them.
use Rattle.std.specs.Prelude.{Option, Some, None, IfSome, IsSomeAnd}
use Rattle.std.specs.Option.{option_map}
use Rattle.std.specs.Bool.{MatchBool}
use Prim.Native.Nat.{ℕ, zero, suc, ◌+◌, ◌*◌, ◌-◌, ◌/◌, ◌%◌, ◌<◌, ◌≤◌}
use native.Mathlib.Numerals.{add-one}
use native.Mathlib.Omega.{arith}
use mathlib.Core.Path.{◌≡◌, refl, sym, ◌∙◌}
use mathlib.Core.List.{List, [], ◌∷◌, ◌++◌}
use mathlib.Core.Bool.{Bool, true, false, ◌&&◌}
use lib.ListN.{length, take, drop, get_or, drop_of_length-le, length-drop}
use lib.Dec.{leb}
use lib.Seq.{drop-cons, take_all}
use denote.Ref.{Bor}
use borrow.Author.Tests.{le-leb, lt-leb}
use Rattle.words.specs.Written.{written, word_bytes}
use Rattle.words.proofs.Written.{written_on}
use Rattle.pieces.proofs.Pieces.{written_over}
use Rattle.pieces.specs.Interface.{interface_bytes, narrow_from, numbers_bytes}

-- every pipe's number is narrow, and one is not
narrow_all : (ns : List ℕ) (at pipes : ℕ) → ((k : ℕ) → k < pipes → get_or ns (at + 3 * k) 0 ≤ 65535) → narrow_from ns at pipes ≡ true
unfolding narrow_from
narrow_all ns at zero f = refl
narrow_all ns at (suc pipes) f =
    let here : at + 3 * 0 ≡ at = omega arith in
    let first : get_or ns at 0 ≤ 65535 = rw here at (f 0 (omega arith)) in
    let next : (k : ℕ) → at + 3 + 3 * k ≡ at + 3 * suc k = λ k. omega arith in
    let others = narrow_all ns (at + 3) pipes (λ k h. rw (next k) (f (suc k) (omega arith))) in
    rw (le-leb (get_or ns at 0) 65535 first, others)

narrow_any : (ns : List ℕ) (at pipes k : ℕ) → k < pipes → 65535 < get_or ns (at + 3 * k) 0 → narrow_from ns at pipes ≡ false
unfolding narrow_from
narrow_any ns at zero k h o = absurd (omega arith)
narrow_any ns at (suc pipes) zero h o =
    let here : at + 3 * 0 ≡ at = omega arith in
    let first : 65535 < get_or ns at 0 = rw here at o in
    rw (lt-leb (get_or ns at 0) 65535 first)
narrow_any ns at (suc pipes) (suc k) h o =
    let next : at + 3 * suc k ≡ at + 3 + 3 * k = omega arith in
    let others = narrow_any ns (at + 3) pipes k (omega arith) (rw next at o) in
    rw others (and_false (leb (get_or ns at 0) 65535))
  where
    and_false : (b : Bool) → (b && false) ≡ false
    and_false true = refl
    and_false false = refl

-- an item that reads as n is there
item_of : (o : Option (Bor ℕ)) (n : ℕ) → option_map (λ b. b.now) o ≡ Some n → (b : Bor ℕ) × (o ≡ Some b) × (b.now ≡ n)
item_of None n e = let z : ◌≡◌ {A = ℕ} 0 1 = cc in absurd (omega arith)
item_of (Some b) n e = (b, refl, cc)

-- the test of the pipes as a chain of iterators: p items go to the test, every third of the q behind the interface's numbers, of the n that the slice gives. x has those of the slice and o those of the test,
-- which answered r: w says that they were all, and Y and N hold of an item that passed and of one that did not
pub narrow_chain : {K : Type 0} (Y N : Bor ℕ → Type 0) (ns : List ℕ) (r w : Bool) (p q n : ℕ) (o x : ℕ → Option (Bor ℕ))
    → 3 ≤ length ns → length ns % 3 ≡ 0 → K → ((b : Bor ℕ) → Y b → b.now ≤ 65535) → ((b : Bor ℕ) → N b → 65535 < b.now)
    → q ≤ p * 3 → p * 3 < q + 3 → q ≡ n - 3 → n ≤ length ns → (w ≡ true → n ≡ length ns)
    → ((k : ℕ) → o k ≡ x (3 + k * 3)) → ((k d : ℕ) → k < n → option_map (λ b. b.now) (x k) ≡ Some (get_or ns k d))
    → MatchBool r ((w ≡ true) × (K → (k : ℕ) → IfSome (o k) Y)) (K → (k : ℕ) × (k < p) × IsSomeAnd (o k) N)
    → r ≡ narrow_from ns 3 (length ns / 3 - 1)
narrow_chain Y N ns true w p q n o x three rows keep below above a b c d e f g m =
    sym (narrow_all ns 3 (length ns / 3 - 1) (λ k h.
    let whole = e m.0 in
    let place : 3 + k * 3 ≡ 3 + 3 * k = omega arith in
    let t = item_of (o k) (get_or ns (3 + 3 * k) 0) (rw (f k, ← place) (g (3 + k * 3) 0 (omega arith))) in
    rw (← t.2) (below t.0 (rw t.1 at (m.1 keep k)))))
narrow_chain Y N ns false w p q n o x three rows keep below above a b c d e f g m =
    let s = m keep in
    let place : 3 + s.0 * 3 ≡ 3 + 3 * s.0 = omega arith in
    let t = item_of (o s.0) (get_or ns (3 + 3 * s.0) 0) (rw (f s.0, ← place) (g (3 + s.0 * 3) 0 (omega arith))) in
    sym (narrow_any ns 3 (length ns / 3 - 1) s.0 (omega arith) (rw (← t.2) (above t.0 (rw t.1 at s.2))))

-- the sizes
pub numbers-length : (ns : List ℕ) → length (numbers_bytes ns) ≡ 4 * length ns
unfolding numbers_bytes
numbers-length [] = refl
numbers-length (n ∷ ns) = let e = numbers-length ns in omega arith

pub interface_length : (ns : List ℕ) → 3 ≤ length ns → length (interface_bytes ns) ≡ 4 * length ns
unfolding interface_bytes
interface_length ns h = omega (arith, numbers-length (drop 3 ns), length-drop 3 ns)

-- an interface over a buffer: its three words, and its pipes' numbers behind them
pub interface_put : (ns buf mid out : List ℕ) → 3 ≤ length ns → length buf ≡ 4 * length ns
    → mid ≡ written buf 0 (word_bytes (4 * length ns + 65536 * get_or ns 0 0) ++ (word_bytes (get_or ns 1 0 + 256 * get_or ns 2 0) ++ word_bytes (length ns / 3 - 1)))
    → out ≡ written mid 12 (numbers_bytes (take (length ns - 3) (drop 3 ns))) → out ≡ interface_bytes ns
unfolding interface_bytes
interface_put ns buf mid out h k p q =
    let all : take (length ns - 3) (drop 3 ns) ≡ drop 3 ns = take_all (length ns - 3) (drop 3 ns) (omega (arith, length-drop 3 ns)) in
    rw all at q ∙ written_on buf mid 0 12 _ (numbers_bytes (drop 3 ns)) refl p ∙ written_over buf _ (interface_length ns h ∙ sym k)

-- a turn of the loop that writes numbers, and its end
pub numbers_step : (ns buf : List ℕ) (at i : ℕ) → i < length ns
    → written buf (at + 4 * i) (numbers_bytes (drop i ns)) ≡ written (written buf (at + 4 * i) (word_bytes (get_or ns i 0))) (at + 4 * (i + 1)) (numbers_bytes (drop (i + 1) ns))
unfolding numbers_bytes
numbers_step ns buf at i h = rw (drop-cons ns i 0 h, add-one i) (sym (written_on buf _ (at + 4 * i) (at + 4 * suc i) (word_bytes (get_or ns i 0)) (numbers_bytes (drop (suc i) ns)) (omega arith) refl))

pub numbers_end : (ns buf : List ℕ) (at i : ℕ) → length ns ≤ i → written buf (at + 4 * i) (numbers_bytes (drop i ns)) ≡ buf
unfolding numbers_bytes written
numbers_end ns buf at i h = rw (drop_of_length-le ns h)
