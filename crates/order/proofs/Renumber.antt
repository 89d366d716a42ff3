-- There is a renumbering: it gives each call of the one run, channel by channel, the number that the other run gave to it.
use mathlib.Core.Path.{◌≡◌, refl, sym, ap, ◌∙◌}
use mathlib.Core.Bool.{Bool, true, false}
use mathlib.Core.List.{List, [], ◌∷◌, map}
use Prim.Native.Nat.{ℕ, zero, suc, ◌≤◌, ◌<◌}
use native.Mathlib.Omega.{arith}
use native.Mathlib.Nat.{not-suc-le-zero, le_of_suc-le-suc}
use lib.Dec.{eqb, eqb→eq, T}
use borrow.Author.Tests.{eq-eqb, ne_eqb}
use lib.ListN.{length, get_or}
use Rattle.order.specs.Machine.{Tagged, keep, calls, numbers}
use Rattle.order.specs.Reorder.{Renumbers}

pick : {A : Type 0} → Bool → A → A → A
pick true a b = a
pick false a b = b

rest : List ℕ → List ℕ
rest [] = []
rest (x ∷ xs) = xs

-- what is left of the numbers that the other run gave to each channel, once channel c has taken one
after : ℕ → (ℕ → List ℕ) → ℕ → List ℕ
after c q d = pick (eqb c d) (rest (q d)) (q d)

renumber : {C : Type 0} → (ℕ → List ℕ) → ℕ → List (Tagged C) → ℕ → ℕ
renumber q n [] i = i
renumber q n (x ∷ xs) i = pick (eqb n i) (get_or (q x.chan) 0 0) (renumber (after x.chan q) (suc n) xs i)

renumber_zero : {C : Type 0} (q : ℕ → List ℕ) (n : ℕ) (xs : List (Tagged C)) → 0 < n → renumber q n xs 0 ≡ 0
unfolding renumber pick
renumber_zero q n [] h = refl
renumber_zero q n (x ∷ xs) h = rw (ne_eqb n 0 (λ p. omega arith)) (renumber_zero (after x.chan q) (suc n) xs (omega arith))

-- the numbers given from n on are n or more: two maps that agree there agree on them
agree : {C : Type 0} (f g : ℕ → ℕ) (d n : ℕ) (xs : List (Tagged C)) → ((i : ℕ) → n ≤ i → f i ≡ g i) → map f (numbers d n xs) ≡ map g (numbers d n xs)
agree f g d n [] h = refl
agree f g d n (x ∷ xs) h = go (eqb x.chan d) (agree f g d (suc n) xs (λ i l. h i (omega arith)))
  where
    go : (b : Bool) → map f (numbers d (suc n) xs) ≡ map g (numbers d (suc n) xs)
        → map f (keep b n (numbers d (suc n) xs)) ≡ map g (keep b n (numbers d (suc n) xs))
    go true ih = rw (h n (omega arith), ih)
    go false ih = ih

-- one call of the run of xs: what is left is as long as what is to come, and the next number is the head
left : (b : Bool) (n : ℕ) (l L : List ℕ) → length l ≡ length (keep b n L) → length (pick b (rest l) l) ≡ length L
unfolding pick rest
left true n [] L e = absurd (omega arith)
left true n (a ∷ l) L e = omega arith
left false n l L e = e

put : (b : Bool) (f : ℕ → ℕ) (n : ℕ) (l L : List ℕ) → length l ≡ length (keep b n L) → (T b → f n ≡ get_or l 0 0) → map f L ≡ pick b (rest l) l
    → map f (keep b n L) ≡ l
unfolding pick rest
put true f n [] L e h ih = absurd (omega arith)
put true f n (a ∷ l) L e h ih = rw (h tt, ih)
put false f n l L e h ih = ih

empty : (l : List ℕ) → length l ≡ 0 → [] ≡ l
empty [] e = refl
empty (a ∷ l) e = absurd (omega arith)

renumber_takes : {C : Type 0} (q : ℕ → List ℕ) (n : ℕ) (xs : List (Tagged C))
    → ((d : ℕ) → length (q d) ≡ length (numbers d n xs)) → (d : ℕ) → map (renumber q n xs) (numbers d n xs) ≡ q d
unfolding renumber pick after
renumber_takes q n [] h d = empty (q d) (h d)
renumber_takes q n (x ∷ xs) h d =
    put (eqb x.chan d) (renumber q n (x ∷ xs)) n (q d) (numbers d (suc n) xs) (h d)
    (λ t. rw (eq-eqb n n refl, eqb→eq x.chan d t))
    (agree (renumber q n (x ∷ xs)) (renumber (after x.chan q) (suc n) xs) d (suc n) xs (λ i l. rw (ne_eqb n i (λ p. omega arith)))
    ∙ renumber_takes (after x.chan q) (suc n) xs (λ j. left (eqb x.chan j) n (q j) (numbers j (suc n) xs) (h j)) d)

length-numbers : {C : Type 0} (d n : ℕ) (xs : List (Tagged C)) → length (numbers d n xs) ≡ length (calls d xs)
length-numbers d n [] = refl
length-numbers d n (x ∷ xs) = go (eqb x.chan d) (length-numbers d (suc n) xs)
  where
    go : (b : Bool) → length (numbers d (suc n) xs) ≡ length (calls d xs)
        → length (keep b n (numbers d (suc n) xs)) ≡ length (keep b x.call (calls d xs))
    go true ih = ap suc ih
    go false ih = ih

-- f gives 0 for 0 alone
AllPos : List ℕ → Type 0
AllPos l = (j : ℕ) → j < length l → 1 ≤ get_or l j 0

pos_left : (b : Bool) (l : List ℕ) → AllPos l → AllPos (pick b (rest l) l)
unfolding AllPos pick rest
pos_left true [] h j t = h j t
pos_left true (a ∷ l) h j t = h (suc j) (omega arith)
pos_left false l h j t = h j t

pos_numbers : {C : Type 0} (d n : ℕ) (xs : List (Tagged C)) → 1 ≤ n → AllPos (numbers d n xs)
unfolding AllPos
pos_numbers d n [] h = λ j t. absurd (not-suc-le-zero t)
pos_numbers d n (x ∷ xs) h = go (eqb x.chan d) (pos_numbers d (suc n) xs (omega arith))
  where
    go : (b : Bool) → AllPos (numbers d (suc n) xs) → AllPos (keep b n (numbers d (suc n) xs))
    go true ih zero t = h
    go true ih (suc j) t = ih j (le_of_suc-le-suc t)
    go false ih j t = ih j t

renumber_some : {C : Type 0} (q : ℕ → List ℕ) (n : ℕ) (xs : List (Tagged C)) → ((d : ℕ) → length (q d) ≡ length (numbers d n xs))
    → ((d : ℕ) → AllPos (q d)) → (i : ℕ) → 1 ≤ i → 1 ≤ renumber q n xs i
unfolding renumber pick after AllPos
renumber_some q n [] h p i l = l
renumber_some q n (x ∷ xs) h p i l =
    go (eqb n i) (renumber_some (after x.chan q) (suc n) xs
    (λ j. left (eqb x.chan j) n (q j) (numbers j (suc n) xs) (h j)) (λ j. pos_left (eqb x.chan j) (q j) (p j)) i l)
  where
    head : 1 ≤ get_or (q x.chan) 0 0
    head = p x.chan 0 (rw (h x.chan, eq-eqb x.chan x.chan refl) (omega arith))

    go : (b : Bool) → 1 ≤ renumber (after x.chan q) (suc n) xs i → 1 ≤ pick b (get_or (q x.chan) 0 0) (renumber (after x.chan q) (suc n) xs i)
    go true ih = head
    go false ih = ih

-- it asks only that each channel has as many calls in the one as in the other
pub renumbering : {C : Type 0} (k : ℕ) (xs ys : List (Tagged C)) → 1 ≤ k → ((d : ℕ) → length (calls d xs) ≡ length (calls d ys)) → (f : ℕ → ℕ) × Renumbers k xs ys f
renumbering k xs ys h same = (
  renumber (λ d. numbers d k ys) k xs,
  record {
    none = renumber_zero (λ d. numbers d k ys) k xs h;
    some = renumber_some (λ d. numbers d k ys) k xs as_long (λ d. pos_numbers d k ys h);
    takes = renumber_takes (λ d. numbers d k ys) k xs as_long;
  },
)
  where
    as_long : (d : ℕ) → length (numbers d k ys) ≡ length (numbers d k xs)
    as_long d = length-numbers d k ys ∙ sym (same d) ∙ sym (length-numbers d k xs)
