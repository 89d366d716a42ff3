-- Demand 3 of the real calls, by the theory of `order`.
use Rattle.std.specs.Prelude.{Option, Some, None}
use Prim.Native.Nat.{ℕ, ◌+◌, ◌≤◌}
use native.Mathlib.Omega.{arith}
use mathlib.Core.Path.{◌≡◌, refl, sym, ap, ◌∙◌}
use mathlib.Core.List.{List, [], ◌∷◌, map}
use mathlib.Core.Bool.{Bool, true, false}
use lib.Dec.{eqb}
use lib.ListN.{get_or, length, length-map, get_or-map, replicate}
use Rattle.channel.specs.Rows.{new_channel}
use Rattle.channel.specs.declared.channel.Channel.{Channel}
use Rattle.answers.specs.declared.entry.Entry.{Entry}
use Rattle.table.specs.Table.{open_of}
use Rattle.journal.specs.Calls.{after, Call}
use Rattle.order.specs.Machine.{Given, given_on, gives, keep, ren_g}
use Rattle.order.specs.Reorder.{SameUnder}
use Rattle.order.proofs.Reorder.{reorder, same_length}
use Rattle.promises.specs.Demand3.{Demand3, done_on, Done, entries_of, no_entry, ren_channel, ren_done, ren_entry, ren_noted, run, SameCalls, tagged, with_entry}
use Rattle.promises.specs.Gate.{Gave, inside, outside, Place, ren_place}
use Rattle.promises.proofs.Gate.{gate}
use Rattle.promises.proofs.Journalled.{journalled}
use Rattle.promises.proofs.Runs.{after_is, done_of, next_is, run_is}

-- what is done on a channel is what the machine's run gives there
on_map : (d : ℕ) (gs : List (Given Gave)) → done_on d (map done_of gs) ≡ map done_of (given_on d gs)
on_map d [] = refl
on_map d (g ∷ gs) = go (eqb g.chan d) (on_map d gs)
  where
    go : (b : Bool) → done_on d (map done_of gs) ≡ map done_of (given_on d gs) → keep b (done_of g) (done_on d (map done_of gs)) ≡ map done_of (keep b g (given_on d gs))
    go true e = ap (λ r. done_of g ∷ r) e
    go false e = e

ren_map : (f : ℕ → ℕ) (gs : List (Given Gave)) → map done_of (map (ren_g gate f) gs) ≡ map (ren_done f) (map done_of gs)
ren_map f [] = refl
ren_map f (g ∷ gs) = ap (λ r. ren_done f (done_of g) ∷ r) (ren_map f gs)

-- channels are told by their places
unplace : Place → Channel
unplace outside = new_channel
unplace (inside c) = c

unplaced_same : (l : List Channel) → map unplace (map inside l) ≡ l
unfolding unplace
unplaced_same [] = refl
unplaced_same (c ∷ l) = ap (λ r. c ∷ r) (unplaced_same l)

ren_places : (f : ℕ → ℕ) (l : List Channel) → map (ren_place f) (map inside l) ≡ map inside (map (ren_channel f) l)
ren_places f [] = refl
ren_places f (c ∷ l) = ap (λ r. inside (ren_channel f c) ∷ r) (ren_places f l)

-- the entries of what was done, with other numbers
with_ren : (f : ℕ → ℕ) (n : Option Entry) (es : List Entry) → with_entry (ren_noted f n) (map (ren_entry f) es) ≡ map (ren_entry f) (with_entry n es)
with_ren f None es = refl
with_ren f (Some e) es = refl

entries_ren : (f : ℕ → ℕ) (ds : List Done) → entries_of (map (ren_done f) ds) ≡ map (ren_entry f) (entries_of ds)
entries_ren f [] = refl
entries_ren f (d ∷ ds) = ap (with_entry (ren_noted f d.entry)) (entries_ren f ds) ∙ with_ren f d.entry (entries_of ds)

-- (an entry of zeros, past the last one, stays one: f takes 0 to 0)
module _ (f : ℕ → ℕ) (z : f 0 ≡ 0) (es fs : List Entry) (same : fs ≡ map (ren_entry f) es) where
  at_ren : (j : ℕ) → get_or fs j no_entry ≡ ren_entry f (get_or es j no_entry)
  at_ren j =
      let past : no_entry ≡ ren_entry f no_entry = rw z in
      ap (λ l. get_or l j no_entry) same ∙ ap (get_or (map (ren_entry f) es) j) past ∙ get_or-map (ren_entry f) es j no_entry

  causes_ren : (i j : ℕ) → (get_or es j no_entry).cause ≡ (get_or es i no_entry).number → (get_or fs j no_entry).cause ≡ (get_or fs i no_entry).number
  causes_ren i j n = ap (λ (e : Entry). e.cause) (at_ren j) ∙ ap f n ∙ sym (ap (λ (e : Entry). e.number) (at_ren i))

-- the other order has as many calls
as_many : (xs ys : List Call) → SameCalls xs ys → length xs ≡ length ys
as_many xs ys same = let e = same_length (map tagged xs) (map tagged ys) same in simp length-map at e

as_long : (k : ℕ) (xs ys : List Call) → k + length xs ≤ 4294967295 → SameCalls xs ys → k + length ys ≤ 4294967295
as_long k xs ys h same = omega (arith, as_many xs ys same)

-- what the calls of each channel give
given_ren : (k : ℕ) (xs ys : List Call) (f : ℕ → ℕ) → 1 ≤ k → k + length xs ≤ 4294967295 → k + length ys ≤ 4294967295 → SameUnder gate 8 k (map tagged xs) (map tagged ys) f
    → (d : ℕ) → done_on d (run (open_of k) ys) ≡ map (ren_done f) (done_on d (run (open_of k) xs))
given_ren k xs ys f h hx hy r d =
    cc (
      run_is (open_of k) xs h hx refl,
      run_is (open_of k) ys h hy refl,
      on_map d (gives gate k (replicate 8 (inside new_channel)) (map tagged xs)),
      on_map d (gives gate k (replicate 8 (inside new_channel)) (map tagged ys)),
      r.given d,
      ren_map f (given_on d (gives gate k (replicate 8 (inside new_channel)) (map tagged xs))),
    )

-- Demand 3: for a table opened at k ≥ 1 and n calls with k + n ≤ 4,294,967,295, and any reordering that keeps each channel's calls in their order.
pub demand_3 : (k : ℕ) (xs ys : List Call) → 1 ≤ k → k + length xs ≤ 4294967295 → SameCalls xs ys → (f : ℕ → ℕ) × Demand3 k xs ys f
demand_3 k xs ys h hx same =
    let hy = as_long k xs ys hx same in
    let (f, r) = reorder gate 8 k (map tagged xs) (map tagged ys) h same in
    let given = given_ren k xs ys f h hx hy r in (
      f,
      record {
        renumbers = r.renumbers;
        given = given;
        causes = λ d. causes_ren f r.renumbers.none (entries_of (done_on d (run (open_of k) xs))) _ (ap entries_of (given d) ∙ entries_ren f (done_on d (run (open_of k) xs)));
        next = let n = next_is (open_of k) xs h hx refl in let m = next_is (open_of k) ys h hy refl in omega (arith, n, m, as_many xs ys same);
        channels =
            sym (unplaced_same (after (open_of k) ys).channels)
            ∙ ap (map unplace) (after_is (open_of k) ys h hy refl ∙ r.table ∙ ap (map (ren_place f)) (sym (after_is (open_of k) xs h hx refl)) ∙ ren_places f (after (open_of k) xs).channels)
            ∙ unplaced_same (map (ren_channel f) (after (open_of k) xs).channels);
        one = journalled k xs h hx;
        other = journalled k ys h hy;
      },
    )
