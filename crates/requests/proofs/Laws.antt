-- Where nothing is open under an id, no row holds it.
use Rattle.std.specs.Prelude.{Option, Some, None}
use Prim.Native.Nat.{ℕ}
use native.Mathlib.Omega.{arith}
use mathlib.Core.Path.{◌≡◌, refl, sym, ap, ◌∙◌}
use mathlib.Core.Bool.{true, false}
use lib.ListN.{get_or}
use Rattle.header.specs.declared.ids.RequestId.{RequestId}
use Rattle.channel.specs.Rows.{free_row}
use Rattle.requests.specs.Held.{holds, holds_by, find_of, held_by, held_at, held_of}
use Rattle.channel.specs.declared.row.Sort.{Sort}
use Rattle.channel.specs.declared.row.Sort.TheVariants.{Free, Io, In, Out}
use Rattle.channel.specs.declared.channel.Channel.{Channel}
use Rattle.requests.specs.declared.open.Held.TheVariants as held
use Rattle.rows.proofs.Laws.{first_nowhere, first_there}

-- nothing is open under an id: no row holds it
not_held : (id : RequestId) (at : ℕ) (s : Sort) → held_by at s ≡ held.Nothing → holds_by id s ≡ false
not_held id at Free e = refl
not_held id at (Io o) e = let z : ◌≡◌ {A = ℕ} 0 1 = cc in absurd (omega arith)
not_held id at (In o) e = let z : ◌≡◌ {A = ℕ} 0 1 = cc in absurd (omega arith)
not_held id at (Out o) e = let z : ◌≡◌ {A = ℕ} 0 1 = cc in absurd (omega arith)

pub nothing_held : (c : Channel) (id : RequestId) → held_of c id ≡ held.Nothing → (i : ℕ) → holds id (get_or c.rows i free_row) ≡ false
unfolding held_of
nothing_held c id = go (find_of c id) refl
  where
    go : (f : Option ℕ) → find_of c id ≡ f → held_at c.rows f ≡ held.Nothing → (i : ℕ) → holds id (get_or c.rows i free_row) ≡ false
    go None t e i = first_nowhere (holds id) c.rows 0 refl t i
    go (Some at) t e i =
        let (k, h) = first_there (holds id) c.rows 0 at t in
        let q : at ≡ k = omega (arith, h.0) in
        let z : true ≡ false = sym h.1 ∙ ap (λ n. holds id (get_or c.rows n free_row)) (sym q) ∙ not_held id at (get_or c.rows at free_row).sort e in
        let y : ◌≡◌ {A = ℕ} 0 1 = cc in
        absurd (omega arith)
