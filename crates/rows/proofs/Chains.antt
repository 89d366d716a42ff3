-- What a chain over rows gives, in the words of specs/Search.
use Rattle.std.specs.Prelude.{position, count_by, Some}
use Rattle.std.specs.List.{position_from}
use Rattle.std.proofs.lemmas.Iterator.Adapters.{position_from-zero}
use Rattle.std.proofs.lemmas.List.Recursion.{is_count_by}
use Prim.Native.Nat.{ℕ, ◌+◌}
use native.Mathlib.Omega.{arith}
use mathlib.Core.Path.{◌≡◌, refl, sym, ap, ◌∙◌}
use mathlib.Core.List.{List, [], ◌∷◌}
use mathlib.Core.Bool.{Bool, cond}
use Rattle.rows.specs.Search.{first_from, used, open_count}
use Rattle.channel.specs.declared.row.Row.{Row}

walked : (p : Row → Bool) (rs : List Row) (i : ℕ) → position_from p i rs ≡ first_from p rs i
unfolding first_from
walked p [] i = refl
walked p (r ∷ rs) i = ap (cond (p r) (Some i)) (walked p rs (i + 1))

-- the first row of all is what `position` gives
pub first_is : (p : Row → Bool) (rs : List Row) → first_from p rs 0 ≡ position p rs
first_is p rs = sym (position_from-zero p rs ∙ walked p rs 0)

-- how many rows are in use is what `count_by` gives
pub count_is : (rs : List Row) → open_count rs ≡ count_by used rs
unfolding open_count
count_is rs = is_count_by open_count used refl (λ r rs. grind arith) rs
