-- `rows::search::count_open` meets its contract. The invariant: `n` counts the rows that the loop has passed.
use Rattle.std.proofs.Common.{◌≡◌, ◌≤◌, take}
use Rattle.std.specs.Prelude.{count_by}
use Rattle.rows.specs.Search.{used}
use Rattle.rows.proofs.search.count_open.Given as goal

abbrev pub invariant-loop-r : goal.invariant-loop-r
invariant-loop-r l = (l.n ≤ l.r-index) × (l.n ≡ count_by used (take l.r-index l.r-items))
