-- At the start nothing is counted, and behind the last row the loop has passed them all.
use Rattle.std.proofs.Common.{◌∙◌, refl, sym, ap, arith}
use Rattle.std.proofs.lemmas.List.{take_all}
use Rattle.std.specs.Prelude.{count_by}
use Rattle.rows.specs.Search.{used}
use Rattle.rows.proofs.Chains.{count_is}
use Rattle.rows.proofs.search.count_open.Goals as goal

pub loop-r-init : goal.loop-r-init
loop-r-init c = (omega arith, refl)

pub returns : goal.returns
returns c = c.loop-r.invariant.1 ∙ (ap (count_by used) (take_all c.loop-r.r-index c.args.c.rows (omega arith)) ∙ sym (count_is c.args.c.rows))
