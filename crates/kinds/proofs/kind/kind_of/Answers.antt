-- The first row that fits gives its kind.
use Rattle.std.proofs.Common.{option_map, ap, ◌∙◌}
use Rattle.kinds.specs.declared.kind.Row.{Row}
use Rattle.kinds.specs.Kinds.{kinds}
use Rattle.kinds.proofs.Found.{found}
use Rattle.kinds.proofs.kind.kind_of.Goals as goal

pub returns : goal.returns
returns c = c.kind_in.ensures ∙ ap (λ o. option_map (λ (r : Row). r.kind) o) c.row_of.ensures ∙ rw c.rows.ensures (found kinds c.args.h c.args.side c.args.device c.args.callback)
