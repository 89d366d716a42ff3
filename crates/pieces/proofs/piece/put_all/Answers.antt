-- A turn of the loop.
use mathlib.Core.Path.{◌∙◌}
use native.Mathlib.Omega.{arith}
use Rattle.pieces.proofs.Pieces.{all_again}
use Rattle.pieces.proofs.piece.put_all.Goals as goal

pub loop-p-preserved : goal.loop-p-preserved
loop-p-preserved c =
    let r = all_again _ _ _ _ _ c.loop-p.p-index _ _ (omega arith) c.loop-p.invariant.0 c.size-at.ensures c.put.ensures in
    (r.0, r.1 ∙ c.loop-p.invariant.1)
