-- A turn of the loop: with one more piece the sum is at most 65,535.
use Rattle.std.proofs.Common.{arith, sym, ◌∙◌}
use Rattle.pieces.proofs.Pieces.{total_next}
use Rattle.pieces.proofs.piece.add_up.Goals as goal

pub loop-p-preserved : goal.loop-p-preserved
loop-p-preserved c = record {
  bound = omega arith;
  left = total_next _ _ _ c.args.pieces c.loop-p.p-index (omega arith) (sym c.piece_lies.ensures ∙ c.if-not-piece_lies.false) c.size-more.ensures c.if-sum-more.false ∙ c.loop-p.invariant.left;
}
