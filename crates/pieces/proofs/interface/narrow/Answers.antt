-- `pieces::interface::narrow` meets its contract: its chain of iterators, read from the test back to the slice.
use Rattle.std.proofs.Common.{rules, tests, ap, ◌∙◌, ◌*◌}
use Rattle.std.specs.Slice.Iter.{iter_rest}
use Rattle.pieces.proofs.Numbers.{narrow_chain}
use Rattle.pieces.proofs.interface.narrow.Goals as goal

pub returns : goal.returns
returns c =
    let tested = c.all.ensures.runs in
    let stepped = c.step_by.ensures.runs tested.0 tested.0.seen tested.1 in
    let skipped = c.skip.ensures.runs stepped.0 stepped.0.seen stepped.1 in
    let given = c.iter.ensures.runs skipped.0 skipped.0.seen in
    let from = ap iter_rest skipped.1 ∙ c.iter.ensures.rest in
    narrow_chain _ _ c.args.numbers.now c.all.result tested.0.whole tested.0.len stepped.0.len skipped.0.len tested.0.at skipped.0.at c.requires.whole c.requires.rows
    (λ x r f h. search (rules, tests)) (λ b h. search (rules, tests)) (λ b h. search (rules, tests))
    stepped.2.2 stepped.2.3 skipped.2.1 (rw from at given.0) (λ w. rw from at (given.1 (skipped.2.0 ∙ (stepped.2.0 ∙ w))))
    (λ k. stepped.2.4 k ∙ skipped.2.3 (k * 3)) (λ k d l. rw from at (given.2 k d l)) tested.2
