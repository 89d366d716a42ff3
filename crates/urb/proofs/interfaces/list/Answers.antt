-- `urb::interfaces::list` meets its contract. The invariant: what is left of the list, walked from here on, is what the whole list is.
use Rattle.std.proofs.Common.{rules, ◌≡◌, Err, refl, ◌∙◌, arith}
use Rattle.urb.specs.Interfaces.{interfaces_of}
use Rattle.urb.proofs.Walk.{interfaces_split}
use Rattle.urb.proofs.interfaces.list.Goals as goal

pub loop-left-preserved : goal.loop-left-preserved
loop-left-preserved c = c.loop-left.invariant ∙ interfaces_split _ 32 _ _ _ (omega arith) ∙ rw (← c.in_ok-end.ensures) refl

pub returns-in_err-end : goal.returns-in_err-end
returns-in_err-end c =
    let q : interfaces_of c.args.s.now c.args.count 0 c.args.at ≡ Err c.in_err-end.field-0.0 = c.loop-left.invariant ∙ interfaces_split _ 32 _ _ _ (omega arith) ∙ rw (← c.in_err-end.ensures) refl in
    search rules

pub interface-requires-2 : goal.interface-requires-2
interface-requires-2 c = omega arith
