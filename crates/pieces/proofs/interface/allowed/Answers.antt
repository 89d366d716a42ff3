-- `pieces::interface::allowed` meets its contract: past the tests there are no more numbers than an interface and 30 pipes have.
use Rattle.std.proofs.Common.{◌≤◌, length, rules, arith}
use Rattle.pieces.specs.Interface.{numbers_allowed}
use Rattle.pieces.proofs.interface.allowed.Goals as goal

pub returns-then-numbers-le255-2-clause-value : goal.returns-then-numbers-le255-2-clause-value
unfolding numbers_allowed
returns-then-numbers-le255-2-clause-value c =
    let few : length c.args.numbers.now ≤ 93 = grind arith in
    search rules
