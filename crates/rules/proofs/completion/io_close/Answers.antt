-- `rules::completion::io_close` meets its contract. The two sizes are named, since a search would meet its bound where the code compares them wrongly.
use borrow.Author.Tests.{lt-ltb}
use Rattle.rules.proofs.completion.io_close.Goals as goal

pub returns-then-o-c : goal.returns-then-o-c
returns-then-o-c c = rw (lt-ltb c.args.o.size c.args.c.size c.if-o-c.true) c.refuse.ensures
