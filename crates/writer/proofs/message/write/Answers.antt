-- `writer::message::write` meets its contract: fields that are not given are refused, and the pieces of those that are given are written.
use Rattle.std.proofs.Common.{rules, ◌≡◌, true, false, ◌∙◌}
use Rattle.writer.specs.Message.{given_in}
use Rattle.writer.proofs.Messages.{as_written, not_given}
use Rattle.writer.proofs.message.write.Goals as goal

pub returns-then-not-given : goal.returns-then-not-given
returns-then-not-given c = let e : given_in c.args.lent.now c.args.fields ≡ false = search rules in not_given c.args.id c.args.fields c.args.lent.now c.args.buf.now e

pub returns : goal.returns
returns c =
    let e : given_in c.args.lent.now c.args.fields ≡ true = search rules in
    let w = as_written c.args.id c.args.fields c.args.lent.now c.args.buf.now _ e c.pieces.ensures in
    (c.write.ensures.0 ∙ w.0, c.write.ensures.1 ∙ w.1)
