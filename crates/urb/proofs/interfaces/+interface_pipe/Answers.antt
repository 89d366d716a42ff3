-- Each return is the definition's first test that fails, or what the rest of the list gives.
use borrow.Author.Tests.{lt-ltb, le-ltb, ne_eqb}
use Rattle.words.proofs.Tests.{tests}
use Rattle.urb.proofs.Walk.{interfaces_step, pipes_closed}
use Rattle.urb.proofs.interfaces.+interface_pipe.Goals as goal

pub interface-returns-then-left-eq0 : goal.interface-returns-then-left-eq0
interface-returns-then-left-eq0 t c = rw interfaces_step (search tests)

pub interface-returns-then-bytes-lt12 : goal.interface-returns-then-bytes-lt12
interface-returns-then-bytes-lt12 t c = rw (interfaces_step, ne_eqb _ _ c.if-left-eq0.false, ← c.rest-bytes.ensures, lt-ltb _ _ c.if-bytes-lt12.true, ← c.interface_field.ensures.0)

pub interface-returns-then-length_agrees : goal.interface-returns-then-length_agrees
interface-returns-then-length_agrees t c =
    rw (interfaces_step, ne_eqb _ _ c.if-left-eq0.false, ← c.rest-bytes.ensures, le-ltb _ _ c.if-bytes-lt12.false, ← c.u32_at-pipes.ensures, ← c.u16_at.ensures, ← c.if-length_agrees.ensures, ← c.max.ensures, ← c.pipe.ensures)

pub interface-returns-else-length_agrees : goal.interface-returns-else-length_agrees
interface-returns-else-length_agrees t c =
    rw (interfaces_step, ne_eqb _ _ c.if-left-eq0.false, ← c.rest-bytes.ensures, le-ltb _ _ c.if-bytes-lt12.false, ← c.u32_at-pipes.ensures, ← c.u16_at.ensures, ← c.if-length_agrees.ensures)

pub pipe-returns-then-whole-pipes : goal.pipe-returns-then-whole-pipes
pipe-returns-then-whole-pipes t c = rw (pipes_closed, ← c.rest-bytes.ensures, lt-ltb _ _ c.if-whole-pipes.true, ← c.pipe_field.ensures.0)

pub pipe-returns : goal.pipe-returns
pipe-returns t c = rw (pipes_closed, ← c.rest-bytes.ensures, le-ltb _ _ c.if-whole-pipes.false, ← c.interface.ensures)
