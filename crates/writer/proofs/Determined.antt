-- `writer::message::write` asks nothing of its caller, any two results that its contract allows are equal, and so are the buffers that it leaves.
use mathlib.Core.Path.{◌≡◌}
use contract.Lifetimes.{Lfts}
use denote.Triple.Clauses.{AtExit}
use borrow.Fn.Kinds.{Dens, res_t, ended_of}
use Rattle.words.proofs.Determined.{Determined, same}
use Rattle.writer.proofs.message.write.Reads as write
use Rattle.writer.proofs.message.write.Kinds as write_kinds

pub write_determined : Determined 2 write_kinds.ps write_kinds.r write.Pre write.Post
write_determined = record { asks_nothing = λ κs a. tt; one_result = λ κs a x y s t p q. same x y _ p.0 q.0 }

pub write_one_buffer : (κs : Lfts 2) (a : Dens κs write_kinds.ps) (x y : (res_t write_kinds.r κs).Denot) (s t : AtExit (ended_of 2 write_kinds.ps write_kinds.r) κs)
    → write.Post κs a x s → write.Post κs a y t → s.1.1.1.0.now ≡ t.1.1.1.0.now
write_one_buffer κs a x y s t p q = same s.1.1.1.0.now t.1.1.1.0.now _ p.1 q.1
