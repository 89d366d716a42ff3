-- Every public function of pieces asks nothing of its caller, and any two results that its contract allows are equal; so are the buffers that each `write` leaves.
use mathlib.Core.Path.{◌≡◌}
use contract.Lifetimes.{Lfts}
use denote.Triple.Clauses.{AtExit}
use borrow.Fn.Kinds.{Dens, res_t, ended_of}
use Rattle.words.proofs.Determined.{Determined, same}
use Rattle.pieces.proofs.piece.number.Reads as number
use Rattle.pieces.proofs.piece.number.Kinds as number_kinds
use Rattle.pieces.proofs.piece.write.Reads as write
use Rattle.pieces.proofs.piece.write.Kinds as write_kinds
use Rattle.pieces.proofs.interface.write.Reads as interface_write
use Rattle.pieces.proofs.interface.write.Kinds as interface_write_kinds

pub number_determined : Determined 0 number_kinds.ps number_kinds.r number.Pre number.Post
number_determined = record { asks_nothing = λ κs a. tt; one_result = λ κs a x y s t p q. same x y _ p q }

pub write_determined : Determined 2 write_kinds.ps write_kinds.r write.Pre write.Post
write_determined = record { asks_nothing = λ κs a. tt; one_result = λ κs a x y s t p q. same x y _ p.0 q.0 }

pub interface_write_determined : Determined 2 interface_write_kinds.ps interface_write_kinds.r interface_write.Pre interface_write.Post
interface_write_determined = record { asks_nothing = λ κs a. tt; one_result = λ κs a x y s t p q. same x y _ p.0 q.0 }

-- what each `write` leaves in the buffer is determined too
pub write_one_buffer : (κs : Lfts 2) (a : Dens κs write_kinds.ps) (x y : (res_t write_kinds.r κs).Denot) (s t : AtExit (ended_of 2 write_kinds.ps write_kinds.r) κs)
    → write.Post κs a x s → write.Post κs a y t → s.1.1.0.now ≡ t.1.1.0.now
write_one_buffer κs a x y s t p q = same s.1.1.0.now t.1.1.0.now _ p.1 q.1

pub interface_write_one_buffer : (κs : Lfts 2) (a : Dens κs interface_write_kinds.ps) (x y : (res_t interface_write_kinds.r κs).Denot) (s t : AtExit (ended_of 2 interface_write_kinds.ps interface_write_kinds.r) κs)
    → interface_write.Post κs a x s → interface_write.Post κs a y t → s.1.0.now ≡ t.1.0.now
interface_write_one_buffer κs a x y s t p q = same s.1.0.now t.1.0.now _ p.1 q.1
