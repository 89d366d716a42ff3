-- Every public function of rows asks nothing of its caller, and any two results that its contract allows are equal.
use Rattle.words.proofs.Determined.{Determined, same}
use Rattle.rows.proofs.search.lowest_free.Reads as lowest_free
use Rattle.rows.proofs.search.lowest_free.Kinds as lowest_free_kinds
use Rattle.rows.proofs.search.count_open.Reads as count_open
use Rattle.rows.proofs.search.count_open.Kinds as count_open_kinds

pub lowest_free_determined : Determined 0 lowest_free_kinds.ps lowest_free_kinds.r lowest_free.Pre lowest_free.Post
lowest_free_determined = record { asks_nothing = λ κs a. tt; one_result = λ κs a x y s t p q. same x y _ p q }

pub count_open_determined : Determined 0 count_open_kinds.ps count_open_kinds.r count_open.Pre count_open.Post
count_open_determined = record { asks_nothing = λ κs a. tt; one_result = λ κs a x y s t p q. same x y _ p q }
