-- 01 "Answer numbers": the number of each answer.
use Rattle.std.specs.Prelude.{ℕ}
use Rattle.answers.specs.declared.answer.Answer.{Answer}
use Rattle.answers.specs.declared.answer.Answer.TheVariants.{Accepted, NoNumber, NoPlace, Short, Long, NoKind, WrongPhase, Sizes, Value, AlreadyOpen, Full, NotOpen, WrongSort, TooMuch, ResultDisagrees}

abbrev pub answer_number : Answer → ℕ
answer_number Accepted = 0
answer_number NoNumber = 1
answer_number NoPlace = 2
answer_number Short = 3
answer_number Long = 4
answer_number NoKind = 5
answer_number WrongPhase = 6
answer_number Sizes = 7
answer_number Value = 8
answer_number AlreadyOpen = 9
answer_number Full = 10
answer_number NotOpen = 11
answer_number WrongSort = 12
answer_number TooMuch = 13
answer_number ResultDisagrees = 14
