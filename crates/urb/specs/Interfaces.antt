-- The interfaces of a select URB, and their pipes (000 2.2.9.1.2, 2.2.9.1.3).
use Rattle.std.specs.Prelude.{ℕ, zero, suc, ◌+◌, ◌*◌, List, Bool, cond, max, ltb, eqb, Result, Ok, Err}
use Rattle.words.specs.Words.{half_at, word_at}
use Rattle.words.specs.Layout.{left}
use Rattle.words.specs.declared.layout.Fault.TheVariants.{RanOut, Disagrees}
use Rattle.words.specs.declared.layout.Fault.{Fault}

-- the start of the field of an interface that n bytes no longer hold: Length 0, NumberOfPipesExpected 2, InterfaceNumber 4,
-- AlternateSetting 5, Padding 6, NumberOfPipes 8
abbrev pub interface_field : ℕ → ℕ
interface_field n = cond (ltb n 2) 0 (cond (ltb n 4) 2 (cond (ltb n 5) 4 (cond (ltb n 6) 5 (cond (ltb n 8) 6 8))))

-- and of a pipe: MaximumPacketSize 0, Padding 2, MaximumTransferSize 4, PipeFlags 8
abbrev pub pipe_field : ℕ → ℕ
pipe_field n = cond (ltb n 2) 0 (cond (ltb n 4) 2 (cond (ltb n 8) 4 8))

-- Length is 12 + 12 times the pipe count
abbrev pub length_agrees : ℕ → ℕ → Bool
length_agrees told pipes = eqb told (12 + 12 * pipes)

-- pipes from a place on, and then what `next` says of the place behind them
unfoldable pub pipes_of : List ℕ → (ℕ → Result (ℕ × ℕ) Fault) → ℕ → ℕ → Result (ℕ × ℕ) Fault
pipes_of u next zero at = next at
pipes_of u next (suc n) at = cond (ltb (left u at) 12) (Err (RanOut (at + pipe_field (left u at)))) (pipes_of u next n (at + 12))

-- interfaces from a place on, where `most` is the largest NumberOfPipes before it. The next one starts where the last pipe ends
unfoldable pub interfaces_of : List ℕ → ℕ → ℕ → ℕ → Result (ℕ × ℕ) Fault
interfaces_of u zero most at = Ok (at, most)
interfaces_of u (suc n) most at =
    cond (ltb (left u at) 12) (Err (RanOut (at + interface_field (left u at))))
    (cond (length_agrees (half_at u at) (word_at u (at + 8)))
    (pipes_of u (interfaces_of u n (max most (word_at u (at + 8)))) (word_at u (at + 8)) (at + 12))
    (Err (Disagrees at)))
