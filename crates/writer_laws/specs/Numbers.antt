-- What a theorem says of an interface that was written from plain numbers, in rows of three: at a place of a message w it says them (000 2.2.9.1.2, 2.2.9.1.3).
use Rattle.std.specs.Prelude.{ℕ, ◌+◌, ◌*◌, ◌-◌, ◌/◌, ◌<◌, ◌≡◌, List, get_or, length, Ok, max}
use Rattle.words.specs.Words.{byte_at, half_at, word_at}
use Rattle.urb.specs.Interfaces.{interfaces_of}

-- a pipe whose numbers stand from the k-th on
pub record PipeSays (w : List ℕ) (at : ℕ) (ns : List ℕ) (k : ℕ) : Type 0 where
  pub packet : half_at w at ≡ get_or ns k 0
  pub padding : half_at w (at + 2) ≡ 0
  pub transfer : word_at w (at + 4) ≡ get_or ns (k + 1) 0
  pub flags : word_at w (at + 8) ≡ get_or ns (k + 2) 0

pub record InterfaceSays (w : List ℕ) (at : ℕ) (ns : List ℕ) : Type 0 where
  -- Length is 12 for each row, and NumberOfPipes the rows but one
  pub bytes : half_at w at ≡ 4 * length ns
  pub expected : half_at w (at + 2) ≡ get_or ns 0 0
  pub number : byte_at w (at + 4) ≡ get_or ns 1 0
  pub setting : byte_at w (at + 5) ≡ get_or ns 2 0
  pub padding : half_at w (at + 6) ≡ 0
  pub count : word_at w (at + 8) ≡ length ns / 3 - 1
  pub pipes : (j : ℕ) → j < length ns / 3 - 1 → PipeSays w (at + 12 + 12 * j) ns (3 + 3 * j)
  -- and the reader walks over it
  pub walked : (most : ℕ) → interfaces_of w 1 most at ≡ Ok ((at + 4 * length ns), (max most (length ns / 3 - 1)))
