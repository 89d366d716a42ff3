-- Little-endian numbers at a place of a message. A byte past the end counts as 0.
use Rattle.std.specs.Prelude.{ℕ, ◌+◌, ◌*◌, List, get_or}

abbrev pub byte_at : List ℕ → ℕ → ℕ
byte_at m at = get_or m at 0

abbrev pub half_at : List ℕ → ℕ → ℕ
half_at m at = byte_at m at + 256 * byte_at m (at + 1)

abbrev pub word_at : List ℕ → ℕ → ℕ
word_at m at = byte_at m at + 256 * byte_at m (at + 1) + 65536 * byte_at m (at + 2) + 16777216 * byte_at m (at + 3)
