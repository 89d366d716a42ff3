-- Past the end of a message every number is 0.
use Prim.Native.Nat.{ℕ, ◌+◌, ◌≤◌}
use native.Mathlib.Omega.{arith}
use mathlib.Core.Path.{◌≡◌, sym}
use mathlib.Core.List.{List}
use lib.ListN.{length, get_or-eq_default}
use Rattle.words.specs.Words.{byte_at, half_at, word_at}

past : (m : List ℕ) (at k : ℕ) → length m ≤ at → byte_at m (at + k) ≡ 0
past m at k h = get_or-eq_default m 0 (omega arith)

pub byte_past : (m : List ℕ) (at : ℕ) → length m ≤ at → 0 ≡ byte_at m at
byte_past m at h = sym (get_or-eq_default m 0 h)

pub half_past : (m : List ℕ) (at : ℕ) → length m ≤ at → 0 ≡ half_at m at
half_past m at h = omega (arith, byte_past m at h, past m at 1 h)

pub word_past : (m : List ℕ) (at : ℕ) → length m ≤ at → 0 ≡ word_at m at
word_past m at h = omega (arith, byte_past m at h, past m at 1 h, past m at 2 h, past m at 3 h)
