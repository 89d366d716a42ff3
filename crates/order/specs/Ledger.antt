-- The smallest machine that keeps a number: a channel gives the number of the call before, and stores that of this one.
use Rattle.std.specs.Prelude.{ℕ}

-- the number that is stored; there is none where there is no channel
pub data Stored : Type 0 where
  nowhere : Stored
  last : ℕ → Stored

abbrev pub ledger_step : ℕ → Stored → Unit {0} → ℕ × Stored
ledger_step n nowhere c = (0, nowhere)
ledger_step n (last k) c = (k, last n)

abbrev pub ren_stored : (ℕ → ℕ) → Stored → Stored
ren_stored f nowhere = nowhere
ren_stored f (last k) = last (f k)
