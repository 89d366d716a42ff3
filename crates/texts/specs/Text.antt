-- A counted text of ADD_DEVICE (000 2.2.4.2): a count of 16-bit units, and the units.
use Rattle.std.specs.Prelude.{ℕ, ◌+◌, ◌-◌, ◌*◌, List, Bool, cond, ◌&&◌, eqb, leb, ltb, Result, Ok}
use Rattle.words.specs.Words.{half_at, word_at}
use Rattle.words.specs.Layout.{field}
use Rattle.texts.specs.declared.text.Text.{Text}
use Rattle.words.specs.declared.layout.Fault.{Fault}

-- the last of n units that end at a place, and the one before it: 0 where there is none
abbrev pub unit_back : List ℕ → ℕ → ℕ → ℕ → ℕ
unit_back m n end back = cond (ltb n back) 0 (half_at m (end - 2 * back))

abbrev pub last_unit : List ℕ → ℕ → ℕ → ℕ
last_unit m n end = unit_back m n end 1

abbrev pub prior_unit : List ℕ → ℕ → ℕ → ℕ
prior_unit m n end = unit_back m n end 2

-- n units from a place on
unfoldable pub units_of : List ℕ → ℕ → ℕ → Result (Text × ℕ) Fault
units_of m start n =
    field m start (2 * n)
    (Ok ((record { count = n; units = record { start = start; size = 2 * n }; last = last_unit m n (start + 2 * n); prior = prior_unit m n (start + 2 * n) }), (start + 2 * n)))

unfoldable pub text_of : List ℕ → ℕ → Result (Text × ℕ) Fault
text_of m at = field m at 4 (units_of m (at + 4) (word_at m at))

-- at most 512 units; it ends in unit 0, if it has one
abbrev pub text_allowed : Text → Bool
text_allowed t = leb t.count 512 && eqb t.last 0

-- the hardware and compatible ids: with two units or more they end in two units 0
abbrev pub list_allowed : Text → Bool
list_allowed t = text_allowed t && eqb t.prior 0
