-- A variable field: a part of the lent bytes that lies in them, and is not longer than a message may be.
use Rattle.std.specs.Prelude.{ℕ, ◌-◌, List, Bool, false, cond, length, leb, ltb}
use Rattle.words.specs.declared.layout.Part.{Part}

abbrev pub part_allowed : List ℕ → Part → Bool
part_allowed s p = cond (ltb (length s) p.start) false (cond (ltb (length s - p.start) p.size) false (leb p.size 65535))
