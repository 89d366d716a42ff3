-- 01 "Payload": of an accepted message its input or output bytes, of all else the empty part; against the table before the message is judged.
use Rattle.std.specs.Prelude.{ℕ, ◌+◌, ◌-◌, List, [], cond, length, take, drop, ltb, Ok, Err}
use Rattle.words.specs.declared.layout.Part.{Part}
use Rattle.wire.specs.Message.{empty_part}
use Rattle.table.specs.Table.{channel_of}
use Rattle.places.specs.Place.{no_place, used_up}
use Rattle.turn.specs.Step.{verdict_of}
use Rattle.table.specs.declared.table.Table.{Table}
use Rattle.rules.specs.Verdict.{Verdict}

abbrev pub shown_by : Verdict → Part
shown_by (Err r) = empty_part
shown_by (Ok a) = a.payload

-- where the payload lies
unfoldable pub shown_of : Table → ℕ → ℕ → List ℕ → Part
shown_of t channel side m =
    cond (used_up t.next) empty_part
    (cond (no_place channel side) empty_part
    (shown_by (verdict_of (channel_of t channel) t.next side m)))

-- the bytes of a part; of one that would reach beyond the message none
unfoldable pub cut_of : List ℕ → Part → List ℕ
cut_of m p =
    cond (ltb (length m) p.start) []
    (cond (ltb (length m - p.start) p.size) []
    (take p.size (drop p.start m)))

unfoldable pub payload_of : Table → ℕ → ℕ → List ℕ → List ℕ
payload_of t channel side m = cut_of m (shown_of t channel side m)

-- a part of the message as lent and not a copy: it starts so many bytes behind the place that the message's reference points to (a block and an offset); an empty part where the message starts
abbrev pub behind : ℕ × ℕ → ℕ → ℕ × ℕ
behind place n = (place.0, n + place.1)

unfoldable pub start_in : List ℕ → Part → ℕ
start_in m p =
    cond (ltb (length m) p.start) 0
    (cond (ltb (length m - p.start) p.size) 0
    p.start)

unfoldable pub start_of : Table → ℕ → ℕ → List ℕ → ℕ
start_of t channel side m = start_in m (shown_of t channel side m)
