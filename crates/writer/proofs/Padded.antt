-- The pieces that have no bytes, behind those of a message, change nothing of what is written.
use Rattle.std.specs.Prelude.{Some}
use Prim.Native.Nat.{ℕ, zero, suc, ◌+◌, ◌-◌}
use mathlib.Core.Path.{◌≡◌, refl, ap}
use mathlib.Core.List.{List, [], ◌∷◌, ◌++◌}
use lib.ListN.{get_or, length, replicate}
use native.Mathlib.Nat.{add-zero}
use native.Mathlib.Omega.{arith}
use borrow.Author.Tests.{le-ltb}
use Rattle.pieces.specs.Pieces.{bytes_of, buffer_by, buffer_of, encode, size_of, total_from, written_by, written_of}
use Rattle.pieces.specs.declared.piece.Piece.{Piece}
use Rattle.pieces.specs.declared.piece.Piece.TheVariants.{Nothing}
use Rattle.writer.specs.SharedMsgHeader.{padded}
use Rattle.writer.specs.TsUrb.{structure_pieces}
use Rattle.writer.specs.declared.ts_urb.Structure.{Structure}
use Rattle.writer.specs.declared.ts_urb.Structure.TheVariants as structure

encode_none : (s : List ℕ) (k : ℕ) → encode s (replicate k Nothing) ≡ []
unfolding encode
encode_none s zero = refl
encode_none s (suc k) = encode_none s k

encode_behind : (s : List ℕ) (ps : List Piece) (k : ℕ) → encode s (ps ++ replicate k Nothing) ≡ encode s ps
unfolding encode
encode_behind s [] k = encode_none s k
encode_behind s (p ∷ ps) k = ap (λ l. bytes_of s p ++ l) (encode_behind s ps k)

pub encode-padded : (s : List ℕ) (ps : List Piece) → encode s (padded ps) ≡ encode s ps
encode-padded s ps = encode_behind s ps (20 - length ps)

total_none : (n sum k : ℕ) → total_from n sum (replicate k Nothing) ≡ Some sum
unfolding total_from
total_none n sum zero = refl
total_none n sum (suc k) = rw (le-ltb (65535 - sum) 0 (omega arith), add-zero sum) (total_none n sum k)

total_behind : (n sum : ℕ) (ps : List Piece) (k : ℕ) → total_from n sum (ps ++ replicate k Nothing) ≡ total_from n sum ps
unfolding total_from
total_behind n sum [] k = total_none n sum k
total_behind n sum (p ∷ ps) k = rw (total_behind n (sum + size_of p) ps k)

pub total_padded : (n k : ℕ) (ps : List Piece) → total_from n k (padded ps) ≡ total_from n k ps
total_padded n k ps = total_behind n k ps (20 - length ps)

pub written-padded : (s : List ℕ) (room : ℕ) (ps : List Piece) → written_of s room (padded ps) ≡ written_of s room ps
unfolding written_of
written-padded s room ps = ap (written_by room) (total_padded (length s) 0 ps)

pub buffer_padded : (s : List ℕ) (ps : List Piece) (buf : List ℕ) → buffer_of s (padded ps) buf ≡ buffer_by (encode s ps) buf (written_of s (length buf) ps)
unfolding buffer_of
buffer_padded s ps buf = rw (encode-padded s ps, written-padded s (length buf) ps)

-- the six pieces of a structure one by one, between those of a transfer request
abbrev piece_at : Structure → ℕ → Piece
piece_at x k = get_or (structure_pieces x) k Nothing

pub structure-padded : {a b c d e f g h : Piece} (x : Structure) → (a ∷ b ∷ c ∷ d ∷ e ∷ f ∷ piece_at x 0 ∷ piece_at x 1 ∷ piece_at x 2 ∷ piece_at x 3 ∷ piece_at x 4 ∷ piece_at x 5 ∷ g ∷ h ∷ Nothing ∷ Nothing ∷ Nothing ∷ Nothing ∷ Nothing ∷ Nothing ∷ []) ≡ padded (a ∷ b ∷ c ∷ d ∷ e ∷ f ∷ (structure_pieces x ++ (g ∷ h ∷ [])))
structure-padded (structure.SelectConfiguration x) = refl
structure-padded (structure.SelectInterface x) = refl
structure-padded structure.GetCurrentFrameNumber = refl
structure-padded (structure.PipeRequest x) = refl
structure-padded (structure.BulkOrInterruptTransfer x) = refl
structure-padded (structure.ControlTransfer x) = refl
structure-padded (structure.IsochTransfer x) = refl
