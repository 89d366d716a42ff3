-- The first row that fits, as the library says it.
use Rattle.std.proofs.Common.{◌≡◌, ℕ, Bool, true, false, cond, List, [], ◌∷◌, Option, Some, refl}
use Rattle.std.specs.Prelude.{find, option_map}
use Rattle.header.specs.declared.ids.InterfaceId.{InterfaceId}
use Rattle.header.specs.declared.shared_msg_header.Header.{Header}
use Rattle.kinds.specs.Kinds.{fits, first_fitting}
use Rattle.kinds.specs.declared.kind.Row.{Row}

pub found : (rows : List Row) (h : Header) (side : ℕ) (d c : Option InterfaceId) → option_map (λ (r : Row). r.kind) (find (λ r. fits r h side d c) rows) ≡ first_fitting rows h side d c
found [] h side d c = refl
found (row ∷ rows) h side d c = go (fits row h side d c) (found rows h side d c)
  where
    go : (b : Bool) → option_map (λ (r : Row). r.kind) (find (λ r. fits r h side d c) rows) ≡ first_fitting rows h side d c
        → option_map (λ (r : Row). r.kind) (cond b (Some row) (find (λ r. fits r h side d c) rows)) ≡ cond b (Some row.kind) (first_fitting rows h side d c)
    go true e = refl
    go false e = e
