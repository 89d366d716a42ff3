-- The kind that a message is found to have tells its header.
use Rattle.std.proofs.lemmas.Bool.{and_parts}
use Rattle.std.specs.Prelude.{Option, Some, None}
use Prim.Native.Nat.{ℕ, ◌+◌, ◌*◌, ◌/◌, ◌%◌, ◌<◌}
use native.Mathlib.Omega.{arith}
use mathlib.Core.Path.{◌≡◌, refl, sym, subst, ◌∙◌}
use mathlib.Core.List.{List, [], ◌∷◌}
use mathlib.Core.Bool.{Bool, true, false, cond, ◌&&◌}
use lib.Dec.{eqb, leb}
use borrow.Author.Tests.{eqb-true, lt-ltb}
use Rattle.words.specs.Words.{word_at}
use Rattle.header.specs.Ids.{interface_in, mask_in}
use Rattle.answers.specs.declared.kind.Kind.{Kind}
use Rattle.answers.specs.declared.kind.Kind.TheVariants as kind
use Rattle.kinds.specs.declared.kind.Row.{Row}
use Rattle.kinds.specs.Kinds.{calls_at, calls_known, client, first_fitting, fits, goes_to, kinds, server}
use Rattle.wire_laws.specs.Assigned.{Given}
use Rattle.writer.specs.SharedMsgHeader.{interface_allowed}
use Rattle.writer_laws.specs.Passed.{head_in}
use Rattle.writer_laws.proofs.Rebuilt.{Headed, both, refused}
use Rattle.header.specs.declared.ids.InterfaceId.{InterfaceId}

abbrev i : List ℕ → ℕ
i m = (interface_in (word_at m 0)).0

-- what the header of a message of a kind is
abbrev pub HeadOf : Kind → List ℕ → Type 0
HeadOf kind.CapabilityRequest m = Headed 0 0 0x100 m
HeadOf kind.CapabilityResponse m = Headed 0 0 (word_at m 8) m
HeadOf kind.ChannelCreatedByServer m = Headed 3 1 0x100 m
HeadOf kind.ChannelCreatedByClient m = Headed 2 1 0x100 m
HeadOf kind.AddVirtualChannel m = Headed 1 1 0x100 m
HeadOf kind.AddDevice m = Headed 1 1 0x101 m
HeadOf kind.CancelRequest m = Headed (i m) 1 0x100 m × (interface_allowed (i m) ≡ true)
HeadOf kind.RegisterRequestCallback m = Headed (i m) 1 0x101 m × (interface_allowed (i m) ≡ true)
HeadOf kind.IoControl m = Headed (i m) 1 0x102 m × (interface_allowed (i m) ≡ true)
HeadOf kind.InternalIoControl m = Headed (i m) 1 0x103 m × (interface_allowed (i m) ≡ true)
HeadOf kind.TransferInRequest m = Headed (i m) 1 0x105 m × (interface_allowed (i m) ≡ true)
HeadOf kind.TransferOutRequest m = Headed (i m) 1 0x106 m × (interface_allowed (i m) ≡ true)
HeadOf kind.RetractDevice m = Headed (i m) 1 0x107 m × (interface_allowed (i m) ≡ true)
HeadOf kind.IoControlCompletion m = Headed (i m) 1 0x100 m × (interface_allowed (i m) ≡ true)
HeadOf kind.UrbCompletion m = Headed (i m) 1 0x101 m × (interface_allowed (i m) ≡ true)
HeadOf kind.UrbCompletionNoData m = Headed (i m) 1 0x102 m × (interface_allowed (i m) ≡ true)

whole : (w a b : ℕ) → w % 0x4000_0000 ≡ a → w / 0x4000_0000 ≡ b → w ≡ a + 0x4000_0000 * b
whole w a b p q = omega arith

module _ (m : List ℕ) (side : ℕ) where
  goes_head : (interface by mask : ℕ) → goes_to (head_in m) side interface by mask ≡ true → (i m ≡ interface) × (word_at m 0 ≡ interface + 0x4000_0000 * mask)
  goes_head interface by mask e =
      let a = and_parts (eqb (i m) interface) (eqb side by && eqb (mask_in (word_at m 0)) mask) e in
      let b = and_parts (eqb side by) (eqb (mask_in (word_at m 0)) mask) a.1 in
      let p = eqb-true (i m) interface a.0 in
      (p, whole (word_at m 0) interface mask p (eqb-true (mask_in (word_at m 0)) mask b.1))

  nameless_head : (interface by mask : ℕ) → goes_to (head_in m) side interface by mask ≡ true → Headed interface mask (word_at m 8) m
  nameless_head interface by mask e = record { first = (goes_head interface by mask e).1; third = refl }

  calls_head : (interface by mask function : ℕ) → calls_at (head_in m) side interface by mask function ≡ true → Headed interface mask function m
  calls_head interface by mask function e =
      let a = and_parts (goes_to (head_in m) side interface by mask) (eqb (word_at m 8) function) e in
      record { first = (goes_head interface by mask a.0).1; third = eqb-true (word_at m 8) function a.1 }

  known_head : (k : Option InterfaceId) → Given k → (by function : ℕ) → calls_known (head_in m) side k by 1 function ≡ true → Headed (i m) 1 function m × (interface_allowed (i m) ≡ true)
  known_head None g by function e = refused e
  known_head (Some id) g by function e =
      let p = (goes_head id.0 by 1 (and_parts (goes_to (head_in m) side id.0 by 1) (eqb (word_at m 8) function) e).0).0 in
      let h = calls_head id.0 by 1 function e in
      (record { first = h.first ∙ ap_first id.0 (i m) (sym p); third = h.third }, both (subst (λ x. leb 4 x ≡ true) (sym p) g) (lt-ltb (i m) 0x4000_0000 (below (word_at m 0))))
    where
      ap_first : (a b : ℕ) → a ≡ b → a + 0x4000_0000 * 1 ≡ b + 0x4000_0000 * 1
      ap_first a b e = rw e

      below : (w : ℕ) → w % 0x4000_0000 < 0x4000_0000
      below w = omega arith

  module _ (d c : Option InterfaceId) (gd : Given d) (gc : Given c) where
    abbrev Tells : Row → Type 0
    Tells row = fits row (head_in m) side d c ≡ true → HeadOf row.kind m

    All : List Row → Type 0
    All [] = Unit {0}
    All (row ∷ rows) = Tells row × All rows

    first_head : (rows : List Row) → All rows → (k : Kind) → first_fitting rows (head_in m) side d c ≡ Some k → HeadOf k m
    unfolding All
    first_head [] a k e = never e
      where
        never : {A : Type 0} → None ≡ Some k → A
        never e = absurd (omega (arith, zero_one e))
          where
            zero_one : None ≡ Some k → ◌≡◌ {A = ℕ} 0 1
            zero_one e = cc
    first_head (row ∷ rows) a k e = go (fits row (head_in m) side d c) refl e (first_head rows a.1 k)
      where
        go : (t : Bool) → fits row (head_in m) side d c ≡ t → cond t (Some row.kind) (first_fitting rows (head_in m) side d c) ≡ Some k → (first_fitting rows (head_in m) side d c ≡ Some k → HeadOf k m) → HeadOf k m
        go true f q r = let z : row.kind ≡ k = cc in subst (λ x. HeadOf x m) z (a.0 f)
        go false f q r = r q

    pub kind_head : (k : Kind) → first_fitting kinds (head_in m) side d c ≡ Some k → HeadOf k m
    unfolding All
    kind_head k e =
        first_head kinds
        (calls_head 0 server 0 0x100, (nameless_head 0 client 0, (calls_head 3 server 1 0x100, (calls_head 2 client 1 0x100, (calls_head 1 client 1 0x100, (calls_head 1 client 1 0x101, (known_head d gd server 0x100, (known_head d gd server 0x101, (known_head d gd server 0x102, (known_head d gd server 0x103, (known_head d gd server 0x105, (known_head d gd server 0x106, (known_head d gd server 0x107, (known_head c gc client 0x100, (known_head c gc client 0x101, (known_head c gc client 0x102, tt)))))))))))))))) k e
