-- The parts of a TsUrb that was read lie within it, and its Size is all of it.
use Rattle.std.specs.Prelude.{Result, Ok, Err}
use Prim.Native.Nat.{ℕ, ◌+◌, ◌*◌, ◌≤◌}
use native.Mathlib.Omega.{arith}
use mathlib.Core.Path.{◌≡◌, refl}
use mathlib.Core.List.{List, [], ◌∷◌}
use lib.ListN.{length}
use lib.Dec.{eqb}
use Rattle.words.specs.Words.{byte_at, half_at, word_at}
use Rattle.words.specs.Layout.{left}
use Rattle.wire_laws.specs.Urb.{UrbWithin, urb_length}
use Rattle.urb.specs.Interfaces.{interfaces_of}
use Rattle.urb.specs.SelectConfiguration.{descriptor_of, configuration_with, configuration_of, configuration_from, select_configuration_of}
use Rattle.urb.specs.SelectInterface.{interface_from, select_interface_of}
use Rattle.urb.specs.IsochTransfer.{isoch_transfer_of}
use Rattle.urb.specs.TsUrb.{OneSize, one_sizes, row_of, one_size_of, structure_of, urb_with, ts_urb_of}
use Rattle.urb.specs.declared.ts_urb.Urb.{Urb}
use Rattle.urb.specs.declared.ts_urb.Urb.TheVariants.{SelectConfiguration, SelectInterface, GetCurrentFrameNumber, PipeRequest, BulkOrInterruptTransfer, ControlTransfer, IsochTransfer, Unknown}
use Rattle.words.proofs.Steps.{either, field_by, agrees_by, at_least_by}
use Rattle.urb.proofs.Walk.{interfaces_end}
use Rattle.words.specs.declared.layout.Fault.{Fault}
use Rattle.urb.specs.declared.ts_urb.TsUrb.{TsUrb}

abbrev StructureGood : List ℕ → Result (Urb × ℕ) Fault → Type 0
StructureGood u (Ok (urb, end)) = UrbWithin (length u) urb × (16 ≤ length u → (end ≡ 16 + urb_length (left u 16) urb) × (end ≤ length u))
StructureGood u (Err f) = Unit {0}

abbrev pub TsUrbGood : List ℕ → Result (TsUrb × ℕ) Fault → Type 0
TsUrbGood u (Ok (t, end)) = (t.size ≡ left u 16) × UrbWithin (length u) t.urb × (16 ≤ length u → (end ≡ 16 + urb_length (left u 16) t.urb) × (end ≤ length u))
TsUrbGood u (Err f) = Unit {0}

configuration_with_good : (u : List ℕ) (end pipes : ℕ) → 32 ≤ end → end ≤ length u → StructureGood u (configuration_of u (word_at u 28) end pipes)
unfolding configuration_of descriptor_of
configuration_with_good u end pipes a b =
    either (λ r. StructureGood u (configuration_with u (word_at u 28) end pipes r)) (eqb (byte_at u 24) 0) _ _
    (λ e. (((omega arith, omega arith), (omega arith, omega arith)), λ h. (omega arith, omega arith)))
    (λ e. field_by (λ r. StructureGood u (configuration_with u (word_at u 28) end pipes r)) (λ f. tt) u end 9 _ λ k. (((omega arith, omega arith), (omega arith, omega arith)), λ h. (omega arith, omega arith)))

configuration_from_good : (u : List ℕ) (w : Result (ℕ × ℕ) Fault) → 32 ≤ length u → interfaces_of u (word_at u 28) 0 32 ≡ w → StructureGood u (configuration_from u w)
configuration_from_good u (Ok (end, pipes)) h e = let q = interfaces_end u (word_at u 28) 0 32 end pipes e in configuration_with_good u end pipes q.0 (q.1 h)
configuration_from_good u (Err f) h e = tt

select_configuration_good : (u : List ℕ) → StructureGood u (select_configuration_of u)
unfolding select_configuration_of
select_configuration_good u =
    field_by (StructureGood u) (λ f. tt) u 24 1 _ λ a. field_by (StructureGood u) (λ f. tt) u 25 3 _ λ b. field_by (StructureGood u) (λ f. tt) u 28 4 _ λ c.
    configuration_from_good u (interfaces_of u (word_at u 28) 0 32) (omega arith) refl

interface_from_good : (u : List ℕ) (w : Result (ℕ × ℕ) Fault) → 28 ≤ length u → interfaces_of u 1 0 28 ≡ w → StructureGood u (interface_from u w)
interface_from_good u (Ok (end, pipes)) h e = let q = interfaces_end u 1 0 28 end pipes e in let r = q.1 h in ((omega arith, omega (arith, q.0)), λ k. (omega (arith, q.0), omega arith))
interface_from_good u (Err f) h e = tt

select_interface_good : (u : List ℕ) → StructureGood u (select_interface_of u)
unfolding select_interface_of
select_interface_good u = field_by (StructureGood u) (λ f. tt) u 24 4 _ λ a. interface_from_good u (interfaces_of u 1 0 28) (omega arith) refl

isoch_transfer_good : (u : List ℕ) → StructureGood u (isoch_transfer_of u)
unfolding isoch_transfer_of
isoch_transfer_good u =
    at_least_by (StructureGood u) (λ f. tt) 24 (left u 16) 16 _ λ a. agrees_by (StructureGood u) (λ f. tt) (left u 16) (28 + 12 * word_at u 36) 16 _ λ b. ((omega arith, omega arith), λ h. (omega arith, omega arith))

-- the one-size table, row by row: where a row's structure is read, the TsUrb has that row's size
module _ (u : List ℕ) (function : ℕ) where
  RowGood : OneSize → Type 0
  RowGood row = left u 16 ≡ row.size → StructureGood u (Ok ((row.structure u), (length u)))

  AllRows : List OneSize → Type 0
  AllRows [] = Unit {0}
  AllRows (row ∷ rows) = RowGood row × AllRows rows

  rows_good : (rows : List OneSize) → AllRows rows → StructureGood u (row_of rows u function)
  unfolding AllRows RowGood
  rows_good [] g = (tt, λ h. (omega arith, omega arith))
  rows_good (row ∷ rows) g =
      either (StructureGood u) (eqb function row.function) _ _
      (λ e. agrees_by (StructureGood u) (λ f. tt) (left u 16) row.size 16 _ λ a. g.0 a)
      (λ e. rows_good rows g.1)

  one_size_good : StructureGood u (one_size_of u function)
  unfolding one_size_of AllRows RowGood
  one_size_good = rows_good one_sizes (λ e. (tt, λ h. (omega arith, omega arith)), (λ e. (tt, λ h. (omega arith, omega arith)), (λ e. (tt, λ h. (omega arith, omega arith)), (λ e. (tt, λ h. (omega arith, omega arith)), (λ e. ((omega arith, omega arith), λ h. (omega arith, omega arith)), tt)))))

  structure_good : StructureGood u (structure_of u function)
  unfolding structure_of
  structure_good =
      either (StructureGood u) (eqb function 0) _ _ (λ e. select_configuration_good u)
      (λ e. either (StructureGood u) (eqb function 1) _ _ (λ e. select_interface_good u)
      (λ e. either (StructureGood u) (eqb function 10) _ _ (λ e. isoch_transfer_good u)
      (λ e. one_size_good)))

urb_with_good : (u : List ℕ) (r : Result (Urb × ℕ) Fault) → half_at u 16 ≡ left u 16 → StructureGood u r → TsUrbGood u (urb_with u r)
urb_with_good u (Ok (urb, end)) e g = (e, g.0, g.1)
urb_with_good u (Err f) e g = tt

pub ts_urb_good : (u : List ℕ) → TsUrbGood u (ts_urb_of u)
unfolding ts_urb_of
ts_urb_good u = agrees_by (TsUrbGood u) (λ f. tt) (half_at u 16) (left u 16) 16 _ λ a. urb_with_good u (structure_of u (half_at u 18)) a (structure_good u (half_at u 18))

-- what lies within n bytes lies within more
pub urb_wider : (n k : ℕ) (urb : Urb) → n ≤ k → UrbWithin n urb → UrbWithin k urb
urb_wider n k (SelectConfiguration b) h g = ((g.0.0, omega (arith, g.0.1)), (g.1.0, omega (arith, g.1.1)))
urb_wider n k (SelectInterface b) h g = (g.0, omega (arith, g.1))
urb_wider n k GetCurrentFrameNumber h g = tt
urb_wider n k (PipeRequest b) h g = tt
urb_wider n k (BulkOrInterruptTransfer b) h g = tt
urb_wider n k (ControlTransfer b) h g = (g.0, omega (arith, g.1))
urb_wider n k (IsochTransfer b) h g = (g.0, omega (arith, g.1))
urb_wider n k Unknown h g = tt
