-- Which function a structure may have is said by `stated_of` and by `suited`: under one that it may not have nothing is stated.
use Rattle.std.specs.Prelude.{Option, Some, None}
use Prim.Native.Nat.{ℕ}
use mathlib.Core.Path.{◌≡◌, refl}
use mathlib.Core.List.{List}
use mathlib.Core.Bool.{Bool, true, false, cond}
use lib.Dec.{eqb}
use Rattle.urb.specs.declared.ts_urb.Urb.TheVariants as urb
use Rattle.writer.specs.TsUrb.{configuration_stated, control_stated, interface_stated, isoch_stated, stated_of, suited}
use Rattle.writer.specs.declared.ts_urb.Structure.{Structure}
use Rattle.writer.specs.declared.ts_urb.Structure.TheVariants as structure
use Rattle.urb.specs.declared.ts_urb.Urb.{Urb}

-- what a structure states under a function that it has
abbrev pub stated_by : List ℕ → Structure → Option Urb
stated_by s (structure.SelectConfiguration b) = configuration_stated s b
stated_by s (structure.SelectInterface b) = interface_stated s b
stated_by s structure.GetCurrentFrameNumber = Some urb.GetCurrentFrameNumber
stated_by s (structure.PipeRequest b) = Some (urb.PipeRequest b)
stated_by s (structure.BulkOrInterruptTransfer b) = Some (urb.BulkOrInterruptTransfer b)
stated_by s (structure.ControlTransfer b) = control_stated s b
stated_by s (structure.IsochTransfer b) = isoch_stated s b

either : (a b : Bool) (x : Option Urb) → cond a x (cond b x None) ≡ cond (cond a true b) x None
either true b x = refl
either false b x = refl

pub stated_by_lem : (s : List ℕ) (function : ℕ) (x : Structure) → stated_of s function x ≡ cond (suited function x) (stated_by s x) None
unfolding stated_of
stated_by_lem s function (structure.SelectConfiguration b) = refl
stated_by_lem s function (structure.SelectInterface b) = refl
stated_by_lem s function structure.GetCurrentFrameNumber = refl
stated_by_lem s function (structure.PipeRequest b) = either (eqb function 0x0002) (eqb function 0x001E) (Some (urb.PipeRequest b))
stated_by_lem s function (structure.BulkOrInterruptTransfer b) = refl
stated_by_lem s function (structure.ControlTransfer b) = refl
stated_by_lem s function (structure.IsochTransfer b) = refl
