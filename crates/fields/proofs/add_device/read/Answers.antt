-- `fields::add_device::read` meets its contract: each text is read where the one before it ends.
use Prim.Native.Nat.{ℕ}
use mathlib.Core.Path.{◌≡◌, ◌∙◌, ap}
use mathlib.Core.List.{List}
use Rattle.words.specs.declared.layout.Part.{Part}
use Rattle.fields.specs.AddDevice.{add_device_in, add_device_with, behind, compatible_in, container_in, hardware_in, units_in}
use Rattle.fields.proofs.add_device.read.Goals as goal

chained : (m : List ℕ) (a b d e : Part) → a ≡ units_in m 20 → b ≡ units_in m (behind a) → d ≡ units_in m (behind b) → e ≡ units_in m (behind d) → add_device_with m a b d e ≡ add_device_in m
unfolding add_device_in
chained m a b d e p q r s =
    let q' : b ≡ hardware_in m = q ∙ ap (λ (x : Part). units_in m (behind x)) p in
    let r' : d ≡ compatible_in m = r ∙ ap (λ (x : Part). units_in m (behind x)) q' in
    let s' : e ≡ container_in m = s ∙ ap (λ (x : Part). units_in m (behind x)) r' in
    ap (λ (x : Part). add_device_with m x b d e) p ∙ ap (λ (x : Part). add_device_with m (units_in m 20) x d e) q' ∙ ap (λ (x : Part). add_device_with m (units_in m 20) (hardware_in m) x e) r' ∙ ap (λ (x : Part). add_device_with m (units_in m 20) (hardware_in m) (compatible_in m) x) s'

pub returns : goal.returns
unfolding add_device_in
returns c = rw (c.capabilities.ensures, c.u32_at-2.ensures, c.u32_at.ensures) (chained _ _ _ _ _ c.units-instance.ensures.0 c.units-hardware.ensures.0 c.units-compatible.ensures.0 c.units-container.ensures.0)
