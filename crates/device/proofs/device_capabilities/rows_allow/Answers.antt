-- `device::device_capabilities::rows_allow` meets its contract: a walk that comes to the end has tested seven rows.
use Rattle.std.proofs.Common.{◌≡◌, true, arith, rules, tests}
use Rattle.std.proofs.lemmas.Iterator.{YieldsList-from_slice}
use Rattle.std.proofs.lemmas.Iterator.Search.{all_from_yields_List}
use Rattle.device.specs.DeviceCapabilities.{capability_rows}
use Rattle.device.proofs.device_capabilities.rows_allow.Goals as goal

pub returns : goal.returns
returns c =
    let walk = c.all.ensures.runs.0 in
    let seven : walk.whole ≡ true → walk.len ≡ 7 = λ w. grind arith in
    all_from_yields_List _ _ _ c.all.result c.all.ensures.ran (YieldsList-from_slice capability_rows (cc)) (λ x b q k. search (rules, tests))
