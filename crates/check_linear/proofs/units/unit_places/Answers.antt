use Rattle.std.proofs.Common.{◌≡◌, ◌+◌, ◌-◌, ◌<◌, ℕ, drop, length, subst, arith}
use Rattle.std.specs.Prelude.{slice_set}
use Rattle.lk_model.specs.Lists.{up_to}
use Rattle.check_linear.specs.Linear.{HasUnitPlaces}
use Rattle.check_linear.proofs.UnitChecks.{unit_bounds}
use Rattle.check_linear.proofs.UnitPlaces.{place_more, place_none}
use Rattle.check_linear.proofs.units.unit_places.Goals as goal

pub overflow_sub-unit : goal.overflow_sub-unit
overflow_sub-unit c =
    let inside : c.loop-i.i - 1 < length c.args.units.now = omega arith in
    (unit_bounds c.args.n c.args.units.now (c.loop-i.i - 1) c.index-units-i.result c.requires inside c.index-units-i.is).0

pub index_mut-requires : goal.index_mut-requires
index_mut-requires c =
    let inside : c.loop-i.i - 1 < length c.args.units.now = omega arith in
    let b = unit_bounds c.args.n c.args.units.now (c.loop-i.i - 1) c.index-units-i.result c.requires inside c.index-units-i.is in
    omega (arith, b.0, b.1, c.loop-i.invariant.size_is, c.loop-i.table.ok.0)

pub loop-i-preserved : goal.loop-i-preserved
loop-i-preserved c =
    let i = c.loop-i.i - 1 in
    let inside : i < length c.args.units.now = omega arith in
    let next : c.loop-i.i ≡ i + 1 = omega arith in
    let b = unit_bounds c.args.n c.args.units.now i c.index-units-i.result c.requires inside c.index-units-i.is in
    subst (λ (k : ℕ). HasUnitPlaces c.args.n c.args.units.now (drop i (up_to (length c.args.units.now))) (slice_set c.loop-i.table.items (c.index-units-i.result.var - 1) k)) next
    (place_more c.args.n c.args.units.now i c.loop-i.i c.index-units-i.result c.loop-i.table.items next inside c.index-units-i.is b.0 b.1 c.loop-i.invariant)

pub loop-i-init : goal.loop-i-init
loop-i-init c = place_none c.args.n c.args.units.now c.in_ok-table.table.items (c.in_ok-table.ensures.items_if_clones_equal (λ y e. e))
