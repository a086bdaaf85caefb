use Rattle.std.proofs.Common.{arith}
use Rattle.check_linear.proofs.UnitChecks.{numbered_bounds}
use Rattle.check_linear.proofs.UnitPlaces.{place_within}
use Rattle.check_linear.proofs.units.is_bad_unit.Goals as goal

pub unit_numbered-unit-requires-clause-last : goal.unit_numbered-unit-requires-clause-last
unit_numbered-unit-requires-clause-last c = place_within c.args.f.now.vars c.args.units.now c.args.tables.now.numbers.items c.args.v c.index-k.result.now c.requires.numbers c.requires.first c.requires.last c.index-k.ensures

pub is_bad_line-requires-clause-first : goal.is_bad_line-requires-clause-first
is_bad_line-requires-clause-first c =
    let last = place_within c.args.f.now.vars c.args.units.now c.args.tables.now.numbers.items c.args.v c.index-k.result.now c.requires.numbers c.requires.first c.requires.last c.index-k.ensures in
    (numbered_bounds c.args.f.now.vars c.args.units.now c.index-k.result.now c.unit_numbered-unit.result.now c.requires.rising (omega (arith, c.if-k-eq0.false)) last c.unit_numbered-unit.ensures).0

pub is_bad_line-requires-clause-last : goal.is_bad_line-requires-clause-last
is_bad_line-requires-clause-last c =
    let last = place_within c.args.f.now.vars c.args.units.now c.args.tables.now.numbers.items c.args.v c.index-k.result.now c.requires.numbers c.requires.first c.requires.last c.index-k.ensures in
    (numbered_bounds c.args.f.now.vars c.args.units.now c.index-k.result.now c.unit_numbered-unit.result.now c.requires.rising (omega (arith, c.if-k-eq0.false)) last c.unit_numbered-unit.ensures).1
