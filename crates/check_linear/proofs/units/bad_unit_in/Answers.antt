use Rattle.std.proofs.Common.{◌∙◌, sym}
use Rattle.check_linear.specs.Linear.{is_bad_unit}
use Rattle.check_tables.proofs.Spans.{first_in, none_at_more}
use Rattle.check_linear.proofs.units.bad_unit_in.Goals as goal

pub returns-then-branch : goal.returns-then-branch
returns-then-branch c =
    first_in (is_bad_unit c.args.f.now c.args.tables.now.kept.items c.args.tables.now.occurring c.args.units.now c.args.tables.now.numbers.items) c.args.span.first c.args.span.count c.loop-v.v
    c.loop-v.auto.v c.loop-v-test.true c.loop-v.invariant.passes (sym c.in_ok-is_bad_unit.ensures.bad ∙ c.if-branch.true)

pub loop-v-preserved : goal.loop-v-preserved
loop-v-preserved c = record {
  passes = none_at_more (is_bad_unit c.args.f.now c.args.tables.now.kept.items c.args.tables.now.occurring c.args.units.now c.args.tables.now.numbers.items) c.args.span.first c.loop-v.v
      c.loop-v.auto.v c.loop-v.invariant.passes (sym c.in_ok-is_bad_unit.ensures.bad ∙ c.if-branch.false);
  none = c.in_ok-is_bad_unit.ensures.none;
}
