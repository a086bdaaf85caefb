use Rattle.std.proofs.Common.{◌≡◌, ◌-◌, None}
use Rattle.std.specs.Prelude.{find}
use Rattle.std.specs.List.{range_with_len}
use Rattle.check_linear.specs.Linear.{AreNone, is_bad_unit}
use Rattle.check_linear.proofs.units.bad_unit_in.Given as goal

-- no variable so far fails, and none has a number
abbrev pub invariant-loop-v : goal.invariant-loop-v
invariant-loop-v l = record {
  passes : find (is_bad_unit l.f l.tables.kept.items l.tables.occurring l.units l.tables.numbers.items) (range_with_len l.fn.span.first (l.v - l.fn.span.first)) ≡ None;
  none : AreNone l.f.vars l.numbers.items;
}
