use Rattle.std.proofs.Common.{◌≡◌, length, map, filter, take}
use Rattle.refutation_log.specs.Trimmed.{with_numbers}
use Rattle.refutation_log.specs.Numbers.{number_by_table, is_marked}
use Rattle.refutation_log.proofs.numbers.kept_steps.Given as goal

abbrev pub invariant-loop-step : goal.invariant-loop-step
invariant-loop-step l =
    l.kept ≡ map (with_numbers (number_by_table l.first l.numbers)) (filter (is_marked l.first l.marks) (take (length l.yielded) l.fn.steps.items))
