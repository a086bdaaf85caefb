use Rattle.std.proofs.Common.{◌≡◌, pos, ◌<ℤ◌, IsTrue, map, drop}
use Rattle.lk_model.specs.Limits.{is_in_range}
use Rattle.lk_model.specs.Linear.Arithmetic.{first_wide}
use Rattle.lk_model.specs.Linear.Ends.{denominator, lcm_from, made_in_lcm}
use Rattle.exact_pivot.proofs.ends.common.Given as goal

abbrev pub invariant-loop-row : goal.invariant-loop-row
invariant-loop-row l = record {
  value : lcm_from l.common (map (denominator l.column) (drop l.row-index l.rows)) ≡ lcm_from (pos 1) (map (denominator l.column) l.rows);
  wide : first_wide (made_in_lcm l.common (map (denominator l.column) (drop l.row-index l.rows))) ≡ first_wide (made_in_lcm (pos 1) (map (denominator l.column) l.rows));
  positive : pos 0 <ℤ l.common;
  range : IsTrue (is_in_range l.common);
}
