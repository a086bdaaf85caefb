use Rattle.std.proofs.Common.{◌≡◌, ◌≤◌, ◌+◌, min, drop, length, map}
use Rattle.lk_model.specs.Formulas.Literal.{complement}
use Rattle.check_pure_matching.specs.Order.{least_place}
use Rattle.check_pure_matching.proofs.order.broken_place.Given as goal

-- the least places of the literals so far and of those that are left give those of all
abbrev pub invariant-loop-l : goal.invariant-loop-l
invariant-loop-l l = record {
  with_small : l.«with» ≤ length l.order + 1;
  against_small : l.against ≤ length l.order + 1;
  with_rest : min l.«with» (least_place l.order (drop l.l-index l.clause)) ≡ least_place l.order l.clause;
  against_rest : min l.against (least_place l.order (map complement (drop l.l-index l.clause))) ≡ least_place l.order (map complement l.clause);
}
