use Rattle.std.proofs.Common.{drop}
use Rattle.exact_rows.specs.Made.{AreInRange}
use Rattle.check_linear.specs.Linear.{AreFirsts}
use Rattle.check_linear.proofs.linear.firsts_of.Given as goal

-- the first weights in the stages so far, which stand last
abbrev pub invariant-loop-k : goal.invariant-loop-k
invariant-loop-k l = record {
  firsts : AreFirsts l.n l.k (drop l.k l.stages) l.firsts.places.items l.firsts.weights.items;
  range : AreInRange l.firsts.weights.items;
}
