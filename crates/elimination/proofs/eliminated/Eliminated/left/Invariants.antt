use Rattle.std.proofs.Common.{◌≡◌, true, not}
use Rattle.std.specs.List.{list_all}
use Rattle.lk_model.specs.Lists.{is_empty, rises_within}
use Rattle.lk_model.specs.Formulas.Formula.{clause_at}
use Rattle.elimination.proofs.eliminated.Eliminated.left.Given as goal

-- the positions so far ascend, and no clause at them is empty
abbrev pub invariant-loop-k : goal.invariant-loop-k
invariant-loop-k l = (rises_within 0 l.k l.positions ≡ true) × (list_all (λ p. not (is_empty (clause_at l.self.clauses p))) l.positions ≡ true)
