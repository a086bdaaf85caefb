use Rattle.std.proofs.Common.{◌≡◌, take, true, ◌||◌, ◌==◌}
use Rattle.std.specs.List.{list_all, list_any}
use Rattle.lk_model.specs.Formulas.Formula.{clause_at}
use Rattle.check_tables.specs.LiteralSets.{has_literal}
use Rattle.check_answers.proofs.witnesses.satisfies_each.Given as goal

-- each of the positions so far passes
abbrev pub invariant-loop-k : goal.invariant-loop-k
invariant-loop-k l = list_all (λ q. q == l.own || list_any (has_literal l.set) (clause_at l.f q)) (take l.k l.core) ≡ true
