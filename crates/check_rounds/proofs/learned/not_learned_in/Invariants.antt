use Rattle.std.proofs.Common.{◌≡◌, [], drop}
use Rattle.check_rounds.specs.Chains.{is_unlearned}
use Rattle.check_tables.specs.LiteralSets.{IsSetOf}
use Rattle.check_rounds.specs.Steps.{first_step}
use Rattle.check_rounds.proofs.learned.not_learned_in.Given as goal

-- the first such step is one of those that are left
abbrev pub invariant-loop-j : goal.invariant-loop-j
invariant-loop-j l = record {
  held : IsSetOf l.over.formula.now.vars [] l.held;
  rest : first_step is_unlearned l.over (drop l.j l.places) ≡ first_step is_unlearned l.over l.places;
}
