use Rattle.std.proofs.Common.{ℕ, List, Option, None, subst, sym}
use Rattle.reductions.specs.Protecting.{IsProblem}
use Rattle.reductions.proofs.Protecting.{none_protected}
use Rattle.reductions.proofs.problem.Problem.new.Goals as goal

pub returns-in-None : goal.returns-in-None
returns-in-None c =
    subst (λ (o : Option (List ℕ)). IsProblem c.args.formula o (record { formula = c.args.formula; protection = None })) (sym c.in-None.is) (none_protected c.args.formula)
