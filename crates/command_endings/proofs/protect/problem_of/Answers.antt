use Rattle.std.proofs.Common.{subst, Some, List, ℕ, IfOk}
use Rattle.reductions.specs.Protecting.{IsProblem}
use Rattle.command_endings.proofs.Listing.{named_option}
use Rattle.command_endings.proofs.protect.problem_of.Goals as goal

pub returns-in_ok-named-in-Some : goal.returns-in_ok-named-in-Some
returns-in_ok-named-in-Some c =
    named_option c.args.formula c.vars.result c.in-Some.list c.args.list _ c.vars.ensures.value c.in-Some.is
    (subst (λ (vs : List ℕ). IfOk c.new.result (IsProblem c.args.formula (Some vs))) c.in_ok-named-in-Some.ensures c.new.ensures)
