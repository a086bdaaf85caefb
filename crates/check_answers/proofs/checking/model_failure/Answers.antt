use Rattle.std.proofs.Common.{◌≡◌, ◌∙◌, ℕ, true, sym, ap, subst, map, Some}
use Rattle.std.specs.Prelude.{option_map}
use Rattle.lk_model.specs.Lists.{rises_within}
use Rattle.lk_model.specs.Formulas.Literal.{variable}
use Rattle.lk_model.specs.Held.PartialValues.{assignment_by}
use Rattle.lk_model.specs.declared.verdict.Kind.TheVariants.{ModelFails}
use Rattle.check_answers.proofs.CheckedAnswers.{why_of, by_values}
use Rattle.lk_model.proofs.TotalLists.{total_rises}
use Rattle.check_answers.proofs.checking.model_failure.Goals as goal

pub assignment_of-requires-clause-rising : goal.assignment_of-requires-clause-rising
assignment_of-requires-clause-rising c =
    subst (λ (n : ℕ). rises_within 0 n (map variable c.args.lits.now) ≡ true) (sym c.vars.ensures.value) (total_rises c.args.f.now.vars c.args.lits.now c.requires)

pub returns-in-Some : goal.returns-in-Some
returns-in-Some c =
    (λ j. Some (why_of ModelFails (c.from.ensures j)))
    ∙ ap (option_map (why_of ModelFails)) (sym c.in-Some.is)
    ∙ by_values c.args.f.now c.args.lits.now (assignment_by c.in_ok-values.values) c.first_unsatisfied.result c.in_ok-values.ensures.values c.first_unsatisfied.ensures

pub returns : goal.returns
returns c =
    ap (option_map (why_of ModelFails)) (sym c.in-None.is)
    ∙ by_values c.args.f.now c.args.lits.now (assignment_by c.in_ok-values.values) c.first_unsatisfied.result c.in_ok-values.ensures.values c.first_unsatisfied.ensures
