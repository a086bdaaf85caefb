use Rattle.std.proofs.Common.{◌∙◌, ℕ, List, sym, ap}
use Rattle.lk_model.specs.Formulas.Formula.{variable_occurs}
use Rattle.lk_model.specs.Held.PartialValues.{assignment_by}
use Rattle.general_kernel.specs.SetLiterals.{literals_on}
use Rattle.part_formula.proofs.Tested.{model_of_values}
use Rattle.part_formula.proofs.reducing.tested_model.Goals as goal

pub returns-in_ok-set_of-in-None : goal.returns-in_ok-set_of-in-None
returns-in_ok-set_of-in-None c =
    let F = c.args.f.now in
    let all = c.as_slice.ensures ∙ c.in_ok-all-in-None.ensures.value in
    model_of_values F c.args.values.now c.in_ok-set_of-in-None.field-0 c.vars-2.ensures.formula (sym c.first_unsatisfied.ensures ∙ c.in-None.is)
    (c.in_ok-set_of-in-None.ensures ∙ ap (λ (ps : List ℕ). literals_on (variable_occurs F ps) (assignment_by c.args.values.now) F.vars) all)
