use Rattle.std.proofs.Common.{◌∙◌, ℕ, List, subst, sym}
use Rattle.std.specs.Prelude.{IsTrue}
use Rattle.std.specs.List.{filter_map, list_all}
use Rattle.lk_model.specs.Documents.Form.{is_stage}
use Rattle.lk_model.specs.Formulas.Formula.{variables_to}
use Rattle.lk_model.specs.declared.document.Stage.{Stage}
use Rattle.linear_run_laws.specs.RunLaw.{sign_literal}
use Rattle.reductions.proofs.Founds.{linear_found, linear_positions, linear_stages}
use Rattle.reductions.proofs.find.find_linear.Goals as goal

pub set_of_stages-requires-clause-stages : goal.set_of_stages-requires-clause-stages
set_of_stages-requires-clause-stages c =
    let a = c.in_ok-found.ensures in
    let form = linear_stages c.args.f.now c.args.pivots a.1.0 c.in_ok-found.found c.vars.ensures.formula c.vars.ensures.limits a.1.1 in
    subst (λ (n : ℕ). IsTrue (list_all (is_stage n) c.as_slice.result.now)) (sym c.vars.ensures.value)
    (subst (λ (ss : List Stage). IsTrue (list_all (is_stage c.args.f.now.vars) ss)) (sym c.as_slice.ensures) form)

pub returns-in-Ok-clause-done : goal.returns-in-Ok-clause-done
returns-in-Ok-clause-done c = (c.in_ok-found.found, c.in_ok-found.ensures)

pub returns-in-Ok-clause-positions : goal.returns-in-Ok-clause-positions
returns-in-Ok-clause-positions c =
    let a = c.in_ok-found.ensures in
    linear_positions c.args.f.now c.args.pivots a.1.0 c.in_ok-found.found c.vars.ensures.formula c.vars.ensures.limits a.1.1

pub returns-in-Ok-clause-reduces : goal.returns-in-Ok-clause-reduces
returns-in-Ok-clause-reduces c =
    let a = c.in_ok-found.ensures in
    let line = c.in-Ok.ensures ∙ (λ i. filter_map (sign_literal (c.as_slice.ensures i)) (variables_to (c.vars.ensures.value i))) in
    linear_found c.args.f.now c.args.pivots a.1.0 c.in_ok-found.found c.in-Ok.set a.1.1 line
