use Rattle.std.proofs.Common.{◌≡◌, ◌≢◌, ◌∙◌, rules, refl}
use Rattle.std.proofs.lemmas.Result.{err_from_is_err_and}
use Rattle.lk_model.specs.Linear.Phases.{EndsLean, PivotOn, StageStands, next}
use Rattle.linear_kernel.proofs.Leads.{by_budget, by_end, by_pivot, by_stage, stops_on, stops_out}
use Rattle.linear_kernel.proofs.run.Run.advance.Goals as goal

pub returns-then-self-budget : goal.returns-then-self-budget
returns-then-self-budget c =
    let e : next c.args.self.rows ≡ PivotOn c.in-Pivot.row c.in-Pivot.col = search rules in
    let h : c.args.self.pivots ≡ c.args.budget = search rules in
    (by_budget c.args.f.now c.args.budget c.args.self c.in-Pivot.row c.in-Pivot.col e h, refl)

pub returns-in_err-pivot-in-Pivot : goal.returns-in_err-pivot-in-Pivot
returns-in_err-pivot-in-Pivot c =
    let e : next c.args.self.rows ≡ PivotOn c.in-Pivot.row c.in-Pivot.col = search rules in
    let h : c.args.self.pivots ≢ c.args.budget = search rules in
    let p = err_from_is_err_and c.from_residual.result c.from_residual.ensures.1 in
    rw (p.1, p.2)
    (stops_on c.args.budget _ _ c.in_err-pivot-in-Pivot.field-0.0 (by_pivot c.args.f.now c.args.budget c.args.self c.in-Pivot.row c.in-Pivot.col e h) c.in_err-pivot-in-Pivot.ensures)

pub returns-in_err-stage-in-Touch : goal.returns-in_err-stage-in-Touch
returns-in_err-stage-in-Touch c =
    let e : next c.args.self.rows ≡ StageStands = search rules in
    let p = err_from_is_err_and c.from_residual-in_err-stage-in-Touch.result c.from_residual-in_err-stage-in-Touch.ensures.1 in
    rw (p.1, p.2) (stops_on c.args.budget _ _ c.in_err-stage-in-Touch.field-0.0 (by_stage c.args.f.now c.args.budget c.args.self e) c.in_err-stage-in-Touch.ensures)

pub returns-in_err-end-in-Lean : goal.returns-in_err-end-in-Lean
returns-in_err-end-in-Lean c =
    let e : next c.args.self.rows ≡ EndsLean = search rules in
    let p = err_from_is_err_and c.from_residual-in_err-end-in-Lean.result c.from_residual-in_err-end-in-Lean.ensures.1 in
    rw (p.1, p.2) (stops_out c.args.budget c.args.self.pivots _ _ c.in_err-end-in-Lean.field-0.0 (by_end c.args.f.now c.args.budget c.args.self e) c.in_err-end-in-Lean.ensures)

pub returns-in_ok-pivot-in-Pivot : goal.returns-in_ok-pivot-in-Pivot
returns-in_ok-pivot-in-Pivot c =
    let e : next c.args.self.rows ≡ PivotOn c.in-Pivot.row c.in-Pivot.col = search rules in
    let h : c.args.self.pivots ≢ c.args.budget = search rules in
    by_pivot c.args.f.now c.args.budget c.args.self c.in-Pivot.row c.in-Pivot.col e h ∙ c.in_ok-pivot-in-Pivot.ensures

pub returns-in_ok-stage-in-Touch : goal.returns-in_ok-stage-in-Touch
returns-in_ok-stage-in-Touch c =
    let e : next c.args.self.rows ≡ StageStands = search rules in
    by_stage c.args.f.now c.args.budget c.args.self e ∙ c.in_ok-stage-in-Touch.ensures

pub returns-in_ok-end-in-Lean : goal.returns-in_ok-end-in-Lean
returns-in_ok-end-in-Lean c =
    let e : next c.args.self.rows ≡ EndsLean = search rules in
    (c.args.self.pivots, by_end c.args.f.now c.args.budget c.args.self e ∙ c.in_ok-end-in-Lean.ensures)
