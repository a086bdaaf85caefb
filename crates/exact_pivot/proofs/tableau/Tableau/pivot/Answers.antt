use Rattle.std.proofs.Common.{◌≡◌, ℕ, Bool, Err, None, refl, subst, sym, ap, ◌∙◌}
use Rattle.std.proofs.lemmas.Result.{err_from_is_err_and}
use Rattle.lk_model.specs.Linear.Arithmetic.{first_wide}
use Rattle.lk_model.specs.Linear.Pivot.{in_first_phase, made_in_pivot, pivoted}
use Rattle.lk_model.specs.Linear.Rows.{TableauRows}
use Rattle.lk_model.specs.Linear.Phases.{next, PivotOn}
use Rattle.exact_pivot.specs.AtPivots.{IsAtPivot}
use Rattle.exact_pivot.specs.Moves.{Gives}
use Rattle.exact_pivot.specs.Seen.{tableau_rows}
use Rattle.exact_pivot.specs.Shape.{IsTableau}
use Rattle.exact_pivot.proofs.Shapes.{pivot_of, tableau_after}
use Rattle.exact_pivot.proofs.Pivoting.{stops_for}
use Rattle.exact_pivot.proofs.tableau.Tableau.pivot.Goals as goal

at_pivot : (s t : TableauRows) (i k : ℕ) (phase : Bool) → t ≡ s → IsTableau t → next s ≡ PivotOn i k → phase ≡ in_first_phase s → IsAtPivot t i k t.rows t.cost phase
at_pivot s t i k phase e shape n p = record {
  shape = shape;
  pivot = pivot_of t i k shape (subst (λ x. next x ≡ PivotOn i k) (sym e) n);
  rows_are = refl;
  cost_is = refl;
  phase = p ∙ ap in_first_phase (sym e);
}

pub pivot_rows-requires : goal.pivot_rows-requires
pivot_rows-requires c =
    let t : TableauRows = tableau_rows c.self.inside in
    (t, at_pivot c.args.self t c.args.row c.args.col c.is_in_first_phase-first_phase.result c.self.view_is c.self.invariant c.requires c.is_in_first_phase-first_phase.ensures)

pub returns-in_err-pivot_rows : goal.returns-in_err-pivot_rows
returns-in_err-pivot_rows c =
    let t : TableauRows = tableau_rows c.self.inside in
    let at = at_pivot c.args.self t c.args.row c.args.col c.is_in_first_phase-first_phase.result c.self.view_is c.self.invariant c.requires c.is_in_first_phase-first_phase.ensures in
    let e = err_from_is_err_and c.from_residual.result c.from_residual.ensures.1 in
    rw (e.1, e.2) (subst (λ s. Gives (made_in_pivot s c.args.row c.args.col) (pivoted c.args.self c.args.row c.args.col) (Err c.in_err-pivot_rows.field-0.0)) c.self.view_is
    (stops_for (made_in_pivot t c.args.row c.args.col) (pivoted c.args.self c.args.row c.args.col) c.in_err-pivot_rows.field-0.0 (c.in_err-pivot_rows.ensures.made t at)))

pub invariant_of-result : goal.invariant_of-result
invariant_of-result c =
    let t : TableauRows = tableau_rows c.self.inside in
    let at = at_pivot c.args.self t c.args.row c.args.col c.is_in_first_phase-first_phase.result c.self.view_is c.self.invariant c.requires c.is_in_first_phase-first_phase.ensures in
    subst IsTableau (sym (c.in_ok-pivot_rows.ensures.rows t at)) (tableau_after t c.args.row c.args.col c.self.invariant (subst (λ s. next s ≡ PivotOn c.args.row c.args.col) (sym c.self.view_is) c.requires))

pub returns : goal.returns
returns c =
    let t : TableauRows = tableau_rows c.self.inside in
    let at = at_pivot c.args.self t c.args.row c.args.col c.is_in_first_phase-first_phase.result c.self.view_is c.self.invariant c.requires c.is_in_first_phase-first_phase.ensures in (
      subst (λ s. first_wide (made_in_pivot s c.args.row c.args.col) ≡ None) c.self.view_is (c.in_ok-pivot_rows.ensures.made t at).0,
      c.in_ok-pivot_rows.ensures.rows t at ∙ ap (λ s. pivoted s c.args.row c.args.col) c.self.view_is,
    )
