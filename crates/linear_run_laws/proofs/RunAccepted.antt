-- What the linear run ends with is accepted, and a reduction of the formula.
use Rattle.std.proofs.Common.{◌≡◌, ℕ, ◌∙◌, Bool, true, false, not, ◌&&◌, nat_le, List, ◌++◌, length, refl, sym, ap, subst, arith, ℤ, pos, Option, Some, None, is_some, IsTrue, int_lt, ◌≤ℤ◌}
use Rattle.std.specs.Prelude.{IfSome}
use Rattle.std.specs.Option.{option_map_or}
use Rattle.std.proofs.lemmas.Bool.{le-leb}
use Rattle.std.proofs.lemmas.Int.{ints}
use Rattle.lk_model.specs.Lists.{among}
use Rattle.lk_model.specs.Limits.{max_vars, max_clauses}
use Rattle.lk_model.specs.Formulas.Formula.{Cnf, is_formula, IsWithinLimits, clause_at, positions_of, variables_to}
use Rattle.lk_model.specs.Formulas.Assignment.{Assignment, assignment_of, touches}
use Rattle.lk_model.specs.Formulas.Autarky.{IsLinearAutarky, first_sign, first_balance}
use Rattle.lk_model.specs.Formulas.Crossed.{no_variable}
use Rattle.lk_model.specs.Formulas.Lean.{all_of}
use Rattle.lk_model.specs.Linear.Arithmetic.{first_wide}
use Rattle.lk_model.specs.Linear.Rows.{start_of}
use Rattle.lk_model.specs.Linear.Phases.{EndsLean, next}
use Rattle.lk_model.specs.Linear.Ends.{dual_at_end, units_at_end, made_in_dual, made_in_units}
use Rattle.lk_model.specs.Documents.Form.{is_body, is_done_in_form}
use Rattle.lk_model.specs.Checks.CommonChecks.{not_autarky, not_exactly_removed}
use Rattle.lk_model.specs.Checks.LinearChecks.{bad_sign, bad_stage, bad_dual, bad_balance, bad_unit, is_same_value}
use Rattle.lk_model.specs.Checks.Checks.{Accepts, first_failure_under}
use Rattle.lk_model.specs.declared.document.Stage.{Stage}
use Rattle.lk_model.specs.declared.document.Dual.{Dual}
use Rattle.lk_model.specs.declared.document.Unit.{Unit}
use Rattle.lk_model.specs.declared.document.Body.TheVariants.{Linear}
use Rattle.lk_model.specs.declared.document.DoneDocument.{DoneDocument}
use Rattle.lk_model.specs.declared.result.LinearResult.{LinearResult}
use Rattle.lk_model.proofs.Counting.{among-filter}
use Rattle.lk_model.proofs.Founds.{none_found, is_position}
use Rattle.kernel_laws.proofs.FirstChecks.{same_formula, same_lines, none_protected, autarky_passes, removal_passes}
use Rattle.kernel_laws.proofs.KeptLines.{lines_form}
use Rattle.kernel_laws.proofs.Occurrences.{in_positions}
use Rattle.exact_pivot.specs.Reached.{ReachedRows}
use Rattle.exact_pivot.proofs.ReachedRows.{reached_rows}
use Rattle.kernel_laws.proofs.LinearAutarkies.{signed_clause, linear_is_autarky}
use Rattle.kernel_laws.proofs.EmptyLaws.{empty_law}
use Rattle.linear_laws.proofs.LinearAccepted.{linear_law}
use Rattle.linear_run_laws.specs.RunLaw.{LinearRunLaw, sign_line, linear_document}
use Rattle.linear_run_laws.proofs.RunRows.{rows_with, shaped}
use Rattle.linear_run_laws.proofs.RunMoments.{Begun, IsFinal, weightings, is_left, left_rises, run_ends}
use Rattle.linear_run_laws.proofs.SignLines.{line_rises, line_signs}
use Rattle.linear_run_laws.proofs.EndLines.{dual_passes, balance_passes, unit_passes, duals_form, units_rise, units_form}

-- WHAT THE STAGES SHOW

module _ (F : Cnf) (r : LinearResult) (b : Begun F r.stages r.kept) where
  abbrev d : DoneDocument
  d = linear_document F r

  abbrev φ : Assignment
  φ = assignment_of (sign_line F r.stages)

  -- the set line has the signs of the stages
  signs : (v : ℕ) → φ v ≡ first_sign (weightings r.stages) v
  signs = line_signs F r.stages b.form

  -- the set line is a linear autarky on the whole formula
  autarky : IsLinearAutarky F (all_of F) φ
  autarky = record { weightings = weightings r.stages; signs = signs; balances = b.balances }

  -- it touches what is not kept
  touched : (p : ℕ) → IsTrue (all_of F p) → touches φ (clause_at F p) ≡ not (among r.kept p)
  touched p inside =
      let same : φ ≡ first_sign (weightings r.stages) = λ i v. signs v i in
      let kept : among r.kept p ≡ not (is_some (first_balance (weightings r.stages) (clause_at F p))) =
      ap (λ ps. among ps p) b.left ∙ among-filter (is_left F r.stages) (positions_of F) p ∙ rw (in_positions F p inside) (and_true_right (is_left F r.stages p)) in
      ap (λ (ψ : Assignment). touches ψ (clause_at F p)) same ∙ signed_clause (weightings r.stages) (clause_at F p) ∙ twice (is_some (first_balance (weightings r.stages) (clause_at F p))) ∙ sym (ap not kept)
    where
      and_true_right : (a : Bool) → (a && true) ≡ a
      and_true_right true = refl
      and_true_right false = refl

      twice : (a : Bool) → a ≡ not (not a)
      twice true = refl
      twice false = refl

  -- THE CHECKS: the set line satisfies what it touches
  autarky_met : (not_autarky F d).place ≡ None
  autarky_met = autarky_passes F d (linear_is_autarky F (all_of F) φ autarky)

  -- and touches what is not kept
  removal_met : (not_exactly_removed F d).place ≡ None
  removal_met = removal_passes F d touched

  -- its signs are those of the stages
  sign_passes : (bad_sign F d r.stages).place ≡ None
  unfolding bad_sign
  sign_passes = none_found (λ v. not (is_same_value (φ v) (first_sign (weightings r.stages) v))) (variables_to F.vars)
      (λ v there. ap not (ap (λ o. is_same_value o (first_sign (weightings r.stages) v)) (signs v) ∙ same_as_itself (first_sign (weightings r.stages) v)))
    where
      same_as_itself : (o : Option Bool) → is_same_value o o ≡ true
      same_as_itself None = refl
      same_as_itself (Some true) = refl
      same_as_itself (Some false) = refl

  -- and no first balance is below 0
  stage_passes : (bad_stage F d r.stages).place ≡ None
  unfolding bad_stage
  stage_passes = none_found (λ p. option_map_or (λ b. int_lt b (pos 0)) (first_balance (weightings r.stages) (clause_at F p)) false) (positions_of F)
      (λ p there. by_balance (first_balance (weightings r.stages) (clause_at F p)) (b.balances p (is_position F p there)))
    where
      least : (z : ℤ) → pos 0 ≤ℤ z → int_lt z (pos 0) ≡ false
      least z h = grind (arith, ints)

      by_balance : (o : Option ℤ) → IfSome o (λ b. pos 0 ≤ℤ b) → option_map_or (λ b. int_lt b (pos 0)) o false ≡ false
      by_balance None h = refl
      by_balance (Some z) h = least z h

-- WHAT THE END SHOWS

-- no check of the dual and unit lines fails, and they are in form
record HasGoodEnd (F : Cnf) (d : DoneDocument) (dual : List Dual) (units : List Unit) (stages : List Stage) : Type 0 where
  duals : (bad_dual F d dual).place ≡ None
  balances : (bad_balance no_variable F d dual).place ≡ None
  units_pass : (bad_unit no_variable F d units).place ≡ None
  body : is_body F.vars (length F.clauses) (Linear stages dual units) ≡ true

-- the end of a run is a good one
good_end : (F : Cnf) (r : LinearResult) → IsFinal F r.kept r.stages r.dual r.units → HasGoodEnd F (linear_document F r) r.dual r.units r.stages
unfolding bad_dual bad_balance bad_unit is_body
good_end F r f =
    let reached = reached_rows F r.kept f.rows f.reached in
    let is : f.rows ≡ rows_with F r.kept f.rows.rows f.rows.cost = shaped F r.kept f.rows reached in
    let facts : ReachedRows (start_of F r.kept) (rows_with F r.kept f.rows.rows f.rows.cost) = subst (ReachedRows (start_of F r.kept)) is reached in
    let ends : next (rows_with F r.kept f.rows.rows f.rows.cost) ≡ EndsLean = subst (λ t. next t ≡ EndsLean) is f.ends in
    let fits : first_wide (made_in_dual (rows_with F r.kept f.rows.rows f.rows.cost) ++ made_in_units (rows_with F r.kept f.rows.rows f.rows.cost)) ≡ None =
    subst (λ t. first_wide (made_in_dual t ++ made_in_units t) ≡ None) is f.fits in
    let dual : dual_at_end (rows_with F r.kept f.rows.rows f.rows.cost) ≡ r.dual = sym (f.dual_is ∙ ap dual_at_end is) in
    let units : units_at_end (rows_with F r.kept f.rows.rows f.rows.cost) ≡ r.units = sym (f.units_is ∙ ap units_at_end is) in
    let rise = left_rises F r.stages r.kept f.begun in
    subst (λ ds. HasGoodEnd F (linear_document F r) ds r.units r.stages) dual
    (subst (λ us. HasGoodEnd F (linear_document F r) (dual_at_end (rows_with F r.kept f.rows.rows f.rows.cost)) us r.stages) units (record {
      duals = none_found _ (positions_of F) (λ p there. dual_passes F r.kept f.rows.rows f.rows.cost facts ends p);
      balances = none_found _ (variables_to F.vars) (λ v there. balance_passes F r.kept f.rows.rows f.rows.cost facts ends v there);
      units_pass = none_found _ (variables_to F.vars) (λ v there. unit_passes F r.kept f.rows.rows f.rows.cost facts ends v there);
      body = rw (
        f.begun.form,
        duals_form F r.kept f.rows.rows f.rows.cost facts ends fits rise,
        units_rise F r.kept f.rows.rows f.rows.cost facts ends fits rise,
        units_form F r.kept f.rows.rows f.rows.cost facts ends fits rise,
      ) refl;
    }))

-- ACCEPTED

-- the document is in form
form_of : (F : Cnf) (r : LinearResult) → is_formula F ≡ true → IsWithinLimits F → IsFinal F r.kept r.stages r.dual r.units → is_done_in_form (linear_document F r) ≡ true
unfolding is_done_in_form
form_of F r form limits f =
    let vars : nat_le F.vars max_vars ≡ true = le-leb F.vars max_vars limits.vars in
    let clauses : nat_le (length F.clauses) max_clauses ≡ true = le-leb (length F.clauses) max_clauses limits.clauses in
    let rise = left_rises F r.stages r.kept f.begun in
    rw (vars, clauses, rise, line_rises F r.stages, (good_end F r f).body, lines_form F r.kept form limits rise) refl

-- and no check of it fails
pub accepted : (F : Cnf) (r : LinearResult) → is_formula F ≡ true → IsWithinLimits F → IsFinal F r.kept r.stages r.dual r.units → Accepts F (linear_document F r)
unfolding first_failure_under
accepted F r form limits f =
    let g = good_end F r f in
    record {
      form = form_of F r form limits f;
      checks = rw (
        same_formula F,
        same_lines F (linear_document F r) refl,
        none_protected F (linear_document F r),
        autarky_met F r f.begun,
        removal_met F r f.begun,
        sign_passes F r f.begun,
        stage_passes F r f.begun,
        g.duals,
        g.balances,
        g.units_pass,
      ) refl;
    }

-- THE LAW
pub linear_run_law : LinearRunLaw
linear_run_law = record {
  reduces = λ F pivots made r form limits e.
      let fine = accepted F r form limits (run_ends F form limits pivots r.kept r.stages r.dual r.units made e) in
      record {
        class_is = refl;
        accepted = fine;
        reduction = linear_law.accepted F (linear_document F r) form refl fine;
        stated = (made, empty_law.linear F pivots ∙ e);
      };
}
