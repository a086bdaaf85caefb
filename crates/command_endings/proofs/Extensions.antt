-- What comes of a model by a finished document.
use Rattle.std.proofs.Common.{◌≡◌, ◌∙◌, ℕ, List, [], ◌∷◌, ◌++◌, map, true, false, not, ℤ, Option, Some, None, unwrap_or, refl, ap, sym, subst}
use Rattle.std.specs.Prelude.{IsTrue}
use Rattle.lk_model.specs.Lists.{among, rises_within}
use Rattle.lk_model.specs.Formulas.Literal.{variable}
use Rattle.lk_model.specs.Formulas.Formula.{Cnf, clause_at}
use Rattle.lk_model.specs.Formulas.Assignment.{Assignment, assignment_of, satisfies, extended, extended_value, IsModel}
use Rattle.lk_model.specs.Formulas.Crossed.{protected_by}
use Rattle.lk_model.specs.Formulas.Lean.{all_of}
use Rattle.lk_model.specs.Documents.Form.{is_done_in_form}
use Rattle.lk_model.specs.Checks.Check.{Check, first_of}
use Rattle.lk_model.specs.Checks.CommonChecks.{model_fails}
use Rattle.lk_model.specs.Checks.Checks.{Accepts, first_five, first_failure_to_extend, first_failure_to_extend_under}
use Rattle.lk_model.specs.declared.document.DoneDocument.{DoneDocument}
use Rattle.lk_model.specs.declared.document.Document.TheVariants.{Done as Finished}
use Rattle.lk_model.specs.declared.verdict.Why.{Why}
use Rattle.lk_model.proofs.Founds.{none_found}
use Rattle.kernel_laws.proofs.Passed.{HaveNoPlace, none_fails, has_passed, same_numbers, in_form}
use Rattle.lean_checker.proofs.ExtendFailures.{model_place}
use Rattle.command_endings.specs.Commands.Extend.{Outcome, Open, Fails, Extends, extension, outcome_by, outcome_status, written_of, said_of, model_line, failure_line, Tells}
use Rattle.status_lines.specs.Statuses.{is_result}
use Rattle.status_lines.specs.declared.status.Status.{Status}
use Rattle.status_lines.specs.declared.status.Status.TheVariants.{Done, Refused}

-- the status of an outcome is one of a result
pub outcome_result : (o : Outcome) (status : Status) → status ≡ outcome_status o → IsTrue (is_result status)
outcome_result o status e = subst (λ (s : Status). IsTrue (is_result s)) (sym e) (by o)
  where
    by : (o : Outcome) → IsTrue (is_result (outcome_status o))
    by Open = refl
    by (Fails why) = refl
    by (Extends literals) = refl

-- WHERE THE CHECKS PASS

-- the set line rises over the formula's variables
pub set_rises : (F : Cnf) (d : DoneDocument) (ψ : Assignment) → is_done_in_form d ≡ true → first_failure_to_extend F d ψ ≡ None → rises_within 0 F.vars (map variable d.set) ≡ true
unfolding first_failure_to_extend_under
set_rises F d ψ form e =
    let h = none_fails (first_five (protected_by d.protect) F d ++ model_fails F d ψ ∷ []) e in
    subst (λ (n : ℕ). rises_within 0 n (map variable d.set) ≡ true) (same_numbers F d.vars d.clauses h.0).0 (in_form d form).set

-- where no check has a place, none fails
none_first : (cs : List Check) → HaveNoPlace cs → first_of cs ≡ None
none_first [] h = refl
none_first (c ∷ cs) h = rw h.0 (none_first cs h.1)

none_unsatisfied : (F : Cnf) (d : DoneDocument) (ψ : Assignment) → IsModel F (among d.kept) ψ → (model_fails F d ψ).place ≡ None
none_unsatisfied F d ψ m = model_place F d ψ ∙ none_found (λ p. not (satisfies ψ (clause_at F p))) d.kept (λ p there. ap not (m p there))

-- they pass for an accepted document and a model of the kept clauses
pub accepted_extends : (F : Cnf) (d : DoneDocument) (ψ : Assignment) → Accepts F d → IsModel F (among d.kept) ψ → first_failure_to_extend F d ψ ≡ None
unfolding first_failure_to_extend_under
accepted_extends F d ψ a m =
    let h = has_passed (protected_by d.protect) F d a.checks in
    none_first (first_five (protected_by d.protect) F d ++ model_fails F d ψ ∷ []) (h.formula, (h.lines, (h.unset, (h.autarky, (h.removed, (none_unsatisfied F d ψ m, tt))))))

-- WHAT IS TOLD

-- a check fails
pub tells_failure : (F : Cnf) (d : DoneDocument) (ψ : Assignment) (why : Why) (written said : List ℕ) → Some why ≡ first_failure_to_extend F d ψ → written ≡ [] → said ≡ failure_line why → Tells F (Finished d) ψ Refused written said
tells_failure F d ψ why written said e w s = record {
  status_is = ap (λ (o : Option Why). outcome_status (outcome_by F d ψ o)) e;
  writes = w ∙ ap (λ (o : Option Why). written_of (outcome_by F d ψ o)) e;
  says = s ∙ ap (λ (o : Option Why). said_of (outcome_by F d ψ o)) e;
  proved = λ none. let f : ⊥ = cc (e, none) in absurd f;
}

-- the model is extended
pub tells_extension : (F : Cnf) (d : DoneDocument) (ψ : Assignment) (literals : List ℤ) (written said : List ℕ) → None ≡ first_failure_to_extend F d ψ → literals ≡ extension F d ψ
    → assignment_of literals ≡ extended (assignment_of d.set) ψ F.vars → IsModel F (all_of F) (extended (assignment_of d.set) ψ F.vars)
    → ((v : ℕ) → IsTrue (protected_by d.protect v) → extended_value (assignment_of d.set) ψ v ≡ unwrap_or (ψ v) false) → written ≡ model_line literals → said ≡ [] → Tells F (Finished d) ψ Done written said
tells_extension F d ψ literals written said e is values model keep w s =
    let same : assignment_of (extension F d ψ) ≡ extended (assignment_of d.set) ψ F.vars = ap (λ (ls : List ℤ). assignment_of ls) (sym is) ∙ values in
    record {
      status_is = ap (λ (o : Option Why). outcome_status (outcome_by F d ψ o)) e;
      writes = w ∙ ap model_line is ∙ ap (λ (o : Option Why). written_of (outcome_by F d ψ o)) e;
      says = s ∙ ap (λ (o : Option Why). said_of (outcome_by F d ψ o)) e;
      proved = λ _. record { values = same; model = subst (λ (φ : Assignment). IsModel F (all_of F) φ) (sym same) model; protected = keep };
    }
