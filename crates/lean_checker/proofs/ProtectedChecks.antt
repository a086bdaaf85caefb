-- The checks of the class under the protected variables are those on the formula without their literals.
use Rattle.std.proofs.Common.{◌≡◌, ◌∙◌, ℕ, List, ◌∷◌, [], refl, sym, ap, subst, true, Option, None}
use Rattle.lk_model.specs.Lists.{among}
use Rattle.lk_model.specs.Formulas.Formula.{Cnf}
use Rattle.lk_model.specs.Formulas.Crossed.{Variables, no_variable, AreVariables, formula_without, protected_by}
use Rattle.lk_model.specs.Documents.Form.{is_done_in_form, is_protect_line}
use Rattle.lk_model.specs.Checks.Check.{Check, first_of}
use Rattle.lk_model.specs.Checks.CommonChecks.{other_formula, not_autarky, not_exactly_removed}
use Rattle.lk_model.specs.Checks.PureChecks.{bad_order, bad_pair}
use Rattle.lk_model.specs.Checks.MatchingChecks.{bad_owner, bad_row}
use Rattle.lk_model.specs.Checks.LinearChecks.{bad_sign, bad_stage, bad_dual, bad_balance, bad_unit}
use Rattle.lk_model.specs.Checks.RoundChecks.{not_blocked}
use Rattle.lk_model.specs.Checks.Checks.{first_failure, first_five, class_checks}
use Rattle.lk_model.specs.declared.document.Body.{Body}
use Rattle.lk_model.specs.declared.document.Body.TheVariants.{Pure, Matching, Linear, General}
use Rattle.lk_model.specs.declared.document.Document.TheVariants.{Done}
use Rattle.lk_model.specs.declared.document.DoneDocument.{DoneDocument}
use Rattle.lk_model.specs.declared.verdict.Why.{Why}
use Rattle.kernel_laws.proofs.FirstChecks.{none_protected}
use Rattle.kernel_laws.proofs.Passed.{none_fails, first_behind, in_form}
use Rattle.kernel_laws.proofs.EmptyLaws.{empty_law}
use Rattle.document_laws.specs.Without.{document_without}
use Rattle.document_laws.proofs.ProtectedCheckLaws.{protected_check_law}
use Rattle.document_laws.proofs.Commons.{set_unset, other_same, autarky_same, removal_same, kept_passes}
use Rattle.lean_checker.specs.Accepted.{HasSizes}
use Rattle.lean_checker.proofs.FirstFailures.{passes_first}

-- where no variable is listed, they are those on the formula itself
pub none_listed : (F : Cnf) (vs : List ℕ) → vs ≡ [] → F ≡ formula_without F (among vs)
none_listed F vs none = sym (empty_law.formula F) ∙ ap (λ (ws : List ℕ). formula_without F (among ws)) (sym none)

pub none_protected_is : (F : Cnf) (protect : Option (List ℕ)) → protect ≡ None → F ≡ formula_without F (protected_by protect)
none_protected_is F protect none = sym (empty_law.formula F) ∙ ap (λ (o : Option (List ℕ)). formula_without F (protected_by o)) (sym none)

-- they read no clause line
texts_unread : (P : Variables) (F : Cnf) (d : DoneDocument) (body : Body) → class_checks no_variable F d body ≡ class_checks no_variable F (document_without d P) body
unfolding bad_order bad_pair bad_owner bad_row bad_sign bad_stage bad_dual bad_balance bad_unit not_blocked
texts_unread P F d (Pure order pairs) = refl
texts_unread P F d (Matching own rows) = refl
texts_unread P F d (Linear stages dual units) = refl
texts_unread P F d (General rounds) = refl

-- the protected variables are variables of the formula
protected_within : (F : Cnf) (d : DoneDocument) → is_done_in_form d ≡ true → HasSizes F d → AreVariables F (protected_by d.protect)
protected_within F d form sizes = protected_check_law.line F d.protect (subst (λ (n : ℕ). is_protect_line n d.protect ≡ true) sizes.vars (in_form d form).protect)

-- so what the class finds there is the first failure, where the other checks find none
pub found_without : (F : Cnf) (d : DoneDocument) (o : Option Why) → is_done_in_form d ≡ true → HasSizes F d → None ≡ first_of (first_five (protected_by d.protect) F d)
    → o ≡ first_of (class_checks no_variable (formula_without F (protected_by d.protect)) d d.body) → o ≡ first_failure F (Done d)
found_without F d o form sizes none found =
    let P = protected_by d.protect in
    let G = formula_without F P in
    let e = document_without d P in
    let vars = protected_within F d form sizes in
    let h = none_fails (first_five P F d) (sym none) in
    let unset = set_unset P F d vars h.1.1.0 in
    let other : (other_formula G d.vars d.clauses).place ≡ None = ap (λ (c : Check). c.place) (sym (other_same F P d.vars d.clauses)) ∙ h.0 in
    let autarky : None ≡ (not_autarky G e).place = sym h.1.1.1.0 ∙ ap (λ (c : Check). c.place) (autarky_same P F d unset) in
    let removal : None ≡ (not_exactly_removed G e).place = sym h.1.1.1.1.0 ∙ ap (λ (c : Check). c.place) (removal_same P F d unset) in
    found
    ∙ ap (λ (cs : List Check). first_of cs) (texts_unread P G d d.body)
    ∙ passes_first (not_exactly_removed G e) (class_checks no_variable G e d.body) removal
    ∙ passes_first (not_autarky G e) (not_exactly_removed G e ∷ class_checks no_variable G e d.body) autarky
    ∙ sym (first_behind no_variable G e other (kept_passes P F d h.1.0) (none_protected G e))
    ∙ sym (protected_check_law.done P F d vars h.0 h.1.0 h.1.1.0)
