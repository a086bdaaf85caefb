-- What a reducer finds on the formula without the protected variables, written with the clauses of the formula, reduces it.
use Rattle.std.proofs.Common.{◌≡◌, ℕ, Bool, true, false, not, ◌&&◌, List, ◌∷◌, length, map, refl, sym, ◌∙◌, ap, subst, inl, inr, arith, ℤ, Option, Some, None, is_some}
use Rattle.std.specs.Prelude.{nat_le, nat_lt, ◌^◌}
use Rattle.std.proofs.lemmas.Bool.{cases_Bool, both_ways, and_from, not-true, not-false, leb-true}
use Rattle.lk_model.specs.declared.class.Class.{Class}
use Rattle.lk_model.specs.declared.class.Class.TheVariants as class
use Rattle.lk_model.specs.Lists.{rises_within}
use Rattle.lk_model.specs.Formulas.Literal.{variable, mentions}
use Rattle.lk_model.specs.Formulas.Formula.{Cnf, is_formula, IsWithinLimits, clause_at, positions_of, variable_occurs}
use Rattle.lk_model.specs.Formulas.Crossed.{Variables, no_variable, AreVariables, formula_without, protected_by}
use Rattle.lk_model.specs.Formulas.Assignment.{assignment_of}
use Rattle.lk_model.specs.Formulas.Autarky.{first_sign}
use Rattle.lk_model.specs.Formulas.Lean.{are_positions}
use Rattle.lk_model.specs.Formulas.Protected.{SetsNone}
use Rattle.lk_model.specs.Linear.LinearRun.{linear_run}
use Rattle.lk_model.specs.Documents.Documents.{class_of, weighting_of, steps_of}
use Rattle.lk_model.specs.Documents.Form.{is_size, is_protect_line, is_body, are_steps, end_open, are_clause_lines, is_done_in_form, is_open_in_form}
use Rattle.lk_model.specs.Checks.Check.{Check, first_of}
use Rattle.lk_model.specs.Checks.CommonChecks.{other_formula, not_autarky, not_exactly_removed}
use Rattle.lk_model.specs.Checks.PureChecks.{bad_order, bad_pair}
use Rattle.lk_model.specs.Checks.MatchingChecks.{bad_owner, bad_row}
use Rattle.lk_model.specs.Checks.LinearChecks.{is_same_value, bad_sign, bad_stage, bad_dual, bad_balance, bad_unit}
use Rattle.lk_model.specs.Checks.RoundChecks.{bad_step, not_blocked, bad_count}
use Rattle.lk_model.specs.Checks.Checks.{checks_under, class_checks, first_failure_under, AcceptsUnder, Accepts, IsSoundUnder, IsSound, HasProgressUnder}
use Rattle.lk_model.specs.Reduction.{IsStatedBody, IsReductionUnder, Reduces}
use Rattle.lk_model.specs.declared.document.Own.{Own}
use Rattle.lk_model.specs.declared.document.Stage.{Stage}
use Rattle.lk_model.specs.declared.document.Body.{Body}
use Rattle.lk_model.specs.declared.document.Body.TheVariants.{Pure, Matching, Linear, General}
use Rattle.lk_model.specs.declared.document.DoneDocument.{DoneDocument}
use Rattle.lk_model.specs.declared.document.OpenDocument.{OpenDocument}
use Rattle.lk_model.specs.declared.document.Document.TheVariants.{Unfinished}
use Rattle.lk_model.specs.declared.result.MatchingResult.{MatchingResult}
use Rattle.lk_model.specs.declared.result.GeneralResult.{GeneralResult}
use Rattle.lk_model.proofs.Booleans.{and_true}
use Rattle.lk_model.proofs.Founds.{none_to, all_literals}
use Rattle.lk_model.proofs.Keys.{key_found}
use Rattle.lk_model.proofs.ListTests.{passes_each}
use Rattle.lk_model.proofs.Crossings.{formula_form, fewer_literals}
use Rattle.lk_model.specs.Formulas.Formula.{clauses_at}
use Rattle.kernel_laws.proofs.KeptLines.{lines_form, all_lines_form}
use Rattle.kernel_laws.proofs.FirstChecks.{same_lines, same_every, protected_passes, none_protected}
use Rattle.kernel_laws.proofs.Passed.{HaveNoPlace, none_fails, has_passed, same_numbers, first_behind, behind_open, first_behind_open}
use Rattle.kernel_laws.proofs.Crossing.{same_count, mentions_crossed, clause_without, occurs_without}
use Rattle.kernel_laws.proofs.EmptyLaws.{formula_same}
use Rattle.pure_laws.proofs.Orders.{order_by_check}
use Rattle.matching_laws.specs.MatchingResults.{IsMatchingResult, set_line, matching_document}
use Rattle.matching_laws.proofs.SetLines.{set_owned}
use Rattle.matching_laws.proofs.MatchingReductions.{matching_result_law}
use Rattle.general_laws.specs.GeneralResults.{IsGeneralResult, general_document}
use Rattle.general_laws.proofs.SetUnions.{set_mentioned}
use Rattle.general_laws.proofs.GeneralResults.{general_result_law}
use Rattle.document_laws.specs.Without.{document_without, open_without}
use Rattle.document_laws.specs.FoundLaw.{written_for, open_written_for, rest_of, FoundLaw}
use Rattle.document_laws.proofs.Runs.{outside_unset, pure_run_from, pure_run_outside, pairs_same}
use Rattle.document_laws.proofs.Rounds.{progress_same}
use Rattle.document_laws.proofs.LinearRuns.{stages_off, no_signs}
use Rattle.document_laws.proofs.Commons.{other_same, kept_passes, every_passes}
use Rattle.document_laws.proofs.ProtectedCheckLaws.{line_within, done_same, open_same}
use Rattle.document_laws.proofs.AcceptedLaws.{reduction_by}

-- DOCUMENTS WITHOUT A PROTECT LINE

-- what they reduce, with no variable protected
record IsPlain (G : Cnf) (class : Class) (pivots : ℕ) (d : DoneDocument) : Type 0 where
  class_is : class_of d.body ≡ class
  accepted : AcceptsUnder no_variable G d
  reduction : IsReductionUnder no_variable G d
  stated : IsStatedBody no_variable G pivots d.kept d.body

plain : (G : Cnf) (class : Class) (pivots : ℕ) (d : DoneDocument) → d.protect ≡ None → Reduces G class pivots d → IsPlain G class pivots d
plain G class pivots d e r = record {
  class_is = r.class_is;
  accepted = subst (λ (o : Option (List ℕ)). AcceptsUnder (protected_by o) G d) e r.accepted;
  reduction = subst (λ (o : Option (List ℕ)). IsReductionUnder (protected_by o) G d) e r.reduction;
  stated = subst (λ (o : Option (List ℕ)). IsStatedBody (protected_by o) G pivots d.kept d.body) e r.stated;
}

-- ACCEPTED

-- the checks after the clause lines read neither these nor the protect line
behind_lines : (G : Cnf) (d : DoneDocument) (protect : Option (List ℕ)) (texts : Cnf) (body : Body)
    → first_of (not_autarky G d ∷ not_exactly_removed G d ∷ class_checks no_variable G d body)
    ≡ first_of (not_autarky G (record d { protect = protect; texts = texts }) ∷ not_exactly_removed G (record d { protect = protect; texts = texts })
    ∷ class_checks no_variable G (record d { protect = protect; texts = texts }) body)
unfolding not_autarky not_exactly_removed bad_order bad_pair bad_owner bad_row bad_sign bad_stage bad_dual bad_balance bad_unit bad_step not_blocked
behind_lines G d protect texts (Pure order pairs) = refl
behind_lines G d protect texts (Matching own rows) = refl
behind_lines G d protect texts (Linear stages dual units) = refl
behind_lines G d protect texts (General rounds) = refl

-- the written document is in form
written_form : (F : Cnf) (protect : Option (List ℕ)) (d : DoneDocument) → is_formula F ≡ true → IsWithinLimits F → is_protect_line F.vars protect ≡ true
    → d.vars ≡ F.vars → d.clauses ≡ length F.clauses → is_done_in_form d ≡ true → is_done_in_form (written_for F protect d) ≡ true
unfolding is_done_in_form
written_form F protect d form limits line vars clauses e =
    let a = and_true _ (are_clause_lines d.vars (length d.kept) d.texts) e in
    let b = and_true _ (is_body d.vars d.clauses d.body) a.0 in
    let c = and_true _ (rises_within 0 d.vars (map variable d.set)) b.0 in
    let g = and_true _ (rises_within 0 d.clauses d.kept) c.0 in
    let f = and_true (is_size d.vars d.clauses) (is_protect_line d.vars d.protect) g.0 in
    let kept : are_positions F d.kept ≡ true = subst (λ (m : ℕ). rises_within 0 m d.kept ≡ true) clauses g.1 in
    let lines = subst (λ (n : ℕ). are_clause_lines n (length d.kept) (clauses_at F d.kept) ≡ true) (sym vars) (lines_form F d.kept form limits kept) in
    let protects = subst (λ (n : ℕ). is_protect_line n protect ≡ true) (sym vars) line in
    and_from _ _ (and_from _ _ (and_from _ _ (and_from _ _ (and_from (is_size d.vars d.clauses) (is_protect_line d.vars protect) f.0 protects) g.1) c.1) b.1) lines

-- where a document is accepted without the protected variables and sets none of them, the written one is accepted
written_accepted : (F : Cnf) (protect : Option (List ℕ)) (d : DoneDocument) → is_formula F ≡ true → IsWithinLimits F → is_protect_line F.vars protect ≡ true
    → SetsNone (protected_by protect) (assignment_of d.set) → AcceptsUnder no_variable (rest_of F protect) d → Accepts F (written_for F protect d)
written_accepted F protect d form limits line none a =
    let P = protected_by protect in
    let G = rest_of F protect in
    let w = written_for F protect d in
    let h = has_passed no_variable G d a.checks in
    let numbers = same_numbers G d.vars d.clauses h.formula in
    let other : (other_formula F d.vars d.clauses).place ≡ None = ap (λ (c : Check). c.place) (other_same F P d.vars d.clauses) ∙ h.formula in
    let lines = same_lines F w refl in
    record {
      form = written_form F protect d form limits line numbers.0 (numbers.1 ∙ same_count F P) a.form;
      checks = done_same P F w (line_within F protect line) other lines (protected_passes P F w none)
          ∙ first_behind no_variable G (document_without w P) h.formula (kept_passes P F w lines) (none_protected G (document_without w P))
          ∙ sym (behind_lines G d protect (document_without w P).texts d.body)
          ∙ sym (first_behind no_variable G d h.formula h.lines h.unset)
          ∙ a.checks;
    }

-- and it has the stated certificate
written_stated : (P : Variables) (F : Cnf) (pivots : ℕ) (kept : List ℕ) (body : Body) → IsStatedBody no_variable (formula_without F P) pivots kept body → IsStatedBody P F pivots kept body
written_stated P F pivots kept (Pure order pairs) h = (pure_run_from P F order h.0, h.1 ∙ sym (pairs_same P F kept))
written_stated P F pivots kept (Matching own rows) h = tt
written_stated P F pivots kept (Linear stages dual units) h = (h.0, sym (ap (λ (G : Cnf). linear_run G pivots) (formula_same (formula_without F P))) ∙ h.1)
written_stated P F pivots kept (General rounds) h = tt

-- so it reduces the formula
plain_reduces : (F : Cnf) (protect : Option (List ℕ)) (class : Class) (pivots : ℕ) (d : DoneDocument) → is_formula F ≡ true → IsWithinLimits F
    → is_protect_line F.vars protect ≡ true → SetsNone (protected_by protect) (assignment_of d.set) → IsPlain (rest_of F protect) class pivots d
    → Reduces F class pivots (written_for F protect d)
plain_reduces F protect class pivots d form limits line none r = record {
  class_is = r.class_is;
  accepted = written_accepted F protect d form limits line none r.accepted;
  reduction = reduction_by (protected_by protect) (class_of d.body) F d.kept (assignment_of d.set) form none r.reduction;
  stated = written_stated (protected_by protect) F pivots d.kept d.body r.stated;
}

written_reduces : (F : Cnf) (protect : Option (List ℕ)) (class : Class) (pivots : ℕ) (d : DoneDocument) → is_formula F ≡ true → IsWithinLimits F
    → is_protect_line F.vars protect ≡ true → d.protect ≡ None → SetsNone (protected_by protect) (assignment_of d.set) → Reduces (rest_of F protect) class pivots d
    → Reduces F class pivots (written_for F protect d)
written_reduces F protect class pivots d form limits line e none r = plain_reduces F protect class pivots d form limits line none (plain (rest_of F protect) class pivots d e r)

-- PURE

-- the set line of a pure document with the order of the run sets none of P
pure_unset : (P : Variables) (F : Cnf) (pivots : ℕ) (d : DoneDocument) (body : Body) → class_of body ≡ class.Pure → IsStatedBody no_variable (formula_without F P) pivots d.kept body
    → HaveNoPlace (class_checks no_variable (formula_without F P) d body) → SetsNone P (assignment_of d.set)
pure_unset P F pivots d (Pure order pairs) c stated h =
    let good = order_by_check (formula_without F P) d order h.0 in
    let outside = pure_run_outside P F order (pure_run_from P F order stated.0) in
    outside_unset P d.set (all_literals (λ l. not (P (variable l))) d.set (λ l m. passes_each (λ k. not (P (variable k))) order l outside (good.literals l ∙ m)))
pure_unset P F pivots d (Matching own rows) c stated h = absurd (let f : ⊥ = cc in f)
pure_unset P F pivots d (Linear stages dual units) c stated h = absurd (let f : ⊥ = cc in f)
pure_unset P F pivots d (General rounds) c stated h = absurd (let f : ⊥ = cc in f)

pure_reduces : (F : Cnf) (protect : Option (List ℕ)) (pivots : ℕ) (d : DoneDocument) → is_formula F ≡ true → IsWithinLimits F → is_protect_line F.vars protect ≡ true
    → d.protect ≡ None → Reduces (rest_of F protect) class.Pure pivots d → Reduces F class.Pure pivots (written_for F protect d)
pure_reduces F protect pivots d form limits line e r =
    let p = plain (rest_of F protect) class.Pure pivots d e r in
    plain_reduces F protect class.Pure pivots d form limits line
    (pure_unset (protected_by protect) F pivots d d.body p.class_is p.stated (has_passed no_variable (rest_of F protect) d p.accepted.checks).by_class) p

-- LINEAR

-- no variable of P occurs in the formula without P
none_occurs : (P : Variables) (F : Cnf) (ps : List ℕ) (v : ℕ) → P v ≡ true → variable_occurs (formula_without F P) ps v ≡ false
none_occurs P F ps v y = occurs_without F P ps v ∙ ap (λ (b : Bool). not b && variable_occurs F ps v) y

-- a variable has the value of no sign where the check of signs passes
no_value : (o s : Option Bool) → s ≡ None → is_same_value o s ≡ true → is_some o ≡ false
no_value None s n e = refl
no_value (Some true) None n e = absurd (let f : ⊥ = cc in f)
no_value (Some false) None n e = absurd (let f : ⊥ = cc in f)
no_value (Some b) (Some c) n e = absurd (let f : ⊥ = cc in f)

-- so the set line sets none of the variables of which no stage gives a sign
unsigned_unset : (P : Variables) (G : Cnf) (d : DoneDocument) (stages : List Stage) → AreVariables G P → (bad_sign G d stages).place ≡ None
    → ((v : ℕ) → P v ≡ true → first_sign (map weighting_of stages) v ≡ None) → SetsNone P (assignment_of d.set)
unfolding bad_sign
unsigned_unset P G d stages vars none signs v y =
    let b = and_true (nat_le 1 v) (nat_le v G.vars) (vars v y) in
    let same = not-false (is_same_value (assignment_of d.set v) (first_sign (map weighting_of stages) v))
    (none_to (λ v. not (is_same_value (assignment_of d.set v) (first_sign (map weighting_of stages) v))) G.vars v none (leb-true 1 v b.0) (leb-true v G.vars b.1)) in
    no_value (assignment_of d.set v) (first_sign (map weighting_of stages) v) (signs v y) same

-- the set line of a linear document with the stages of the run sets none of P
linear_unset : (P : Variables) (F : Cnf) (pivots : ℕ) (d : DoneDocument) (body : Body) → AreVariables F P → class_of body ≡ class.Linear
    → IsStatedBody no_variable (formula_without F P) pivots d.kept body → HaveNoPlace (class_checks no_variable (formula_without F P) d body) → SetsNone P (assignment_of d.set)
linear_unset P F pivots d (Linear stages dual units) vars c stated h =
    let run = sym (ap (λ (G : Cnf). linear_run G pivots) (formula_same (formula_without F P))) ∙ stated.1 in
    let off = stages_off (formula_without F P) P pivots d.kept stages dual units stated.0 (none_occurs P F) run in
    unsigned_unset P (formula_without F P) d stages vars h.0 (no_signs P stages off)
linear_unset P F pivots d (Pure order pairs) vars c stated h = absurd (let f : ⊥ = cc in f)
linear_unset P F pivots d (Matching own rows) vars c stated h = absurd (let f : ⊥ = cc in f)
linear_unset P F pivots d (General rounds) vars c stated h = absurd (let f : ⊥ = cc in f)

linear_reduces : (F : Cnf) (protect : Option (List ℕ)) (pivots : ℕ) (d : DoneDocument) → is_formula F ≡ true → IsWithinLimits F → is_protect_line F.vars protect ≡ true
    → d.protect ≡ None → Reduces (rest_of F protect) class.Linear pivots d → Reduces F class.Linear pivots (written_for F protect d)
linear_reduces F protect pivots d form limits line e r =
    let p = plain (rest_of F protect) class.Linear pivots d e r in
    plain_reduces F protect class.Linear pivots d form limits line
    (linear_unset (protected_by protect) F pivots d d.body (line_within F protect line) p.class_is p.stated (has_passed no_variable (rest_of F protect) d p.accepted.checks).by_class) p

-- MATCHING AND GENERAL

-- the formula without P is within the limits
pub limits_without : (P : Variables) (F : Cnf) → IsWithinLimits F → IsWithinLimits (formula_without F P)
limits_without P F limits = record {
  vars = limits.vars;
  clauses = (let same = same_count F P in let fit = limits.clauses in omega (arith, same, fit));
  literals = (let few = fewer_literals P F in let fit = limits.literals in omega (arith, few, fit));
}

-- a variable that occurs there is outside P
outside_where_occurs : (P : Variables) (F : Cnf) (ps : List ℕ) (v : ℕ) → variable_occurs (formula_without F P) ps v ≡ true → P v ≡ false
outside_where_occurs P F ps v e = not-true (P v) (and_true (not (P v)) (variable_occurs F ps v) (sym (occurs_without F P ps v) ∙ e)).0

-- and so is one that a clause there mentions
outside_where_mentioned : (P : Variables) (F : Cnf) (p v : ℕ) → mentions (clause_at (formula_without F P) p) v ≡ true → P v ≡ false
outside_where_mentioned P F p v e =
    not-true (P v) (and_true (not (P v)) (mentions (clause_at F p) v)
    (sym (mentions_crossed P (clause_at F p) v) ∙ sym (ap (λ (c : List ℤ). mentions c v) (clause_without F P p)) ∙ e)).0

-- an assignment whose variables are outside P sets none of P
sets_none_by : (P : Variables) (ls : List ℤ) → ((v : ℕ) → is_some (assignment_of ls v) ≡ true → P v ≡ false) → SetsNone P (assignment_of ls)
sets_none_by P ls out v y = elim (cases_Bool (is_some (assignment_of ls v))) [
  | inl s ↦ absurd (both_ways (P v) (out v s) y)
  | inr n ↦ n
]

-- the set line of a matching result sets own variables alone, and so none of P
matching_unset : (P : Variables) (F : Cnf) (r : MatchingResult) → IsMatchingResult (formula_without F P) (positions_of (formula_without F P)) r
    → SetsNone P (assignment_of (set_line (formula_without F P) r.own))
matching_unset P F r h = sets_none_by P (set_line (formula_without F P) r.own) (λ v s.
    let key = key_found (λ (o : Own). o.var) r.own v (set_owned (formula_without F P) r.own v s) in
    let mentioned : mentions (clause_at (formula_without F P) key.value.pos) key.value.var ≡ true = h.owned key.value key.there in
    outside_where_mentioned P F key.value.pos v (subst (λ (w : ℕ). mentions (clause_at (formula_without F P) key.value.pos) w ≡ true) key.at mentioned))

matching_reduces : (F : Cnf) (protect : Option (List ℕ)) (pivots : ℕ) (r : MatchingResult) → is_formula F ≡ true → IsWithinLimits F → is_protect_line F.vars protect ≡ true
    → IsMatchingResult (rest_of F protect) (positions_of (rest_of F protect)) r → Reduces F class.Matching pivots (written_for F protect (matching_document (rest_of F protect) r))
matching_reduces F protect pivots r form limits line h =
    let P = protected_by protect in
    written_reduces F protect class.Matching pivots (matching_document (rest_of F protect) r) form limits line refl (matching_unset P F r h)
    (matching_result_law.reduces (rest_of F protect) pivots r (formula_form P F form) (limits_without P F limits) h)

-- the set line of a general result is on variables that occur, and so sets none of P
general_unset : (P : Variables) (F : Cnf) (r : GeneralResult) → IsGeneralResult (formula_without F P) (positions_of (formula_without F P)) r → SetsNone P (assignment_of r.set)
general_unset P F r h = sets_none_by P r.set (λ v s.
    outside_where_occurs P F (positions_of (formula_without F P)) v (h.on_part v (set_mentioned r.set v s)))

general_reduces : (F : Cnf) (protect : Option (List ℕ)) (pivots : ℕ) (r : GeneralResult) → is_formula F ≡ true → IsWithinLimits F → is_protect_line F.vars protect ≡ true
    → IsGeneralResult (rest_of F protect) (positions_of (rest_of F protect)) r → Reduces F class.General pivots (written_for F protect (general_document (rest_of F protect) r))
general_reduces F protect pivots r form limits line h =
    let P = protected_by protect in
    written_reduces F protect class.General pivots (general_document (rest_of F protect) r) form limits line refl (general_unset P F r h)
    (general_result_law.reduces (rest_of F protect) pivots r (formula_form P F form) (limits_without P F limits) h)

-- UNFINISHED

-- the written document is in form
open_form : (F : Cnf) (protect : Option (List ℕ)) (d : OpenDocument) → is_formula F ≡ true → IsWithinLimits F → is_protect_line F.vars protect ≡ true
    → d.vars ≡ F.vars → d.clauses ≡ length F.clauses → is_open_in_form d ≡ true → is_open_in_form (open_written_for F protect d) ≡ true
unfolding is_open_in_form
open_form F protect d form limits line vars clauses e =
    let a = and_true _ (are_clause_lines d.vars d.clauses d.texts) e in
    let b = and_true _ (end_open d.rounds) a.0 in
    let c = and_true _ (are_steps d.vars d.clauses (steps_of d.rounds)) b.0 in
    let g = and_true _ (nat_lt d.learned (2 ^ 63)) c.0 in
    let f = and_true (is_size d.vars d.clauses) (is_protect_line d.vars d.protect) g.0 in
    let lines = subst (λ (n : ℕ). are_clause_lines n d.clauses F ≡ true) (sym vars) (subst (λ (m : ℕ). are_clause_lines F.vars m F ≡ true) (sym clauses) (all_lines_form F form limits)) in
    let protects = subst (λ (n : ℕ). is_protect_line n protect ≡ true) (sym vars) line in
    and_from _ _ (and_from _ _ (and_from _ _ (and_from _ _ (and_from (is_size d.vars d.clauses) (is_protect_line d.vars protect) f.0 protects) g.1) c.1) b.1) lines

-- the checks after its clause lines read neither these nor the protect line
behind_open_lines : (G : Cnf) (d : OpenDocument) (protect : Option (List ℕ)) (texts : Cnf)
    → first_of (behind_open no_variable G d) ≡ first_of (behind_open no_variable G (record d { protect = protect; texts = texts }))
unfolding bad_count
behind_open_lines G d protect texts = refl

-- so a document that is sound without the protected variables is sound, once it is written
open_sound : (F : Cnf) (protect : Option (List ℕ)) (d : OpenDocument) → is_formula F ≡ true → IsWithinLimits F → is_protect_line F.vars protect ≡ true
    → d.protect ≡ None → IsSound (rest_of F protect) d → IsSound F (open_written_for F protect d)
unfolding first_failure_under
open_sound F protect d form limits line e sound =
    let P = protected_by protect in
    let G = rest_of F protect in
    let w = open_written_for F protect d in
    let a : IsSoundUnder no_variable G d = subst (λ (o : Option (List ℕ)). IsSoundUnder (protected_by o) G d) e sound in
    let h = none_fails (checks_under no_variable G (Unfinished d)) a.checks in
    let numbers = same_numbers G d.vars d.clauses h.0 in
    let other : (other_formula F d.vars d.clauses).place ≡ None = ap (λ (c : Check). c.place) (other_same F P d.vars d.clauses) ∙ h.0 in
    let lines = same_every F w refl in
    record {
      form = open_form F protect d form limits line numbers.0 (numbers.1 ∙ same_count F P) a.form;
      checks = open_same P F w other lines
          ∙ first_behind_open no_variable G (open_without w P) h.0 (every_passes P F w lines)
          ∙ sym (behind_open_lines G d protect (open_without w P).texts)
          ∙ sym (first_behind_open no_variable G d h.0 h.1.0)
          ∙ a.checks;
    }

open_progress : (F : Cnf) (protect : Option (List ℕ)) (d : OpenDocument) → d.protect ≡ None → HasProgressUnder (protected_by d.protect) (rest_of F protect) d
    → HasProgressUnder (protected_by protect) F (open_written_for F protect d)
open_progress F protect d e h =
    progress_same F (protected_by protect) d.rounds ∙ subst (λ (o : Option (List ℕ)). HasProgressUnder (protected_by o) (rest_of F protect) d) e h

-- all of it
pub found_law : FoundLaw
found_law = record {
  reduces = written_reduces;
  pure = pure_reduces;
  linear = linear_reduces;
  matching = matching_reduces;
  general = general_reduces;
  unfinished = open_sound;
  progress = open_progress;
}
