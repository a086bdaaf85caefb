-- The first failure under P is the one of the crossed document on the formula without P.
use Rattle.std.proofs.Common.{◌≡◌, ℕ, zero, suc, ◌<◌, ◌≤◌, Bool, true, false, ◌&&◌, ◌||◌, ◌==◌, nat_lt, List, [], ◌∷◌, length, map, refl, sym, ◌∙◌, ap, inl, inr, arith, Option, Some, None, slice_index_or}
use Rattle.std.specs.Prelude.{nat_le}
use Rattle.std.specs.List.{list_all}
use Rattle.std.specs.Option.{option_map_or}
use Rattle.std.proofs.lemmas.Bool.{cases_lt, both_ways, and_from, le-leb, leb-true}
use Rattle.std.proofs.lemmas.List.{get_or_past}
use Rattle.lk_model.specs.Limits.{max_literals}
use Rattle.lk_model.specs.Lists.{among}
use Rattle.lk_model.specs.Formulas.Formula.{Cnf, is_formula, literal_count, positions_of}
use Rattle.lk_model.specs.Formulas.Crossed.{Variables, no_variable, AreVariables, crossed_out, formula_without, protected_by, protect_line_of}
use Rattle.lk_model.specs.Formulas.Assignment.{assignment_of}
use Rattle.lk_model.specs.Formulas.Protected.{SetsNone}
use Rattle.lk_model.specs.Held.VariableSets.{is_in}
use Rattle.lk_model.specs.Documents.Documents.{steps_of}
use Rattle.lk_model.specs.Documents.Form.{is_protect_line, are_clause_lines, is_done_in_form, is_open_in_form}
use Rattle.lk_model.specs.Chains.Chain.{names_of}
use Rattle.lk_model.specs.Chains.Rounds.{names_within}
use Rattle.lk_model.specs.Checks.Check.{Check, first_of}
use Rattle.lk_model.specs.Checks.CommonChecks.{other_formula, kept_clause, protected_set}
use Rattle.lk_model.specs.Checks.LinearChecks.{bad_sign, bad_stage, bad_dual, bad_balance, bad_unit}
use Rattle.lk_model.specs.Checks.RoundChecks.{bad_step, not_learned, every_clause}
use Rattle.lk_model.specs.Checks.Checks.{checks_under, class_checks, first_failure_under, AcceptsUnder, IsSoundUnder}
use Rattle.lk_model.specs.declared.document.Body.{Body}
use Rattle.lk_model.specs.declared.document.Body.TheVariants.{Pure, Matching, Linear, General}
use Rattle.lk_model.specs.declared.document.DoneDocument.{DoneDocument}
use Rattle.lk_model.specs.declared.document.OpenDocument.{OpenDocument}
use Rattle.lk_model.specs.declared.document.Document.TheVariants.{Done, Unfinished}
use Rattle.lk_model.specs.declared.document.Stage.{Stage}
use Rattle.lk_model.specs.declared.document.Dual.{Dual}
use Rattle.lk_model.specs.declared.document.Unit.{Unit}
use Rattle.lk_model.specs.declared.document.Step.{Step}
use Rattle.lk_model.specs.declared.document.Round.{Round}
use Rattle.lk_model.specs.declared.verdict.Why.{Why}
use Rattle.lk_model.proofs.Booleans.{and_true}
use Rattle.lk_model.proofs.Rising.{bounded}
use Rattle.lk_model.proofs.Crossings.{formula_form, fewer_literals}
use Rattle.lk_model.proofs.Founds.{filtered_rise}
use Rattle.kernel_laws.proofs.FirstChecks.{none_protected}
use Rattle.kernel_laws.proofs.Passed.{none_fails, has_passed, behind, first_behind, behind_open, first_behind_open}
use Rattle.kernel_laws.proofs.Crossing.{same_count, same_positions}
use Rattle.document_laws.specs.Without.{document_without, open_without}
use Rattle.document_laws.specs.ProtectedCheckLaw.{ProtectedCheckLaw}
use Rattle.document_laws.proofs.Rounds.{bad_step_same, not_learned_same, not_blocked_same, progress_same}
use Rattle.document_laws.proofs.Commons.{set_unset, other_same, autarky_same, removal_same, count_same, kept_passes, every_passes}
use Rattle.document_laws.proofs.Classes.{pair_same, owner_same, row_same, dual_same, balanced_same, unit_same}
use Rattle.document_laws.proofs.Orders.{order_same, sign_same, stage_same}

-- FIRST FAILURES

-- lists of checks say the same, where the first one says the same and the rest does if that one passes
behind_same : (c : Check) (xs ys : List Check) → (c.place ≡ None → first_of xs ≡ first_of ys) → first_of (c ∷ xs) ≡ first_of (c ∷ ys)
behind_same c xs ys h = at_place c.place refl
  where
    at_place : (o : Option ℕ) → c.place ≡ o
        → option_map_or (λ place. Some (let w : Why = record { kind = c.kind; place = place } in w)) o (first_of xs)
        ≡ option_map_or (λ place. Some (let w : Why = record { kind = c.kind; place = place } in w)) o (first_of ys)
    at_place None e = h e
    at_place (Some p) e = refl

-- two checks in front of the rest
two_same : {a b c e : Check} (xs ys : List Check) → a ≡ b → c ≡ e → first_of xs ≡ first_of ys → first_of (a ∷ c ∷ xs) ≡ first_of (b ∷ e ∷ ys)
two_same xs ys p q r = λ i.
    option_map_or (λ place. Some (let w : Why = record { kind = (p i).kind; place = place } in w)) (p i).place
    (option_map_or (λ place. Some (let w : Why = record { kind = (q i).kind; place = place } in w)) (q i).place (r i))

-- THE CLASSES

-- of a linear document, the stages are weighed where the signs pass
linear_same : (P : Variables) (F : Cnf) (d : DoneDocument) (stages : List Stage) (dual : List Dual) (units : List Unit) → AreVariables F P → SetsNone P (assignment_of d.set)
    → first_of (class_checks P F d (Linear stages dual units)) ≡ first_of (class_checks no_variable (formula_without F P) (document_without d P) (Linear stages dual units))
linear_same P F d stages dual units vars none =
    behind_same (bad_sign F d stages)
    (bad_stage F d stages ∷ bad_dual F d dual ∷ bad_balance P F d dual ∷ bad_unit P F d units ∷ [])
    (bad_stage (formula_without F P) (document_without d P) stages ∷ bad_dual (formula_without F P) (document_without d P) dual
    ∷ bad_balance no_variable (formula_without F P) (document_without d P) dual ∷ bad_unit no_variable (formula_without F P) (document_without d P) units ∷ [])
    (λ signs. λ i. first_of (stage_same P F d stages vars none signs i ∷ dual_same F P d dual i ∷ balanced_same F P d dual i ∷ unit_same F P d units i ∷ []))
    ∙ (λ i. first_of (sign_same P F d stages i ∷ bad_stage (formula_without F P) (document_without d P) stages ∷ bad_dual (formula_without F P) (document_without d P) dual
    ∷ bad_balance no_variable (formula_without F P) (document_without d P) dual ∷ bad_unit no_variable (formula_without F P) (document_without d P) units ∷ []))

-- of each class
class_same : (P : Variables) (F : Cnf) (d : DoneDocument) (body : Body) → AreVariables F P → SetsNone P (assignment_of d.set)
    → first_of (class_checks P F d body) ≡ first_of (class_checks no_variable (formula_without F P) (document_without d P) body)
class_same P F d (Pure order pairs) vars none = λ i. first_of (order_same P F d order none i ∷ pair_same F P d pairs i ∷ [])
class_same P F d (Matching own rows) vars none = λ i. first_of (owner_same F P d own none i ∷ row_same F P d rows i ∷ [])
class_same P F d (Linear stages dual units) vars none = linear_same P F d stages dual units vars none
class_same P F d (General rounds) vars none = λ i. first_of (bad_step_same F P d.kept rounds i ∷ not_blocked_same F P d rounds i ∷ [])

-- THE DOCUMENTS

-- the numbers are those of the formula without P
other_without : (P : Variables) (F : Cnf) (n m : ℕ) → (other_formula F n m).place ≡ None → (other_formula (formula_without F P) n m).place ≡ None
other_without P F n m other = ap (λ (c : Check). c.place) (sym (other_same F P n m)) ∙ other

-- of a finished document
pub done_same : (P : Variables) (F : Cnf) (d : DoneDocument) → AreVariables F P → (other_formula F d.vars d.clauses).place ≡ None
    → (kept_clause F d).place ≡ None → (protected_set P F d).place ≡ None
    → first_failure_under P F (Done d) ≡ first_failure_under no_variable (formula_without F P) (Done (document_without d P))
done_same P F d vars other kept protected =
    let none = set_unset P F d vars protected in
    let G = formula_without F P in
    let same : first_of (behind P F d) ≡ first_of (behind no_variable G (document_without d P)) =
    two_same (class_checks P F d d.body) (class_checks no_variable G (document_without d P) d.body) (autarky_same P F d none) (removal_same P F d none) (class_same P F d d.body vars none) in
    first_behind P F d other kept protected
    ∙ same
    ∙ sym (first_behind no_variable G (document_without d P) (other_without P F d.vars d.clauses other) (kept_passes P F d kept) (none_protected G (document_without d P)))

-- of an unfinished one
pub open_same : (P : Variables) (F : Cnf) (d : OpenDocument) → (other_formula F d.vars d.clauses).place ≡ None → (every_clause F d).place ≡ None
    → first_failure_under P F (Unfinished d) ≡ first_failure_under no_variable (formula_without F P) (Unfinished (open_without d P))
open_same P F d other every =
    let G = formula_without F P in
    let steps = bad_step_same F P (positions_of F) d.rounds ∙ ap (λ (ps : List ℕ). bad_step no_variable G ps d.rounds) (sym (same_positions F P)) in
    let learned = not_learned_same F P (positions_of F) d.rounds ∙ ap (λ (ps : List ℕ). not_learned no_variable G ps d.rounds) (sym (same_positions F P)) in
    let same : first_of (behind_open P F d) ≡ first_of (behind_open no_variable G (open_without d P)) = (λ i. first_of (count_same P d i ∷ steps i ∷ learned i ∷ [])) in
    first_behind_open P F d other every
    ∙ same
    ∙ sym (first_behind_open no_variable G (open_without d P) (other_without P F d.vars d.clauses other) (every_passes P F d every))

-- FORM

-- crossed clause lines are in form
lines_crossed : (P : Variables) (n count : ℕ) (F : Cnf) → are_clause_lines n count F ≡ true → are_clause_lines n count (formula_without F P) ≡ true
unfolding are_clause_lines
lines_crossed P n count F e =
    let a = and_true _ (nat_le (literal_count F) max_literals) e in
    let b = and_true (F.vars == n && length F.clauses == count) (is_formula F) a.0 in
    let c = and_true (F.vars == n) (length F.clauses == count) b.0 in
    let same : (length (map (crossed_out P) F.clauses) == count) ≡ true = ap (λ (m : ℕ). m == count) (same_count F P) ∙ c.1 in
    let fit = leb-true (literal_count F) max_literals a.1 in
    let few = fewer_literals P F in
    and_from _ _ (and_from _ _ (and_from _ _ c.0 same) (formula_form P F b.1)) (le-leb (literal_count (formula_without F P)) max_literals (omega (arith, fit, few)))

-- and so is the document
done_form : (P : Variables) (d : DoneDocument) → is_done_in_form d ≡ true → is_done_in_form (document_without d P) ≡ true
unfolding is_done_in_form
done_form P d form =
    let a = and_true _ (are_clause_lines d.vars (length d.kept) d.texts) form in
    and_from _ (are_clause_lines d.vars (length d.kept) (formula_without d.texts P)) a.0 (lines_crossed P d.vars (length d.kept) d.texts a.1)

open_form : (P : Variables) (d : OpenDocument) → is_open_in_form d ≡ true → is_open_in_form (open_without d P) ≡ true
unfolding is_open_in_form
open_form P d form =
    let a = and_true _ (are_clause_lines d.vars d.clauses d.texts) form in
    and_from _ (are_clause_lines d.vars d.clauses (formula_without d.texts P)) a.0 (lines_crossed P d.vars d.clauses d.texts a.1)

-- ACCEPTED AND SOUND

pub accepted_without : (P : Variables) (F : Cnf) (d : DoneDocument) → AreVariables F P → AcceptsUnder P F d → AcceptsUnder no_variable (formula_without F P) (document_without d P)
accepted_without P F d vars a =
    let h = has_passed P F d a.checks in
    record { form = done_form P d a.form; checks = sym (done_same P F d vars h.formula h.lines h.unset) ∙ a.checks }

sound_without : (P : Variables) (F : Cnf) (d : OpenDocument) → IsSoundUnder P F d → IsSoundUnder no_variable (formula_without F P) (open_without d P)
unfolding first_failure_under
sound_without P F d a =
    let h = none_fails (checks_under P F (Unfinished d)) a.checks in
    record { form = open_form P d a.form; checks = sym (open_same P F d h.0 h.1.0) ∙ a.checks }

-- the chains name the same positions
names_same : (P : Variables) (F : Cnf) (part : List ℕ) (rounds : List Round) → names_within F part rounds ≡ names_within (formula_without F P) part rounds
names_same P F part rounds = λ i. list_all
    (λ (s : Step). list_all (λ k. nat_lt (sym (same_count F P) i) k || among part k) (names_of s))
    (steps_of rounds)

-- SETS OF VARIABLES OF THE FORMULA

-- numbers from 1 to n are such
between : (F : Cnf) (v : ℕ) → 0 < v → v ≤ F.vars → (nat_le 1 v && nat_le v F.vars) ≡ true
between F v low high = and_from (nat_le 1 v) (nat_le v F.vars) (le-leb 1 v low) (le-leb v F.vars high)

-- flags for the variables are a set of them
flags_within : (F : Cnf) (flags : List Bool) → length flags ≡ F.vars → AreVariables F (is_in flags)
flags_within F flags size zero y = absurd (let f : ⊥ = cc in f)
flags_within F flags size (suc k) y = elim (cases_lt k (length flags)) [
  | inl inside ↦ between F (suc k) (omega arith) (omega (arith, inside, size))
  | inr past ↦ absurd (both_ways (slice_index_or flags k false) (get_or_past flags k false past) y)
]

-- and so is a protect line
pub line_within : (F : Cnf) (protect : Option (List ℕ)) → is_protect_line F.vars protect ≡ true → AreVariables F (protected_by protect)
line_within F None form v y = absurd (let f : ⊥ = cc in f)
line_within F (Some vars) form v y = let b = bounded 0 F.vars vars v form y in between F v b.0 b.1

-- which the listed variables of the formula make
listed_line : (F : Cnf) (listed : Option (List ℕ)) → is_protect_line F.vars (protect_line_of F listed) ≡ true
listed_line F None = refl
listed_line F (Some vars) = filtered_rise F.vars (among vars)

-- all of it
pub protected_check_law : ProtectedCheckLaw
protected_check_law = record {
  flags = flags_within;
  line = line_within;
  listed = listed_line;
  done = done_same;
  unfinished = open_same;
  accepted = accepted_without;
  sound = sound_without;
  names = names_same;
  progress = λ P F d. (λ h. sym (progress_same F P d.rounds) ∙ h, λ h. progress_same F P d.rounds ∙ h);
}
