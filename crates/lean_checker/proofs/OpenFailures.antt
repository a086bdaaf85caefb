-- The first failing check of an unfinished document, and what its form gives.
use Rattle.std.proofs.Common.{◌≡◌, ◌∙◌, ℕ, ◌+◌, ◌<◌, ◌^◌, nat_lt, Bool, true, false, cond, not, ◌==◌, List, [], ◌∷◌, ◌++◌, length, filter, get_or, take, drop, refl, sym, ap, arith, Option, Some, None, find, inl, inr}
use Rattle.std.specs.List.{list_all}
use Rattle.std.specs.Option.{option_or}
use Rattle.std.proofs.lemmas.Bool.{cases_Bool, eqb-true, ne_eqb}
use Rattle.std.proofs.lemmas.List.{drop_more, length-append, take-append-drop}
use Rattle.std.proofs.lemmas.List.Elements.{filter-append}
use Rattle.std.proofs.lemmas.Grind.{flat_map-append}
use Rattle.lk_model.specs.Lists.{is_empty}
use Rattle.lk_model.specs.Formulas.Literal.{is_same_list}
use Rattle.lk_model.specs.Formulas.Formula.{Cnf, clause_at, positions_of, is_formula}
use Rattle.lk_model.specs.Formulas.Crossed.{Variables, no_variable, formula_without, protected_by}
use Rattle.lk_model.specs.Documents.Documents.{steps_of}
use Rattle.lk_model.specs.Documents.Form.{is_open_in_form, is_size, is_protect_line, are_steps, end_open, ends_at_empty, is_whole, are_clause_lines}
use Rattle.lk_model.specs.Checks.Check.{Check, first_of}
use Rattle.lk_model.specs.Checks.CommonChecks.{other_formula}
use Rattle.lk_model.specs.Checks.Checks.{first_failure, first_failure_under}
use Rattle.lk_model.specs.Checks.RoundChecks.{every_clause, bad_count, bad_step, not_learned, learned_steps}
use Rattle.lk_model.specs.declared.document.Step.{Step}
use Rattle.lk_model.specs.declared.document.Round.{Round}
use Rattle.lk_model.specs.declared.document.OpenDocument.{OpenDocument}
use Rattle.lk_model.specs.declared.document.Document.TheVariants.{Unfinished}
use Rattle.lk_model.specs.declared.verdict.Kind.TheVariants.{OtherFormula, KeptClause, BadCount, BadStep, NotLearned}
use Rattle.lk_model.specs.declared.verdict.Why.{Why}
use Rattle.lk_model.proofs.Booleans.{and_true}
use Rattle.check_rounds.specs.Learned.{are_open_but_last}
use Rattle.kernel_laws.proofs.Crossing.{same_count, same_positions}
use Rattle.document_laws.proofs.Rounds.{bad_step_same, not_learned_same}
use Rattle.lean_checker.specs.Unfinished.{HasOpenSizes, text_checks, step_checks}
use Rattle.lean_checker.proofs.FirstFailures.{failure, fails_first, passes_first, first_of-append}

-- NUMBERS AND CLAUSE LINES

module _ (F : Cnf) (d : OpenDocument) where
  pub formula_fails : (p : ℕ) → Some p ≡ (other_formula F d.vars d.clauses).place → Some (failure OtherFormula p) ≡ first_of (text_checks F d)
  unfolding other_formula
  formula_fails p e = fails_first (other_formula F d.vars d.clauses) (every_clause F d ∷ bad_count d ∷ []) p e

  behind_formula : None ≡ (other_formula F d.vars d.clauses).place → first_of (every_clause F d ∷ bad_count d ∷ []) ≡ first_of (text_checks F d)
  behind_formula a = passes_first (other_formula F d.vars d.clauses) (every_clause F d ∷ bad_count d ∷ []) a

  -- the place of the second check
  pub clause_is : find (λ p. not (is_same_list (clause_at d.texts p) (clause_at F p))) (positions_of F) ≡ (every_clause F d).place
  unfolding every_clause
  clause_is = refl

  pub clause_fails : (p : ℕ) → None ≡ (other_formula F d.vars d.clauses).place → Some p ≡ (every_clause F d).place → Some (failure KeptClause p) ≡ first_of (text_checks F d)
  unfolding every_clause
  clause_fails p a e = fails_first (every_clause F d) (bad_count d ∷ []) p e ∙ behind_formula a

  -- and of the third
  count_place : (b : Bool) → (length (learned_steps d.rounds) == d.learned) ≡ b → cond (not b) (let o : Option ℕ = Some 0 in o) None ≡ (bad_count d).place
  unfolding bad_count
  count_place b e = rw e refl

  pub count_fails : None ≡ (other_formula F d.vars d.clauses).place → None ≡ (every_clause F d).place → (length (learned_steps d.rounds) == d.learned) ≡ false
      → Some (failure BadCount 0) ≡ first_of (text_checks F d)
  unfolding bad_count
  count_fails a b e = fails_first (bad_count d) [] 0 (count_place false e) ∙ passes_first (every_clause F d) (bad_count d ∷ []) b ∙ behind_formula a

  pub none_of_text : None ≡ (other_formula F d.vars d.clauses).place → None ≡ (every_clause F d).place → (length (learned_steps d.rounds) == d.learned) ≡ true → None ≡ first_of (text_checks F d)
  none_of_text a b e = passes_first (bad_count d) [] (count_place true e) ∙ passes_first (every_clause F d) (bad_count d ∷ []) b ∙ behind_formula a

-- STEPS

module _ (P : Variables) (F : Cnf) (rounds : List Round) where
  pub step_fails : (p : ℕ) → Some p ≡ (bad_step P F (positions_of F) rounds).place → Some (failure BadStep p) ≡ first_of (step_checks P F rounds)
  unfolding bad_step
  step_fails p e = fails_first (bad_step P F (positions_of F) rounds) (not_learned P F (positions_of F) rounds ∷ []) p e

  pub learned_fails : (p : ℕ) → None ≡ (bad_step P F (positions_of F) rounds).place → Some p ≡ (not_learned P F (positions_of F) rounds).place → Some (failure NotLearned p) ≡ first_of (step_checks P F rounds)
  unfolding not_learned
  learned_fails p a e = fails_first (not_learned P F (positions_of F) rounds) [] p e ∙ passes_first (bad_step P F (positions_of F) rounds) (not_learned P F (positions_of F) rounds ∷ []) a

  pub none_of_steps : None ≡ (bad_step P F (positions_of F) rounds).place → None ≡ (not_learned P F (positions_of F) rounds).place → None ≡ first_of (step_checks P F rounds)
  none_of_steps a e = passes_first (not_learned P F (positions_of F) rounds) [] e ∙ passes_first (bad_step P F (positions_of F) rounds) (not_learned P F (positions_of F) rounds ∷ []) a

-- ALL

-- the checks of steps under a set of variables are those on the formula without their literals
steps_without : (P : Variables) (F : Cnf) (rounds : List Round) → step_checks P F rounds ≡ step_checks no_variable (formula_without F P) rounds
steps_without P F rounds =
    let G = formula_without F P in
    let bad = bad_step_same F P (positions_of F) rounds ∙ ap (λ (ps : List ℕ). bad_step no_variable G ps rounds) (sym (same_positions F P)) in
    let learned = not_learned_same F P (positions_of F) rounds ∙ ap (λ (ps : List ℕ). not_learned no_variable G ps rounds) (sym (same_positions F P)) in
    λ i. bad i ∷ learned i ∷ []

-- those of a document, without its protected variables
abbrev checks_without : Cnf → OpenDocument → List Check
checks_without F d = step_checks no_variable (formula_without F (protected_by d.protect)) d.rounds

open_is : (F : Cnf) (d : OpenDocument) → option_or (first_of (text_checks F d)) (first_of (checks_without F d)) ≡ first_failure F (Unfinished d)
unfolding first_failure_under
open_is F d =
    ap (λ (cs : List Check). option_or (first_of (text_checks F d)) (first_of cs)) (sym (steps_without (protected_by d.protect) F d.rounds))
    ∙ sym (first_of-append (text_checks F d) (step_checks (protected_by d.protect) F d.rounds))

-- one of the first three is the first that fails, or the first of the others
pub text_found : (F : Cnf) (d : OpenDocument) (why : Why) → Some why ≡ first_of (text_checks F d) → Some why ≡ first_failure F (Unfinished d)
text_found F d why e = ap (λ (o : Option Why). option_or o (first_of (checks_without F d))) e ∙ open_is F d

pub steps_found : (F G : Cnf) (d : OpenDocument) (rounds : List Round) (o : Option Why) → None ≡ first_of (text_checks F d) → G ≡ formula_without F (protected_by d.protect) → rounds ≡ d.rounds
    → o ≡ first_of (step_checks no_variable G rounds) → o ≡ first_failure F (Unfinished d)
steps_found F G d rounds o none is same e =
    e ∙ (λ i. first_of (step_checks no_variable (is i) (same i))) ∙ ap (λ (w : Option Why). option_or w (first_of (checks_without F d))) none ∙ open_is F d

-- WHAT THE FORM GIVES

pub record IsOpenInForm (d : OpenDocument) : Type 0 where
  pub protect : is_protect_line d.vars d.protect ≡ true
  pub steps : are_steps d.vars d.clauses (steps_of d.rounds) ≡ true
  pub rounds : end_open d.rounds ≡ true
  pub lines : length d.texts.clauses ≡ d.clauses

pub open_form : (d : OpenDocument) → is_open_in_form d ≡ true → IsOpenInForm d
unfolding is_open_in_form are_clause_lines
open_form d form =
    let a = and_true _ (are_clause_lines d.vars d.clauses d.texts) form in
    let b = and_true _ (end_open d.rounds) a.0 in
    let c = and_true _ (are_steps d.vars d.clauses (steps_of d.rounds)) b.0 in
    let p = and_true _ (nat_lt d.learned (2 ^ 63)) c.0 in
    let q = and_true (is_size d.vars d.clauses) (is_protect_line d.vars d.protect) p.0 in
    let e = and_true _ _ a.1 in
    let f = and_true _ (is_formula d.texts) e.0 in
    let g = and_true (d.texts.vars == d.vars) (length d.texts.clauses == d.clauses) f.0 in
    record { protect = q.1; steps = c.1; rounds = b.1; lines = eqb-true (length d.texts.clauses) d.clauses g.1 }

-- the steps are in form for the formula without the protected variables
pub steps_in_form : (F G : Cnf) (d : OpenDocument) (rounds : List Round) → is_open_in_form d ≡ true → HasOpenSizes F d → G ≡ formula_without F (protected_by d.protect) → rounds ≡ d.rounds
    → are_steps G.vars (length G.clauses) (steps_of rounds) ≡ true
steps_in_form F G d rounds form sizes is same =
    let vars : G.vars ≡ d.vars = ap (λ (H : Cnf). H.vars) is ∙ sym sizes.vars in
    let count : length G.clauses ≡ d.clauses = ap (λ (H : Cnf). length H.clauses) is ∙ same_count F (protected_by d.protect) ∙ sym sizes.clauses in
    (λ i. are_steps (vars i) (count i) (steps_of (same i))) ∙ (open_form d form).steps

-- a round ends with the only empty clause, or has none
open_open : (steps : List Step) → list_all (λ (s : Step). not (is_empty s.clause)) steps ≡ true → are_open_but_last steps ≡ true
open_open [] e = refl
open_open (s ∷ []) e = refl
open_open (s ∷ t ∷ later) e =
    let both = and_true (not (is_empty s.clause)) (list_all (λ (u : Step). not (is_empty u.clause)) (t ∷ later)) e in
    rw (both.0) (open_open (t ∷ later) both.1)

whole_open : (steps : List Step) → ends_at_empty steps ≡ true → are_open_but_last steps ≡ true
whole_open [] e = refl
whole_open (s ∷ []) e = refl
whole_open (s ∷ t ∷ later) e = elim (cases_Bool (is_empty s.clause)) [
  | inl y ↦ absurd (let f : ⊥ = cc (rw y at e) in f)
  | inr n ↦ rw n (whole_open (t ∷ later) (rw n at e))
]

pub rounds_open : (rounds : List Round) → end_open rounds ≡ true → list_all (λ (r : Round). are_open_but_last r.steps) rounds ≡ true
rounds_open [] e = refl
rounds_open (r ∷ []) e = rw (open_open r.steps e) refl
rounds_open (r ∷ q ∷ rounds) e =
    let both = and_true (is_whole r) (end_open (q ∷ rounds)) e in
    rw (whole_open r.steps both.0) (rounds_open (q ∷ rounds) both.1)

-- LEARNED STEPS

-- where the rounds so far have more, the rounds have another number
pub too_many : (rounds : List Round) (k learned remaining : ℕ) (r : Round) → k < length rounds → r ≡ get_or rounds k r → remaining + length (learned_steps (take k rounds)) ≡ learned
    → remaining < length (filter (λ (s : Step). not (is_empty s.clause)) r.steps) → (length (learned_steps rounds) == learned) ≡ false
too_many rounds k learned remaining r lt is sum more =
    let open_step : Step → Bool = λ s. not (is_empty s.clause) in
    let parts : learned_steps rounds ≡ learned_steps (take k rounds) ++ (filter open_step r.steps ++ learned_steps (drop (k + 1) rounds)) =
    ap learned_steps (sym (take-append-drop k rounds) ∙ ap (λ (rs : List Round). take k rounds ++ rs) (drop_more rounds k r lt ∙ ap (λ (q : Round). q ∷ drop (k + 1) rounds) (sym is)))
    ∙ both (take k rounds) (r ∷ drop (k + 1) rounds)
    ∙ ap (λ (ss : List Step). learned_steps (take k rounds) ++ ss) (filter-append open_step r.steps (steps_of (drop (k + 1) rounds))) in
    let size = ap length parts ∙ length-append (learned_steps (take k rounds)) (filter open_step r.steps ++ learned_steps (drop (k + 1) rounds)) in
    let rest = length-append (filter open_step r.steps) (learned_steps (drop (k + 1) rounds)) in
    ne_eqb (length (learned_steps rounds)) learned (λ e. omega (arith, e, size, rest, sum, more))
  where
    both : (rs qs : List Round) → learned_steps (rs ++ qs) ≡ learned_steps rs ++ learned_steps qs
    both rs qs = ap (filter (λ (s : Step). not (is_empty s.clause))) (flat_map-append (λ (q : Round). q.steps) rs qs) ∙ filter-append (λ (s : Step). not (is_empty s.clause)) (steps_of rs) (steps_of qs)
