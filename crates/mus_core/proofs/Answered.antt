-- Where no clause is empty, and the whole model of literals.
use Rattle.std.proofs.Common.{◌≡◌, Result, Ok, Err, IfOk, ℕ, ◌+◌, ◌≤◌, Bool, true, nat_le, List, [], ◌∷◌, refl, sym, ◌∙◌, ap, subst, ℤ, Option, Some, None, map, length, find, arith}
use Rattle.std.proofs.lemmas.Bool.{le-leb, leb-true, and_from, cond-true}
use Rattle.lk_model.specs.Lists.{is_between, is_empty}
use Rattle.lk_model.specs.Formulas.Literal.{variable, literal_of}
use Rattle.lk_model.specs.Formulas.Formula.{Cnf, clause_at, positions_of, variables_to, is_formula}
use Rattle.lk_model.specs.Formulas.Assignment.{Assignment, assignment_of, makes_true, satisfies, extended, extended_value, extended_literals}
use Rattle.lk_model.specs.Held.PartialValues.{assignment_by}
use Rattle.lk_model.proofs.Booleans.{and_true}
use Rattle.lk_model.proofs.Counting.{among-range}
use Rattle.lk_model.proofs.ListTests.{literal_within}
use Rattle.lk_model.proofs.Literals.{variable_of, empty_is as is_nothing}
use Rattle.lk_model.proofs.Founds.{up_to_bounds}
use Rattle.lk_model.proofs.Ranks.{literal_bounds}
use Rattle.kernel_laws.proofs.Assignments.{satisfying, satisfied_at}
use Rattle.general_laws.proofs.Flips.{by_value, true_set, value_true, still_true}
use Rattle.part_copy.specs.Found.{are_filled, IsPartModel}
use Rattle.lk_model.specs.Chains.Rounds.{empty_round, is_trimmed, reached}
use Rattle.lk_model.specs.Checks.RoundChecks.{learned_steps}
use Rattle.lk_model.specs.declared.document.Round.{Round}
use Rattle.lk_model.specs.declared.result.MusResult.{MusResult}
use Rattle.lk_model.proofs.Lists.{among_here}
use Rattle.general_laws.specs.CoreLaw.{IsCore}
use Rattle.empty_clauses.specs.EmptyAt.{IsEmptyAt}
use Rattle.mus_core.specs.Found.{IsCoreWithin, IsWholeModel}
use Rattle.mus_core.proofs.ShrunkCores.{none_all, found_at}

-- WHERE NO CLAUSE IS EMPTY

pub filled : (F : Cnf) → find (λ p. is_empty (clause_at F p)) (positions_of F) ≡ None → are_filled F (positions_of F) ≡ true
filled F none = none_all (λ p. is_empty (clause_at F p)) (positions_of F) none

pub empty_at : (F : Cnf) (p : ℕ) → find (λ p. is_empty (clause_at F p)) (positions_of F) ≡ Some p → IsEmptyAt F p
empty_at F p e =
    let w = found_at (λ p. is_empty (clause_at F p)) (positions_of F) p e in
    let b = up_to_bounds (length F.clauses) p w.0 in
    let low = b.0 in
    record { first = omega (arith, low); last = b.1; empty = is_nothing (clause_at F p) w.1 }

-- the core of an empty clause needs no learned clause
pub empty_within : (F : Cnf) (p conflicts : ℕ) (r : MusResult) → IsCore F r.core r.round r.without → r.round ≡ empty_round F p → IsCoreWithin F conflicts r
unfolding reached
empty_within F p conflicts r core is = record {
  core = core;
  needed = subst (λ (q : Round). is_trimmed q ≡ true) (sym is) (and_from _ true (among_here (length F.clauses + 1) (p ∷ [])) refl);
  most = subst (λ (q : Round). length (learned_steps (q ∷ [])) ≤ conflicts) (sym is) (omega arith);
}

-- A WHOLE MODEL

variables_of : (φ ψ : Assignment) (vs : List ℕ) → map variable (map (λ v. literal_of v (extended_value φ ψ v)) vs) ≡ vs
variables_of φ ψ [] = refl
variables_of φ ψ (v ∷ vs) = rw (variable_of v (extended_value φ ψ v), variables_of φ ψ vs) refl

true_extended : (φ ψ : Assignment) (n : ℕ) (l : ℤ) → 1 ≤ variable l → variable l ≤ n → makes_true φ l ≡ true → makes_true (extended φ ψ n) l ≡ true
true_extended φ ψ n l low high e =
    let v = sym (by_value φ l) ∙ e in
    by_value (extended φ ψ n) l
    ∙ ap (value_true l) (cond-true (is_between 1 n (variable l)) (Some (extended_value φ ψ (variable l))) None
    (and_from (nat_le 1 (variable l)) (nat_le (variable l) n) (le-leb 1 (variable l) low) (le-leb (variable l) n high)))
    ∙ still_true l (φ (variable l)) (ψ (variable l)) (true_set l (φ (variable l)) v) v

pub whole_model : (F : Cnf) (set : List ℤ) (values none : List (Option Bool)) (ls : List ℤ) → is_formula F ≡ true → IsPartModel F (positions_of F) set
    → length values ≡ F.vars → assignment_by values ≡ assignment_of set
    → ls ≡ extended_literals (assignment_by values) (assignment_by none) (length values) → assignment_of ls ≡ extended (assignment_by values) (assignment_by none) (length values)
    → IsWholeModel F ls
whole_model F set values none ls form model vars by literals_are values_are = record {
  total = ap (map variable) literals_are ∙ variables_of (assignment_by values) (assignment_by none) (variables_to (length values)) ∙ ap variables_to vars;
  satisfied = λ p within.
      let both = and_true (nat_le 1 p) (nat_le p (length F.clauses)) within in
      let low = leb-true 1 p both.0 in let high = leb-true p (length F.clauses) both.1 in
      let holds = subst (λ (φ : Assignment). satisfies φ (clause_at F p) ≡ true) (sym by) (model.satisfied p (among-range 1 (length F.clauses) p low (omega (arith, high))) refl) in
      let w = satisfying (assignment_by values) (clause_at F p) holds in
      let b = literal_bounds F.vars w.0 (literal_within F p w.0 form w.1) in
      let most = b.1 in
      subst (λ (φ : Assignment). satisfies φ (clause_at F p) ≡ true) (sym values_are)
      (satisfied_at (extended (assignment_by values) (assignment_by none) (length values)) (clause_at F p) w.0 w.1
      (true_extended (assignment_by values) (assignment_by none) (length values) w.0 b.0 (omega (arith, most, vars)) w.2));
}

-- where there is memory for it
pub whole_result : {E : Type 0} (F : Cnf) (set : List ℤ) (values none : List (Option Bool)) (result : Result (List ℤ) E) → is_formula F ≡ true
    → IsPartModel F (positions_of F) set → length values ≡ F.vars → assignment_by values ≡ assignment_of set
    → IfOk result (λ ls. ls ≡ extended_literals (assignment_by values) (assignment_by none) (length values))
    → IfOk result (λ ls. assignment_of ls ≡ extended (assignment_by values) (assignment_by none) (length values)) → IfOk result (IsWholeModel F)
whole_result F set values none (Ok ls) form model vars by literals_are values_are = whole_model F set values none ls form model vars by literals_are values_are
whole_result F set values none (Err e) form model vars by literals_are values_are = tt
