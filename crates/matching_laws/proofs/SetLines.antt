-- The set line of a matching document: the literal on each own variable.
use Rattle.std.proofs.Common.{◌≡◌, ℕ, zero, suc, ◌<◌, ◌≤◌, ◌∙◌, Bool, true, false, cond, not, ◌||◌, List, [], ◌∷◌, map, refl, sym, ap, arith, ℤ, pos, negsuc, Option, Some, None, is_some, unwrap_or, inl, inr}
use Rattle.std.specs.Prelude.{find, ◌==◌, neg_ℤ}
use Rattle.std.specs.Option.{option_and_then}
use Rattle.std.specs.Ordering.{int_eq}
use Rattle.std.proofs.lemmas.Bool.{cases_Bool, cond-true, cond-false, eqb-true}
use Rattle.std.proofs.lemmas.Bool.Decides.{Decides-int_eq}
use Rattle.lk_model.specs.Lists.{among, rises_within}
use Rattle.lk_model.specs.Formulas.Literal.{variable, contains, mentions}
use Rattle.lk_model.specs.Formulas.Formula.{Cnf, clause_at, variables_to}
use Rattle.lk_model.specs.Formulas.Assignment.{assignment_of, makes_true}
use Rattle.lk_model.specs.declared.document.Own.{Own}
use Rattle.lk_model.proofs.Booleans.{or_left, or_right}
use Rattle.lk_model.proofs.Counting.{among-range}
use Rattle.kernel_laws.proofs.ChosenLiterals.{from_chosen, in_chosen, chosen_rise}
use Rattle.matching_laws.specs.MatchingResults.{literal_on, own_literal, set_line}

-- THE FIRST LITERAL ON A VARIABLE

pub record HasLiteral (c : List ℤ) (v : ℕ) : Type 0 where
  pub value : ℤ
  pub is : literal_on c v ≡ Some value
  pub there : contains c value ≡ true
  pub on : variable value ≡ v

pub literal_found : (c : List ℤ) (v : ℕ) → mentions c v ≡ true → HasLiteral c v
literal_found [] v e = absurd (let f : ⊥ = cc in f)
literal_found (l ∷ c) v e = elim (cases_Bool (variable l == v)) [
  | inl y ↦ record {
    value = l;
    is = cond-true (variable l == v) (Some l) (literal_on c v) y;
    there = or_left (int_eq l l) (contains c l) ((Decides-int_eq l l).1 refl);
    on = eqb-true (variable l) v y;
  }
  | inr y ↦
      let r = literal_found c v (sym (ap (λ (b : Bool). b || mentions c v) y) ∙ e) in
      record {
        value = r.value;
        is = cond-false (variable l == v) (Some l) (literal_on c v) y ∙ r.is;
        there = or_right (int_eq r.value l) (contains c r.value) r.there;
        on = r.on;
      }
]

-- what is found is on the variable
literal_on_it : (c : List ℤ) (v : ℕ) (l : ℤ) → literal_on c v ≡ Some l → variable l ≡ v
literal_on_it [] v l e = absurd (let f : ⊥ = cc in f)
literal_on_it (k ∷ c) v l e = elim (cases_Bool (variable k == v)) [
  | inl y ↦ (let same : k ≡ l = cc (sym (cond-true (variable k == v) (Some k) (literal_on c v) y) ∙ e) in ap variable (sym same) ∙ eqb-true (variable k) v y)
  | inr y ↦ literal_on_it c v l (sym (cond-false (variable k == v) (Some k) (literal_on c v) y) ∙ e)
]

-- THE ASSIGNMENT

own_literal_on : (F : Cnf) (own : List Own) (v : ℕ) (l : ℤ) → own_literal F own v ≡ Some l → variable l ≡ v
own_literal_on F own v l = at_line (find (λ (o : Own). o.var == v) own)
  where
    at_line : (o : Option Own) → option_and_then (λ (o : Own). literal_on (clause_at F o.pos) v) o ≡ Some l → variable l ≡ v
    at_line None e = absurd (let f : ⊥ = cc in f)
    at_line (Some o) e = literal_on_it (clause_at F o.pos) v l e

pub set_rises : (F : Cnf) (own : List Own) → rises_within 0 F.vars (map variable (set_line F own)) ≡ true
set_rises F own = chosen_rise (own_literal F own) 0 1 F.vars F.vars (own_literal_on F own) (omega arith) (omega arith)

-- the literal on a variable is true
pub literal_true : (F : Cnf) (own : List Own) (v : ℕ) (l : ℤ) → 0 < v → v ≤ F.vars → own_literal F own v ≡ Some l
    → makes_true (assignment_of (set_line F own)) l ≡ true
literal_true F own v l some most e = by_sign l e (in_chosen (own_literal F own) (variables_to F.vars) v l (among-range 1 F.vars v some (omega (arith, most))) e)
  where
    -- the complement is not in the line
    alone : (k : ℕ) → own_literal F own v ≡ Some (negsuc k) → contains (set_line F own) (pos (suc k)) ≡ true → ⊥
    alone k e there =
        let w = from_chosen (own_literal F own) (variables_to F.vars) (pos (suc k)) there in
        let a : suc k ≡ w.0 = own_literal_on F own w.0 (pos (suc k)) w.1 in
        let b : suc k ≡ v = own_literal_on F own v (negsuc k) e in
        let c : Some (negsuc k) ≡ Some (pos (suc k)) = sym e ∙ ap (own_literal F own) (sym b ∙ a) ∙ w.1 in
        let f : ⊥ = cc in f

    second : (a b : Bool) → (a ≡ true → ⊥) → b ≡ true → not (unwrap_or (let o : Option Bool = cond a (Some true) (cond b (Some false) None) in o) true) ≡ true
    second true b apart e = absurd (apart refl)
    second false true apart e = refl
    second false false apart e = absurd (let f : ⊥ = cc in f)

    by_sign : (l : ℤ) → own_literal F own v ≡ Some l → contains (set_line F own) l ≡ true → makes_true (assignment_of (set_line F own)) l ≡ true
    by_sign (pos w) e there = rw there refl
    by_sign (negsuc k) e there = second (contains (set_line F own) (pos (suc k))) (contains (set_line F own) (negsuc k)) (alone k e) there

-- a variable that is set has an own line
pub set_owned : (F : Cnf) (own : List Own) (v : ℕ) → is_some (assignment_of (set_line F own) v) ≡ true → among (map (λ (o : Own). o.var) own) v ≡ true
set_owned F own v e = by_tests (contains (set_line F own) (pos v)) refl (contains (set_line F own) (neg_ℤ (pos v))) refl e
  where
    lined : (os : List Own) (l : ℤ) → option_and_then (λ (o : Own). literal_on (clause_at F o.pos) v) (find (λ (o : Own). o.var == v) os) ≡ Some l → among (map (λ (o : Own). o.var) os) v ≡ true
    lined [] l e = absurd (let f : ⊥ = cc in f)
    lined (o ∷ os) l e = elim (cases_Bool (o.var == v)) [
      | inl y ↦ or_left (o.var == v) _ y
      | inr y ↦ or_right (o.var == v) _ (lined os l
          (ap (option_and_then (λ (o : Own). literal_on (clause_at F o.pos) v)) (sym (cond-false (o.var == v) (Some o) (find (λ (o : Own). o.var == v) os) y)) ∙ e))
    ]

    chosen : (l : ℤ) → variable l ≡ v → contains (set_line F own) l ≡ true → among (map (λ (o : Own). o.var) own) v ≡ true
    chosen l on there =
        let w = from_chosen (own_literal F own) (variables_to F.vars) l there in
        let same : w.0 ≡ v = sym (own_literal_on F own w.0 l w.1) ∙ on in
        lined own l (ap (own_literal F own) (sym same) ∙ w.1)

    negated : (v : ℕ) → variable (neg_ℤ (pos v)) ≡ v
    negated zero = refl
    negated (suc k) = refl

    by_tests : (a : Bool) → contains (set_line F own) (pos v) ≡ a → (b : Bool) → contains (set_line F own) (neg_ℤ (pos v)) ≡ b
        → is_some (let o : Option Bool = cond a (Some true) (cond b (Some false) None) in o) ≡ true → among (map (λ (o : Own). o.var) own) v ≡ true
    by_tests true p b q e = chosen (pos v) refl p
    by_tests false p true q e = chosen (neg_ℤ (pos v)) (negated v) q
    by_tests false p false q e = absurd (let f : ⊥ = cc in f)
