-- Of an assignment only the values of the variables from 1 to n matter to a formula over them.
use Rattle.std.proofs.Common.{◌≡◌, ℕ, zero, suc, ◌+◌, Bool, true, false, not, cond, nat_le, List, [], ◌∷◌, map, length, refl, sym, ◌∙◌, ap, subst, arith, ℤ, Option, None, inl, inr, get_or}
use Rattle.std.specs.List.{list_all}
use Rattle.std.proofs.lemmas.Bool.{cases_lt, le-leb, leb-true, and_from, false_from_ne_true}
use Rattle.std.proofs.lemmas.List.{get_or-map, get_or_past, length-map}
use Rattle.std.proofs.lemmas.List.FromFn.{length-range_with_len, get_or-range_with_len}
use Rattle.lk_model.specs.declared.class.Class.{Class}
use Rattle.lk_model.specs.Lists.{is_between, up_to}
use Rattle.lk_model.specs.Formulas.Literal.{variable, is_literal, is_clause, is_distinct}
use Rattle.lk_model.specs.Formulas.Formula.{Cnf, clause_at, is_formula}
use Rattle.lk_model.specs.Formulas.Crossed.{Variables, crossed_out, formula_without}
use Rattle.lk_model.specs.Formulas.Assignment.{Assignment, touches}
use Rattle.lk_model.specs.Formulas.Autarky.{Positions, IsClassAutarky}
use Rattle.lk_model.specs.Held.PartialValues.{assignment_by}
use Rattle.lk_model.proofs.Booleans.{and_true}
use Rattle.document_laws.specs.CarryLaw.{restricted}
use Rattle.document_laws.proofs.Autarkies.{autarky_law}

-- the variables that are not from 1 to n
outside : ℕ → Variables
outside n v = not (is_between 1 n v)

-- no clause over n variables has one of them
clause_inside : (n : ℕ) (c : List ℤ) → list_all (is_literal n) c ≡ true → crossed_out (outside n) c ≡ c
unfolding outside
clause_inside n [] e = refl
clause_inside n (l ∷ c) e =
    let both = and_true (is_literal n l) (list_all (is_literal n) c) e in
    let kept : not (not (is_between 1 n (variable l))) ≡ true = ap (λ (b : Bool). not (not b)) both.0 in
    ap (λ (b : Bool). cond b (l ∷ crossed_out (λ v. not (is_between 1 n v)) c) (crossed_out (λ v. not (is_between 1 n v)) c)) kept
    ∙ ap (λ (d : List ℤ). l ∷ d) (clause_inside n c both.1)

-- so leaving out literals on them changes nothing
formula_inside : (F : Cnf) → is_formula F ≡ true → formula_without F (outside F.vars) ≡ F
formula_inside F form = ap (λ (cs : List (List ℤ)). let G : Cnf = record { vars = F.vars; clauses = cs } in G) (clauses F.clauses form)
  where
    clauses : (cs : List (List ℤ)) → list_all (is_clause F.vars) cs ≡ true → map (crossed_out (outside F.vars)) cs ≡ cs
    clauses [] e = refl
    clauses (c ∷ cs) e =
        let both = and_true (is_clause F.vars c) (list_all (is_clause F.vars) cs) e in
        let here = clause_inside F.vars c (and_true (list_all (is_literal F.vars) c) (is_distinct c) both.0).0 in
        let rest = clauses cs both.1 in
        λ i. here i ∷ rest i

-- the values of the variables from 1 to n
pub values_of : ℕ → Assignment → List (Option Bool)
values_of n φ = map φ (up_to n)

pub values_length : (n : ℕ) (φ : Assignment) → length (values_of n φ) ≡ n
unfolding values_of
values_length n φ = length-map (up_to n) φ ∙ length-range_with_len 1 n

-- the assignment without the other variables
values_restrict : (n : ℕ) (φ : Assignment) → restricted (outside n) φ ≡ assignment_by (values_of n φ)
unfolding values_of outside
values_restrict n φ = λ i v. at_variable v i
  where
    at_variable : (v : ℕ) → cond (not (is_between 1 n v)) None (φ v) ≡ assignment_by (map φ (up_to n)) v
    at_variable zero = refl
    at_variable (suc k) = elim (cases_lt k n) [
      | inl inside ↦
          let within : is_between 1 n (suc k) ≡ true = and_from (nat_le 1 (suc k)) _ (le-leb 1 (suc k) (omega arith)) (le-leb (suc k) n (omega (arith, inside))) in
          let size : length (up_to n) ≡ n = length-range_with_len 1 n in
          let at : get_or (up_to n) k 0 ≡ suc k = get_or-range_with_len 1 n k 0 inside ∙ (let next : 1 + k ≡ suc k = omega arith in next) in
          ap (λ (b : Bool). cond (not b) None (φ (suc k))) within
          ∙ sym (get_or-map φ (up_to n) k 0 None (omega (arith, inside, size)) ∙ ap φ at)
      | inr past ↦
          let without : is_between 1 n (suc k) ≡ false = false_from_ne_true _ (λ e. let most = leb-true (suc k) n (and_true (nat_le 1 (suc k)) (nat_le (suc k) n) e).1 in omega (arith, most, past)) in
          let size : length (map φ (up_to n)) ≡ n = length-map (up_to n) φ ∙ length-range_with_len 1 n in
          ap (λ (b : Bool). cond (not b) None (φ (suc k))) without
          ∙ sym (get_or_past (map φ (up_to n)) k None (omega (arith, past, size)))
    ]

-- an autarky is one by its values
pub autarky_by_values : (class : Class) (F : Cnf) (S : Positions) (φ : Assignment) → is_formula F ≡ true
    → IsClassAutarky class F S φ
    → IsClassAutarky class F S (assignment_by (values_of F.vars φ))
autarky_by_values class F S φ form a =
    let G = formula_without F (outside F.vars) in
    let same = formula_inside F form in
    subst (λ (ψ : Assignment). IsClassAutarky class F S ψ) (values_restrict F.vars φ)
    (subst (λ (H : Cnf). IsClassAutarky class H S (restricted (outside F.vars) φ)) same
    (autarky_law.restricts (outside F.vars) class F S φ (subst (λ (H : Cnf). IsClassAutarky class H S φ) (sym same) a)))

-- and touches the same clauses
pub touched_by_values : (F : Cnf) (φ : Assignment) (p : ℕ) → is_formula F ≡ true → touches φ (clause_at F p) ≡ true
    → touches (assignment_by (values_of F.vars φ)) (clause_at F p) ≡ true
touched_by_values F φ p form t =
    let same = formula_inside F form in
    subst (λ (ψ : Assignment). touches ψ (clause_at F p) ≡ true) (values_restrict F.vars φ)
    (subst (λ (H : Cnf). touches (restricted (outside F.vars) φ) (clause_at H p) ≡ true) same
    (autarky_law.still_touched (outside F.vars) F φ p ∙ subst (λ (H : Cnf). touches φ (clause_at H p) ≡ true) (sym same) t))
