-- The variables of clauses.
use Rattle.std.proofs.Common.{◌≡◌, ℕ, ◌<◌, ◌≤◌, Bool, true, ◌==◌, nat_le, List, [], ◌∷◌, refl, arith, inl, inr, ℤ, ◌||◌, map, ap, zero, suc, nat_lt, subst, length}
use Rattle.std.specs.List.{list_any, list_all}
use Rattle.std.specs.Ordering.{int_eq}
use Rattle.std.proofs.lemmas.Bool.Decides.{Decides-int_eq}
use Rattle.std.proofs.lemmas.Bool.{leb-true, eqb-true, cases_Bool, ltb-true, ltb-false}
use Rattle.std.proofs.lemmas.List.{get_or_past}
use Rattle.lk_model.specs.Lists.{among}
use Rattle.lk_model.specs.Formulas.Literal.{variable, contains, mentions, is_literal}
use Rattle.lk_model.specs.Formulas.Formula.{Cnf, clause_at, is_formula, variable_occurs, variables_to}
use Rattle.lk_model.proofs.Booleans.{and_true, or_true, or_left, or_right}
use Rattle.lk_model.proofs.Clauses.{literals_of}
use Rattle.lk_model.proofs.Counting.{among-range}
use Rattle.lk_model.proofs.ListTests.{passes_among, passing}

-- a test that holds of a literal holds of one on a variable that is given by it
pub any_mono : (p q : ℤ → Bool) (c : List ℤ) → ((l : ℤ) → p l ≡ true → q l ≡ true) → list_any p c ≡ true → list_any q c ≡ true
any_mono p q [] h e = absurd (let f : ⊥ = cc in f)
any_mono p q (l ∷ c) h e = elim (or_true (p l) (list_any p c) e) [
  | inl this ↦ or_left (q l) (list_any q c) (h l this)
  | inr later ↦ or_right (q l) (list_any q c) (any_mono p q c h later)
]

-- a literal that passes
pub literal_passing : (t : ℤ → Bool) (c : List ℤ) → list_any t c ≡ true → (l : ℤ) × (contains c l ≡ true) × (t l ≡ true)
literal_passing t [] e = absurd (let f : ⊥ = cc in f)
literal_passing t (l ∷ c) e = elim (or_true (t l) (list_any t c) e) [
  | inl here ↦ (l, or_left (int_eq l l) (contains c l) ((Decides-int_eq l l).1 refl), here)
  | inr later ↦ (let w = literal_passing t c later in (w.0, or_right (int_eq w.0 l) (contains c w.0) w.1, w.2))
]

-- the variables of a clause are those that it mentions
pub among_variables : (c : List ℤ) (v : ℕ) → among (map variable c) v ≡ mentions c v
among_variables [] v = refl
among_variables (l ∷ c) v = ap (λ (b : Bool). (variable l == v) || b) (among_variables c v)

-- a variable of a kept clause occurs
pub occurs : (F : Cnf) (kept : List ℕ) (p v : ℕ) → among kept p ≡ true → mentions (clause_at F p) v ≡ true → variable_occurs F kept v ≡ true
occurs F kept p v m e = passes_among (λ q. mentions (clause_at F q) v) kept p m e

-- and one that occurs is one of a kept clause
pub position_with : (F : Cnf) (kept : List ℕ) (v : ℕ) → variable_occurs F kept v ≡ true → (p : ℕ) × (among kept p ≡ true) × (mentions (clause_at F p) v ≡ true)
position_with F kept v e = passing (λ q. mentions (clause_at F q) v) kept e

-- the variables of a clause are at most the formula's
clause_bound : (n : ℕ) (c : List ℤ) (v : ℕ) → list_all (is_literal n) c ≡ true → mentions c v ≡ true → (0 < v) × (v ≤ n)
clause_bound n [] v a e = absurd (let f : ⊥ = cc in f)
clause_bound n (l ∷ c) v a e =
    let both = and_true (is_literal n l) (list_all (is_literal n) c) a in
    elim (or_true (variable l == v) (mentions c v) e) [
      | inl same ↦
          (let s = eqb-true (variable l) v same in
          let range = and_true (nat_le 1 (variable l)) (nat_le (variable l) n) both.0 in
          let least = leb-true 1 (variable l) range.0 in let most = leb-true (variable l) n range.1 in
          (omega (arith, s, least), omega (arith, s, most)))
      | inr later ↦ clause_bound n c v both.1 later
    ]

pub variable_bound : (F : Cnf) (p v : ℕ) → is_formula F ≡ true → mentions (clause_at F p) v ≡ true → (0 < v) × (v ≤ F.vars)
variable_bound F p v f e = clause_bound F.vars (clause_at F p) v (literals_of F p f) e

-- and a clause with a variable stands in the formula
pub position_bound : (G : Cnf) (p v : ℕ) → mentions (clause_at G p) v ≡ true → (1 ≤ p) × (p ≤ length G.clauses)
position_bound G zero v e = absurd (let z : ⊥ = cc in z)
position_bound G (suc k) v e = elim (cases_Bool (nat_lt k (length G.clauses))) [
  | inl y ↦ (let inside = ltb-true k (length G.clauses) y in (omega arith, omega (arith, inside)))
  | inr n ↦
      (let past = ltb-false k (length G.clauses) n in
      let none : clause_at G (suc k) ≡ [] = get_or_past G.clauses k [] past in
      absurd (let gone = subst (λ c. mentions c v ≡ true) none e in let z : ⊥ = cc in z))
]

pub in_variables : (n v : ℕ) → (0 < v) × (v ≤ n) → among (variables_to n) v ≡ true
in_variables n v b = among-range 1 n v b.0 (omega (arith, b.1))
