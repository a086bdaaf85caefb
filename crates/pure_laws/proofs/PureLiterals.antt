-- Pure literals of some positions, and what a literal more touches.
use Rattle.std.proofs.Common.{◌≡◌, ℕ, zero, suc, ◌+◌, ◌<◌, ◌≤◌, ◌∙◌, Bool, true, false, not, cond, ◌&&◌, ◌||◌, ◌==◌, List, [], ◌∷◌, ◌++◌, refl, sym, ap, subst, arith, ℤ, pos, negsuc, neg_ℤ, inl, inr, Option, Some, None, is_some}
use Rattle.std.specs.Prelude.{find, flat_map, nat_le}
use Rattle.std.specs.List.{list_any, range_with_len}
use Rattle.std.proofs.Math.IntN.{neg_ℤ-neg_ℤ}
use Rattle.std.proofs.lemmas.Bool.{cases_Bool, cases_eq, both_ways, not-true, cond-true, cond-false, le-leb, leb-true, eq-eqb, eqb-true}
use Rattle.std.proofs.lemmas.List.Folds.{list_any-append}
use Rattle.std.proofs.Math.Bool.{or-false}
use Rattle.lk_model.specs.Lists.{among}
use Rattle.lk_model.specs.Formulas.Literal.{variable, complement, contains, mentions, is_literal}
use Rattle.lk_model.specs.Formulas.Formula.{Cnf, clause_at, literal_occurs}
use Rattle.lk_model.specs.Formulas.Assignment.{assignment_of, touches}
use Rattle.lk_model.specs.Formulas.PureRun.{is_pure_at, least_pure}
use Rattle.lk_model.proofs.Booleans.{and_true}
use Rattle.lk_model.proofs.ListTests.{passes_among}
use Rattle.lk_model.proofs.Literals.{variable_complement}
use Rattle.kernel_laws.proofs.Tests.{any_same, any_or}
use Rattle.kernel_laws.proofs.Clauses.{mentions_or}

-- THE LEAST PURE LITERAL

-- what is found passes the test and is a literal of the variables
record Found (s : ℤ → Bool) (a n : ℕ) (l : ℤ) : Type 0 where
  passes : s l ≡ true
  low : a ≤ variable l
  high : variable l < a + n

found : (s : ℤ → Bool) (a n : ℕ) (l : ℤ) → find s (flat_map (λ v. pos v ∷ neg_ℤ (pos v) ∷ []) (range_with_len a n)) ≡ Some l → Found s a n l
found s a zero l e = absurd (let f : ⊥ = cc in f)
found s a (suc n) l e =
    let rest : Option ℤ = find s (flat_map (λ v. pos v ∷ neg_ℤ (pos v) ∷ []) (range_with_len (a + 1) n)) in
    let second : Option ℤ = cond (s (neg_ℤ (pos a))) (Some (neg_ℤ (pos a))) rest in
    elim (cases_Bool (s (pos a))) [
      | inl y ↦
          let is : pos a ≡ l = some_same (pos a) l (sym (cond-true (s (pos a)) (Some (pos a)) second y) ∙ e) in
          subst (λ k. Found s a (suc n) k) is (record { passes = y; low = omega arith; high = omega arith })
      | inr y ↦
          let later : second ≡ Some l = sym (cond-false (s (pos a)) (Some (pos a)) second y) ∙ e in
          elim (cases_Bool (s (neg_ℤ (pos a)))) [
            | inl z ↦
                let is : neg_ℤ (pos a) ≡ l = some_same (neg_ℤ (pos a)) l (sym (cond-true (s (neg_ℤ (pos a))) (Some (neg_ℤ (pos a))) rest z) ∙ later) in
                let on : variable (neg_ℤ (pos a)) ≡ a = variable_complement (pos a) in
                subst (λ k. Found s a (suc n) k) is (record { passes = z; low = omega (arith, on); high = omega (arith, on) })
            | inr z ↦
                let f = found s (a + 1) n l (sym (cond-false (s (neg_ℤ (pos a))) (Some (neg_ℤ (pos a))) rest z) ∙ later) in
                record { passes = f.passes; low = omega (arith, f.low); high = omega (arith, f.high) }
          ]
    ]
  where
    some_same : (x y : ℤ) → Some x ≡ Some y → x ≡ y
    some_same x y e = cc

-- the least pure literal is one over the variables
pub least_literal : (F : Cnf) (ps : List ℕ) (l : ℤ) → least_pure F ps ≡ Some l → is_literal F.vars l ≡ true
least_literal F ps l e =
    let f = found (is_pure_at F ps) 1 F.vars l e in
    rw (le-leb 1 (variable l) f.low, le-leb (variable l) F.vars (let high = f.high in omega (arith, high))) refl

-- and is pure
pub least_is_pure : (F : Cnf) (ps : List ℕ) (l : ℤ) → least_pure F ps ≡ Some l → is_pure_at F ps l ≡ true
least_is_pure F ps l e = (found (is_pure_at F ps) 1 F.vars l e).passes

-- no clause there contains the complement of a pure literal
pub no_complement : (F : Cnf) (ps : List ℕ) (l : ℤ) (p : ℕ) → is_pure_at F ps l ≡ true → among ps p ≡ true → contains (clause_at F p) (complement l) ≡ false
no_complement F ps l p pure there = elim (cases_Bool (contains (clause_at F p) (complement l))) [
  | inl y ↦
      (let some : literal_occurs F ps (complement l) ≡ true = passes_among (λ q. contains (clause_at F q) (complement l)) ps p there y in
      let none = not-true (literal_occurs F ps (complement l)) (and_true (literal_occurs F ps l) (not (literal_occurs F ps (complement l))) pure).1 in
      absurd (both_ways (literal_occurs F ps (complement l)) none some))
  | inr n ↦ n
]

-- WHERE NO LITERAL IS PURE

-- where none is found, neither literal of a variable passes
both_fail : (test : ℤ → Bool) (a n v : ℕ) → find test (flat_map (λ k. pos k ∷ neg_ℤ (pos k) ∷ []) (range_with_len a n)) ≡ None → a ≤ v → v < a + n → (test (pos v) ≡ false) × (test (neg_ℤ (pos v)) ≡ false)
both_fail test a zero v none low high = absurd (omega (arith, low, high))
both_fail test a (suc n) v none low high = elim (cases_Bool (test (pos a))) [
  | inl p ↦ absurd (cc (sym (cond-true (test (pos a)) (Some (pos a)) (cond (test (neg_ℤ (pos a))) (Some (neg_ℤ (pos a))) rest) p) ∙ none))
  | inr p ↦
      let later = sym (cond-false (test (pos a)) (Some (pos a)) (cond (test (neg_ℤ (pos a))) (Some (neg_ℤ (pos a))) rest) p) ∙ none in
      elim (cases_Bool (test (neg_ℤ (pos a)))) [
        | inl q ↦ absurd (cc (sym (cond-true (test (neg_ℤ (pos a))) (Some (neg_ℤ (pos a))) rest q) ∙ later))
        | inr q ↦
            elim (cases_eq v a) [
              | inl e ↦ (ap (λ (k : ℕ). test (pos k)) e ∙ p, ap (λ (k : ℕ). test (neg_ℤ (pos k))) e ∙ q)
              | inr e ↦ both_fail test (a + 1) n v (sym (cond-false (test (neg_ℤ (pos a))) (Some (neg_ℤ (pos a))) rest q) ∙ later) (omega (arith, low, e)) (omega (arith, high))
            ]
      ]
]
  where
    rest : Option ℤ
    rest = find test (flat_map (λ k. pos k ∷ neg_ℤ (pos k) ∷ []) (range_with_len (a + 1) n))

-- a variable occurs in both signs or in none
pub both_signs : (F : Cnf) (ps : List ℕ) (v : ℕ) → least_pure F ps ≡ None → 0 < v → v ≤ F.vars → literal_occurs F ps (pos v) ≡ literal_occurs F ps (neg_ℤ (pos v))
both_signs F ps v none low high =
    let fail = both_fail (is_pure_at F ps) 1 F.vars v none (omega (arith, low)) (omega (arith, high)) in
    let back : (literal_occurs F ps (neg_ℤ (pos v)) && not (literal_occurs F ps (pos v))) ≡ false =
    subst (λ (l : ℤ). (literal_occurs F ps (neg_ℤ (pos v)) && not (literal_occurs F ps l)) ≡ false) (neg_ℤ-neg_ℤ (pos v)) fail.1 in
    same_occurs _ _ fail.0 back
  where
    same_occurs : (a b : Bool) → (a && not b) ≡ false → (b && not a) ≡ false → a ≡ b
    same_occurs true true p q = refl
    same_occurs false false p q = refl
    same_occurs true false p q = absurd (let f : ⊥ = cc in f)
    same_occurs false true p q = absurd (let f : ⊥ = cc in f)

-- so the complement of a literal occurs where the literal does
pub complement_occurs : (F : Cnf) (ps : List ℕ) (l : ℤ) → least_pure F ps ≡ None → is_literal F.vars l ≡ true → literal_occurs F ps (complement l) ≡ literal_occurs F ps l
complement_occurs F ps (pos v) none lit =
    let b = and_true (nat_le 1 v) (nat_le v F.vars) lit in
    sym (both_signs F ps v none (leb-true 1 v b.0) (leb-true v F.vars b.1))
complement_occurs F ps (negsuc k) none lit =
    let b = and_true (nat_le 1 (suc k)) (nat_le (suc k) F.vars) lit in
    both_signs F ps (suc k) none (leb-true 1 (suc k) b.0) (leb-true (suc k) F.vars b.1)

-- ONE LITERAL MORE

-- a variable is set where one of its literals is among those that are true
set_is : (ls : List ℤ) (v : ℕ) → is_some (assignment_of ls v) ≡ (contains ls (pos v) || contains ls (neg_ℤ (pos v)))
set_is ls v = by_tests (contains ls (pos v)) (contains ls (neg_ℤ (pos v)))
  where
    by_tests : (a b : Bool) → is_some (let o : Option Bool = cond a (Some true) (cond b (Some false) None) in o) ≡ (a || b)
    by_tests true b = refl
    by_tests false true = refl
    by_tests false false = refl

-- so the assignment touches a clause that mentions a variable of them
pub touches_is : (ls c : List ℤ) → touches (assignment_of ls) c ≡ list_any (λ k. mentions ls (variable k)) c
touches_is ls c = any_same (λ k. is_some (assignment_of ls (variable k))) (λ k. mentions ls (variable k)) c (λ k. set_is ls (variable k) ∙ sym (mentions_or ls (variable k)))

-- with one literal more the clauses with its variable are touched too
pub touches_more : (order c : List ℤ) (l : ℤ) → touches (assignment_of (order ++ l ∷ [])) c ≡ (touches (assignment_of order) c || mentions c (variable l))
touches_more order c l =
    touches_is (order ++ l ∷ []) c
    ∙ any_same (λ k. mentions (order ++ l ∷ []) (variable k)) (λ k. mentions order (variable k) || (variable k == variable l)) c
    (λ k. list_any-append (λ j. variable j == variable k) order (l ∷ []) ∙ ap (λ (b : Bool). mentions order (variable k) || b) (or-false (variable l == variable k) ∙ eq_back (variable l) (variable k)))
    ∙ any_or (λ k. mentions order (variable k)) (λ k. variable k == variable l) c
    ∙ ap (λ (b : Bool). b || mentions c (variable l)) (sym (touches_is order c))
  where
    eq_back : (a b : ℕ) → (a == b) ≡ (b == a)
    eq_back a b = elim (cases_Bool (a == b)) [
      | inl y ↦ y ∙ sym (eq-eqb b a (sym (eqb-true a b y)))
      | inr y ↦ elim (cases_Bool (b == a)) [ inl z ↦ absurd (cc (y, eq-eqb a b (sym (eqb-true b a z)))) | inr z ↦ y ∙ sym z ]
    ]

-- no literal touches nothing
pub touches_none : (c : List ℤ) → touches (assignment_of []) c ≡ false
touches_none [] = refl
touches_none (l ∷ c) = touches_none c

-- a clause that contains no complement mentions the variable where it contains the literal
pub mentions_is : (c : List ℤ) (l : ℤ) → contains c (complement l) ≡ false → mentions c (variable l) ≡ contains c l
mentions_is c (pos v) e = mentions_or c v ∙ ap (λ (b : Bool). contains c (pos v) || b) e ∙ or-false (contains c (pos v))
mentions_is c (negsuc k) e = mentions_or c (suc k) ∙ ap (λ (b : Bool). b || contains c (negsuc k)) e
