-- A pure autarky satisfies what it touches.
use Rattle.std.proofs.Common.{◌≡◌, ℕ, true, List, [], ◌∷◌, ◌∙◌, ap, subst, inl, inr, ◌⊎◌, ℤ}
use Rattle.std.specs.Ordering.{int_eq}
use Rattle.lk_model.specs.Formulas.Literal.{complement, contains}
use Rattle.lk_model.specs.Formulas.Formula.{Cnf, clause_at, is_formula}
use Rattle.lk_model.specs.Formulas.Assignment.{Assignment}
use Rattle.lk_model.specs.Formulas.Autarky.{Positions, HasEarlier, IsAutarky, IsPureAutarky}
use Rattle.lk_model.proofs.Booleans.{or_true, or_left, or_right}
use Rattle.lk_model.proofs.Variables.{literal_passing}
use Rattle.lk_model.proofs.ListTests.{literal_within, not_zero}
use Rattle.lk_model.proofs.Literals.{same_int, complement_twice}
use Rattle.kernel_laws.proofs.Assignments.{touching, satisfied_at, true_literal}

-- a clause with the complement of a literal of the order contains another literal of it, or one before it
held_by_order : (F : Cnf) (S : Positions) (earlier order : List ℤ) → HasEarlier F S earlier order → (k : ℤ) → contains order k ≡ true → (p : ℕ) → S p ≡ true
    → contains (clause_at F p) (complement k) ≡ true → (j : ℤ) × (contains (clause_at F p) j ≡ true) × ((contains earlier j ≡ true) ⊎ (contains order j ≡ true))
held_by_order F S earlier [] h k m p s held = absurd (let f : ⊥ = cc in f)
held_by_order F S earlier (l ∷ order) h k m p s held = elim (or_true (int_eq k l) (contains order k) m) [
  | inl same ↦
      (let w = literal_passing (contains (clause_at F p)) earlier (h.0 p s (subst (λ (x : ℤ). contains (clause_at F p) (complement x) ≡ true) (same_int k l same) held)) in
      (w.0, w.2, inl w.1))
  | inr later ↦
      (let w = held_by_order F S (l ∷ earlier) order h.1 k later p s held in (
        w.0,
        w.1,
        elim w.2 [
          | inl before ↦ elim (or_true (int_eq w.0 l) (contains earlier w.0) before) [
            | inl here ↦ inr (or_left (int_eq w.0 l) (contains order w.0) here)
            | inr first ↦ inl first
          ]
          | inr behind ↦ inr (or_right (int_eq w.0 l) (contains order w.0) behind)
        ],
      ))
]

pub pure_satisfies : (F : Cnf) (S : Positions) (φ : Assignment) → is_formula F ≡ true → IsPureAutarky F S φ → IsAutarky F S φ
pure_satisfies F S φ form a p s t =
    let w = touching φ (clause_at F p) t in
    elim (true_literal φ w.0 (not_zero F.vars w.0 (literal_within F p w.0 form w.1)) w.2) [
      | inl itself ↦ satisfied_at φ (clause_at F p) w.0 w.1 itself
      | inr other ↦
          (let held : contains (clause_at F p) (complement (complement w.0)) ≡ true = ap (contains (clause_at F p)) (complement_twice w.0) ∙ w.1 in
          let j = held_by_order F S [] a.order a.earlier (complement w.0) ((a.true_literals (complement w.0)).1 other) p s held in
          elim j.2 [
            | inl none ↦ absurd (let f : ⊥ = cc (none) in f)
            | inr there ↦ satisfied_at φ (clause_at F p) j.0 j.1 ((a.true_literals j.0).0 there)
          ])
    ]
