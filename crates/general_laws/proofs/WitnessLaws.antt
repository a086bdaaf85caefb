-- Assignments that satisfy all clauses of a set but one.
use Rattle.std.proofs.Common.{◌≡◌, ◌≢◌, ℕ, Bool, true, false, not, ◌==◌, sym, subst, ℤ, inl, inr}
use Rattle.std.proofs.lemmas.Bool.{both_ways, cases_Bool, eqb-true, eq-eqb, false_from_ne_true, not_from_false, and_from}
use Rattle.lk_model.specs.Lists.{is_nonzero}
use Rattle.lk_model.specs.Formulas.Literal.{contains, complement}
use Rattle.lk_model.specs.Formulas.Formula.{Cnf, clause_at}
use Rattle.lk_model.specs.Formulas.Assignment.{Assignment, satisfies, IsModel}
use Rattle.lk_model.specs.Formulas.Autarky.{Positions, Within}
use Rattle.lk_model.proofs.Booleans.{and_true}
use Rattle.lk_model.specs.Formulas.Minimal.{IsUnsatisfiable, all_but, with_made_true}
use Rattle.general_laws.specs.MinimalLaw.{WitnessLaw}
use Rattle.general_laws.proofs.Flips.{satisfied_made, satisfied_still}

-- a position of the set other than p
pub other_than : (S : Positions) (p q : ℕ) → S q ≡ true → (q == p) ≡ false → all_but S p q ≡ true
other_than S p q there n = and_from (S q) (not (q == p)) there (not_from_false (q == p) n)

apart : (S : Positions) (p q : ℕ) → all_but S p q ≡ true → (S q ≡ true) × (q ≢ p)
apart S p q e =
    let both = and_true (S q) (not (q == p)) e in
    (both.0, λ same. no_both (q == p) (eq-eqb q p same) both.1)
  where
    no_both : (b : Bool) → b ≡ true → not b ≡ true → ⊥
    no_both true e n = let f : ⊥ = cc in f
    no_both false e n = let f : ⊥ = cc in f

rotates : (F : Cnf) (S : Positions) (p q : ℕ) (l : ℤ) (φ : Assignment) → is_nonzero l ≡ true → IsModel F (all_but S p) φ
    → contains (clause_at F p) l ≡ true
    → ((k : ℕ) → S k ≡ true → contains (clause_at F k) (complement l) ≡ true → k ≢ q → satisfies (with_made_true φ l) (clause_at F k) ≡ true)
    → IsModel F (all_but S q) (with_made_true φ l)
rotates F S p q l φ real model there looks k m =
    let w = apart S q k m in
    elim (cases_Bool (contains (clause_at F k) (complement l))) [
      | inl against ↦ looks k w.0 against w.1
      | inr none ↦ elim (cases_Bool (k == p)) [
        | inl here ↦ satisfied_made φ l (clause_at F k) real (subst (λ (j : ℕ). contains (clause_at F j) l ≡ true) (sym (eqb-true k p here)) there)
        | inr other ↦ satisfied_still φ l (clause_at F k) real none (model k (other_than S p k w.0 other))
      ]
    ]

stays : (F : Cnf) (S T : Positions) (p : ℕ) (φ : Assignment) → Within T S → IsModel F (all_but S p) φ → IsModel F (all_but T p) φ
stays F S T p φ within model q m =
    let both = and_true (T q) (not (q == p)) m in
    model q (and_from (S q) (not (q == p)) (within q both.0) both.1)

needed : (F : Cnf) (S T : Positions) (p : ℕ) (φ : Assignment) → Within T S → IsModel F (all_but S p) φ → IsUnsatisfiable F T
    → T p ≡ true
needed F S T p φ within model none = elim (cases_Bool (T p)) [
  | inl y ↦ y
  | inr n ↦ absurd (none φ (λ q m. model q (other_than S p q (within q m)
      (false_from_ne_true (q == p) (λ same. both_ways (T p) n (subst (λ (k : ℕ). T k ≡ true) (eqb-true q p same) m))))))
]

pub witness_law : WitnessLaw
witness_law = record { rotates = rotates; stays = stays; needed = needed }
