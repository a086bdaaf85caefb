-- A model of the kept clauses, overridden by an autarky that touches exactly the others, is a model of all clauses.
use Rattle.std.proofs.Common.{◌≡◌, ℕ, suc, Bool, true, false, cond, not, List, [], ◌∷◌, refl, ◌∙◌, ap, ℤ, pos, negsuc, IsTrue, Option, Some, None, is_some, unwrap_or, inl, inr}
use Rattle.std.specs.List.{list_all}
use Rattle.lk_model.specs.Lists.{among, is_between}
use Rattle.lk_model.specs.Formulas.Literal.{variable, is_literal}
use Rattle.lk_model.specs.Formulas.Formula.{Cnf, clause_at, is_formula}
use Rattle.lk_model.specs.Formulas.Assignment.{Assignment, makes_true, touches, satisfies, extended, IsModel}
use Rattle.lk_model.specs.Formulas.Autarky.{IsAutarky}
use Rattle.lk_model.specs.Formulas.Lean.{all_of}
use Rattle.lk_model.proofs.Booleans.{and_true, or_false, or_right, or_true}
use Rattle.lk_model.proofs.Clauses.{literals_of}

-- the value of the first assignment, else of the second, else false
abbrev chosen : Bool → Option Bool → Option Bool → Option Bool
chosen b o p = cond b (Some (unwrap_or (cond (is_some o) o p) false)) None

positive_first : (b : Bool) (o p : Option Bool) → b ≡ true → unwrap_or o false ≡ true → unwrap_or (chosen b o p) false ≡ true
positive_first true None p e h = absurd (let f : ⊥ = cc in f)
positive_first true (Some x) p e h = h
positive_first false o p e h = absurd (let f : ⊥ = cc in f)

negative_first : (b : Bool) (o p : Option Bool) → b ≡ true → not (unwrap_or o true) ≡ true → not (unwrap_or (chosen b o p) true) ≡ true
negative_first true None p e h = absurd (let f : ⊥ = cc in f)
negative_first true (Some x) p e h = h
negative_first false o p e h = absurd (let f : ⊥ = cc in f)

positive_second : (b : Bool) (o p : Option Bool) → b ≡ true → is_some o ≡ false → unwrap_or p false ≡ true → unwrap_or (chosen b o p) false ≡ true
positive_second true None p e n h = h
positive_second true (Some x) p e n h = absurd (let f : ⊥ = cc in f)
positive_second false o p e n h = absurd (let f : ⊥ = cc in f)

negative_second : (b : Bool) (o p : Option Bool) → b ≡ true → is_some o ≡ false → not (unwrap_or p true) ≡ true → not (unwrap_or (chosen b o p) true) ≡ true
negative_second true None None e n h = absurd (let f : ⊥ = cc in f)
negative_second true None (Some x) e n h = h
negative_second true (Some x) p e n h = absurd (let f : ⊥ = cc in f)
negative_second false o p e n h = absurd (let f : ⊥ = cc in f)

true_by_first : (φ ψ : Assignment) (n : ℕ) (l : ℤ) → is_literal n l ≡ true → makes_true φ l ≡ true → makes_true (extended φ ψ n) l ≡ true
true_by_first φ ψ n (pos v) e h = positive_first (is_between 1 n v) (φ v) (ψ v) e h
true_by_first φ ψ n (negsuc k) e h = negative_first (is_between 1 n (suc k)) (φ (suc k)) (ψ (suc k)) e h

true_by_second : (φ ψ : Assignment) (n : ℕ) (l : ℤ) → is_literal n l ≡ true → is_some (φ (variable l)) ≡ false → makes_true ψ l ≡ true
    → makes_true (extended φ ψ n) l ≡ true
true_by_second φ ψ n (pos v) e u h = positive_second (is_between 1 n v) (φ v) (ψ v) e u h
true_by_second φ ψ n (negsuc k) e u h = negative_second (is_between 1 n (suc k)) (φ (suc k)) (ψ (suc k)) e u h

satisfied_by_first : (φ ψ : Assignment) (n : ℕ) (c : List ℤ) → list_all (is_literal n) c ≡ true → satisfies φ c ≡ true → satisfies (extended φ ψ n) c ≡ true
satisfied_by_first φ ψ n [] e h = absurd (let f : ⊥ = cc in f)
satisfied_by_first φ ψ n (l ∷ c) e h =
    let both = and_true (is_literal n l) (list_all (is_literal n) c) e in
    elim (or_true (makes_true φ l) (satisfies φ c) h) [
      | inl here ↦ rw (true_by_first φ ψ n l both.0 here) refl
      | inr more ↦ or_right (makes_true (extended φ ψ n) l) _ (satisfied_by_first φ ψ n c both.1 more)
    ]

satisfied_by_second : (φ ψ : Assignment) (n : ℕ) (c : List ℤ) → list_all (is_literal n) c ≡ true → touches φ c ≡ false → satisfies ψ c ≡ true
    → satisfies (extended φ ψ n) c ≡ true
satisfied_by_second φ ψ n [] e u h = absurd (let f : ⊥ = cc in f)
satisfied_by_second φ ψ n (l ∷ c) e u h =
    let both = and_true (is_literal n l) (list_all (is_literal n) c) e in
    let unset = or_false (is_some (φ (variable l))) (touches φ c) u in
    elim (or_true (makes_true ψ l) (satisfies ψ c) h) [
      | inl here ↦ rw (true_by_second φ ψ n l both.0 unset.0 here) refl
      | inr more ↦ or_right (makes_true (extended φ ψ n) l) _ (satisfied_by_second φ ψ n c both.1 unset.1 more)
    ]

pub models_by : (F : Cnf) (kept : List ℕ) (φ : Assignment) → is_formula F ≡ true → IsAutarky F (all_of F) φ
    → ((p : ℕ) → IsTrue (all_of F p) → touches φ (clause_at F p) ≡ not (among kept p))
    → (ψ : Assignment) → IsModel F (among kept) ψ → IsModel F (all_of F) (extended φ ψ F.vars)
models_by F kept φ form autarky touched ψ model p within = at_test (among kept p) refl
  where
    at_test : (b : Bool) → among kept p ≡ b → satisfies (extended φ ψ F.vars) (clause_at F p) ≡ true
    at_test true e = satisfied_by_second φ ψ F.vars (clause_at F p) (literals_of F p form) (touched p within ∙ ap not e) (model p e)
    at_test false e = satisfied_by_first φ ψ F.vars (clause_at F p) (literals_of F p form) (autarky p within (touched p within ∙ ap not e))
