-- Assignments of which one has priority over another, and assignments with one literal made true.
use Rattle.std.proofs.Common.{◌≡◌, Bool, true, false, cond, not, ◌==◌, List, refl, sym, ◌∙◌, ap, subst, ℤ, pos, negsuc, Option, Some, None, is_some, unwrap_or, inl, inr}
use Rattle.std.proofs.lemmas.Bool.{both_ways, cases_Bool, eqb-true, eq-eqb, cond-true, cond-false}
use Rattle.lk_model.specs.Lists.{is_nonzero}
use Rattle.lk_model.specs.Formulas.Literal.{variable, complement, contains, is_positive}
use Rattle.lk_model.specs.Formulas.Assignment.{Assignment, makes_true, touches, satisfies, composed}
use Rattle.kernel_laws.proofs.Assignments.{satisfying, satisfied_at, touched_at}
use Rattle.lk_model.specs.Formulas.Minimal.{with_made_true}
use Rattle.lk_model.proofs.Literals.{one_variable}

-- LITERALS OF ONE VARIABLE

-- what the literal has of the value of its variable
pub value_true : ℤ → Option Bool → Bool
value_true (pos v) o = unwrap_or o false
value_true (negsuc k) o = not (unwrap_or o true)

pub by_value : (φ : Assignment) (l : ℤ) → makes_true φ l ≡ value_true l (φ (variable l))
unfolding value_true
by_value φ (pos v) = refl
by_value φ (negsuc k) = refl

pub true_set : (l : ℤ) (o : Option Bool) → value_true l o ≡ true → is_some o ≡ true
unfolding value_true
true_set (pos v) None e = absurd (let f : ⊥ = cc in f)
true_set (negsuc k) None e = absurd (let f : ⊥ = cc in f)
true_set (pos v) (Some b) e = refl
true_set (negsuc k) (Some b) e = refl

-- a value that makes the literal true still does where false stands in for none
pub still_true : (l : ℤ) (o p : Option Bool) → is_some o ≡ true → value_true l o ≡ true
    → value_true l (Some (unwrap_or (cond (is_some o) o p) false)) ≡ true
unfolding value_true
still_true (pos v) None p s e = absurd (let f : ⊥ = cc in f)
still_true (pos v) (Some b) p s e = e
still_true (negsuc k) None p s e = absurd (let f : ⊥ = cc in f)
still_true (negsuc k) (Some b) p s e = e

-- ONE OVER ANOTHER

true_first : (φ ψ : Assignment) (l : ℤ) → makes_true φ l ≡ true → makes_true (composed φ ψ) l ≡ true
true_first φ ψ l e =
    let v = sym (by_value φ l) ∙ e in
    by_value (composed φ ψ) l ∙ ap (value_true l) (cond-true (is_some (φ (variable l))) (φ (variable l)) (ψ (variable l)) (true_set l (φ (variable l)) v)) ∙ v

true_second : (φ ψ : Assignment) (l : ℤ) → is_some (φ (variable l)) ≡ false → makes_true ψ l ≡ true
    → makes_true (composed φ ψ) l ≡ true
true_second φ ψ l n e =
    by_value (composed φ ψ) l ∙ ap (value_true l) (cond-false (is_some (φ (variable l))) (φ (variable l)) (ψ (variable l)) n) ∙ sym (by_value ψ l) ∙ e

pub satisfied_first : (φ ψ : Assignment) (c : List ℤ) → satisfies φ c ≡ true → satisfies (composed φ ψ) c ≡ true
satisfied_first φ ψ c e = let w = satisfying φ c e in satisfied_at (composed φ ψ) c w.0 w.1 (true_first φ ψ w.0 w.2)

pub satisfied_second : (φ ψ : Assignment) (c : List ℤ) → touches φ c ≡ false → satisfies ψ c ≡ true
    → satisfies (composed φ ψ) c ≡ true
satisfied_second φ ψ c u e =
    let w = satisfying ψ c e in
    satisfied_at (composed φ ψ) c w.0 w.1 (elim (cases_Bool (is_some (φ (variable w.0)))) [
      | inl y ↦ absurd (both_ways (touches φ c) u (touched_at φ c w.0 w.1 y))
      | inr n ↦ true_second φ ψ w.0 n w.2
    ])

-- ONE LITERAL MADE TRUE

own_true : (l : ℤ) → is_nonzero l ≡ true → value_true l (Some (is_positive l)) ≡ true
unfolding value_true
own_true (pos v) e = refl
own_true (negsuc k) e = refl

made_true : (φ : Assignment) (l : ℤ) → is_nonzero l ≡ true → makes_true (with_made_true φ l) l ≡ true
made_true φ l e =
    by_value (with_made_true φ l) l
    ∙ ap (value_true l) (cond-true (variable l == variable l) (Some (is_positive l)) (φ (variable l)) (eq-eqb (variable l) (variable l) refl)) ∙ own_true l e

-- what contained the literal is satisfied
pub satisfied_made : (φ : Assignment) (l : ℤ) (c : List ℤ) → is_nonzero l ≡ true → contains c l ≡ true
    → satisfies (with_made_true φ l) c ≡ true
satisfied_made φ l c e m = satisfied_at (with_made_true φ l) c l m (made_true φ l e)

-- and what was satisfied stays so where it does not contain the complement
pub satisfied_still : (φ : Assignment) (l : ℤ) (c : List ℤ) → is_nonzero l ≡ true → contains c (complement l) ≡ false
    → satisfies φ c ≡ true
    → satisfies (with_made_true φ l) c ≡ true
satisfied_still φ l c real n e =
    let w = satisfying φ c e in
    satisfied_at (with_made_true φ l) c w.0 w.1 (elim (cases_Bool (variable w.0 == variable l)) [
      | inl same ↦ elim (one_variable w.0 l (eqb-true (variable w.0) (variable l) same)) [
        | inl own ↦ subst (λ (k : ℤ). makes_true (with_made_true φ l) k ≡ true) (sym own) (made_true φ l real)
        | inr other ↦ absurd (both_ways (contains c (complement l)) n (subst (λ (k : ℤ). contains c k ≡ true) other w.1))
      ]
      | inr apart ↦ by_value (with_made_true φ l) w.0
          ∙ ap (value_true w.0) (cond-false (variable w.0 == variable l) (Some (is_positive l)) (φ (variable w.0)) apart) ∙ sym (by_value φ w.0) ∙ w.2
    ])
