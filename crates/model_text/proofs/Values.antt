-- The values that literals give.
use Rattle.std.proofs.Common.{◌≡◌, ◌≢◌, ◌∙◌, ℕ, zero, suc, Bool, true, false, not, cond, List, [], ◌∷◌, ◌++◌, refl, sym, ap, ℤ, pos, negsuc, Option, Some, None, inl, inr, get_or}
use Rattle.std.specs.Prelude.{neg_ℤ, replicate}
use Rattle.std.proofs.lemmas.Bool.{cases_Bool, cases_eq}
use Rattle.lk_model.specs.Formulas.Literal.{variable, complement, contains, is_positive}
use Rattle.lk_model.specs.Formulas.Assignment.{Assignment, assignment_of}
use Rattle.lk_model.specs.Held.PartialValues.{assignment_by}
use Rattle.lk_model.specs.Texts.ModelText.{is_consistent}
use Rattle.lk_model.proofs.Flags.{contains-push, or_no, contains_here as contains_last}
use Rattle.partial_assign.proofs.SetValues.{assigned_other}
use Rattle.model_text.specs.ModelTexts.{MakesTrue}
use Rattle.model_text.proofs.Numbers.{apart}

-- two assignments that agree everywhere are one
same_values : (φ ψ : Assignment) → ((v : ℕ) → φ v ≡ ψ v) → φ ≡ ψ
same_values φ ψ h = λ i v. h v i

-- no variable is set at first
none_set : (n k : ℕ) → get_or (let unset : List (Option Bool) = replicate n None in unset) k None ≡ None
none_set zero k = refl
none_set (suc n) zero = refl
none_set (suc n) (suc k) = none_set n k

pub values_none : (n : ℕ) (values : List (Option Bool)) → values ≡ replicate n None → assignment_by values ≡ assignment_of []
values_none n values e = same_values (assignment_by values) (assignment_of []) at
  where
    at : (v : ℕ) → assignment_by values v ≡ assignment_of [] v
    at zero = refl
    at (suc k) = ap (λ (vs : List (Option Bool)). get_or vs k None) e ∙ none_set n k

-- a literal is false where its complement was given
pub is_false : (ls : List ℤ) (l : ℤ) → assignment_of ls (variable l) ≡ Some (not (is_positive l)) → contains ls (complement l) ≡ true
is_false ls (pos v) e = at (contains ls (pos v)) (contains ls (neg_ℤ (pos v))) e
  where
    at : (a b : Bool) → cond a (Some true) (cond b (Some false) None) ≡ Some false → b ≡ true
    at true b h = absurd (let f : ⊥ = cc in f)
    at false true h = refl
    at false false h = absurd (let f : ⊥ = cc in f)
is_false ls (negsuc k) e = at (contains ls (pos (suc k))) (contains ls (negsuc k)) e
  where
    at : (a b : Bool) → cond a (Some true) (cond b (Some false) None) ≡ Some true → a ≡ true
    at true b h = refl
    at false true h = absurd (let f : ⊥ = cc in f)
    at false false h = absurd (let f : ⊥ = cc in f)

-- where it is not false, its complement was not given
pub not_false : (ls : List ℤ) (l : ℤ) → is_consistent ls ≡ true → assignment_of ls (variable l) ≢ Some (not (is_positive l)) → contains ls (complement l) ≡ false
not_false ls (pos v) c h = elim (cases_Bool (contains ls (pos v))) [
  | inl e ↦ apart ls (pos v) c e
  | inr e ↦ at (contains ls (pos v)) (contains ls (neg_ℤ (pos v))) e h
]
  where
    at : (a b : Bool) → a ≡ false → cond a (Some true) (cond b (Some false) None) ≢ Some false → b ≡ false
    at true b out g = absurd (let f : ⊥ = cc in f)
    at false true out g = absurd (g refl)
    at false false out g = refl
not_false ls (negsuc k) c h = at (contains ls (pos (suc k))) (contains ls (negsuc k)) h
  where
    at : (a b : Bool) → cond a (Some true) (cond b (Some false) None) ≢ Some true → a ≡ false
    at true b g = absurd (g refl)
    at false b g = refl

-- a literal that is put makes its own variable have its sign
given_own : (ls : List ℤ) (l : ℤ) → contains ls (complement l) ≡ false → assignment_of (ls ++ l ∷ []) (variable l) ≡ Some (is_positive l)
given_own ls (pos v) out = rw (contains_last ls (pos v)) refl
given_own ls (negsuc k) out =
    let absent : contains (ls ++ negsuc k ∷ []) (pos (suc k)) ≡ false = contains-push ls (negsuc k) (pos (suc k)) ∙ or_no (contains ls (pos (suc k))) ∙ out in
    rw (absent, contains_last ls (negsuc k)) refl

-- one literal more was made true
pub values_more : (ls : List ℤ) (l : ℤ) (φ ψ : Assignment) → is_consistent ls ≡ true → φ ≡ assignment_of ls → MakesTrue φ l ψ → ψ ≡ assignment_of (ls ++ l ∷ [])
values_more ls l φ ψ c values h =
    let at : (v : ℕ) → φ v ≡ assignment_of ls v = λ v. ap (λ (χ : Assignment). χ v) values in
    let out = not_false ls l c (λ e. h.free (at (variable l) ∙ e)) in
    same_values ψ (assignment_of (ls ++ l ∷ [])) (λ v. elim (cases_eq v (variable l)) [
      | inl same ↦ ap ψ same ∙ h.own ∙ sym (given_own ls l out) ∙ ap (assignment_of (ls ++ l ∷ [])) (sym same)
      | inr other ↦ h.others v other ∙ at v ∙ sym (assigned_other ls l v other)
    ])
