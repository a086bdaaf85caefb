-- Lists of numbers and of literals.
use Rattle.std.proofs.Common.{◌≡◌, ℕ, zero, suc, true, ◌==◌, List, [], ◌∷◌, refl, arith, ℤ, Contains}
use Rattle.std.specs.Ordering.{int_eq}
use Rattle.std.proofs.lemmas.Bool.{eq-eqb}
use Rattle.lk_model.specs.Lists.{among}
use Rattle.lk_model.specs.Formulas.Literal.{is_same_list}
use Rattle.lk_model.proofs.Booleans.{and_true, or_left, or_right}
use Rattle.lk_model.proofs.Literals.{same_int}

-- what stands in a list is among its numbers
pub among_in : (vs : List ℕ) (v : ℕ) → Contains vs v → among vs v ≡ true
among_in [] v (k, lt, e) = absurd (omega (arith, lt))
among_in (w ∷ vs) v (zero, lt, e) = or_left (w == v) (among vs v) (eq-eqb w v e)
among_in (w ∷ vs) v (suc k, lt, e) = or_right (w == v) (among vs v) (among_in vs v (k, omega (arith, lt), e))

-- lists that pass the test are equal
pub same_list : (c d : List ℤ) → is_same_list c d ≡ true → c ≡ d
same_list [] [] e = refl
same_list [] (k ∷ d) e = absurd (let f : ⊥ = cc in f)
same_list (l ∷ c) [] e = absurd (let f : ⊥ = cc in f)
same_list (l ∷ c) (k ∷ d) e =
    let both = and_true (int_eq l k) (is_same_list c d) e in
    λ i. same_int l k both.0 i ∷ same_list c d both.1 i
