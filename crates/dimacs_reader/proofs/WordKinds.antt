-- Literals over the variables of a formula.
use Rattle.std.proofs.Common.{◌≡◌, ℕ, ◌∙◌, true, false, ap, inl, inr, ℤ, pos}
use Rattle.std.specs.Prelude.{nat_le}
use Rattle.std.proofs.lemmas.Bool.{cases_Bool}
use Rattle.std.proofs.lemmas.Bool.Decides.{Decides-int_eq}
use Rattle.lk_model.specs.Formulas.Literal.{variable, is_literal}
use Rattle.lk_model.specs.Lists.{is_zero}
use Rattle.lk_model.proofs.Booleans.{and_true}

-- a literal is not 0, and its variable is one of those
pub literal_nonzero : (n : ℕ) (l : ℤ) → is_literal n l ≡ true → is_zero l ≡ false
literal_nonzero n l h = elim (cases_Bool (is_zero l)) [
  | inl e ↦
      let zero : pos 0 ≡ l = (Decides-int_eq (pos 0) l).0 e in
      let none : is_literal n (pos 0) ≡ true = ap (is_literal n) zero ∙ h in
      absurd (let g : ⊥ = cc in g)
  | inr e ↦ e
]

pub literal_fits : (n : ℕ) (l : ℤ) → is_literal n l ≡ true → nat_le (variable l) n ≡ true
literal_fits n l h = (and_true _ _ h).1
