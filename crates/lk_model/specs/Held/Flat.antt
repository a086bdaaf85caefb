-- Lists of literals kept one after another, with the place where each ends.
use Rattle.std.specs.Prelude.{◌≡◌, ℕ, zero, suc, ◌≤◌, List, [], ◌∷◌, length, ℤ, IsTrue, slice_range, slice_index}
use Rattle.lk_model.specs.Formulas.Formula.{Cnf, is_formula, IsWithinLimits}

-- the lists from a place on, each up to its end
abbrev pub cut : ℕ → List ℤ → List ℕ → List (List ℤ)
cut start ls [] = []
cut start ls (end ∷ ends) = slice_range ls start end ∷ cut end ls ends

-- the ends do not fall, and the last one is the stop
abbrev pub AreEnds : ℕ → List ℕ → ℕ → Type 0
AreEnds start [] stop = start ≡ stop
AreEnds start (end ∷ ends) stop = (start ≤ end) × AreEnds end ends stop

-- where the list at a place begins
abbrev pub begin_of : ℕ → List ℕ → ℕ → ℕ
begin_of start ends zero = start
begin_of start ends (suc k) = slice_index ends k

abbrev pub formula_of : ℕ → List ℤ → List ℕ → Cnf
formula_of vars literals ends = record { vars = vars; clauses = cut 0 literals ends }

pub record IsFlat (vars : ℕ) (literals : List ℤ) (ends : List ℕ) : Type 0 where
  pub cuts : AreEnds 0 ends (length literals)
  pub formula : IsTrue (is_formula (formula_of vars literals ends))
  pub limits : IsWithinLimits (formula_of vars literals ends)
