-- Balances: sums over the literals of a clause, or over the clauses of a variable, with the signs of the literals. All
-- sums are exact.
use Rattle.std.specs.Prelude.{ℕ, suc, List, [], ◌∷◌, map, if◌then◌else◌, ℤ, pos, negsuc, ◌+ℤ◌, ◌-ℤ◌, ◌*ℤ◌, neg_ℤ}
use Rattle.lk_model.specs.Lists.{sum_of}
use Rattle.lk_model.specs.Formulas.Literal.{complement, contains}
use Rattle.lk_model.specs.Formulas.Formula.{Cnf, clause_at}

-- a whole number for each variable
abbrev pub Weighting : Type 0
Weighting = ℕ → ℤ

-- the weights of the variables that the clause contains, less those of the variables whose complement it contains
abbrev pub balance : Weighting → List ℤ → ℤ
balance x [] = pos 0
balance x (pos v ∷ c) = x v +ℤ balance x c
balance x (negsuc k ∷ c) = neg_ℤ (x (suc k)) +ℤ balance x c

-- 1 where the clause contains v and not -v, -1 where it contains -v and not v, else 0
abbrev pub incidence : List ℤ → ℕ → ℤ
incidence c v = (if contains c (pos v) then pos 1 else pos 0) -ℤ (if contains c (complement (pos v)) then pos 1 else pos 0)

-- Of numbers at positions, in a variable: those at the clauses that contain it, less those at the clauses that contain
-- its complement.
abbrev pub balance_in : Cnf → List (ℕ × ℤ) → ℕ → ℤ
balance_in F ys v = sum_of (map (λ (p, y). y *ℤ incidence (clause_at F p) v) ys)
