-- Partial assignments (Handbook of Satisfiability, Kleine Büning and Kullmann).
use Rattle.std.specs.Prelude.{ℕ, suc, Bool, true, false, if◌then◌else◌, not, List, ℤ, pos, negsuc, neg_ℤ, Option, Some, None, is_some, unwrap_or, map, ◌&&◌, find, IsTrue}
use Rattle.std.specs.List.{list_any}
use Rattle.lk_model.specs.Lists.{is_between}
use Rattle.lk_model.specs.Formulas.Literal.{variable, literal_of, contains}
use Rattle.lk_model.specs.Formulas.Formula.{Cnf, clause_at, positions_of, variables_to}

-- The value of each variable that is set. A formula has finitely many variables, and no other one matters to it.
abbrev pub Assignment : Type 0
Assignment = ℕ → Option Bool

-- the literal is true
abbrev pub makes_true : Assignment → ℤ → Bool
makes_true φ (pos v) = unwrap_or (φ v) false
makes_true φ (negsuc k) = not (unwrap_or (φ (suc k)) true)

-- a variable of the clause is set
abbrev pub touches : Assignment → List ℤ → Bool
touches φ c = list_any (λ l. is_some (φ (variable l))) c

-- a literal of the clause is true
abbrev pub satisfies : Assignment → List ℤ → Bool
satisfies φ c = list_any (makes_true φ) c

-- the assignment satisfies each clause of S
abbrev pub IsModel : Cnf → (ℕ → Bool) → Assignment → Type 0
IsModel F S φ = (p : ℕ) → IsTrue (S p) → IsTrue (satisfies φ (clause_at F p))

-- the assignment that makes these literals true and sets nothing else
abbrev pub assignment_of : List ℤ → Assignment
assignment_of ls v = if contains ls (pos v) then Some true else if contains ls (neg_ℤ (pos v)) then Some false else None

-- the value in φ where φ sets the variable, else the one in ψ
abbrev pub composed : Assignment → Assignment → Assignment
composed φ ψ v = if is_some (φ v) then φ v else ψ v

-- the value in φ, else in ψ, else false
abbrev pub extended_value : Assignment → Assignment → ℕ → Bool
extended_value φ ψ v = unwrap_or (composed φ ψ v) false

-- the assignment with these values for the variables from 1 to n
abbrev pub extended : Assignment → Assignment → ℕ → Assignment
extended φ ψ n v = if is_between 1 n v then Some (extended_value φ ψ v) else None

-- its literals, one for each variable
abbrev pub extended_literals : Assignment → Assignment → ℕ → List ℤ
extended_literals φ ψ n = map (λ v. literal_of v (extended_value φ ψ v)) (variables_to n)

-- the least position whose clause is touched and not satisfied
abbrev pub first_unsatisfied : Assignment → Cnf → Option ℕ
first_unsatisfied φ F = find (λ p. touches φ (clause_at F p) && not (satisfies φ (clause_at F p))) (positions_of F)
