-- Unit propagation, as what stands where it comes to rest (Handbook of Satisfiability, Marques-Silva, Lynce and Malik).
use Rattle.std.specs.Prelude.{Bool, not, ◌&&◌, ◌==◌, List, filter, length, ℤ, is_some, IsTrue}
use Rattle.std.specs.List.{list_all, list_any}
use Rattle.lk_model.specs.Formulas.Literal.{variable, complement}
use Rattle.lk_model.specs.Formulas.Assignment.{Assignment, makes_true, satisfies}

-- every literal is false
abbrev pub is_false : Assignment → List ℤ → Bool
is_false φ c = list_all (λ l. makes_true φ (complement l)) c

-- its variable has no value
abbrev pub is_unset : Assignment → ℤ → Bool
is_unset φ l = not (is_some (φ (variable l)))

-- no literal is true and just one is unset
abbrev pub is_unit_under : Assignment → List ℤ → Bool
is_unit_under φ c = not (satisfies φ c) && length (filter (is_unset φ) c) == 1

-- Unit propagation is at rest at the assignment, without a conflict: no clause is false, and none forces a literal.
abbrev pub is_at_rest : Assignment → List (List ℤ) → Bool
is_at_rest φ cs = list_all (λ c. not (is_false φ c) && not (is_unit_under φ c)) cs

-- Unit propagation alone neither refutes nor satisfies these clauses: at some assignment it rests without a conflict, and not
-- all of them are satisfied there. (What it forces from nothing is in each such assignment. So it meets no false
-- clause, and leaves a clause without a true literal.)
pub record IsUndecided (cs : List (List ℤ)) : Type 0 where
  pub φ : Assignment
  pub rests : IsTrue (is_at_rest φ cs)
  pub unsatisfied : IsTrue (list_any (λ c. not (satisfies φ c)) cs)
