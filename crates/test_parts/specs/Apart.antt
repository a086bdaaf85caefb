-- Literals on different variables.
use Rattle.std.specs.Prelude.{Bool, true, not, ◌&&◌, nat_lt, List, [], ◌∷◌, ℤ}
use Rattle.lk_model.specs.Formulas.Literal.{variable, mentions}

-- none of the others is on the variable of a literal
abbrev pub is_alone : ℤ → List ℤ → Bool
is_alone l others = nat_lt 0 (variable l) && not (mentions others (variable l))

-- no two of them are on one variable
abbrev pub are_apart : List ℤ → Bool
are_apart [] = true
are_apart (l ∷ ls) = is_alone l ls && are_apart ls
