-- The variables of crossed clauses, in some order.
use Rattle.std.specs.Prelude.{ℕ, Bool, List, ℤ, filter, IsPermutation}
use Rattle.std.specs.List.{list_any}
use Rattle.lk_model.specs.Lists.{up_to}
use Rattle.lk_model.specs.Formulas.Literal.{mentions}
use Rattle.lk_model.specs.Formulas.Formula.{clause_at}
use Rattle.lk_model.specs.Formulas.Crossed.{crossed_out}
use Rattle.lk_model.specs.Held.VariableSets.{is_in}
use Rattle.lk_model.specs.declared.crossed.Crossed.{Crossed}

-- the crossed clause at a position
abbrev pub crossed_at : Crossed → ℕ → List ℤ
crossed_at over p = crossed_out (is_in over.blocked.now) (clause_at over.formula.now p)

-- the variable occurs in a crossed clause of the part
abbrev pub occurs_over : Crossed → ℕ → Bool
occurs_over over v = list_any (λ p. mentions (crossed_at over p) v) over.part.now

-- the variables that occur, ascending
abbrev pub variables_over : Crossed → List ℕ
variables_over over = filter (occurs_over over) (up_to over.formula.now.vars)

-- exactly these, each once
abbrev pub IsOrderOver : Crossed → List ℕ → Type 0
IsOrderOver over vars = IsPermutation (variables_over over) vars
