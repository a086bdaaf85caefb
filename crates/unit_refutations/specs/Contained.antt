-- Crossed clauses that another clause contains.
use Rattle.std.specs.Prelude.{ℕ, Bool, not, ◌||◌, ◌&&◌, List, ℤ}
use Rattle.std.specs.List.{list_any, list_all}
use Rattle.lk_model.specs.Lists.{is_empty}
use Rattle.lk_model.specs.Formulas.Literal.{variable, contains, is_within}
use Rattle.lk_model.specs.Formulas.Formula.{Cnf, clause_at}
use Rattle.lk_model.specs.Formulas.Crossed.{Variables}
use Rattle.lk_model.specs.declared.crossed.Crossed.{Crossed}
use Rattle.unit_refutations.specs.Chains.{clause_over}

-- the clause contains no crossed clause of the part that is not empty
abbrev pub contains_none : Crossed → List ℤ → Bool
contains_none over c = not (list_any (λ p. not (is_empty (clause_over over p)) && is_within (clause_over over p) c) over.part.now)

-- each literal of c stands in d, or its variable is in the set
abbrev pub is_within_but : Variables → List ℤ → List ℤ → Bool
is_within_but vars c d = list_all (λ l. vars (variable l) || contains d l) c

-- of no clause at these positions does each literal stand in d, or have its variable in the set
abbrev pub none_within_but : Cnf → Variables → List ℤ → List ℕ → Bool
none_within_but F vars d ps = list_all (λ p. not (is_within_but vars (clause_at F p) d)) ps
