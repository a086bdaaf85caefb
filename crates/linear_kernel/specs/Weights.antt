-- The weights of a stage as a list, and the clauses that a set of variables leaves.
use Rattle.std.specs.Prelude.{ℕ, ◌<◌, ◌≤◌, Bool, not, List, map, filter, IsTrue}
use Rattle.std.specs.List.{list_any}
use Rattle.lk_model.specs.Lists.{among, is_nonzero}
use Rattle.lk_model.specs.Formulas.Literal.{variable}
use Rattle.lk_model.specs.Formulas.Formula.{Cnf, clause_at}
use Rattle.lk_model.specs.Held.VariableSets.{is_in}
use Rattle.lk_model.specs.declared.document.Weight.{Weight}

-- the weight of a variable from 1 to n, which is not 0
abbrev pub IsWeight : ℕ → Weight → Type 0
IsWeight n w = (0 < w.var) × (w.var ≤ n) × IsTrue (is_nonzero w.x)

-- one of them is that of the variable
abbrev pub has_weight : List Weight → ℕ → Bool
has_weight ws = among (map (λ (w : Weight). w.var) ws)

-- the positions whose clauses have no variable in the set
abbrev pub left_by : Cnf → List Bool → List ℕ → List ℕ
left_by F set S = filter (λ p. not (list_any (λ l. is_in set (variable l)) (clause_at F p))) S
