-- The variables of a part, by which the variables of its own formula are named.
use Rattle.std.specs.Prelude.{◌≡◌, ◌<◌, ◌≤◌, ℕ, List, map, IsTrue}
use Rattle.std.specs.List.{flat_map}
use Rattle.lk_model.specs.Lists.{among, rises_within}
use Rattle.lk_model.specs.Formulas.Literal.{variable}
use Rattle.lk_model.specs.Formulas.Formula.{Cnf, clause_at, variable_occurs}

-- `rising` has the same numbers, which rise between any bounds that all of them are between
pub record AreInOrder (numbers rising : List ℕ) : Type 0 where
  pub same : (k : ℕ) → among rising k ≡ among numbers k
  pub rise : (low high : ℕ) → ((k : ℕ) → IsTrue (among numbers k) → (low < k) × (k ≤ high)) → IsTrue (rises_within low high rising)

-- the variables that occur there, ascending
pub record AreNames (F : Cnf) (part names : List ℕ) : Type 0 where
  pub ascend : IsTrue (rises_within 0 F.vars names)
  pub occur : (v : ℕ) → among names v ≡ variable_occurs F part v

-- the variables of all literals there, as they come
abbrev pub variables_of : Cnf → List ℕ → List ℕ
variables_of F part = flat_map (λ p. map variable (clause_at F p)) part
