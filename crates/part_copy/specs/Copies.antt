-- The clauses of a formula at some positions, copied under numbers of their own.
use Rattle.std.specs.Prelude.{◌≡◌, ℕ, ◌≤◌, List, map, length, ℤ, IsTrue}
use Rattle.lk_model.specs.Lists.{rises_within}
use Rattle.lk_model.specs.Formulas.Literal.{variable}
use Rattle.lk_model.specs.Formulas.Formula.{Cnf, IsWithinLimits, is_formula, clause_at}
use Rattle.lk_model.specs.Formulas.Assignment.{assignment_of, satisfies}
use Rattle.lk_model.specs.Formulas.Lean.{are_positions}
use Rattle.renaming_laws.specs.Renaming.{IsDense, named, nth}
use Rattle.result_renaming.specs.declared.renaming.Renaming.{Renaming}

-- a formula, some of its positions, variables of it, and clauses over the places of these variables
pub record Copy : Type 0 where
  pub formula : Cnf
  pub part : List ℕ
  pub names : List ℕ
  pub clauses : Cnf

-- the clauses are those at the positions
pub record IsCopy (c : Copy) : Type 0 where
  pub form : IsTrue (is_formula c.formula)
  pub limits : IsWithinLimits c.formula
  pub part : IsTrue (are_positions c.formula c.part)
  pub dense : IsDense c.formula c.part c.names c.clauses

-- its formula and its positions are these; that its clauses are those at the positions is in `IsCopy`
pub record IsCopyOf (F : Cnf) (ps : List ℕ) (c : Copy) : Type 0 where
  pub formula : c.formula ≡ F
  pub part : c.part ≡ ps

-- what numbers of the copy become in the formula
pub record IsRenamingOf (c : Copy) (by : Renaming) : Type 0 where
  pub positions : by.positions ≡ length c.part
  pub last : by.last ≡ length c.formula.clauses
  pub part : by.part.now ≡ c.part
  pub names : by.names.now ≡ c.names

-- Literals of the copy in the formula's numbers: they ascend by variable, and satisfy what those satisfy.
pub record AreTold (c : Copy) (lits told : List ℤ) : Type 0 where
  pub are : told ≡ map (named c.names) lits
  pub ascend : IsTrue (rises_within 0 c.formula.vars (map variable told))
  pub satisfy : (p : ℕ) → 1 ≤ p → p ≤ length c.clauses.clauses → IsTrue (satisfies (assignment_of lits) (clause_at c.clauses p))
      → IsTrue (satisfies (assignment_of told) (clause_at c.formula (nth c.part p)))
