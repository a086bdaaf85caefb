-- How the code holds a set of variables: a flag for each of them.
use Rattle.std.specs.Prelude.{◌≡◌, ℕ, zero, suc, ◌-◌, Bool, true, false, List, length, slice_index_or, slice_set, IsTrue}
use Rattle.lk_model.specs.Formulas.Crossed.{Variables}
use Rattle.lk_model.specs.Formulas.Lean.{are_positions}
use Rattle.lk_model.specs.Chains.Chain.{Premises}
use Rattle.lk_model.specs.declared.crossed.Crossed.{Crossed}
use Rattle.lk_model.specs.declared.document.Step.{Step}

-- the set of the variables from 1 on at which the list says true
abbrev pub is_in : List Bool → Variables
is_in flags zero = false
is_in flags (suc k) = slice_index_or flags k false

abbrev pub with_variable : List Bool → ℕ → List Bool
with_variable flags v = slice_set flags (v - 1) true

-- what every call that takes a `Crossed` asks
pub record IsCrossed (over : Crossed) : Type 0 where
  pub part : IsTrue (are_positions over.formula.now over.part.now)
  pub blocked : length over.blocked.now ≡ over.formula.now.vars

-- what a chain may name: the clauses of a `Crossed`, and some steps
abbrev pub premises_of : Crossed → List Step → Premises
premises_of over earlier = record {
  formula = over.formula.now;
  part = over.part.now;
  blocked = is_in over.blocked.now;
  earlier = earlier;
}
