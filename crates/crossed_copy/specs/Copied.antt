-- Some crossed clauses of a part under numbers of their own.
use Rattle.std.specs.Prelude.{◌&&◌, ℕ, Bool, List, length, IsTrue}
use Rattle.lk_model.specs.Lists.{among, is_between}
use Rattle.lk_model.specs.Formulas.Lean.{are_positions}
use Rattle.lk_model.specs.Held.VariableSets.{is_in}
use Rattle.lk_model.specs.declared.crossed.Crossed.{Crossed}
use Rattle.renaming_laws.specs.CrossedCopies.{IsCrossedDense}
use Rattle.crossed_copy.specs.declared.copying.CrossedCopy.{CrossedCopy}

-- a position of the formula that is one of the part
abbrev pub is_of_part : Crossed → ℕ → Bool
is_of_part over p = is_between 1 (length over.formula.now.clauses) p && among over.part.now p

-- such positions, ascending
pub record ArePositions (over : Crossed) (ps : List ℕ) : Type 0 where
  pub ascend : IsTrue (are_positions over.formula.now ps)
  pub within : (p : ℕ) → IsTrue (among ps p) → IsTrue (among over.part.now p)

-- the crossed clauses at such positions, over variables with these names
pub record IsCopyOf (over : Crossed) (copy : CrossedCopy) : Type 0 where
  pub positions : ArePositions over copy.positions.items
  pub dense : IsCrossedDense over.formula.now (is_in over.blocked.now) copy.positions.items copy.names.items copy.formula
