-- A document that the checks accept is a reduction of the formula.
use Rattle.std.specs.Prelude.{IsTrue}
use Rattle.lk_model.specs.Formulas.Formula.{Cnf, is_formula}
use Rattle.lk_model.specs.Formulas.Crossed.{Variables, AreVariables}
use Rattle.lk_model.specs.Checks.Checks.{AcceptsUnder, Accepts}
use Rattle.lk_model.specs.Reduction.{IsReductionUnder, IsReduction}
use Rattle.lk_model.specs.declared.document.DoneDocument.{DoneDocument}

-- A document that the checks accept is a reduction: under any protected variables of the formula, and under its own.
pub record AcceptedLaw : Type 0 where
  pub under : (P : Variables) (F : Cnf) (d : DoneDocument) → IsTrue (is_formula F) → AreVariables F P → AcceptsUnder P F d → IsReductionUnder P F d
  pub reduces : (F : Cnf) (d : DoneDocument) → IsTrue (is_formula F) → Accepts F d → IsReduction F d
