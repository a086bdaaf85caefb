-- What the pure reducer finds, and the document that states it.
use Rattle.std.specs.Prelude.{◌≡◌, ℕ, List, length, ℤ, None, IsTrue}
use Rattle.std.specs.List.Sorted.{IsPermutation, IsNonDecreasingBy}
use Rattle.lk_model.specs.Formulas.Literal.{variable}
use Rattle.lk_model.specs.Formulas.Formula.{Cnf, is_formula, IsWithinLimits}
use Rattle.lk_model.specs.Formulas.Lean.{Kernel}
use Rattle.lk_model.specs.Formulas.PureRun.{IsPureRun, untouched, least_pairs}
use Rattle.lk_model.specs.Documents.Form.{is_done_in_form}
use Rattle.lk_model.specs.Reduction.{Reduces}
use Rattle.lk_model.specs.declared.class.Class.TheVariants as class
use Rattle.lk_model.specs.declared.document.Body.TheVariants.{Pure}
use Rattle.lk_model.specs.declared.document.DoneDocument.{DoneDocument}
use Rattle.lk_model.specs.declared.result.PureResult.{PureResult}
use Rattle.lk_model.specs.Formulas.Formula.{clauses_at}

-- the literals of the pure run, the positions that they leave untouched, and the least pairs of these
pub record IsPureResult (F : Cnf) (r : PureResult) : Type 0 where
  pub run : IsPureRun F r.order
  pub kept : r.kept ≡ untouched F r.order
  pub pairs : r.pairs ≡ least_pairs F r.kept

-- the literals of the order, by their variables
pub record IsSetLine (order set : List ℤ) : Type 0 where
  pub same : IsPermutation order set
  pub rises : IsNonDecreasingBy variable set

-- the finished document of a result and of a set line, without protected variables
abbrev pub pure_document : Cnf → PureResult → List ℤ → DoneDocument
pure_document F r set = record {
  vars = F.vars;
  clauses = length F.clauses;
  protect = None;
  kept = r.kept;
  set = set;
  body = Pure r.order r.pairs;
  texts = clauses_at F r.kept;
}

-- The document of what the reducer finds is in form, what is kept is the pure kernel, and the document reduces the formula.
pub record PureResultLaw : Type 0 where
  pub form : (F : Cnf) (r : PureResult) (set : List ℤ) → IsTrue (is_formula F) → IsWithinLimits F → IsPureResult F r → IsSetLine r.order set
      → IsTrue (is_done_in_form (pure_document F r set))
  pub kernel : (F : Cnf) (r : PureResult) → IsTrue (is_formula F) → IsPureResult F r → Kernel class.Pure F r.kept
  pub reduces : (F : Cnf) (pivots : ℕ) (r : PureResult) (set : List ℤ) → IsTrue (is_formula F) → IsWithinLimits F → IsPureResult F r
      → IsSetLine r.order set → Reduces F class.Pure pivots (pure_document F r set)
