-- That a formula has a kernel, under protected variables too.
use Rattle.std.specs.Prelude.{IsTrue}
use Rattle.lk_model.specs.declared.class.Class.TheVariants as class
use Rattle.lk_model.specs.Formulas.Formula.{Cnf, is_formula}
use Rattle.lk_model.specs.Formulas.Crossed.{Variables}
use Rattle.kernel_laws.specs.KernelLaw.{HasKernel}

-- A formula has a kernel of each of the classes pure, matching and general.
pub record ExistenceLaw : Type 0 where
  pub pure : (P : Variables) (F : Cnf) → IsTrue (is_formula F) → HasKernel P class.Pure F
  pub matching : (P : Variables) (F : Cnf) → IsTrue (is_formula F) → HasKernel P class.Matching F
  pub general : (P : Variables) (F : Cnf) → IsTrue (is_formula F) → HasKernel P class.General F
