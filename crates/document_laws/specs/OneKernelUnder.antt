-- A formula has one kernel of a class at most under protected variables.
use Rattle.std.specs.Prelude.{◌≡◌, ℕ, List}
use Rattle.lk_model.specs.declared.class.Class.{Class}
use Rattle.lk_model.specs.Formulas.Formula.{Cnf}
use Rattle.lk_model.specs.Formulas.Crossed.{Variables}
use Rattle.lk_model.specs.Formulas.Protected.{KernelUnder}

-- the kept positions are determined by the formula, the class and the protected variables
abbrev pub HasOneKernelUnder : Type 0
HasOneKernelUnder = (P : Variables) (class : Class) (F : Cnf) (ps qs : List ℕ) → KernelUnder P class F ps → KernelUnder P class F qs → ps ≡ qs
