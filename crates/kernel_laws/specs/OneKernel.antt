-- A formula has one kernel of a class at most.
use Rattle.std.specs.Prelude.{◌≡◌, ℕ, List}
use Rattle.lk_model.specs.declared.class.Class.{Class}
use Rattle.lk_model.specs.Formulas.Formula.{Cnf}
use Rattle.lk_model.specs.Formulas.Lean.{Kernel}

abbrev pub HasOneKernel : Type 0
HasOneKernel = (class : Class) (F : Cnf) (ps qs : List ℕ) → Kernel class F ps → Kernel class F qs → ps ≡ qs
