-- With nothing protected the definitions are those that know no protected variables.
use Rattle.std.specs.Prelude.{◌≡◌, ◌↔◌, List, ℕ, ℤ}
use Rattle.lk_model.specs.declared.class.Class.{Class}
use Rattle.lk_model.specs.Formulas.Formula.{Cnf}
use Rattle.lk_model.specs.Formulas.Crossed.{no_variable, formula_without}
use Rattle.lk_model.specs.Formulas.Assignment.{Assignment}
use Rattle.lk_model.specs.Formulas.Autarky.{Positions, IsClassAutarky}
use Rattle.lk_model.specs.Formulas.Lean.{IsLean, Kernel}
use Rattle.lk_model.specs.Formulas.Protected.{IsClassAutarkyUnder, IsLeanUnder, KernelUnder}
use Rattle.lk_model.specs.Formulas.PureRun.{IsPureRun, least_pairs, IsPureRunUnder, least_pairs_under}
use Rattle.lk_model.specs.Formulas.Parts.{IsPart, AreParts, IsPartUnder, ArePartsUnder}
use Rattle.lk_model.specs.Linear.LinearRun.{linear_run, linear_run_under}

-- No literal is left out, and autarkies, lean sets, kernels, runs and parts are the same.
pub record EmptyLaw : Type 0 where
  pub formula : (F : Cnf) → formula_without F no_variable ≡ F
  pub autarky : (class : Class) (F : Cnf) (S : Positions) (φ : Assignment) → IsClassAutarkyUnder no_variable class F S φ ↔ IsClassAutarky class F S φ
  pub lean : (class : Class) (F : Cnf) (S : Positions) → IsLeanUnder no_variable class F S ↔ IsLean class F S
  pub kernel : (class : Class) (F : Cnf) (kept : List ℕ) → KernelUnder no_variable class F kept ↔ Kernel class F kept
  pub pure : (F : Cnf) (order : List ℤ) → IsPureRunUnder no_variable F order ↔ IsPureRun F order
  pub pairs : (F : Cnf) (kept : List ℕ) → least_pairs_under no_variable F kept ≡ least_pairs F kept
  pub linear : (F : Cnf) (pivots : ℕ) → linear_run_under no_variable F pivots ≡ linear_run F pivots
  pub part : (F : Cnf) (part : List ℕ) → IsPartUnder no_variable F part ↔ IsPart F part
  pub parts : (F : Cnf) (parts : List (List ℕ)) → ArePartsUnder no_variable F parts ↔ AreParts F parts
