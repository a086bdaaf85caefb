-- The definitions under a set P of protected variables, and those without such a set on the formula in which the literals
-- on P are left out.
use Rattle.std.specs.Prelude.{◌≡◌, ◌↔◌, ℕ, List, ℤ, if◌then◌else◌, None}
use Rattle.lk_model.specs.declared.class.Class.{Class}
use Rattle.lk_model.specs.Formulas.Formula.{Cnf, clause_at}
use Rattle.lk_model.specs.Formulas.Crossed.{Variables, formula_without}
use Rattle.lk_model.specs.Formulas.Assignment.{Assignment, touches}
use Rattle.lk_model.specs.Formulas.Autarky.{Positions, IsClassAutarky}
use Rattle.lk_model.specs.Formulas.Lean.{IsLean, Kernel}
use Rattle.lk_model.specs.Formulas.Protected.{SetsNone, IsClassAutarkyUnder, IsLeanUnder, KernelUnder}
use Rattle.lk_model.specs.Formulas.PureRun.{IsPureRun, least_pairs, IsPureRunUnder, least_pairs_under}
use Rattle.lk_model.specs.Formulas.Parts.{IsPart, AreParts, IsPartUnder, ArePartsUnder}

-- the assignment to the variables outside P alone
abbrev pub restricted : Variables → Assignment → Assignment
restricted P φ v = if P v then None else φ v

-- An assignment is an autarky of a class under P exactly where it sets no variable of P and is one of the class on the
-- formula without P, and it touches the same positions there. An autarky on the formula without P, restricted to the
-- variables outside P, is one still, sets no variable of P and touches the same positions. So lean sets and kernels are the
-- same.
pub record AutarkyLaw : Type 0 where
  pub autarky : (P : Variables) (class : Class) (F : Cnf) (S : Positions) (φ : Assignment)
      → IsClassAutarkyUnder P class F S φ ↔ (SetsNone P φ × IsClassAutarky class (formula_without F P) S φ)
  pub touched : (P : Variables) (F : Cnf) (φ : Assignment) (p : ℕ) → SetsNone P φ
      → touches φ (clause_at (formula_without F P) p) ≡ touches φ (clause_at F p)
  pub restricts : (P : Variables) (class : Class) (F : Cnf) (S : Positions) (φ : Assignment)
      → IsClassAutarky class (formula_without F P) S φ → IsClassAutarky class (formula_without F P) S (restricted P φ)
  pub unset : (P : Variables) (φ : Assignment) → SetsNone P (restricted P φ)
  pub still_touched : (P : Variables) (F : Cnf) (φ : Assignment) (p : ℕ)
      → touches (restricted P φ) (clause_at (formula_without F P) p) ≡ touches φ (clause_at (formula_without F P) p)
  pub lean : (P : Variables) (class : Class) (F : Cnf) (S : Positions) → IsLeanUnder P class F S ↔ IsLean class (formula_without F P) S
  pub kernel : (P : Variables) (class : Class) (F : Cnf) (kept : List ℕ) → KernelUnder P class F kept ↔ Kernel class (formula_without F P) kept

-- The pure run, its pairs and the parts are the same. (The linear run under P is the one on that formula by definition.)
pub record RunLaw : Type 0 where
  pub pure : (P : Variables) (F : Cnf) (order : List ℤ) → IsPureRunUnder P F order ↔ IsPureRun (formula_without F P) order
  pub pairs : (P : Variables) (F : Cnf) (kept : List ℕ) → least_pairs_under P F kept ≡ least_pairs (formula_without F P) kept
  pub part : (P : Variables) (F : Cnf) (part : List ℕ) → IsPartUnder P F part ↔ IsPart (formula_without F P) part
  pub parts : (P : Variables) (F : Cnf) (parts : List (List ℕ)) → ArePartsUnder P F parts ↔ AreParts (formula_without F P) parts
