-- Lean sets together, and that there is a largest one.
use Rattle.std.specs.Prelude.{ℕ, ◌||◌, ◌⊎◌, List, IsTrue}
use Rattle.lk_model.specs.declared.class.Class.{Class}
use Rattle.lk_model.specs.Formulas.Formula.{Cnf}
use Rattle.lk_model.specs.Formulas.Crossed.{Variables}
use Rattle.lk_model.specs.Formulas.Autarky.{Positions, Within}
use Rattle.lk_model.specs.Formulas.Lean.{all_of}
use Rattle.lk_model.specs.Formulas.Protected.{IsLeanUnder, KernelUnder}

-- a lean set of positions of the formula that has this one
pub record IsInLean (P : Variables) (class : Class) (F : Cnf) (p : ℕ) : Type 0 where
  pub positions : Positions
  pub within : Within positions (all_of F)
  pub lean : IsLeanUnder P class F positions
  pub there : IsTrue (positions p)

-- the formula has a kernel of the class
abbrev pub HasKernel : Variables → Class → Cnf → Type 0
HasKernel P class F = (kept : List ℕ) × KernelUnder P class F kept

-- Two lean sets together are lean. So there is a kernel if it is decided of each position whether a lean set has it;
-- and that there is none is refuted.
pub record KernelLaw : Type 0 where
  pub together : (P : Variables) (class : Class) (F : Cnf) (S T : Positions) → IsLeanUnder P class F S
      → IsLeanUnder P class F T
      → IsLeanUnder P class F (λ p. S p || T p)
  pub decided : (P : Variables) (class : Class) (F : Cnf)
      → ((p : ℕ) → IsTrue (all_of F p) → IsInLean P class F p ⊎ (IsInLean P class F p → ⊥)) → HasKernel P class F
  pub not_none : (P : Variables) (class : Class) (F : Cnf) → (HasKernel P class F → ⊥) → ⊥
