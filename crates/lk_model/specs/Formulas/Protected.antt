-- Autarkies, lean sets and kernels under a set P of protected variables, which no autarky may set.
use Rattle.std.specs.Prelude.{ℕ, List, IsNone, IsTrue, ◌≡◌, not}
use Rattle.lk_model.specs.declared.class.Class.{Class}
use Rattle.lk_model.specs.Lists.{among}
use Rattle.lk_model.specs.Formulas.Formula.{Cnf, clause_at}
use Rattle.lk_model.specs.Formulas.Crossed.{Variables}
use Rattle.lk_model.specs.Formulas.Assignment.{Assignment, touches, IsModel, extended}
use Rattle.lk_model.specs.Formulas.Autarky.{Positions, Within, IsClassAutarky}
use Rattle.lk_model.specs.Formulas.Lean.{are_positions, all_of}

-- the assignment sets no variable of P
abbrev pub SetsNone : Variables → Assignment → Type 0
SetsNone P φ = (v : ℕ) → IsTrue (P v) → IsNone (φ v)

-- An autarky of the class on S under P sets no variable of P, and what the class asks holds on S.
abbrev pub IsClassAutarkyUnder : Variables → Class → Cnf → Positions → Assignment → Type 0
IsClassAutarkyUnder P class F S φ = SetsNone P φ × IsClassAutarky class F S φ

-- no autarky of the class on S under P touches a clause of S
abbrev pub IsLeanUnder : Variables → Class → Cnf → Positions → Type 0
IsLeanUnder P class F S =
    (φ : Assignment) → IsClassAutarkyUnder P class F S φ → (p : ℕ) → IsTrue (S p) → IsTrue (touches φ (clause_at F p)) → ⊥

-- the kept positions are the largest lean set of the class under P
pub record KernelUnder (P : Variables) (class : Class) (F : Cnf) (kept : List ℕ) : Type 0 where
  pub positions : IsTrue (are_positions F kept)
  pub lean : IsLeanUnder P class F (among kept)
  pub largest : (S : Positions) → Within S (all_of F) → IsLeanUnder P class F S → Within S (among kept)

-- The kept positions are the largest set that is lean for the class under P. The assignment is an autarky of the class
-- under P on the whole formula and touches exactly the removed clauses. Every model of the kept clauses, overridden by it,
-- is one of all clauses.
pub record ReducesBy (P : Variables) (class : Class) (F : Cnf) (kept : List ℕ) (φ : Assignment) : Type 0 where
  pub kernel : KernelUnder P class F kept
  pub autarky : IsClassAutarkyUnder P class F (all_of F) φ
  pub touched : (p : ℕ) → IsTrue (all_of F p) → touches φ (clause_at F p) ≡ not (among kept p)
  pub models : (ψ : Assignment) → IsModel F (among kept) ψ → IsModel F (all_of F) (extended φ ψ F.vars)
