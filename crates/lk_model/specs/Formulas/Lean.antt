-- Lean sets of positions and the largest one (Handbook of Satisfiability, Kleine Büning and Kullmann).
use Rattle.std.specs.Prelude.{ℕ, Bool, List, length, IsTrue}
use Rattle.lk_model.specs.declared.class.Class.{Class}
use Rattle.lk_model.specs.Lists.{among, is_between, rises_within}
use Rattle.lk_model.specs.Formulas.Formula.{Cnf, clause_at}
use Rattle.lk_model.specs.Formulas.Assignment.{Assignment, touches}
use Rattle.lk_model.specs.Formulas.Autarky.{Positions, Within, IsClassAutarky}

-- no autarky of the class on S touches a clause of S
abbrev pub IsLean : Class → Cnf → Positions → Type 0
IsLean class F S = (φ : Assignment) → IsClassAutarky class F S φ → (p : ℕ) → IsTrue (S p) → IsTrue (touches φ (clause_at F p)) → ⊥

-- positions of the formula, ascending
abbrev pub are_positions : Cnf → List ℕ → Bool
are_positions F ps = rises_within 0 (length F.clauses) ps

-- every position of the formula
abbrev pub all_of : Cnf → Positions
all_of F p = is_between 1 (length F.clauses) p

-- the kept positions are the largest lean set of the class
pub record Kernel (class : Class) (F : Cnf) (kept : List ℕ) : Type 0 where
  pub positions : IsTrue (are_positions F kept)
  pub lean : IsLean class F (among kept)
  pub largest : (S : Positions) → Within S (all_of F) → IsLean class F S → Within S (among kept)

-- the kept positions are the largest lean set of the class among those of the part
pub record KernelWithin (class : Class) (F : Cnf) (part kept : List ℕ) : Type 0 where
  pub positions : IsTrue (are_positions F kept)
  pub within : Within (among kept) (among part)
  pub lean : IsLean class F (among kept)
  pub largest : (S : Positions) → Within S (among part) → IsLean class F S → Within S (among kept)
