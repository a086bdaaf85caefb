-- Models of the kept clauses extend.
use Rattle.std.specs.Prelude.{◌≡◌, ℕ, not, List, None, IsTrue, unwrap_or, false}
use Rattle.lk_model.specs.declared.class.Class.{Class}
use Rattle.lk_model.specs.Lists.{among}
use Rattle.lk_model.specs.Formulas.Formula.{Cnf, is_formula, clause_at}
use Rattle.lk_model.specs.Formulas.Crossed.{Variables}
use Rattle.lk_model.specs.Formulas.Assignment.{Assignment, assignment_of, touches, extended, extended_value, IsModel}
use Rattle.lk_model.specs.Formulas.Autarky.{Positions, IsAutarky, IsClassAutarky}
use Rattle.lk_model.specs.Formulas.Lean.{all_of}
use Rattle.lk_model.specs.declared.document.DoneDocument.{DoneDocument}
use Rattle.lk_model.specs.Formulas.Protected.{SetsNone, IsClassAutarkyUnder}
use Rattle.lk_model.specs.Checks.Checks.{first_failure_to_extend_under}

-- An autarky of each class satisfies what it touches. So one under P on all clauses that touches exactly those that are not
-- kept makes every model of the kept clauses one of all, and leaves each variable of P its value in the model, or false
-- where it has none. The model that the checks of an extension accept is such a one.
pub record ExtensionLaw : Type 0 where
  pub autarky : (class : Class) (F : Cnf) (S : Positions) (φ : Assignment) → IsTrue (is_formula F) → IsClassAutarky class F S φ → IsAutarky F S φ
  pub models : (P : Variables) (class : Class) (F : Cnf) (kept : List ℕ) (φ : Assignment) → IsTrue (is_formula F) → IsClassAutarkyUnder P class F (all_of F) φ
      → ((p : ℕ) → IsTrue (all_of F p) → touches φ (clause_at F p) ≡ not (among kept p))
      → (ψ : Assignment) → IsModel F (among kept) ψ → IsModel F (all_of F) (extended φ ψ F.vars)
  pub protected : (P : Variables) (φ ψ : Assignment) → SetsNone P φ → (v : ℕ) → IsTrue (P v) → extended_value φ ψ v ≡ unwrap_or (ψ v) false
  pub extends : (P : Variables) (F : Cnf) (d : DoneDocument) (ψ : Assignment) → IsTrue (is_formula F)
      → first_failure_to_extend_under P F d ψ ≡ None → IsModel F (all_of F) (extended (assignment_of d.set) ψ F.vars)
