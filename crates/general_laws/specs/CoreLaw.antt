-- A minimally unsatisfiable core with what shows it.
use Rattle.std.specs.Prelude.{ℕ, List, IsTrue}
use Rattle.std.specs.List.{list_all}
use Rattle.lk_model.specs.declared.class.Class.TheVariants.{General}
use Rattle.lk_model.specs.Lists.{among}
use Rattle.lk_model.specs.Formulas.Formula.{Cnf}
use Rattle.lk_model.specs.Formulas.Autarky.{Within}
use Rattle.lk_model.specs.Formulas.Lean.{Kernel, are_positions}
use Rattle.lk_model.specs.Formulas.Minimal.{IsMinimallyUnsatisfiable}
use Rattle.lk_model.specs.Documents.CoreText.{are_for, is_without}
use Rattle.lk_model.specs.Checks.CoreChecks.{satisfies_others}
use Rattle.lk_model.specs.declared.document.Round.{Round}
use Rattle.lk_model.specs.declared.document.Without.{Without}
use Rattle.lk_model.specs.Checks.RoundChecks.{IsRefutation}

-- Positions, ascending, a refutation by chains over their clauses alone, and for each position, in their order, literals
-- that satisfy the clauses at the others.
pub record IsCore (F : Cnf) (core : List ℕ) (r : Round) (without : List Without) : Type 0 where
  pub positions : IsTrue (are_positions F core)
  pub refuted : IsRefutation F core r
  pub lines : IsTrue (are_for core without)
  pub literals : IsTrue (list_all (is_without F.vars) without)
  pub satisfied : IsTrue (list_all (satisfies_others F core) without)

-- The clauses have no model, each smaller set of them has one, and they are in the general kernel.
pub record CoreLaw : Type 0 where
  pub minimal : (F : Cnf) (core : List ℕ) (r : Round) (without : List Without) → IsCore F core r without
      → IsMinimallyUnsatisfiable F (among core)
  pub kernel : (F : Cnf) (core : List ℕ) (r : Round) (without : List Without) (kept : List ℕ) → IsCore F core r without
      → Kernel General F kept → Within (among core) (among kept)
