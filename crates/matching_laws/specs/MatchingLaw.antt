-- What the checks of a matching document show, as one law.
use Rattle.std.specs.Prelude.{◌≡◌, List, None, IsTrue}
use Rattle.lk_model.specs.declared.class.Class.TheVariants.{Matching}
use Rattle.lk_model.specs.Lists.{among}
use Rattle.lk_model.specs.Formulas.Formula.{Cnf, is_formula}
use Rattle.lk_model.specs.Formulas.Crossed.{no_variable}
use Rattle.lk_model.specs.Formulas.Assignment.{assignment_of}
use Rattle.lk_model.specs.Formulas.Autarky.{IsMatchingAutarky}
use Rattle.lk_model.specs.Formulas.Lean.{Kernel, IsLean, are_positions, all_of}
use Rattle.lk_model.specs.Checks.CommonChecks.{not_exactly_removed}
use Rattle.lk_model.specs.Checks.MatchingChecks.{bad_owner, bad_row}
use Rattle.lk_model.specs.declared.document.DoneDocument.{DoneDocument}
use Rattle.lk_model.specs.declared.document.MatchRow.{MatchRow}
use Rattle.lk_model.specs.declared.document.Own.{Own}
use Rattle.kernel_laws.specs.Accepted.{AcceptedReduces}

-- Where no row of a matching document fails, its kept set is lean for matching autarkies. Where no own line fails and the
-- set line touches exactly the removed clauses, the set line is a matching autarky on the whole formula. So the kept set
-- is the kernel, and a matching document that the checks accept is a reduction.
pub record MatchingLaw : Type 0 where
  pub lean : (F : Cnf) (d : DoneDocument) (rows : List MatchRow) → IsTrue (is_formula F) → IsTrue (are_positions F d.kept)
      → (bad_row no_variable F d rows).place ≡ None → IsLean Matching F (among d.kept)
  pub autarky : (F : Cnf) (d : DoneDocument) (own : List Own) → (not_exactly_removed F d).place ≡ None
      → (bad_owner F d own).place ≡ None → IsMatchingAutarky F (all_of F) (assignment_of d.set)
  pub kernel : (F : Cnf) (d : DoneDocument) (own : List Own) (rows : List MatchRow) → IsTrue (is_formula F) → IsTrue (are_positions F d.kept)
      → (not_exactly_removed F d).place ≡ None → (bad_owner F d own).place ≡ None → (bad_row no_variable F d rows).place ≡ None → Kernel Matching F d.kept
  pub accepted : AcceptedReduces Matching
