-- What the checks of a linear document show, as one law.
use Rattle.std.specs.Prelude.{◌≡◌, List, length, map, None, IsTrue}
use Rattle.std.specs.List.{list_all}
use Rattle.lk_model.specs.declared.class.Class.TheVariants.{Linear}
use Rattle.lk_model.specs.Lists.{among, rises_within}
use Rattle.lk_model.specs.Formulas.Literal.{variable}
use Rattle.lk_model.specs.Formulas.Formula.{Cnf, is_formula}
use Rattle.lk_model.specs.Formulas.Assignment.{Assignment, assignment_of}
use Rattle.lk_model.specs.Formulas.Autarky.{Positions, IsLinearAutarky, IsAutarky}
use Rattle.lk_model.specs.Formulas.Lean.{IsLean, are_positions, all_of}
use Rattle.lk_model.specs.Documents.Form.{is_stage, are_duals}
use Rattle.lk_model.specs.Checks.LinearChecks.{bad_sign, bad_stage, bad_dual, bad_balance, bad_unit}
use Rattle.lk_model.specs.Formulas.Crossed.{no_variable}
use Rattle.lk_model.specs.declared.document.Stage.{Stage}
use Rattle.lk_model.specs.declared.document.Dual.{Dual}
use Rattle.lk_model.specs.declared.document.Unit.{Unit}
use Rattle.lk_model.specs.declared.document.DoneDocument.{DoneDocument}
use Rattle.kernel_laws.specs.Accepted.{AcceptedReduces}

-- A linear autarky satisfies each clause that it touches.
-- Where no dual, balance or unit of a linear document in form fails, its kept set is lean for linear autarkies. Where no
-- sign and no stage fails, its set line is a linear autarky on the whole formula. So a linear document that the checks
-- accept is a reduction: it keeps the kernel, and every model of the kept clauses extends.
pub record LinearLaw : Type 0 where
  pub satisfies : (F : Cnf) (S : Positions) (φ : Assignment) → IsLinearAutarky F S φ → IsAutarky F S φ
  pub lean : (F : Cnf) (d : DoneDocument) (dual : List Dual) (units : List Unit) → IsTrue (is_formula F) → IsTrue (are_positions F d.kept)
      → IsTrue (are_duals (length F.clauses) dual) → (bad_dual F d dual).place ≡ None → (bad_balance no_variable F d dual).place ≡ None
      → (bad_unit no_variable F d units).place ≡ None → IsLean Linear F (among d.kept)
  pub autarky : (F : Cnf) (d : DoneDocument) (stages : List Stage) → IsTrue (rises_within 0 F.vars (map variable d.set))
      → IsTrue (list_all (is_stage F.vars) stages) → (bad_sign F d stages).place ≡ None → (bad_stage F d stages).place ≡ None
      → IsLinearAutarky F (all_of F) (assignment_of d.set)
  pub accepted : AcceptedReduces Linear
