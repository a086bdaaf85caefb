-- What pure runs and the checks of a pure document show, as one law.
use Rattle.std.specs.Prelude.{◌≡◌, ◌↔◌, ℕ, List, [], map, ℤ, None, IsTrue}
use Rattle.lk_model.specs.declared.class.Class.TheVariants.{Pure}
use Rattle.lk_model.specs.Lists.{among, rises_within}
use Rattle.lk_model.specs.Formulas.Literal.{variable, complement, contains, is_distinct}
use Rattle.lk_model.specs.Formulas.Formula.{Cnf, clause_at, is_formula}
use Rattle.lk_model.specs.Formulas.Crossed.{no_variable}
use Rattle.lk_model.specs.Formulas.Assignment.{assignment_of}
use Rattle.lk_model.specs.Formulas.Autarky.{Positions, HasEarlier, IsPureAutarky}
use Rattle.lk_model.specs.Formulas.Lean.{IsLean, all_of}
use Rattle.lk_model.specs.Formulas.PureRun.{IsPureRun, untouched}
use Rattle.lk_model.specs.Checks.PureChecks.{bad_order, bad_pair}
use Rattle.lk_model.specs.Formulas.Protected.{ReducesBy}
use Rattle.lk_model.specs.declared.document.DoneDocument.{DoneDocument}
use Rattle.lk_model.specs.declared.document.Pair.{Pair}
use Rattle.kernel_laws.specs.Accepted.{AcceptedReduces}

-- the literal stands in a clause of the set
abbrev pub StandsIn : Cnf → Positions → ℤ → Type 0
StandsIn F S l = (p : ℕ) × IsTrue (S p) × IsTrue (contains (clause_at F p) l)

-- the literals of the set line, each once; each clause with the complement of one also contains an earlier one
pub record IsOrderOf (F : Cnf) (set order : List ℤ) : Type 0 where
  pub once : IsTrue (is_distinct order)
  pub literals : (l : ℤ) → contains order l ≡ contains set l
  pub earlier : HasEarlier F (all_of F) [] order

-- Where each literal of a set of clauses has its complement in the set, the set is lean for pure autarkies. So a pure run
-- leaves the kernel untouched: its literals are a pure autarky that touches exactly the other clauses.
-- Where no pair of a pure document fails, its kept set is lean. The check of an order finds no place exactly where the
-- order is one of the set line; then the set line is a pure autarky on the whole formula. So a pure document that the
-- checks accept is a reduction of the formula.
pub record PureLaw : Type 0 where
  pub signs : (F : Cnf) (S : Positions) → IsTrue (is_formula F) → ((l : ℤ) → StandsIn F S l → StandsIn F S (complement l)) → IsLean Pure F S
  pub run : (F : Cnf) (order : List ℤ) → IsTrue (is_formula F) → IsPureRun F order
      → ReducesBy no_variable Pure F (untouched F order) (assignment_of order)
  pub lean : (F : Cnf) (d : DoneDocument) (pairs : List Pair) → IsTrue (is_formula F) → (bad_pair no_variable F d pairs).place ≡ None
      → IsLean Pure F (among d.kept)
  pub order : (F : Cnf) (d : DoneDocument) (order : List ℤ) → ((bad_order F d order).place ≡ None) ↔ IsOrderOf F d.set order
  pub autarky : (F : Cnf) (d : DoneDocument) (order : List ℤ) → IsTrue (rises_within 0 F.vars (map variable d.set)) → (bad_order F d order).place ≡ None
      → IsPureAutarky F (all_of F) (assignment_of d.set)
  pub accepted : AcceptedReduces Pure
