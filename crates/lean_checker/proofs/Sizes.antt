-- The numbers that an accepted document states.
use Rattle.std.proofs.Common.{◌≡◌, None}
use Rattle.lk_model.specs.Formulas.Formula.{Cnf}
use Rattle.lk_model.specs.Checks.CommonChecks.{other_formula}
use Rattle.lk_model.specs.declared.document.DoneDocument.{DoneDocument}
use Rattle.kernel_laws.proofs.Passed.{same_numbers}
use Rattle.lean_checker.specs.Accepted.{HasSizes}

-- they are the formula's, where the first check passes
pub has_sizes : (F : Cnf) (d : DoneDocument) → (other_formula F d.vars d.clauses).place ≡ None → HasSizes F d
has_sizes F d none = let same = same_numbers F d.vars d.clauses none in record { vars = same.0; clauses = same.1 }
