-- What an accepted document shows, and a sound one.
use Rattle.std.specs.Prelude.{◌≡◌, length}
use Rattle.lk_model.specs.Formulas.Formula.{Cnf}
use Rattle.lk_model.specs.Checks.Checks.{IsSound}
use Rattle.lk_model.specs.Reduction.{IsReduction}
use Rattle.lk_model.specs.declared.document.DoneDocument.{DoneDocument}
use Rattle.lk_model.specs.declared.document.Document.{Document}
use Rattle.lk_model.specs.declared.document.Document.TheVariants.{Done, Unfinished}

-- the document is a finished one and a reduction of the formula
abbrev pub IsReducedBy : Cnf → Document → Type 0
IsReducedBy F (Done d) = IsReduction F d
IsReducedBy F (Unfinished d) = ⊥

-- the document is an unfinished one and sound
abbrev pub IsSoundBy : Cnf → Document → Type 0
IsSoundBy F (Done d) = ⊥
IsSoundBy F (Unfinished d) = IsSound F d

-- the document says the formula's numbers of variables and clauses
pub record HasSizes (F : Cnf) (d : DoneDocument) : Type 0 where
  pub vars : d.vars ≡ F.vars
  pub clauses : d.clauses ≡ length F.clauses
