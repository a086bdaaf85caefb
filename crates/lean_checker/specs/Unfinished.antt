-- The checks of an unfinished document, in two parts.
use Rattle.std.specs.Prelude.{◌≡◌, List, [], ◌∷◌, length}
use Rattle.lk_model.specs.Formulas.Formula.{Cnf, positions_of}
use Rattle.lk_model.specs.Formulas.Crossed.{Variables}
use Rattle.lk_model.specs.Checks.Check.{Check}
use Rattle.lk_model.specs.Checks.CommonChecks.{other_formula}
use Rattle.lk_model.specs.Checks.RoundChecks.{every_clause, bad_count, bad_step, not_learned}
use Rattle.lk_model.specs.declared.document.Round.{Round}
use Rattle.lk_model.specs.declared.document.OpenDocument.{OpenDocument}

-- the checks of its numbers and clause lines
abbrev pub text_checks : Cnf → OpenDocument → List Check
text_checks F d = other_formula F d.vars d.clauses ∷ every_clause F d ∷ bad_count d ∷ []

-- the checks of its steps, under the set P
abbrev pub step_checks : Variables → Cnf → List Round → List Check
step_checks P F rounds = bad_step P F (positions_of F) rounds ∷ not_learned P F (positions_of F) rounds ∷ []

-- the document says the formula's numbers of variables and clauses
pub record HasOpenSizes (F : Cnf) (d : OpenDocument) : Type 0 where
  pub vars : d.vars ≡ F.vars
  pub clauses : d.clauses ≡ length F.clauses
