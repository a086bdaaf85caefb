-- That a reduction and a check agree.
use Rattle.std.specs.Prelude.{◌≡◌, ℕ, List, Option}
use Rattle.lk_model.specs.Formulas.Formula.{Cnf}
use Rattle.lk_model.specs.Texts.Dimacs.{Spells}
use Rattle.lk_model.specs.Reduction.{ReducesTo, StopsUnfinished}
use Rattle.lk_model.specs.declared.class.Class.{Class}
use Rattle.lk_model.specs.declared.document.Document.{Document}
use Rattle.lk_model.specs.Documents.Reading.{IsTextOfDocument}
use Rattle.lean_checker.specs.Verdicts.{verdict_of}
use Rattle.lean_checker.specs.declared.verdict.Verdict.TheVariants.{Accepted, Unfinished}

-- the first text spells a formula, and the second is that of a document that is accepted for it
pub record IsAcceptedFor (text written : List ℕ) : Type 0 where
  pub F : Cnf
  pub d : Document
  pub spells : Spells text F
  pub read : IsTextOfDocument written d
  pub accepted : verdict_of F d ≡ Accepted

-- what a reduction of any class writes of a text is accepted for that text
abbrev pub WrittenIsAccepted : Type 0
WrittenIsAccepted = (text written : List ℕ) (class : Class) (protect : Option (List ℕ)) (pivots : ℕ) → ReducesTo text class protect pivots written → IsAcceptedFor text written

-- the first text spells a formula, and the second is that of an unfinished document with `learned` learned clauses, of
-- which no check fails
pub record IsUnfinishedFor (text written : List ℕ) (learned : ℕ) : Type 0 where
  pub F : Cnf
  pub d : Document
  pub spells : Spells text F
  pub read : IsTextOfDocument written d
  pub unfinished : verdict_of F d ≡ Unfinished learned

-- what a reduction that used up its budget writes of a text is, for that text, as `IsUnfinishedFor` says
abbrev pub StoppedIsUnfinished : Type 0
StoppedIsUnfinished = (text written : List ℕ) (protect : Option (List ℕ)) (conflicts : ℕ) → StopsUnfinished text protect conflicts written → IsUnfinishedFor text written conflicts
