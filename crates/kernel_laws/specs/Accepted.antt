-- What an accepted document shows.
use Rattle.std.specs.Prelude.{◌≡◌, IsTrue}
use Rattle.lk_model.specs.declared.class.Class.{Class}
use Rattle.lk_model.specs.Formulas.Formula.{Cnf, is_formula}
use Rattle.lk_model.specs.Formulas.Crossed.{no_variable}
use Rattle.lk_model.specs.Documents.Documents.{class_of}
use Rattle.lk_model.specs.Checks.Checks.{AcceptsUnder}
use Rattle.lk_model.specs.Reduction.{IsReductionUnder}
use Rattle.lk_model.specs.declared.document.DoneDocument.{DoneDocument}

-- Each document of the class that the checks accept, with no variable protected, is a reduction of its formula: it keeps the
-- kernel of the class, its set line is an autarky of the class that touches exactly the removed clauses, and every model of
-- the kept ones extends.
abbrev pub AcceptedReduces : Class → Type 0
AcceptedReduces class = (F : Cnf) (d : DoneDocument) → IsTrue (is_formula F) → class_of d.body ≡ class
    → AcceptsUnder no_variable F d → IsReductionUnder no_variable F d
