-- That two reductions of one text keep the same clauses, whoever made them.
use Rattle.std.specs.Prelude.{◌≡◌, ℕ, List, Option}
use Rattle.lk_model.specs.Checks.Checks.{Accepts}
use Rattle.lk_model.specs.Documents.Documents.{class_of}
use Rattle.lk_model.specs.Documents.Reading.{IsTextOfDocument}
use Rattle.lk_model.specs.Formulas.Formula.{Cnf}
use Rattle.lk_model.specs.Reduction.{IsReduction, ReducesTo}
use Rattle.lk_model.specs.Formulas.Crossed.{protect_line_of}
use Rattle.lk_model.specs.Texts.Dimacs.{Spells}
use Rattle.lk_model.specs.declared.class.Class.{Class}
use Rattle.lk_model.specs.declared.document.Document.TheVariants.{Done}
use Rattle.lk_model.specs.declared.document.DoneDocument.{DoneDocument}

-- The document is accepted for the formula that the text spells, and so a reduction of it; it is of the class, and protects
-- those of the listed variables that the formula has.
pub record IsReductionOf (text : List ℕ) (class : Class) (protect : Option (List ℕ)) (d : DoneDocument) : Type 0 where
  pub formula : Cnf
  pub spells : Spells text formula
  pub class_is : class_of d.body ≡ class
  pub protects : d.protect ≡ protect_line_of formula protect
  pub accepts : Accepts formula d
  pub reduction : IsReduction formula d

-- two documents have one line of kept positions and the same clause lines, under the same protected variables
pub record KeepTheSame (d e : DoneDocument) : Type 0 where
  pub kept : d.kept ≡ e.kept
  pub texts : d.texts ≡ e.texts
  pub protect : d.protect ≡ e.protect

-- Two such documents keep the same clauses: these are a function of the text, the class and the list. What `reduce` writes is
-- the text of such a document, whatever the other options are.
pub record KeptLaw : Type 0 where
  pub same : (text : List ℕ) (class : Class) (protect : Option (List ℕ)) (d e : DoneDocument)
      → IsReductionOf text class protect d → IsReductionOf text class protect e → KeepTheSame d e
  pub written : (text : List ℕ) (class : Class) (protect : Option (List ℕ)) (pivots : ℕ) (written : List ℕ) (d : DoneDocument)
      → ReducesTo text class protect pivots written → IsTextOfDocument written (Done d) → IsReductionOf text class protect d
