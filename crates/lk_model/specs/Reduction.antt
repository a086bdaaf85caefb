-- What a reducer writes: a finished document of the largest lean set, or an unfinished one.
use Rattle.std.specs.Prelude.{◌≡◌, ℕ, List, Option, IsTrue, ⊤}
use Rattle.lk_model.specs.declared.class.Class.{Class}
use Rattle.lk_model.specs.Formulas.Formula.{Cnf}
use Rattle.lk_model.specs.Formulas.Crossed.{Variables, protected_by, protect_line_of}
use Rattle.lk_model.specs.Formulas.Assignment.{assignment_of}
use Rattle.lk_model.specs.Formulas.Protected.{ReducesBy}
use Rattle.lk_model.specs.Formulas.PureRun.{IsPureRunUnder, least_pairs_under}
use Rattle.lk_model.specs.Formulas.Parts.{IsPartUnder}
use Rattle.lk_model.specs.Texts.Dimacs.{Spells}
use Rattle.lk_model.specs.Documents.Documents.{class_of}
use Rattle.lk_model.specs.Documents.Text.{text_of}
use Rattle.lk_model.specs.Chains.Rounds.{names_within}
use Rattle.lk_model.specs.Checks.Checks.{Accepts, IsSound, HasProgress}
use Rattle.lk_model.specs.Linear.LinearRun.{RunDone, linear_run_under}
use Rattle.lk_model.specs.declared.document.Body.{Body}
use Rattle.lk_model.specs.declared.document.Body.TheVariants as body
use Rattle.lk_model.specs.declared.document.DoneDocument.{DoneDocument}
use Rattle.lk_model.specs.declared.document.OpenDocument.{OpenDocument}
use Rattle.lk_model.specs.declared.document.Document.TheVariants.{Done, Unfinished}

-- the document keeps the kernel of its class, and its set line removes the other clauses
abbrev pub IsReductionUnder : Variables → Cnf → DoneDocument → Type 0
IsReductionUnder P F d = ReducesBy P (class_of d.body) F d.kept (assignment_of d.set)

abbrev pub IsReduction : Cnf → DoneDocument → Type 0
IsReduction F d = IsReductionUnder (protected_by d.protect) F d

-- For pure and linear, which certificate is written: the literals of the pure run with the least pairs, and the numbers
-- of the linear run. For matching and general it is open.
abbrev pub IsStatedBody : Variables → Cnf → ℕ → List ℕ → Body → Type 0
IsStatedBody P F pivots kept (body.Pure order pairs) = IsPureRunUnder P F order × (pairs ≡ least_pairs_under P F kept)
IsStatedBody P F pivots kept (body.Matching own rows) = ⊤
IsStatedBody P F pivots kept (body.Linear stages dual units) = (made : ℕ) × (linear_run_under P F pivots ≡ RunDone kept stages dual units made)
IsStatedBody P F pivots kept (body.General rounds) = ⊤

-- The document is one of the class, a reduction of the formula that the checks accept, and has the stated certificate.
pub record Reduces (F : Cnf) (class : Class) (pivots : ℕ) (d : DoneDocument) : Type 0 where
  pub class_is : class_of d.body ≡ class
  pub accepted : Accepts F d
  pub reduction : IsReduction F d
  pub stated : IsStatedBody (protected_by d.protect) F pivots d.kept d.body

-- what is written is the text of such a document with these protected variables
pub record WritesReduction (F : Cnf) (class : Class) (listed : Option (List ℕ)) (pivots : ℕ) (written : List ℕ) : Type 0 where
  pub document : DoneDocument
  pub reduces : Reduces F class pivots document
  pub protects : document.protect ≡ protect_line_of F listed
  pub written_is : written ≡ text_of (Done document)

-- the text spells a formula, and what is written reduces it
pub record ReducesTo (text : List ℕ) (class : Class) (listed : Option (List ℕ)) (pivots : ℕ) (written : List ℕ) : Type 0 where
  pub formula : Cnf
  pub spells : Spells text formula
  pub writes : WritesReduction formula class listed pivots written

-- The text is that of a sound unfinished document of the formula, with progress and `learned` learned clauses.
pub record IsUnfinishedText (F : Cnf) (listed : Option (List ℕ)) (learned : ℕ) (written : List ℕ) : Type 0 where
  pub document : OpenDocument
  pub written_is : written ≡ text_of (Unfinished document)
  pub sound : IsSound F document
  pub progress : HasProgress F document
  pub protects : document.protect ≡ protect_line_of F listed
  pub count : document.learned ≡ learned

-- The text spells a formula, and what is written is such a text, whose chains name positions of one part alone.
pub record StopsUnfinished (text : List ℕ) (listed : Option (List ℕ)) (conflicts : ℕ) (written : List ℕ) : Type 0 where
  pub formula : Cnf
  pub spells : Spells text formula
  pub unfinished : IsUnfinishedText formula listed conflicts written
  pub part : List ℕ
  pub is_part : IsPartUnder (protected_by unfinished.document.protect) formula part
  pub names : IsTrue (names_within formula part unfinished.document.rounds)
