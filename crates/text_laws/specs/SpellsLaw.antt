-- What a text spells is a formula; and what leank writes is DIMACS: a formula in plain text, a document, and a minimally
-- unsatisfiable core.
use Rattle.std.specs.Prelude.{ℕ, ◌≤◌, List, length, IsTrue}
use Rattle.lk_model.specs.Limits.{max_bytes}
use Rattle.lk_model.specs.Formulas.Formula.{Cnf, is_formula, IsWithinLimits}
use Rattle.lk_model.specs.Texts.PlainText.{plain_text}
use Rattle.lk_model.specs.Texts.Dimacs.{Spells}
use Rattle.lk_model.specs.Documents.Form.{is_in_form}
use Rattle.lk_model.specs.Documents.Text.{text_of}
use Rattle.lk_model.specs.Documents.CoreText.{is_core_in_form, core_text}
use Rattle.lk_model.specs.declared.document.Document.{Document}
use Rattle.lk_model.specs.declared.document.Document.TheVariants.{Done, Unfinished}
use Rattle.lk_model.specs.declared.document.MusAnswer.{MusAnswer}

-- the clauses of a document: the kept ones, or the whole formula of an unfinished one
abbrev pub texts_of : Document → Cnf
texts_of (Done d) = d.texts
texts_of (Unfinished d) = d.texts

-- what a text spells is a formula: its clauses contain literals over its variables, each once
abbrev pub FormulaLaw : Type 0
FormulaLaw = (text : List ℕ) (F : Cnf) → Spells text F → IsTrue (is_formula F)

-- the plain text of a formula within the limits spells it, if it is not too long to be read
abbrev pub PlainLaw : Type 0
PlainLaw = (F : Cnf) → IsTrue (is_formula F) → IsWithinLimits F → length (plain_text F) ≤ max_bytes → Spells (plain_text F) F

-- the text of a document in form spells its clauses, if it is not too long to be read
abbrev pub SpellsLaw : Type 0
SpellsLaw = (d : Document) → IsTrue (is_in_form d) → length (text_of d) ≤ max_bytes → Spells (text_of d) (texts_of d)

-- the text of a core in form spells its clauses, if it is not too long to be read
abbrev pub CoreSpellsLaw : Type 0
CoreSpellsLaw = (core : MusAnswer) → IsTrue (is_core_in_form core) → length (core_text core) ≤ max_bytes → Spells (core_text core) core.texts
