-- The text of a document.
use Rattle.std.specs.Prelude.{ℕ, List, [], ◌∷◌, ◌++◌, map, codes, Option, Some, None}
use Rattle.std.specs.List.{flat_map, concat}
use Rattle.std.specs.Fmt.{decimal, signed_decimal}
use Rattle.lk_model.specs.Texts.Lines.{Word}
use Rattle.lk_model.specs.Texts.PlainText.{line, ended, literal_words, number_words, formula_lines}
use Rattle.lk_model.specs.Documents.Documents.{class_of}
use Rattle.lk_model.specs.declared.class.Class.{Class}
use Rattle.lk_model.specs.declared.class.Class.TheVariants as class
use Rattle.lk_model.specs.declared.document.Pair.{Pair}
use Rattle.lk_model.specs.declared.document.Own.{Own}
use Rattle.lk_model.specs.declared.document.MatchRow.{MatchRow}
use Rattle.lk_model.specs.declared.document.Weight.{Weight}
use Rattle.lk_model.specs.declared.document.Stage.{Stage}
use Rattle.lk_model.specs.declared.document.Dual.{Dual}
use Rattle.lk_model.specs.declared.document.Share.{Share}
use Rattle.lk_model.specs.declared.document.Unit.{Unit}
use Rattle.lk_model.specs.declared.document.Turn.{Turn}
use Rattle.lk_model.specs.declared.document.Step.{Step}
use Rattle.lk_model.specs.declared.document.Round.{Round}
use Rattle.lk_model.specs.declared.document.Body.{Body}
use Rattle.lk_model.specs.declared.document.Body.TheVariants.{Pure, Matching, Linear, General}
use Rattle.lk_model.specs.declared.document.Document.{Document}
use Rattle.lk_model.specs.declared.document.Document.TheVariants.{Done, Unfinished}

abbrev pub comment : Word → List Word → List Word
comment keyword words = codes "c" ∷ keyword ∷ words

-- THE LINES OF THE CLASSES

abbrev pub pair_line : Pair → List Word
pair_line q = comment (codes "pair") (number_words (q.var ∷ q.with ∷ q.against ∷ []))

abbrev pub own_line : Own → List Word
own_line o = comment (codes "own") (number_words (o.pos ∷ o.var ∷ []))

abbrev pub row_line : MatchRow → List Word
row_line r = comment (codes "row") (number_words (r.var ∷ r.own ∷ r.escape ∷ r.rank ∷ []))

abbrev pub stage_line : Stage → List Word
stage_line s = comment (codes "stage") (ended (flat_map (λ (w : Weight). decimal w.var ∷ signed_decimal w.x ∷ []) s.weights))

abbrev pub dual_line : Dual → List Word
dual_line y = comment (codes "dual") (decimal y.pos ∷ signed_decimal y.y ∷ [])

abbrev pub unit_line : Unit → List Word
unit_line u = comment (codes "unit") (decimal u.var ∷ signed_decimal u.d ∷ ended (flat_map (λ (s : Share). decimal s.pos ∷ signed_decimal s.z ∷ []) u.shares))

abbrev pub step_line : Step → List Word
step_line s = comment (codes "step") (decimal s.number ∷ literal_words s.clause
    ++ decimal s.first ∷ ended (flat_map (λ (t : Turn). signed_decimal t.lit ∷ decimal t.with ∷ []) s.turns))

abbrev pub round_lines : Round → List (List Word)
round_lines r = comment (codes "round") [] ∷ map step_line r.steps

abbrev pub class_word : Class → Word
class_word class.Pure = codes "pure"
class_word class.Matching = codes "matching"
class_word class.Linear = codes "linear"
class_word class.General = codes "general"

abbrev pub class_lines : Body → List (List Word)
class_lines (Pure order pairs) = comment (codes "order") (literal_words order) ∷ map pair_line pairs
class_lines (Matching own rows) = map own_line own ++ map row_line rows
class_lines (Linear stages dual units) = map stage_line stages ++ map dual_line dual ++ map unit_line units
class_lines (General rounds) = flat_map round_lines rounds

-- THE LINES OF A DOCUMENT

-- version 1 has no protected variables, version 2 a line for them
abbrev pub version : Option (List ℕ) → Word
version None = codes "1"
version (Some vars) = codes "2"

abbrev pub protect_lines : Option (List ℕ) → List (List Word)
protect_lines None = []
protect_lines (Some vars) = comment (codes "protect") (ended (number_words vars)) ∷ []

abbrev pub first_lines : Word → ℕ → ℕ → Option (List ℕ) → List (List Word)
first_lines word n m protect = comment (codes "leank") (version protect ∷ word ∷ []) ∷ comment (codes "formula") (number_words (n ∷ m ∷ [])) ∷ protect_lines protect

abbrev pub document_lines : Document → List (List Word)
document_lines (Done d) = first_lines (class_word (class_of d.body)) d.vars d.clauses d.protect
    ++ comment (codes "keep") (ended (number_words d.kept)) ∷ comment (codes "set") (literal_words d.set) ∷ class_lines d.body
    ++ formula_lines d.texts
document_lines (Unfinished d) = first_lines (codes "unfinished") d.vars d.clauses d.protect
    ++ comment (codes "learned") (number_words (d.learned ∷ [])) ∷ flat_map round_lines d.rounds
    ++ formula_lines d.texts

-- the lines as bytes, each with its byte 10, and all of them in a row
unfoldable pub text_lines : Document → List (List ℕ)
text_lines d = map line (document_lines d)

unfoldable pub text_of : Document → List ℕ
text_of d = concat (text_lines d)
