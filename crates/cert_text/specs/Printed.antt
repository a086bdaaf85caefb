-- Sections of documents as they are printed.
use Rattle.std.specs.Prelude.{List, [], ◌∷◌, ◌++◌, codes}
use Rattle.std.specs.List.{flat_map}
use Rattle.std.specs.Fmt.{decimal, signed_decimal}
use Rattle.lk_model.specs.Texts.Lines.{Word}
use Rattle.lk_model.specs.Texts.PlainText.{ended, literal_words, number_words, formula_lines}
use Rattle.lk_model.specs.Documents.Text.{comment, class_lines}
use Rattle.lk_model.specs.declared.document.Weight.{Weight}
use Rattle.lk_model.specs.declared.document.Share.{Share}
use Rattle.lk_model.specs.declared.document.Unit.{Unit}
use Rattle.lk_model.specs.declared.document.DoneDocument.{DoneDocument}

-- the words of a line between its keyword and its closing 0, or some of them

abbrev pub weight_words : List Weight → List Word
weight_words weights = flat_map (λ (w : Weight). decimal w.var ∷ signed_decimal w.x ∷ []) weights

abbrev pub share_words : List Share → List Word
share_words shares = flat_map (λ (s : Share). decimal s.pos ∷ signed_decimal s.z ∷ []) shares

abbrev pub unit_words : Unit → List Word
unit_words u = decimal u.var ∷ signed_decimal u.d ∷ share_words u.shares

-- the lines of a finished document after its first ones
abbrev pub found_lines : DoneDocument → List (List Word)
found_lines d = comment (codes "keep") (ended (number_words d.kept)) ∷ comment (codes "set") (literal_words d.set) ∷ class_lines d.body
    ++ formula_lines d.texts
