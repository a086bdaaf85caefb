-- The lines of the class pure: what the next one leads to.
use Rattle.std.specs.Prelude.{ℕ, true, false, if◌then◌else◌, List, [], ◌∷◌, ◌++◌, map, codes, Option, option_map, option_and_then}
use Rattle.lk_model.specs.Texts.Lines.{Word}
use Rattle.lk_model.specs.Documents.Text.{comment, pair_line}
use Rattle.lk_model.specs.Texts.PlainText.{literal_words}
use Rattle.lk_model.specs.declared.document.Pair.{Pair}
use Rattle.cert_text.specs.declared.read_pure.PurePart.{PurePart}
use Rattle.line_text.specs.Fields.{after}
use Rattle.cert_text.specs.Entries.{pair_within}
use Rattle.line_text.specs.FieldLists.{literals_from}
use Rattle.line_text.specs.LastVars.{last_or}

abbrev pub fresh_pure : PurePart
fresh_pure = record { ordered = false; order = []; pairs = [] }

-- the lines that were read
abbrev pub pure_lines : PurePart → List (List Word)
pure_lines p = (if p.ordered then comment (codes "order") (literal_words p.order) ∷ [] else []) ++ map pair_line p.pairs

abbrev pub next_order : ℕ → PurePart → List Word → Option PurePart
next_order n p words = option_map (λ order. record p { ordered = true; order = order }) (option_and_then (literals_from false n 0) (after (codes "c") (codes "order") words))

abbrev pub next_pair : ℕ → ℕ → PurePart → List Word → Option PurePart
next_pair n m p words =
    option_map (λ (q : Pair). record p { pairs = p.pairs ++ q ∷ [] })
    (option_and_then (pair_within (last_or 0 (map (λ (q : Pair). q.var) p.pairs)) n m) (after (codes "c") (codes "pair") words))

abbrev pub pure_next : ℕ → ℕ → PurePart → List Word → Option PurePart
pure_next n m p words = if p.ordered then next_pair n m p words else next_order n p words
