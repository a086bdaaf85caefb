-- The lines of the class matching: what the next one leads to.
use Rattle.std.specs.Prelude.{ℕ, if◌then◌else◌, List, [], ◌∷◌, ◌++◌, map, codes, Option, Some, None, option_map}
use Rattle.lk_model.specs.Lists.{is_empty}
use Rattle.lk_model.specs.Texts.Lines.{Word}
use Rattle.lk_model.specs.Documents.Text.{own_line, row_line}
use Rattle.lk_model.specs.declared.document.Own.{Own}
use Rattle.lk_model.specs.declared.document.MatchRow.{MatchRow}
use Rattle.cert_text.specs.declared.read_matching.MatchingPart.{MatchingPart}
use Rattle.line_text.specs.Fields.{after}
use Rattle.cert_text.specs.Entries.{own_within, row_within}
use Rattle.line_text.specs.LastVars.{last_or}

abbrev pub fresh_matching : MatchingPart
fresh_matching = record { own = []; rows = [] }

-- the lines that were read
abbrev pub matching_lines : MatchingPart → List (List Word)
matching_lines p = map own_line p.own ++ map row_line p.rows

abbrev pub next_own : ℕ → ℕ → MatchingPart → List Word → Option MatchingPart
next_own n m p words = if is_empty p.rows
    then option_map (λ (o : Own). record p { own = p.own ++ o ∷ [] }) (own_within (last_or 0 (map (λ (o : Own). o.pos) p.own)) n m words)
    else None

abbrev pub next_row : ℕ → ℕ → MatchingPart → List Word → Option MatchingPart
next_row n m p words = option_map (λ (r : MatchRow). record p { rows = p.rows ++ r ∷ [] }) (row_within (last_or 0 (map (λ (r : MatchRow). r.var) p.rows)) n m words)

-- the first that is there, led on
abbrev pub matching_by : ℕ → ℕ → MatchingPart → Option (List Word) → Option (List Word) → Option MatchingPart
matching_by n m p (Some words) row = next_own n m p words
matching_by n m p None (Some words) = next_row n m p words
matching_by n m p None None = None

abbrev pub matching_next : ℕ → ℕ → MatchingPart → List Word → Option MatchingPart
matching_next n m p words = matching_by n m p (after (codes "c") (codes "own") words) (after (codes "c") (codes "row") words)
