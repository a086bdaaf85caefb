-- What was read of the lines of a body: a case for each body.
use Rattle.std.specs.Prelude.{ℕ, Bool, true, false, not, nat_lt, if◌then◌else◌, List, [], codes, Option, Some, None, option_map}
use Rattle.std.specs.Str.{bytes_eq}
use Rattle.lk_model.specs.Texts.Lines.{Word}
use Rattle.lk_model.specs.declared.document.Round.{Round}
use Rattle.lk_model.specs.declared.document.Body.{Body}
use Rattle.lk_model.specs.declared.document.Body.TheVariants as body
use Rattle.cert_text.specs.declared.part.Part.{Part}
use Rattle.cert_text.specs.declared.part.Part.TheVariants.{Pure, Matching, Linear, General, Unfinished}
use Rattle.cert_text.specs.PureLines.{fresh_pure, pure_lines, pure_next}
use Rattle.cert_text.specs.MatchingLines.{fresh_matching, matching_lines, matching_next}
use Rattle.cert_text.specs.LinearLines.{fresh_linear, linear_lines, linear_next}
use Rattle.round_text.specs.RoundLines.{fresh_rounds, rounds_lines, rounds_next, all_rounds}

-- the word for it in the first line
abbrev pub part_word : Part → Word
part_word (Pure p) = codes "pure"
part_word (Matching p) = codes "matching"
part_word (Linear p) = codes "linear"
part_word (General p) = codes "general"
part_word (Unfinished p) = codes "unfinished"

-- the body of which no line was read, by that word
abbrev pub part_of : Word → Option Part
part_of word = if bytes_eq word (codes "pure") then Some (Pure fresh_pure)
    else if bytes_eq word (codes "matching") then Some (Matching fresh_matching)
    else if bytes_eq word (codes "linear") then Some (Linear fresh_linear)
    else if bytes_eq word (codes "general") then Some (General fresh_rounds)
    else if bytes_eq word (codes "unfinished") then Some (Unfinished fresh_rounds)
    else None

-- the lines that were read
abbrev pub part_lines : Part → List (List Word)
part_lines (Pure p) = pure_lines p
part_lines (Matching p) = matching_lines p
part_lines (Linear p) = linear_lines p
part_lines (General p) = rounds_lines p
part_lines (Unfinished p) = rounds_lines p

-- what the next line leads to
abbrev pub part_next : ℕ → ℕ → Part → List Word → Option Part
part_next n m (Pure p) words = option_map Pure (pure_next n m p words)
part_next n m (Matching p) words = option_map Matching (matching_next n m p words)
part_next n m (Linear p) words = option_map Linear (linear_next n m p words)
part_next n m (General p) words = option_map General (rounds_next (nat_lt 0 m) n m p words)
part_next n m (Unfinished p) words = option_map Unfinished (rounds_next true n m p words)

-- its lines may end here
abbrev pub may_end : Part → Bool
may_end (Pure p) = p.ordered
may_end (Matching p) = true
may_end (Linear p) = true
may_end (General p) = not p.is_open
may_end (Unfinished p) = p.is_open

abbrev pub is_finished : Part → Bool
is_finished (Unfinished p) = false
is_finished _ = true

-- its body; that of an unfinished document is its rounds
abbrev pub body_of : Part → Body
body_of (Pure p) = body.Pure p.order p.pairs
body_of (Matching p) = body.Matching p.own p.rows
body_of (Linear p) = body.Linear p.stages p.dual p.units
body_of (General p) = body.General (all_rounds p)
body_of (Unfinished p) = body.General (all_rounds p)

-- the rounds of an unfinished document
abbrev pub rounds_of : Part → List Round
rounds_of (Unfinished p) = all_rounds p
rounds_of _ = []
