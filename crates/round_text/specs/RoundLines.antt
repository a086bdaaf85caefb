-- The lines of rounds: what the next one leads to.
use Rattle.std.specs.Prelude.{ℕ, ◌+◌, ◌-◌, ◌^◌, ℤ, Bool, true, false, ◌&&◌, nat_lt, if◌then◌else◌, List, [], ◌∷◌, ◌++◌, map, codes, Option, Some, None, option_map, option_and_then}
use Rattle.std.specs.List.{flat_map}
use Rattle.std.specs.Str.{bytes_eq}
use Rattle.std.specs.Borrow.{Bor}
use Rattle.lk_model.specs.Lists.{is_empty}
use Rattle.lk_model.specs.Formulas.Literal.{rank_of}
use Rattle.lk_model.specs.Texts.Lines.{Word}
use Rattle.lk_model.specs.Texts.NumberWords.{plain_number}
use Rattle.lk_model.specs.Documents.Text.{round_lines}
use Rattle.lk_model.specs.declared.document.Turn.{Turn}
use Rattle.lk_model.specs.declared.document.Step.{Step}
use Rattle.lk_model.specs.declared.document.Round.{Round}
use Rattle.round_text.specs.declared.read_rounds.RoundsPart.{RoundsPart}
use Rattle.line_text.specs.Fields.{fields, after, number_within, literal_within}
use Rattle.line_text.specs.FieldLists.{twos}
use Rattle.line_text.specs.LastVars.{last_or}

abbrev pub fresh_rounds : RoundsPart
fresh_rounds = record { rounds = []; is_open = false; steps = []; count = 0 }

abbrev pub round_of : List Step → Round
round_of steps = record { steps = steps }

-- the lines that were read
abbrev pub rounds_lines : RoundsPart → List (List Word)
rounds_lines p = flat_map round_lines p.rounds ++ (if p.is_open then round_lines (round_of p.steps) else [])

-- WORDS

-- the literal, if its rank is above those of others
abbrev pub if_above : List ℤ → Option ℤ → Option ℤ
if_above ls None = None
if_above ls (Some l) = if nat_lt (last_or 1 (map rank_of ls)) (rank_of l) then Some l else None

-- literals that ascend by rank, after some, up to the word 0, and the words after that
abbrev pub ranked_then : ℕ → List ℤ → List Word → Option (List ℤ × List Word)
ranked_then n ls [] = None
ranked_then n ls (word ∷ []) = None
ranked_then n ls (word ∷ next ∷ words) = if bytes_eq word (codes "0")
    then Some (ls, next ∷ words)
    else option_and_then (λ l. ranked_then n (ls ++ l ∷ []) (next ∷ words)) (if_above ls (literal_within n (plain_number word)))

abbrev pub with_rest : List ℤ → Option (Bor (List ℕ)) → Option (List ℤ × List Word)
with_rest ls None = None
with_rest ls (Some rest) = Some (ls, fields rest.now)

abbrev pub turn_by : Option ℤ → Option ℕ → Option Turn
turn_by (Some t) (Some b) = Some (record { lit = t; with = b })
turn_by _ _ = None

abbrev pub turn_within : ℕ → ℕ → List Turn → Word → Word → Option Turn
turn_within n number ts t b = turn_by (literal_within n (plain_number t)) (number_within 1 (number - 1) (plain_number b))

abbrev pub chain_by : ℕ → List ℤ → Option ℕ → Option (List Turn) → Option Step
chain_by number clause (Some first) (Some turns) = Some (record { number = number; clause = clause; first = first; turns = turns })
chain_by number clause _ _ = None

-- words for the chain of a step with this number and clause
abbrev pub chain_within : ℕ → ℕ → List ℤ → List Word → Option Step
chain_within n number clause [] = None
chain_within n number clause (a ∷ words) = chain_by number clause (number_within 1 (number - 1) (plain_number a)) (twos (turn_within n number) [] words)

-- words for a step with this number
abbrev pub step_by : ℕ → ℕ → Option ℕ → Option (List ℤ × List Word) → Option Step
step_by n number (Some k) (Some h) = chain_within n number h.0 h.1
step_by n number _ _ = None

abbrev pub step_within : ℕ → ℕ → List Word → Option Step
step_within n number [] = None
step_within n number (k ∷ words) = step_by n number (number_within number number (plain_number k)) (ranked_then n [] words)

-- LINES

-- the number of the next step after `count` steps, if it is one of 64 bits
abbrev pub number_after : ℕ → ℕ → Option ℕ
number_after m count = if nat_lt (count + (m + 1)) (2 ^ 64) then Some (count + (m + 1)) else None

-- the open round, ended
abbrev pub closed : RoundsPart → RoundsPart
closed p = record p { rounds = p.rounds ++ round_of p.steps ∷ []; is_open = false; steps = [] }

abbrev pub with_step : RoundsPart → Step → RoundsPart
with_step p s = record p { steps = p.steps ++ s ∷ []; count = p.count + 1 }

abbrev pub put_step : RoundsPart → Step → RoundsPart
put_step p s = if is_empty s.clause then closed (with_step p s) else with_step p s

abbrev pub next_step : ℕ → ℕ → RoundsPart → List Word → Option RoundsPart
next_step n m p words =
    option_map (put_step p) (option_and_then (λ (ws : List Word). option_and_then (λ number. step_within n number ws) (number_after m p.count)) (after (codes "c") (codes "step") words))

abbrev pub is_round : List Word → Bool
is_round (a ∷ b ∷ []) = bytes_eq a (codes "c") && bytes_eq b (codes "round")
is_round _ = false

-- a step of the open round, or else a round, if one may begin
abbrev pub rounds_next : Bool → ℕ → ℕ → RoundsPart → List Word → Option RoundsPart
rounds_next may n m p words = if p.is_open then next_step n m p words else if may && is_round words then Some (record p { is_open = true }) else None

-- all rounds, the open one too
abbrev pub all_rounds : RoundsPart → List Round
all_rounds p = p.rounds ++ (if p.is_open then round_of p.steps ∷ [] else [])
