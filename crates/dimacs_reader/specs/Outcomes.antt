-- What a text comes to, met line by line and word by word: its first fault, or what it writes.
use Rattle.std.specs.Prelude.{ℕ, ◌+◌, ◌||◌, List, [], ◌∷◌, ◌++◌, length, if◌then◌else◌, Option, Some, None, nat_lt}
use Rattle.lk_model.specs.Limits.{max_vars, max_clauses}
use Rattle.lk_model.specs.Texts.Lines.{Piece, lines_of, words_of, texts}
use Rattle.lk_model.specs.Texts.Dimacs.{stated_by, runs_of}
use Rattle.lk_model.specs.Texts.Fault.{numbers_of}
use Rattle.lk_model.specs.declared.text_fault.Fault.{Fault}
use Rattle.lk_model.specs.declared.text_fault.FaultKind.TheVariants.{NoHeader, BadHeader, SecondHeader, TooFewClauses, Limit}
use Rattle.dimacs_reader.specs.LineKinds.{LineKind, Skipped, EndMark, Problem, Numbers, kind_by}
use Rattle.dimacs_reader.specs.FirstFaults.{fault_among}

-- the first fault, or else the numbers of variables and of clauses that the problem line states, and the words after it
pub data Outcome : Type 0 where
  Faulty : Fault → Outcome
  Written : ℕ → ℕ → List Piece → Outcome

-- the words end at a place
abbrev pub end_outcome : ℕ → ℕ → List Piece → ℕ → Outcome
end_outcome vars clauses words end =
    if nat_lt (length (runs_of (numbers_of words))) clauses then Faulty (record { kind = TooFewClauses; place = end }) else Written vars clauses words

-- a fault, or else what comes after it
abbrev pub fault_or : Option Fault → Outcome → Outcome
fault_or None behind = behind
fault_or (Some f) behind = Faulty f

-- a line after the problem line: where it ends the text, where it is skipped, and where its words are taken
abbrev pub line_outcome : LineKind → (ℕ → Outcome) → Outcome → Outcome → Outcome
line_outcome (EndMark first) ended skipped taken = ended first
line_outcome Skipped ended skipped taken = skipped
line_outcome (Problem first) ended skipped taken = Faulty (record { kind = SecondHeader; place = first })
line_outcome (Numbers first) ended skipped taken = taken

-- the lines after the problem line, after earlier words; over is the place after them
abbrev pub outcome_behind : ℕ → ℕ → List Piece → List Piece → ℕ → Outcome
outcome_behind vars clauses earlier [] over = end_outcome vars clauses earlier over
outcome_behind vars clauses earlier (line ∷ lines) over =
    line_outcome (kind_by (words_of line)) (end_outcome vars clauses earlier)
    (outcome_behind vars clauses earlier lines over)
    (fault_or (fault_among vars clauses earlier (words_of line)) (outcome_behind vars clauses (earlier ++ words_of line) lines over))

-- words of a line after earlier ones, and then lines
abbrev pub outcome_of_words : ℕ → ℕ → List Piece → List Piece → List Piece → ℕ → Outcome
outcome_of_words vars clauses earlier words lines over = fault_or (fault_among vars clauses earlier words) (outcome_behind vars clauses (earlier ++ words) lines over)

-- a problem line that states these numbers, and the lines after it
abbrev pub problem_outcome : Option (ℕ × ℕ) → ℕ → List Piece → ℕ → Outcome
problem_outcome None last lines over = Faulty (record { kind = BadHeader; place = last })
problem_outcome (Some (vars, clauses)) last lines over =
    if nat_lt max_vars vars || nat_lt max_clauses clauses then Faulty (record { kind = Limit; place = last }) else outcome_behind vars clauses [] lines over

-- a line before or at the problem line
abbrev pub first_line_outcome : LineKind → Outcome → Outcome → Outcome
first_line_outcome (EndMark first) skipped problem = Faulty (record { kind = NoHeader; place = first })
first_line_outcome Skipped skipped problem = skipped
first_line_outcome (Problem first) skipped problem = problem
first_line_outcome (Numbers first) skipped problem = Faulty (record { kind = NoHeader; place = first })

-- the lines of a text, after which over is the next place
abbrev pub outcome_from : List Piece → ℕ → Outcome
outcome_from [] over = Faulty (record { kind = NoHeader; place = over })
outcome_from (line ∷ lines) over =
    first_line_outcome (kind_by (words_of line)) (outcome_from lines over) (problem_outcome (stated_by (texts (words_of line))) line.last lines over)

-- a text, but for its length
abbrev pub text_outcome : List ℕ → Outcome
text_outcome text = outcome_from (lines_of text) (length text + 1)

-- the fault of an outcome
abbrev pub fault_in_outcome : Outcome → Option Fault
fault_in_outcome (Faulty f) = Some f
fault_in_outcome (Written vars clauses words) = None
