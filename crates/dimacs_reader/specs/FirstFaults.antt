-- The first fault of a text, met line by line and word by word.
use Rattle.std.specs.Prelude.{ℕ, ◌+◌, ◌||◌, List, [], ◌∷◌, ◌++◌, length, if◌then◌else◌, Option, Some, None, nat_lt}
use Rattle.lk_model.specs.Limits.{max_vars, max_clauses}
use Rattle.lk_model.specs.Texts.Lines.{Piece, lines_of, words_of, texts}
use Rattle.lk_model.specs.Texts.Dimacs.{stated_by, runs_of}
use Rattle.lk_model.specs.Texts.Fault.{word_faults, numbers_of}
use Rattle.lk_model.specs.declared.text_fault.Fault.{Fault}
use Rattle.lk_model.specs.declared.text_fault.FaultKind.TheVariants.{NoHeader, BadHeader, SecondHeader, TooFewClauses, Limit}
use Rattle.dimacs_reader.specs.LineKinds.{LineKind, Skipped, EndMark, Problem, Numbers, kind_by}

-- the first of some faults, or else what comes after them
abbrev pub first_or : List Fault → Option Fault → Option Fault
first_or [] behind = behind
first_or (f ∷ fs) behind = Some f

-- a fault, or else what comes after it
abbrev pub or_behind : Option Fault → Option Fault → Option Fault
or_behind None behind = behind
or_behind (Some f) behind = Some f

-- the first fault of words that stand after earlier ones
abbrev pub fault_among : ℕ → ℕ → List Piece → List Piece → Option Fault
fault_among vars clauses earlier [] = None
fault_among vars clauses earlier (word ∷ words) =
    first_or (word_faults vars clauses (earlier, word)) (fault_among vars clauses (earlier ++ word ∷ []) words)

-- the fault of words that end at this place with too few clauses
abbrev pub fault_at_end : ℕ → List Piece → ℕ → Option Fault
fault_at_end clauses words end =
    if nat_lt (length (runs_of (numbers_of words))) clauses then Some (record { kind = TooFewClauses; place = end }) else None

-- the first fault of a line after the problem line and of what comes after the line: where it is skipped, and where its
-- words are taken
abbrev pub line_fault : LineKind → ℕ → List Piece → Option Fault → Option Fault → Option Fault → Option Fault
line_fault (EndMark first) clauses earlier here skipped taken = fault_at_end clauses earlier first
line_fault Skipped clauses earlier here skipped taken = skipped
line_fault (Problem first) clauses earlier here skipped taken = Some (record { kind = SecondHeader; place = first })
line_fault (Numbers first) clauses earlier here skipped taken = or_behind here taken

-- the first fault of the lines after the problem line, which stand after earlier words; over is the place after them
abbrev pub fault_behind : ℕ → ℕ → List Piece → List Piece → ℕ → Option Fault
fault_behind vars clauses earlier [] over = fault_at_end clauses earlier over
fault_behind vars clauses earlier (line ∷ lines) over =
    line_fault (kind_by (words_of line)) clauses earlier (fault_among vars clauses earlier (words_of line))
    (fault_behind vars clauses earlier lines over)
    (fault_behind vars clauses (earlier ++ words_of line) lines over)

-- the first fault of a problem line that states these numbers, and of the lines after it
abbrev pub problem_line_fault : Option (ℕ × ℕ) → ℕ → List Piece → ℕ → Option Fault
problem_line_fault None last lines over = Some (record { kind = BadHeader; place = last })
problem_line_fault (Some (vars, clauses)) last lines over =
    if nat_lt max_vars vars || nat_lt max_clauses clauses then Some (record { kind = Limit; place = last }) else fault_behind vars clauses [] lines over

-- the first fault of a line before or at the problem line
abbrev pub first_line_fault : LineKind → Option Fault → Option Fault → Option Fault
first_line_fault (EndMark first) skipped problem = Some (record { kind = NoHeader; place = first })
first_line_fault Skipped skipped problem = skipped
first_line_fault (Problem first) skipped problem = problem
first_line_fault (Numbers first) skipped problem = Some (record { kind = NoHeader; place = first })

-- the first fault of the lines of a text, after which over is the next place
abbrev pub fault_from : List Piece → ℕ → Option Fault
fault_from [] over = Some (record { kind = NoHeader; place = over })
fault_from (line ∷ lines) over =
    first_line_fault (kind_by (words_of line)) (fault_from lines over) (problem_line_fault (stated_by (texts (words_of line))) line.last lines over)

-- the first fault of a text, but for its length
abbrev pub text_fault : List ℕ → Option Fault
text_fault text = fault_from (lines_of text) (length text + 1)
