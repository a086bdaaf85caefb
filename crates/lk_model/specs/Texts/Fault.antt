-- The first fault of a text that spells no formula. Each fault has a place, the number of a byte, and the first
-- fault is the one with the least place.
use Rattle.std.specs.Prelude.{◌≡◌, ℕ, ◌+◌, Bool, true, not, ◌&&◌, ◌||◌, List, [], ◌∷◌, ◌++◌, if◌then◌else◌, length, filter, ℤ, Option, Some, None, nat_le, nat_lt, count_by, flat_map, filter_map, find, slice_get, unwrap_or, option_map}
use Rattle.lk_model.specs.Formulas.Literal.{variable}
use Rattle.lk_model.specs.Lists.{with_earlier, is_zero, is_nonzero}
use Rattle.lk_model.specs.Limits.{max_vars, max_clauses, max_literals, max_bytes}
use Rattle.lk_model.specs.Texts.Lines.{Piece, first_place, lines_of, words_of, texts, line_number}
use Rattle.lk_model.specs.Texts.NumberWords.{number}
use Rattle.lk_model.specs.Texts.Dimacs.{content_lines, is_problem, is_end_mark, stated_by, runs_of}
use Rattle.lk_model.specs.declared.text_fault.Fault.{Fault}
use Rattle.lk_model.specs.declared.text_fault.FaultKind.{FaultKind}
use Rattle.lk_model.specs.declared.text_fault.FaultKind.TheVariants.{NoHeader, BadHeader, SecondHeader, BadToken, BeyondStated, TooManyClauses, TooFewClauses, Limit, TooLong}

-- the fault, if the test says so
abbrev pub fault_if : Bool → FaultKind → ℕ → List Fault
fault_if test kind place = if test then record { kind = kind; place = place } ∷ [] else []

-- the place of the first byte of a line that is no blank
abbrev pub first_of_line : Piece → ℕ
first_of_line line = unwrap_or (option_map first_place (slice_get (words_of line) 0)) line.last

-- the byte `%` of the first end mark, or the place after the last byte
abbrev pub stop : List ℕ → ℕ
stop text = unwrap_or (option_map first_of_line (find is_end_mark (lines_of text))) (length text + 1)

-- the numbers that words write
abbrev pub numbers_of : List Piece → List ℤ
numbers_of words = filter_map number (texts words)

-- The faults of a word that writes this number, or none, after these numbers. They stand in the order in which they are
-- reported.
abbrev pub number_faults : ℕ → ℕ → List ℤ → Option ℤ → ℕ → List Fault
number_faults vars clauses earlier None place = fault_if true BadToken place
number_faults vars clauses earlier (Some x) place =
    fault_if (nat_le clauses (count_by is_zero earlier)) TooManyClauses place
    ++ fault_if (nat_lt vars (variable x)) BeyondStated place
    ++ fault_if (not (is_zero x) && nat_le max_literals (count_by is_nonzero earlier)) Limit place

abbrev pub word_faults : ℕ → ℕ → List Piece × Piece → List Fault
word_faults vars clauses (earlier, word) = number_faults vars clauses (numbers_of earlier) (number word.bytes) word.last

-- the faults after a problem line, where the numbers go on to the place at the end
abbrev pub body_faults : ℕ → ℕ → List Piece → ℕ → List Fault
body_faults vars clauses lines end =
    flat_map (λ line. fault_if true SecondHeader (first_of_line line)) (filter is_problem lines)
    ++ (let words = flat_map words_of (filter (λ line. not (is_problem line)) lines) in
    flat_map (word_faults vars clauses) (with_earlier [] words)
    ++ fault_if (nat_lt (length (runs_of (numbers_of words))) clauses) TooFewClauses end)

abbrev pub problem_faults : Option (ℕ × ℕ) → Piece → List Piece → ℕ → List Fault
problem_faults None problem lines end = fault_if true BadHeader problem.last
problem_faults (Some (vars, clauses)) problem lines end =
    fault_if (nat_lt max_vars vars || nat_lt max_clauses clauses) Limit problem.last
    ++ body_faults vars clauses lines end

abbrev pub content_faults : List Piece → ℕ → List Fault
content_faults [] end = fault_if true NoHeader end
content_faults (line ∷ lines) end = if is_problem line
    then problem_faults (stated_by (texts (words_of line))) line lines end
    else fault_if true NoHeader (first_of_line line)

-- all faults that a text is judged by; of two at one place the first stands first
abbrev pub faults : List ℕ → List Fault
faults text = fault_if (nat_lt max_bytes (length text)) TooLong (max_bytes + 1) ++ content_faults (content_lines text) (stop text)

-- the one with the least place, and at one place the first
abbrev pub earlier_of : Fault → Option Fault → Option Fault
earlier_of f None = Some f
earlier_of f (Some g) = if nat_le f.place g.place then Some f else Some g

abbrev pub least : List Fault → Option Fault
least [] = None
least (f ∷ fs) = earlier_of f (least fs)

-- the kind and the line of the first fault
abbrev pub fault_of : List ℕ → Option (FaultKind × ℕ)
fault_of text = option_map (λ f. (f.kind, line_number text f.place)) (least (faults text))

-- However the bytes go on, this is the kind and the line of the first fault.
abbrev pub IsSettled : List ℕ → FaultKind × ℕ → Type 0
IsSettled fed fault = (more : List ℕ) → fault_of (fed ++ more) ≡ Some fault
