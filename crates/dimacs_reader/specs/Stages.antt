-- Where a text stands of which some bytes were read: what it comes to, however it goes on.
use Rattle.std.specs.Prelude.{◌≡◌, ◌<◌, ◌≤◌, ℕ, ◌+◌, ◌-◌, List, [], ◌∷◌, ◌++◌, length, IsTrue, count_by}
use Rattle.std.specs.List.{slice_split}
use Rattle.lk_model.specs.Limits.{max_vars, max_clauses}
use Rattle.lk_model.specs.Texts.Lines.{Piece, is_newline, placed_after, line_number}
use Rattle.lk_model.specs.Texts.Dimacs.{stated_by}
use Rattle.lk_model.specs.declared.text_fault.Fault.{Fault}
use Rattle.dimacs_reader.specs.Contents.{words_in, words_after, has_no_blank}
use Rattle.dimacs_reader.specs.Outcomes.{Outcome, Faulty, end_outcome, outcome_behind, outcome_of_words, problem_outcome, outcome_from, text_outcome}
use Rattle.dimacs_reader.specs.Words.{IsWordSoFar}
use Rattle.dimacs_reader.specs.ProblemLines.{IsLineSoFar}
use Rattle.dimacs_reader.specs.ReadStates.{HasRead, Fits}
use Rattle.dimacs_reader.specs.declared.clauses.ReadState.{ReadState}
use Rattle.dimacs_reader.specs.declared.head.HeadLine.{HeadLine}
use Rattle.dimacs_reader.specs.declared.head.HeadLine.TheVariants as head
use Rattle.dimacs_reader.specs.declared.head.HeadStep.{HeadStep}
use Rattle.dimacs_reader.specs.declared.head.HeadStep.TheVariants.{In, Stated}
use Rattle.dimacs_reader.specs.declared.numbers.NumberLine.{NumberLine}
use Rattle.dimacs_reader.specs.declared.numbers.NumberLine.TheVariants as numbers
use Rattle.dimacs_reader.specs.declared.reading.Stage.{Stage}
use Rattle.dimacs_reader.specs.declared.reading.Stage.TheVariants as stage

-- the byte that was read last is in the line of the next one
abbrev pub IsInLine : List ℕ → Type 0
IsInLine fed = line_number fed (length fed) ≡ count_by is_newline fed + 1

-- BEFORE THE NUMBERS

-- what the bytes of a text come to that stand after `before` others, where these are the pieces between the bytes 10,
-- and `part` is what was read of a problem line
abbrev pub head_outcome : HeadLine → List ℕ → ℕ → List (List ℕ) → ℕ → Outcome
head_outcome head.Start part before parts over = outcome_from (placed_after before parts) over
head_outcome head.Comment part before [] over = outcome_from [] over
head_outcome head.Comment part before (line ∷ parts) over = outcome_from (placed_after (before + length line + 1) parts) over
head_outcome (head.Problem p) part before [] over = problem_outcome (stated_by (words_in part)) before [] over
head_outcome (head.Problem p) part before (line ∷ parts) over =
    problem_outcome (stated_by (words_in (part ++ line))) (before + length line) (placed_after (before + length line + 1) parts) over

-- `part` is what was read of the problem line
abbrev pub IsHeadPart : List ℕ → HeadLine → List ℕ → Type 0
IsHeadPart fed (head.Problem p) part = IsLineSoFar part p × IsInLine fed
IsHeadPart fed line part = Unit {0}

pub record StandsInHead (fed : List ℕ) (line : HeadLine) : Type 0 where
  pub part : List ℕ
  pub is_part : IsHeadPart fed line part
  pub rest : (more : List ℕ) → text_outcome (fed ++ more) ≡ head_outcome line part (length fed) (slice_split is_newline more) (length fed + length more + 1)

-- after the problem line, which states these numbers
pub record StandsBehind (fed : List ℕ) (vars clauses : ℕ) : Type 0 where
  pub rest : (more : List ℕ) → text_outcome (fed ++ more) ≡ outcome_behind vars clauses [] (placed_after (length fed) (slice_split is_newline more)) (length fed + length more + 1)

abbrev pub StandsAt : List ℕ → HeadStep → Type 0
StandsAt fed (In line) = StandsInHead fed line
StandsAt fed (Stated vars clauses) = StandsBehind fed vars clauses

-- the numbers of a step lie within the limits
abbrev pub IsWithinLimits : HeadStep → Type 0
IsWithinLimits (In line) = Unit {0}
IsWithinLimits (Stated vars clauses) = (vars ≤ max_vars) × (clauses ≤ max_clauses)

-- AFTER THE PROBLEM LINE

-- what the bytes of a text come to that stand after `before` others, where these words were read, and word is what was
-- read of one more
abbrev pub number_outcome : NumberLine → ℕ → ℕ → List Piece → List ℕ → ℕ → List (List ℕ) → ℕ → Outcome
number_outcome numbers.Start vars clauses earlier word before parts over = outcome_behind vars clauses earlier (placed_after before parts) over
number_outcome numbers.Comment vars clauses earlier word before [] over = outcome_behind vars clauses earlier [] over
number_outcome numbers.Comment vars clauses earlier word before (line ∷ parts) over = outcome_behind vars clauses earlier (placed_after (before + length line + 1) parts) over
number_outcome numbers.Gap vars clauses earlier word before [] over = outcome_behind vars clauses earlier [] over
number_outcome numbers.Gap vars clauses earlier word before (line ∷ parts) over =
    outcome_of_words vars clauses earlier (words_after before line) (placed_after (before + length line + 1) parts) over
number_outcome (numbers.Word w) vars clauses earlier word before [] over = outcome_behind vars clauses earlier [] over
number_outcome (numbers.Word w) vars clauses earlier word before (line ∷ parts) over =
    outcome_of_words vars clauses earlier (words_after (before - length word) (word ++ line)) (placed_after (before + length line + 1) parts) over
number_outcome numbers.Ended vars clauses earlier word before parts over = end_outcome vars clauses earlier over

-- word is what was read of the next word, with which the bytes end
pub record IsNextPart (fed : List ℕ) (word : List ℕ) : Type 0 where
  pub some : 0 < length word
  pub within : length word ≤ length fed
  pub no_blank : IsTrue (has_no_blank word)
  pub in_line : IsInLine fed

abbrev pub IsNumberPart : List ℕ → NumberLine → List ℕ → Type 0
IsNumberPart fed (numbers.Word w) word = IsWordSoFar word w × IsNextPart fed word
IsNumberPart fed line word = Unit {0}

pub record StandsInNumbers (fed : List ℕ) (state : ReadState) (line : NumberLine) : Type 0 where
  pub earlier : List Piece
  pub word : List ℕ
  pub read : HasRead earlier state
  pub is_part : IsNumberPart fed line word
  pub rest : (more : List ℕ) → text_outcome (fed ++ more)
      ≡ number_outcome line state.formula.vars state.stated earlier word (length fed) (slice_split is_newline more) (length fed + length more + 1)

-- the words after the problem line that were read are all, with the place after the text
pub record EndsAs (fed : List ℕ) (state : ReadState) : Type 0 where
  pub words : List Piece
  pub read : HasRead words state
  pub outcome : text_outcome fed ≡ end_outcome state.formula.vars state.stated words (length fed + 1)

-- STAGES

abbrev pub Stands : List ℕ → Stage → Type 0
Stands fed (stage.Head line) = StandsInHead fed line
Stands fed (stage.Numbers state line) = StandsInNumbers fed state line

-- what was read after the problem line lies within the limits
abbrev pub IsSound : Stage → Type 0
IsSound (stage.Head line) = Unit {0}
IsSound (stage.Numbers state line) = Fits state

-- the fault with which a text is met at its next byte, whatever comes after that, in the line of that byte
pub record IsMet (fed : List ℕ) (byte : ℕ) (fault : Fault) : Type 0 where
  pub line : line_number fed fault.place ≡ count_by is_newline fed + 1
  pub place : fault.place ≤ length fed + 1
  pub outcome : (more : List ℕ) → text_outcome (fed ++ byte ∷ more) ≡ Faulty fault

-- the fault of a text that ends, in the line of its end
pub record IsMetAtEnd (fed : List ℕ) (fault : Fault) : Type 0 where
  pub line : line_number fed fault.place ≡ count_by is_newline fed + 1
  pub outcome : text_outcome fed ≡ Faulty fault
