-- What was read of the text of a minimally unsatisfiable core, line by line, and what the next line leads to.
use Rattle.std.specs.Prelude.{◌≤◌, ℕ, Bool, true, false, ◌&&◌, ◌==◌, nat_lt, if◌then◌else◌, List, [], ◌∷◌, ◌++◌, map, length, slice_index_or, ℤ, codes, Option, Some, None, option_map, option_and_then}
use Rattle.std.specs.Option.{option_map_or}
use Rattle.std.specs.Str.{bytes_eq}
use Rattle.lk_model.specs.Limits.{max_vars, max_clauses}
use Rattle.lk_model.specs.Formulas.Formula.{Cnf}
use Rattle.lk_model.specs.Texts.Lines.{Word}
use Rattle.lk_model.specs.Texts.NumberWords.{plain_number}
use Rattle.lk_model.specs.Texts.PlainText.{literal_words, number_words}
use Rattle.lk_model.specs.Documents.CoreText.{is_core_in_form, core_line, without_line, core_lines}
use Rattle.lk_model.specs.Documents.Text.{comment}
use Rattle.lk_model.specs.declared.document.Round.{Round}
use Rattle.lk_model.specs.declared.document.Without.{Without}
use Rattle.lk_model.specs.declared.document.MusAnswer.{MusAnswer}
use Rattle.line_text.specs.DraftReading.{DraftReader}
use Rattle.line_text.specs.Fields.{after, number_within}
use Rattle.line_text.specs.FieldLists.{rising_from, literals_from}
use Rattle.round_text.specs.RoundLines.{fresh_rounds, rounds_next, rounds_lines}
use Rattle.round_text.specs.declared.read_rounds.RoundsPart.{RoundsPart}
use Rattle.line_text.specs.SizeLines.{has_sizes, problem_line, is_problem}
use Rattle.formula_text.specs.FormulaLines.{next_clause, IsReady}
use Rattle.answer_text.specs.declared.core_draft.CoreDraft.{CoreDraft}
use Rattle.answer_text.specs.declared.core_draft.LineDue.{LineDue}
use Rattle.answer_text.specs.declared.core_draft.LineDue.TheVariants.{Format, Sizes, Positions, Steps, Witnesses, Clauses}

-- THE LINES OF A DRAFT

abbrev pub format_line : List Word
format_line = comment (codes "leank") (codes "1" ∷ codes "mus" ∷ [])

abbrev pub size_line : ℕ → ℕ → List Word
size_line n m = comment (codes "formula") (number_words (n ∷ m ∷ []))

-- the lines up to that of the positions
abbrev pub head_lines : CoreDraft → List (List Word)
head_lines d = format_line ∷ size_line d.vars d.clauses ∷ core_line d.core ∷ []

abbrev pub lines_before : LineDue → CoreDraft → List (List Word)
lines_before Format d = []
lines_before Sizes d = format_line ∷ []
lines_before Positions d = format_line ∷ size_line d.vars d.clauses ∷ []
lines_before Steps d = head_lines d ++ rounds_lines d.rounds
lines_before Witnesses d = head_lines d ++ rounds_lines d.rounds ++ map without_line d.without
lines_before Clauses d = head_lines d ++ rounds_lines d.rounds ++ map without_line d.without
    ++ problem_line d.vars (length d.core) ∷ map literal_words d.texts.clauses

-- the lines that were read
abbrev pub draft_lines : CoreDraft → List (List Word)
draft_lines d = lines_before d.due d

-- of a core of a formula of n variables and m clauses, of which no line was read
abbrev pub fresh_core : ℕ → ℕ → CoreDraft
fresh_core n m = record {
  due = Format;
  vars = n;
  clauses = m;
  core = [];
  rounds = fresh_rounds;
  without = [];
  growing = record { vars = n; literals = [] };
  texts = record { vars = n; clauses = [] };
}

-- THE NEXT LINE

-- the words are these two
abbrev pub are_two : Word → Word → List Word → Bool
are_two first second (a ∷ b ∷ []) = bytes_eq a first && bytes_eq b second
are_two first second _ = false

abbrev pub is_format : List Word → Bool
is_format words = option_map_or (are_two (codes "1") (codes "mus")) (after (codes "c") (codes "leank") words) false

abbrev pub next_format : CoreDraft → List Word → Option CoreDraft
next_format d words = if is_format words then Some (record d { due = Sizes }) else None

abbrev pub next_sizes : CoreDraft → List Word → Option CoreDraft
next_sizes d words = if has_sizes (codes "c") (codes "formula") d.vars d.clauses words then Some (record d { due = Positions }) else None

abbrev pub next_positions : CoreDraft → List Word → Option CoreDraft
next_positions d words =
    option_map (λ (core : List ℕ). record d { due = Steps; core = core }) (option_and_then (rising_from 0 d.clauses) (after (codes "c") (codes "core") words))

-- a step is due until the round has ended
abbrev pub with_rounds : CoreDraft → RoundsPart → CoreDraft
with_rounds d p = record d { due = if p.is_open then Steps else Witnesses; rounds = p }

abbrev pub next_step : CoreDraft → List Word → Option CoreDraft
next_step d words = option_map (with_rounds d) (rounds_next true d.vars d.clauses d.rounds words)

abbrev pub without_by : Option ℕ → Option (List ℤ) → Option Without
without_by (Some p) (Some lits) = Some (record { pos = p; lits = lits })
without_by _ _ = None

-- the number of this position, and literals over the variables from 1 to n that rise
abbrev pub without_within : ℕ → ℕ → List Word → Option Without
without_within n p [] = None
without_within n p (word ∷ words) = without_by (number_within p p (plain_number word)) (literals_from true n 0 words)

-- the first position without a line
abbrev pub due_position : CoreDraft → ℕ
due_position d = slice_index_or d.core (length d.without) 0

abbrev pub next_without : CoreDraft → List Word → Option CoreDraft
next_without d words =
    option_map (λ (w : Without). record d { without = d.without ++ w ∷ [] })
    (option_and_then (without_within d.vars (due_position d)) (after (codes "c") (codes "without") words))

abbrev pub next_problem : CoreDraft → List Word → Option CoreDraft
next_problem d words = if is_problem d.vars (length d.core) words then Some (record d { due = Clauses }) else None

-- a line for each position, and then the problem line
abbrev pub next_witness : CoreDraft → List Word → Option CoreDraft
next_witness d words = if nat_lt (length d.without) (length d.core) then next_without d words else next_problem d words

abbrev pub next_text : CoreDraft → List Word → Option CoreDraft
next_text d words = option_map (λ (F : Cnf). record d { texts = F }) (next_clause (length d.core) d.texts words)

abbrev pub next_at : LineDue → CoreDraft → List Word → Option CoreDraft
next_at Format d words = next_format d words
next_at Sizes d words = next_sizes d words
next_at Positions d words = next_positions d words
next_at Steps d words = next_step d words
next_at Witnesses d words = next_witness d words
next_at Clauses d words = next_text d words

-- what a line of these words leads to, if one may come next
abbrev pub next_draft : CoreDraft → List Word → Option CoreDraft
next_draft d words = next_at d.due d words

-- THE END

-- the last of the rounds
abbrev pub last_round : List Round → Option Round
last_round [] = None
last_round (r ∷ []) = Some r
last_round (r ∷ s ∷ rounds) = last_round (s ∷ rounds)

abbrev pub is_at_clauses : LineDue → Bool
is_at_clauses Clauses = true
is_at_clauses _ = false

-- all lines were read
abbrev pub has_ended : CoreDraft → Bool
has_ended d = is_at_clauses d.due && length d.texts.clauses == length d.core

-- what is written of the core, if all its lines were read
abbrev pub core_by : CoreDraft → Round → MusAnswer
core_by d r = record { vars = d.vars; clauses = d.clauses; core = d.core; round = r; without = d.without; texts = d.texts }

abbrev pub finished : CoreDraft → Option MusAnswer
finished d = if has_ended d then option_map (core_by d) (last_round d.rounds.rounds) else None

-- THE READER

-- a core in form of a formula of n variables and m clauses
abbrev pub is_core_of : ℕ → ℕ → MusAnswer → Bool
is_core_of n m a = a.vars == n && a.clauses == m && is_core_in_form a

abbrev pub core_drafts : ℕ → ℕ → DraftReader CoreDraft MusAnswer
core_drafts n m = record {
  fresh = fresh_core n m;
  next = next_draft;
  lines = draft_lines;
  finished = finished;
  is_value = is_core_of n m;
  value_lines = core_lines;
}

-- The numbers of a draft are within the limits, and its open clause is ready for one more.
pub record IsReadyDraft (d : CoreDraft) : Type 0 where
  pub vars : d.vars ≤ max_vars
  pub clauses : d.clauses ≤ max_clauses
  pub core : length d.core ≤ max_clauses
  pub growing : IsReady d.texts.vars d.growing
