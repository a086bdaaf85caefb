-- What was read of an answer for n variables and m clauses, and what one line more leads to.
use Rattle.std.specs.Prelude.{◌≡◌, ◌≤◌, ℕ, true, false, ◌==◌, if◌then◌else◌, List, [], ◌∷◌, length, ℤ, codes, Option, Some, None, option_map, option_and_then}
use Rattle.std.specs.Str.{bytes_eq}
use Rattle.lk_model.specs.Limits.{max_vars, max_clauses}
use Rattle.lk_model.specs.Texts.Lines.{Word}
use Rattle.line_text.specs.FieldLists.{literals_from}
use Rattle.line_text.specs.DraftReading.{DraftReader, run}
use Rattle.round_text.specs.RoundLines.{fresh_rounds, is_round, rounds_next, rounds_lines}
use Rattle.round_text.specs.declared.read_rounds.RoundsPart.{RoundsPart}
use Rattle.answer_text.specs.CoreDrafts as core
use Rattle.answer_text.specs.CoreDrafts.{are_two, fresh_core, last_round}
use Rattle.lk_model.specs.Documents.Answers.{is_answer, state_line, value_line, answer_lines}
use Rattle.lk_model.specs.declared.answer.Answer.{Answer}
use Rattle.lk_model.specs.declared.answer.Answer.TheVariants as answer
use Rattle.answer_text.specs.declared.draft.Draft.{Draft}
use Rattle.answer_text.specs.declared.draft.Draft.TheVariants.{Nothing, Satisfiable, Model, Unsatisfiable, Refuting, Core}

-- the lines that were read
abbrev pub draft_lines : Draft → List (List Word)
draft_lines Nothing = []
draft_lines Satisfiable = state_line (codes "SATISFIABLE") ∷ []
draft_lines (Model lits) = state_line (codes "SATISFIABLE") ∷ value_line lits ∷ []
draft_lines Unsatisfiable = state_line (codes "UNSATISFIABLE") ∷ []
draft_lines (Refuting part) = state_line (codes "UNSATISFIABLE") ∷ rounds_lines part
draft_lines (Core d) = core.draft_lines d

-- THE NEXT LINE

-- the first line of a core
abbrev pub next_core : ℕ → ℕ → List Word → Option Draft
next_core n m words = option_map Core (core.next_draft (fresh_core n m) words)

-- over no clauses there is no refutation, and no core
abbrev pub next_state : ℕ → ℕ → List Word → Option Draft
next_state n m words = if are_two (codes "s") (codes "SATISFIABLE") words then Some Satisfiable
    else if m == 0 then None
    else if are_two (codes "s") (codes "UNSATISFIABLE") words then Some Unsatisfiable
    else next_core n m words

-- the literals as a model, if there are n
abbrev pub if_total : ℕ → List ℤ → Option Draft
if_total n lits = if length lits == n then Some (Model lits) else None

-- literals over the variables from 1 to n that rise, one on each
abbrev pub next_model : ℕ → List Word → Option Draft
next_model n [] = None
next_model n (first ∷ words) = if bytes_eq first (codes "v") then option_and_then (if_total n) (literals_from true n 0 words) else None

-- the open round, without a step
abbrev pub open_round : RoundsPart
open_round = record fresh_rounds { is_open = true }

abbrev pub next_round : List Word → Option Draft
next_round words = if is_round words then Some (Refuting open_round) else None

-- what a line of these words leads to, if one may come next
abbrev pub next_draft : ℕ → ℕ → Draft → List Word → Option Draft
next_draft n m Nothing words = next_state n m words
next_draft n m Satisfiable words = next_model n words
next_draft n m (Model lits) words = None
next_draft n m Unsatisfiable words = next_round words
next_draft n m (Refuting part) words = option_map Refuting (rounds_next false n m part words)
next_draft n m (Core d) words = option_map Core (core.next_draft d words)

-- THE END

-- the refutation whose round has ended, if one has
abbrev pub refuted_by : RoundsPart → Option Answer
refuted_by part = option_map answer.Refuted (last_round part.rounds)

-- the answer, if all its lines were read
abbrev pub finished : Draft → Option Answer
finished (Model lits) = Some (answer.Model lits)
finished (Refuting part) = refuted_by part
finished (Core d) = option_map answer.Core (core.finished d)
finished Nothing = None
finished Satisfiable = None
finished Unsatisfiable = None

-- THE READER

abbrev pub answer_drafts : ℕ → ℕ → DraftReader Draft Answer
answer_drafts n m = record {
  fresh = Nothing;
  next = next_draft n m;
  lines = draft_lines;
  finished = finished;
  is_value = is_answer n m;
  value_lines = answer_lines;
}

-- the draft is what its lines lead to, for numbers within the limits
pub record IsRead (n m : ℕ) (d : Draft) : Type 0 where
  pub runs : run (answer_drafts n m) Nothing (draft_lines d) ≡ Some d
  pub vars : n ≤ max_vars
  pub clauses : m ≤ max_clauses
