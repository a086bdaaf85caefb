-- Answers to the question whether a formula has a model: their form and their texts. A model is written as solvers write it, a
-- refutation as a round of a document, and a minimally unsatisfiable core as DIMACS.
use Rattle.std.specs.Prelude.{◌≡◌, ℕ, Bool, ◌&&◌, ◌==◌, List, [], ◌∷◌, map, length, ℤ, codes, IsTrue}
use Rattle.std.specs.List.{flat_map}
use Rattle.lk_model.specs.Formulas.Literal.{variable}
use Rattle.lk_model.specs.Texts.Lines.{Word}
use Rattle.lk_model.specs.Texts.PlainText.{line, literal_words}
use Rattle.lk_model.specs.Documents.Form.{counts_from, are_steps, is_whole}
use Rattle.lk_model.specs.Documents.Text.{round_lines}
use Rattle.lk_model.specs.Documents.CoreText.{is_core_in_form, core_lines}
use Rattle.lk_model.specs.declared.answer.Answer.{Answer}
use Rattle.lk_model.specs.declared.answer.Answer.TheVariants.{Model, Refuted, Core}

-- FORM, for n variables and m clauses

-- a literal on the variable i at place i, for each variable
abbrev pub is_total : ℕ → List ℤ → Bool
is_total n lits = counts_from 1 (map variable lits) && length lits == n

-- A model has a literal on each variable. The steps of a refutation are numbered from m + 1, and the last clause and no
-- other is empty; so there is none over 0 clauses, where a step can name nothing. A core is one of a formula of n variables
-- and m clauses.
abbrev pub is_answer : ℕ → ℕ → Answer → Bool
is_answer n m (Model lits) = is_total n lits
is_answer n m (Refuted r) = are_steps n m r.steps && is_whole r
is_answer n m (Core a) = a.vars == n && a.clauses == m && is_core_in_form a

-- TEXT

abbrev pub state_line : Word → List Word
state_line word = codes "s" ∷ word ∷ []

abbrev pub value_line : List ℤ → List Word
value_line lits = codes "v" ∷ literal_words lits

abbrev pub answer_lines : Answer → List (List Word)
answer_lines (Model lits) = state_line (codes "SATISFIABLE") ∷ value_line lits ∷ []
answer_lines (Refuted r) = state_line (codes "UNSATISFIABLE") ∷ round_lines r
answer_lines (Core a) = core_lines a

-- the lines as bytes, each with its byte 10
abbrev pub answer_text : Answer → List ℕ
answer_text a = flat_map line (answer_lines a)

-- the bytes are the text of the answer, which is in form
pub record IsAnswerText (n m : ℕ) (bytes : List ℕ) (a : Answer) : Type 0 where
  pub form : IsTrue (is_answer n m a)
  pub text : bytes ≡ answer_text a

-- the bytes are the text of some answer
abbrev pub IsTextOfAnswer : ℕ → ℕ → List ℕ → Type 0
IsTextOfAnswer n m bytes = (a : Answer) × IsAnswerText n m bytes a
