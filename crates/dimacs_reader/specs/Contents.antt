-- The lines and words of a text that count, as bytes.
use Rattle.std.specs.Prelude.{◌≡◌, ◌≤◌, ℕ, Bool, not, ◌||◌, ◌==◌, List, [], ◌∷◌, filter, slice_index, take_while, length, map, ℤ, Some, IsTrue, nat_le, count_by}
use Rattle.std.specs.List.{slice_split, list_all}
use Rattle.lk_model.specs.Lists.{is_empty, is_nonzero}
use Rattle.lk_model.specs.Limits.{max_clauses, max_literals}
use Rattle.lk_model.specs.Formulas.Literal.{variable}
use Rattle.lk_model.specs.Formulas.Formula.{Cnf}
use Rattle.lk_model.specs.Texts.Lines.{Piece, Word, is_blank, placed_after}
use Rattle.lk_model.specs.Texts.NumberWords.{number}
use Rattle.lk_model.specs.Texts.Dimacs.{runs_of, without_repeats}

-- the words of a line
abbrev pub words_in : List ℕ → List Word
words_in line = filter (λ word. not (is_empty word)) (slice_split is_blank line)

-- the first byte of the first word, or 0
abbrev pub first_of : List Word → ℕ
first_of [] = 0
first_of (word ∷ words) = slice_index word 0

-- the line begins with `%`
abbrev pub is_end : List ℕ → Bool
is_end line = first_of (words_in line) == 37

-- the line has words and is no comment
abbrev pub is_content : List ℕ → Bool
is_content line = not (is_empty (words_in line) || first_of (words_in line) == 99)

-- the lines before the first end mark that count
abbrev pub content_of : List (List ℕ) → List (List ℕ)
content_of lines = filter is_content (take_while (λ line. not (is_end line)) lines)

-- the words write the clauses of the formula, over the variables up to n
pub record IsWritten (n : ℕ) (words : List Word) (F : Cnf) : Type 0 where
  pub numbers : List ℤ
  pub vars : F.vars ≡ n
  pub read : map number words ≡ map Some numbers
  pub clauses : F.clauses ≡ map without_repeats (runs_of numbers)
  pub variables : IsTrue (list_all (λ l. nat_le (variable l) n) numbers)
  pub few_clauses : length F.clauses ≤ max_clauses
  pub few_literals : count_by is_nonzero numbers ≤ max_literals

-- the words of bytes that stand in a line after `before` bytes of the text
abbrev pub words_after : ℕ → List ℕ → List Piece
words_after before bytes = filter (λ word. not (is_empty word.bytes)) (placed_after before (slice_split is_blank bytes))

abbrev pub has_no_blank : List ℕ → Bool
has_no_blank bytes = list_all (λ b. not (is_blank b)) bytes
