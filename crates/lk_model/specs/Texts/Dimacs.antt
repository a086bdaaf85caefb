-- The texts that spell a formula: DIMACS CNF (1993), with rules of this project's own for blanks, comments, the end
-- mark, repeated literals and limits.
use Rattle.std.specs.Prelude.{◌≡◌, ℕ, ◌≤◌, Bool, not, ◌&&◌, ◌||◌, List, [], ◌∷◌, if◌then◌else◌, length, map, filter, ℤ, Option, Some, None, codes, ◌==◌, IsTrue, nat_le, count_by, flat_map, slice_index, take_while}
use Rattle.std.specs.List.{slice_split, list_all}
use Rattle.std.specs.Ordering.{int_eq}
use Rattle.std.specs.Option.{option_zip}
use Rattle.std.specs.Str.{bytes_eq}
use Rattle.lk_model.specs.Formulas.Literal.{variable}
use Rattle.lk_model.specs.Formulas.Formula.{Cnf}
use Rattle.lk_model.specs.Lists.{is_empty, is_zero, is_nonzero}
use Rattle.lk_model.specs.Limits.{max_vars, max_clauses, max_literals, max_bytes}
use Rattle.lk_model.specs.Texts.Lines.{Piece, Word, lines_of, words_of, texts}
use Rattle.lk_model.specs.Texts.NumberWords.{number, natural}

-- The first byte of a line that is no blank tells its kind. A blank line has no such byte, and 0 stands for it.
abbrev pub first_byte : List Piece → ℕ
first_byte [] = 0
first_byte (word ∷ words) = slice_index word.bytes 0

abbrev pub starts_with_byte : ℕ → Piece → Bool
starts_with_byte b line = first_byte (words_of line) == b

abbrev pub is_blank_line : Piece → Bool
is_blank_line line = is_empty (words_of line)

-- `c`, `p` and `%`
abbrev pub is_comment : Piece → Bool
is_comment = starts_with_byte 99

abbrev pub is_problem : Piece → Bool
is_problem = starts_with_byte 112

abbrev pub is_end_mark : Piece → Bool
is_end_mark = starts_with_byte 37

-- the lines before the first end mark that are neither blank nor comments
abbrev pub content_lines : List ℕ → List Piece
content_lines text = filter (λ line. not (is_blank_line line || is_comment line)) (take_while (λ line. not (is_end_mark line)) (lines_of text))

-- the numbers of variables and of clauses that the words of a problem line state
abbrev pub stated_by : List Word → Option (ℕ × ℕ)
stated_by (p ∷ cnf ∷ v ∷ c ∷ []) = if bytes_eq p (codes "p") && bytes_eq cnf (codes "cnf") then option_zip (natural v) (natural c) else None
stated_by _ = None

-- the runs of numbers between zeros; a last run without a 0 counts if it is not empty
abbrev pub without_empty_last : List (List ℤ) → List (List ℤ)
without_empty_last [] = []
without_empty_last ([] ∷ []) = []
without_empty_last (run ∷ runs) = run ∷ without_empty_last runs

abbrev pub runs_of : List ℤ → List (List ℤ)
runs_of numbers = without_empty_last (slice_split is_zero numbers)

-- the literals, each at its first place
abbrev pub without_repeats : List ℤ → List ℤ
without_repeats [] = []
without_repeats (l ∷ ls) = l ∷ filter (λ k. not (int_eq l k)) (without_repeats ls)

-- the text spells the formula
pub record Spells (text : List ℕ) (F : Cnf) : Type 0 where
  pub problem : Piece
  pub others : List Piece
  pub numbers : List ℤ
  pub lines : content_lines text ≡ problem ∷ others
  pub stated : stated_by (texts (words_of problem)) ≡ Some (F.vars, length F.clauses)
  pub read : map number (texts (flat_map words_of others)) ≡ map Some numbers
  pub clauses : F.clauses ≡ map without_repeats (runs_of numbers)
  pub variables : IsTrue (list_all (λ l. nat_le (variable l) F.vars) numbers)
  pub vars_limit : F.vars ≤ max_vars
  pub clauses_limit : length F.clauses ≤ max_clauses
  pub literals_limit : count_by is_nonzero numbers ≤ max_literals
  pub bytes_limit : length text ≤ max_bytes
