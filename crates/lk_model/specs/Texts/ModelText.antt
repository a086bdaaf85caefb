-- The model that a text gives, as solvers print one: `s SATISFIABLE` and lines of literals after `v`.
use Rattle.std.specs.Prelude.{ℕ, Bool, true, false, if◌then◌else◌, not, ◌&&◌, ◌||◌, List, [], ◌∷◌, length, map, filter, take, ℤ, Option, Some, None, Result, Ok, Err, codes, ◌==◌, nat_le, flat_map, filter_map, find, slice_index}
use Rattle.std.specs.List.{list_all}
use Rattle.std.specs.Option.{option_map_or}
use Rattle.std.specs.Str.{bytes_eq}
use Rattle.lk_model.specs.Lists.{is_empty, is_zero, is_nonzero, up_to}
use Rattle.lk_model.specs.Formulas.Literal.{variable, complement, contains}
use Rattle.lk_model.specs.Texts.Lines.{Word, lines_of, words_of, texts}
use Rattle.lk_model.specs.Texts.NumberWords.{number}

-- the words of each line
abbrev pub word_lines : List ℕ → List (List Word)
word_lines text = map (λ line. texts (words_of line)) (lines_of text)

-- a word for a literal of a variable up to n, or for 0
abbrev pub is_model_number : ℕ → Word → Bool
is_model_number n word = option_map_or (λ x. nat_le (variable x) n) (number word) false

-- the one word `SATISFIABLE`
abbrev pub is_satisfiable : List Word → Bool
is_satisfiable (word ∷ []) = bytes_eq word (codes "SATISFIABLE")
is_satisfiable _ = false

-- a line that may stand in a model text: no word, a comment, `s SATISFIABLE`, or `v` and numbers
abbrev pub is_model_line : ℕ → List Word → Bool
is_model_line n [] = true
is_model_line n (first ∷ words) =
    (slice_index first 0 == 99)
    || (bytes_eq first (codes "s") && is_satisfiable words)
    || (bytes_eq first (codes "v") && list_all (is_model_number n) words)

-- the numbers of a `v` line
abbrev pub line_numbers : List Word → List ℤ
line_numbers [] = []
line_numbers (first ∷ words) = if bytes_eq first (codes "v") then filter_map number words else []

-- nothing stands after the first 0
abbrev pub ends_at_zero : List ℤ → Bool
ends_at_zero [] = true
ends_at_zero (x ∷ xs) = if is_zero x then is_empty xs else ends_at_zero xs

abbrev pub literals_among : List ℤ → List ℤ
literals_among numbers = filter is_nonzero numbers

-- no literal stands beside its complement
abbrev pub is_consistent : List ℤ → Bool
is_consistent ls = list_all (λ l. not (contains ls (complement l))) ls

-- the lines are a model text as far as they go
abbrev pub is_model_text : ℕ → List (List Word) → Bool
is_model_text n lines =
    list_all (is_model_line n) lines
    && (let numbers = flat_map line_numbers lines in ends_at_zero numbers && is_consistent (literals_among numbers))

-- the first line with which the text is none
abbrev pub first_faulty_line : ℕ → List (List Word) → Option ℕ
first_faulty_line n lines = find (λ k. not (is_model_text n (take k lines))) (up_to (length lines))

-- the literals that the text makes true, or the number of its first faulty line
abbrev pub model_of : List ℕ → ℕ → Result (List ℤ) ℕ
model_of text n = elim (first_faulty_line n (word_lines text)) [
  | None ↦ Ok (literals_among (flat_map line_numbers (word_lines text)))
  | Some line ↦ Err line
]
