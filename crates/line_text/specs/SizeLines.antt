-- Lines of two keywords and two numbers, of variables and of clauses.
use Rattle.std.specs.Prelude.{ℕ, Bool, false, ◌&&◌, ◌==◌, List, ◌∷◌, [], codes, option_and_then}
use Rattle.std.specs.Option.{option_map_or}
use Rattle.lk_model.specs.Limits.{max_vars, max_clauses}
use Rattle.lk_model.specs.Texts.Lines.{Word}
use Rattle.lk_model.specs.Texts.PlainText.{number_words}
use Rattle.line_text.specs.Fields.{after, two_within}

-- the words are two keywords and these numbers of variables and clauses
abbrev pub has_sizes : Word → Word → ℕ → ℕ → List Word → Bool
has_sizes first second n count words =
    option_map_or (λ (h : ℕ × ℕ). h.0 == n && h.1 == count) (option_and_then (two_within max_vars max_clauses) (after first second words)) false

abbrev pub problem_line : ℕ → ℕ → List Word
problem_line n count = codes "p" ∷ codes "cnf" ∷ number_words (n ∷ count ∷ [])

-- the words are those of the problem line
abbrev pub is_problem : ℕ → ℕ → List Word → Bool
is_problem n count words = has_sizes (codes "p") (codes "cnf") n count words
