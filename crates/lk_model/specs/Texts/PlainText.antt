-- Lines as leank writes them: words with one space between them, and byte 10 at the end; and the lines of a formula,
-- DIMACS CNF in its one shortest form.
use Rattle.std.specs.Prelude.{ℕ, List, [], ◌∷◌, ◌++◌, map, length, ℤ, codes, decimal, flat_map}
use Rattle.std.specs.List.{join_with_byte}
use Rattle.std.specs.Fmt.{signed_decimal}
use Rattle.lk_model.specs.Formulas.Formula.{Cnf}
use Rattle.lk_model.specs.Texts.Lines.{Word}

abbrev pub line : List Word → List ℕ
line words = join_with_byte 32 words ++ 10 ∷ []

-- words, and then the word 0
abbrev pub ended : List Word → List Word
ended words = words ++ codes "0" ∷ []

abbrev pub literal_words : List ℤ → List Word
literal_words ls = ended (map signed_decimal ls)

abbrev pub number_words : List ℕ → List Word
number_words ns = map decimal ns

-- the problem line, and a line for each clause
abbrev pub formula_lines : Cnf → List (List Word)
formula_lines F = (codes "p" ∷ codes "cnf" ∷ number_words (F.vars ∷ length F.clauses ∷ [])) ∷ map literal_words F.clauses

-- the plain text of a formula, its one shortest form
abbrev pub plain_text : Cnf → List ℕ
plain_text F = flat_map line (formula_lines F)
