-- The text of a minimally unsatisfiable core, and which cores are in form: those whose text it can be. It is in DIMACS: its
-- lines up to the clauses are comments.
use Rattle.std.specs.Prelude.{ℕ, Bool, true, false, ◌&&◌, ◌==◌, List, [], ◌∷◌, ◌++◌, map, length, codes, None}
use Rattle.std.specs.List.{list_all, flat_map}
use Rattle.std.specs.Fmt.{decimal}
use Rattle.lk_model.specs.Lists.{rises_within}
use Rattle.lk_model.specs.Formulas.Literal.{variable}
use Rattle.lk_model.specs.Texts.Lines.{Word}
use Rattle.lk_model.specs.Texts.PlainText.{line, ended, literal_words, number_words, formula_lines}
use Rattle.lk_model.specs.Documents.Form.{is_size, are_steps, is_whole, are_clause_lines}
use Rattle.lk_model.specs.Documents.Text.{comment, round_lines, first_lines}
use Rattle.lk_model.specs.declared.document.Without.{Without}
use Rattle.lk_model.specs.declared.document.MusAnswer.{MusAnswer}

-- THE FORM

-- literals of variables from 1 to n, ascending by variable
abbrev pub is_without : ℕ → Without → Bool
is_without n w = rises_within 0 n (map variable w.lits)

-- the lines are for these positions, in their order
abbrev pub are_for : List ℕ → List Without → Bool
are_for [] [] = true
are_for (p ∷ ps) (w ∷ ws) = w.pos == p && are_for ps ws
are_for _ _ = false

unfoldable pub is_core_in_form : MusAnswer → Bool
is_core_in_form a = is_size a.vars a.clauses && rises_within 0 a.clauses a.core && are_steps a.vars a.clauses a.round.steps && is_whole a.round
    && are_for a.core a.without && list_all (is_without a.vars) a.without && are_clause_lines a.vars (length a.core) a.texts

-- THE TEXT

abbrev pub core_line : List ℕ → List Word
core_line core = comment (codes "core") (ended (number_words core))

abbrev pub without_line : Without → List Word
without_line w = comment (codes "without") (decimal w.pos ∷ literal_words w.lits)

abbrev pub core_lines : MusAnswer → List (List Word)
core_lines a = first_lines (codes "mus") a.vars a.clauses None ++ core_line a.core ∷ round_lines a.round ++ map without_line a.without
    ++ formula_lines a.texts

-- the lines as bytes, each with its byte 10
abbrev pub core_text : MusAnswer → List ℕ
core_text a = flat_map line (core_lines a)
