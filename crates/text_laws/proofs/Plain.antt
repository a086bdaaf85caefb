-- The plain text of a formula, also after lines of comments.
use Rattle.std.proofs.Common.{◌≡◌, ℕ, ◌+◌, ◌<◌, ◌≤◌, ◌^◌, ◌∙◌, true, List, [], ◌∷◌, ◌++◌, length, map, flat_map, refl, sym, ap, arith, ℤ, pos, Some, nat_le, codes, decimal}
use Rattle.std.specs.List.{list_all}
use Rattle.std.specs.Fmt.{signed_decimal}
use Rattle.std.proofs.lemmas.Bool.{and_from, leb-true}
use Rattle.std.proofs.lemmas.List.{map-append}
use Rattle.std.proofs.lemmas.List.Concat.{flat_map-append}
use Rattle.std.proofs.lemmas.List.Folds.{list_all-append}
use Rattle.lk_model.specs.Formulas.Literal.{variable, is_literal, is_distinct, is_clause}
use Rattle.lk_model.specs.Formulas.Formula.{Cnf, is_formula, IsWithinLimits}
use Rattle.lk_model.specs.Texts.Lines.{Word}
use Rattle.lk_model.specs.Texts.NumberWords.{number}
use Rattle.lk_model.specs.Texts.PlainText.{line, ended, literal_words, number_words, formula_lines}
use Rattle.lk_model.specs.Texts.Dimacs.{Spells, stated_by, without_repeats}
use Rattle.lk_model.proofs.Booleans.{and_true}
use Rattle.text_laws.specs.SpellsLaw.{PlainLaw}
use Rattle.text_laws.proofs.Words.{is_word, are_words, piece, line_words}
use Rattle.text_laws.proofs.Lines.{is_comment_line, is_content_line, joined, counted, pieces_after, behind, counted_behind, placed_lines, counted_lines, placed_words}
use Rattle.text_laws.proofs.Numbers.{decimal_word, signed_word, natural_decimal, number_spelled, signed_first}
use Rattle.text_laws.proofs.Runs.{numbers_in, runs_in, clauses_same, variables_in, nonzero_count}

-- WORDS

pub words_signed : (ls : List ℤ) → are_words (map signed_decimal ls) ≡ true
words_signed [] = refl
words_signed (l ∷ ls) = and_from (is_word (signed_decimal l)) (are_words (map signed_decimal ls)) (signed_word l) (words_signed ls)

pub words_ended : (words : List Word) → are_words words ≡ true → are_words (ended words) ≡ true
words_ended words h = list_all-append is_word words (codes "0" ∷ []) ∙ and_from (are_words words) true h refl

-- THE PROBLEM LINE

abbrev problem_words : Cnf → List Word
problem_words F = codes "p" ∷ codes "cnf" ∷ number_words (F.vars ∷ length F.clauses ∷ [])

problem_are : (F : Cnf) → are_words (problem_words F) ≡ true
problem_are F =
    and_from (is_word (decimal F.vars)) (are_words (decimal (length F.clauses) ∷ [])) (decimal_word F.vars)
    (and_from (is_word (decimal (length F.clauses))) true (decimal_word (length F.clauses)) refl)

problem_stated : (F : Cnf) → IsWithinLimits F → stated_by (problem_words F) ≡ Some (F.vars, length F.clauses)
problem_stated F limits = rw (natural_decimal F.vars (omega (arith, limits.vars)), natural_decimal (length F.clauses) (omega (arith, limits.clauses))) refl

-- CLAUSE LINES

small : (n : ℕ) (l : ℤ) → n ≤ 1000000 → is_literal n l ≡ true → variable l < 2 ^ 63
small n l most h = omega (arith, most, leb-true (variable l) n (and_true (nat_le 1 (variable l)) (nat_le (variable l) n) h).1)

clause_counts : (n : ℕ) (c : List ℤ) → n ≤ 1000000 → list_all (is_literal n) c ≡ true → is_content_line (literal_words c) ≡ true
clause_counts n [] most h = refl
clause_counts n (l ∷ c) most h =
    let fits = small n l most (and_true (is_literal n l) (list_all (is_literal n) c) h).0 in
    rw (signed_first l 99 fits refl refl, signed_first l 37 fits refl refl) (words_ended (map signed_decimal (l ∷ c)) (words_signed (l ∷ c)))

clauses_count : (n : ℕ) (clauses : List (List ℤ)) → n ≤ 1000000 → list_all (is_clause n) clauses ≡ true → list_all is_content_line (map literal_words clauses) ≡ true
clauses_count n [] most h = refl
clauses_count n (c ∷ clauses) most h =
    let p = and_true (is_clause n c) (list_all (is_clause n) clauses) h in
    let q = and_true (list_all (is_literal n) c) (is_distinct c) p.0 in
    and_from (is_content_line (literal_words c)) (list_all is_content_line (map literal_words clauses)) (clause_counts n c most q.0) (clauses_count n clauses most p.1)

clause_read : (n : ℕ) (c : List ℤ) → n ≤ 1000000 → list_all (is_literal n) c ≡ true → map number (literal_words c) ≡ map Some (c ++ pos 0 ∷ [])
clause_read n [] most h = refl
clause_read n (l ∷ c) most h =
    let p = and_true (is_literal n l) (list_all (is_literal n) c) h in
    let first = number_spelled l (small n l most p.0) in
    let rest = clause_read n c most p.1 in
    λ i. first i ∷ rest i

clauses_read : (n : ℕ) (clauses : List (List ℤ)) → n ≤ 1000000 → list_all (is_clause n) clauses ≡ true
    → map number (flat_map (λ words. words) (map literal_words clauses)) ≡ map Some (numbers_in clauses)
clauses_read n [] most h = refl
clauses_read n (c ∷ clauses) most h =
    let p = and_true (is_clause n c) (list_all (is_clause n) clauses) h in
    let q = and_true (list_all (is_literal n) c) (is_distinct c) p.0 in
    let first = clause_read n c most q.0 in
    let rest = clauses_read n clauses most p.1 in
    map-append number (literal_words c) (flat_map (λ words. words) (map literal_words clauses))
    ∙ (λ i. first i ++ rest i)
    ∙ sym (map-append Some (c ++ pos 0 ∷ []) (numbers_in clauses))

-- THE LAW

-- the lines of a formula spell it, also after comments
pub spells_behind : (comments : List (List Word)) (F : Cnf) → list_all is_comment_line comments ≡ true → is_formula F ≡ true → IsWithinLimits F
    → length (flat_map line (comments ++ formula_lines F)) ≤ 2 ^ 30 → Spells (flat_map line (comments ++ formula_lines F)) F
spells_behind comments F h f limits size =
    let n = behind 0 comments in
    let last = n + length (joined (problem_words F)) in
    let clause_lines = map literal_words F.clauses in
    let count = clauses_count F.vars F.clauses limits.vars f in
    let whole : list_all is_content_line (formula_lines F) ≡ true = and_from (is_content_line (problem_words F)) (list_all is_content_line clause_lines) (problem_are F) count in
    record {
      problem = piece (joined (problem_words F)) last;
      others = placed_lines (last + 1) clause_lines;
      numbers = numbers_in F.clauses;
      lines = ap (λ (bs : List ℕ). counted (pieces_after 0 bs)) (flat_map-append line comments (formula_lines F))
          ∙ counted_behind 0 comments (flat_map line (formula_lines F)) h ∙ counted_lines n (formula_lines F) whole;
      stated = ap stated_by (line_words (codes "p") (codes "cnf" ∷ number_words (F.vars ∷ length F.clauses ∷ [])) last (problem_are F)) ∙ problem_stated F limits;
      read = ap (map number) (placed_words (last + 1) clause_lines count) ∙ clauses_read F.vars F.clauses limits.vars f;
      clauses = sym (ap (map without_repeats) (runs_in F.vars F.clauses f) ∙ clauses_same F.vars F.clauses f);
      variables = variables_in F.vars F.clauses f;
      vars_limit = limits.vars;
      clauses_limit = limits.clauses;
      literals_limit = omega (arith, nonzero_count F.clauses, limits.literals);
      bytes_limit = size;
    }

pub plain_law : PlainLaw
plain_law F f limits size = spells_behind [] F refl f limits size
