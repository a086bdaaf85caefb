-- The formula of a number, from 0 to 2^64 - 1: 400 clauses over the variables from 1 to 200, which are lean, and 6,000 drawn
-- ones, each of which has a positive literal on a later variable.
use Rattle.std.specs.Prelude.{ℕ, zero, suc, ◌+◌, ◌-◌, ◌*◌, ◌%◌, if◌then◌else◌, ◌==◌, List, [], ◌∷◌, ◌++◌, flat_map, ℤ, pos, neg_ℤ}
use Rattle.lk_model.specs.Lists.{up_to}
use Rattle.lk_model.specs.Formulas.Literal.{literal_of, mentions, variable}
use Rattle.lk_model.specs.Formulas.Formula.{Cnf}
use Rattle.rand_pcg.specs.Lcg.{Lcg, started, increment_of}
use Rattle.rand_pcg.specs.Pcg.{pcg32, multiplier_64}

-- THE FIRST CLAUSES

-- the four clauses over two variables
abbrev pub four_clauses : ℕ → ℕ → List (List ℤ)
four_clauses a b = (pos a ∷ pos b ∷ []) ∷ (pos a ∷ neg_ℤ (pos b) ∷ []) ∷ (neg_ℤ (pos a) ∷ pos b ∷ []) ∷ (neg_ℤ (pos a) ∷ neg_ℤ (pos b) ∷ []) ∷ []

-- the four clauses over the variables 2i - 1 and 2i
abbrev pub clauses_of_pair : ℕ → List (List ℤ)
clauses_of_pair i = four_clauses (2 * i - 1) (2 * i)

-- the clauses of the first `pairs` pairs
unfoldable pub first_clauses : ℕ → List (List ℤ)
first_clauses pairs = flat_map clauses_of_pair (up_to pairs)

-- THE DRAWN CLAUSES

-- the next word of a generator, and the generator after it
unfoldable pub word : Lcg → ℕ
word g = (pcg32 g).0

unfoldable pub rest : Lcg → Lcg
rest g = (pcg32 g).1

-- a literal after the others, unless the clause has a literal of its variable
abbrev pub with_literal : List ℤ → ℤ → List ℤ
with_literal c l = if mentions c (variable l) then c else c ++ l ∷ []

-- a variable past the first 200, by one word
abbrev pub drawn_variable : Lcg → ℤ
drawn_variable g = pos (201 + word g % 2000)

-- a literal of any variable, by two words: the second one gives the sign
abbrev pub drawn_literal : Lcg → ℤ
drawn_literal g = literal_of (1 + word g % 2200) (word (rest g) % 2 == 0)

-- a clause, by five words
unfoldable pub drawn_clause : Lcg → List ℤ
drawn_clause g = with_literal (with_literal (drawn_variable g ∷ []) (drawn_literal (rest g))) (drawn_literal (rest (rest (rest g))))

unfoldable pub after_clause : Lcg → Lcg
after_clause g = rest (rest (rest (rest (rest g))))

-- as many clauses as the number says, one after another
unfoldable pub drawn_clauses : ℕ → Lcg → List (List ℤ)
drawn_clauses zero g = []
drawn_clauses (suc n) g = drawn_clause g ∷ drawn_clauses n (after_clause g)

-- THE FORMULA

-- the generator of the seed: PCG XSH RR 64/32 (O'Neill), stream 1
abbrev pub generator : ℕ → Lcg
generator seed = started 64 multiplier_64 seed (increment_of 64 1)

unfoldable pub demo_formula : ℕ → Cnf
demo_formula seed = record { vars = 2200; clauses = first_clauses 100 ++ drawn_clauses 6000 (generator seed) }
