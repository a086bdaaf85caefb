-- Literals and clauses. A literal is a number other than 0, as DIMACS CNF (1993) writes it: v is the variable v, and -v
-- its complement. A clause is a list of literals that is read as a set.
use Rattle.std.specs.Prelude.{ℕ, ◌+◌, ◌*◌, Bool, true, false, if◌then◌else◌, not, ◌&&◌, ◌==◌, ℤ, pos, negsuc, neg_ℤ, unsigned_abs, List, [], ◌∷◌}
use Rattle.std.specs.Ordering.{int_eq}
use Rattle.std.specs.List.{list_any, list_all}
use Rattle.lk_model.specs.Lists.{is_between}

-- the variable of a literal
abbrev pub variable : ℤ → ℕ
variable = unsigned_abs

-- the literal is the variable itself
abbrev pub is_positive : ℤ → Bool
is_positive (pos v) = true
is_positive (negsuc k) = false

-- the literal of the other sign
abbrev pub complement : ℤ → ℤ
complement = neg_ℤ

-- the literal of a variable that is true where the variable has this value
abbrev pub literal_of : ℕ → Bool → ℤ
literal_of v true = pos v
literal_of v false = neg_ℤ (pos v)

-- the rank of a literal where literals ascend by variable with the positive one first
abbrev pub rank_of : ℤ → ℕ
rank_of l = if is_positive l then 2 * variable l else 2 * variable l + 1

-- l is a literal of a variable from 1 to n
abbrev pub is_literal : ℕ → ℤ → Bool
is_literal n l = is_between 1 n (variable l)

-- the literal stands in the clause
abbrev pub contains : List ℤ → ℤ → Bool
contains c l = list_any (int_eq l) c

-- a literal of the variable stands in the clause
abbrev pub mentions : List ℤ → ℕ → Bool
mentions c v = list_any (λ l. variable l == v) c

-- no literal stands twice
abbrev pub is_distinct : List ℤ → Bool
is_distinct [] = true
is_distinct (l ∷ c) = not (contains c l) && is_distinct c

-- a clause over the variables 1 to n
abbrev pub is_clause : ℕ → List ℤ → Bool
is_clause n c = list_all (is_literal n) c && is_distinct c

-- both literals of a variable stand in the clause
abbrev pub is_tautology : List ℤ → Bool
is_tautology c = list_any (λ l. contains c (complement l)) c

-- each literal of c stands in d
abbrev pub is_within : List ℤ → List ℤ → Bool
is_within c d = list_all (contains d) c

-- the same literals, in any order
abbrev pub is_same_set : List ℤ → List ℤ → Bool
is_same_set c d = is_within c d && is_within d c

-- the same literals, in the same order
abbrev pub is_same_list : List ℤ → List ℤ → Bool
is_same_list [] [] = true
is_same_list (l ∷ c) (k ∷ d) = int_eq l k && is_same_list c d
is_same_list _ _ = false
