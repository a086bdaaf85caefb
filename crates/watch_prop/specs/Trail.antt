-- Trails of unit propagation with decision levels: the literals that are true, in the order in which they came.
use Rattle.std.specs.Prelude.{ℕ, ◌+◌, Bool, true, false, not, ◌&&◌, ◌||◌, ◌==◌, nat_le, List, [], ◌∷◌, ◌++◌, if◌then◌else◌, map, filter, find, ℤ, Option, Some, is_some, option_map, option_and_then}
use Rattle.std.specs.List.{list_all}
use Rattle.std.specs.Ordering.{int_eq}
use Rattle.std.specs.Option.{option_map_or}
use Rattle.lk_model.specs.Lists.{with_earlier}
use Rattle.lk_model.specs.Formulas.Literal.{variable, complement, contains, is_positive, is_literal}
use Rattle.lk_model.specs.Formulas.Assignment.{Assignment}
use Rattle.watch_prop.specs.declared.entry.Entry.{Entry}
use Rattle.watch_prop.specs.declared.entry.NumberedClause.{NumberedClause}

-- the literals of a trail
abbrev pub literals_of : List Entry → List ℤ
literals_of trail = map (λ (e : Entry). e.lit) trail

-- a literal is true, or its complement is
abbrev pub true_in : List Entry → ℤ → Bool
true_in trail l = contains (literals_of trail) l

abbrev pub false_in : List Entry → ℤ → Bool
false_in trail l = contains (literals_of trail) (complement l)

-- where a variable stands on it
abbrev pub entry_of : List Entry → ℕ → Option Entry
entry_of trail v = find (λ (e : Entry). variable e.lit == v) trail

-- the assignment that makes its literals true
abbrev pub assignment_along : List Entry → Assignment
assignment_along trail v = option_map (λ (e : Entry). is_positive e.lit) (entry_of trail v)

abbrev pub level_of : List Entry → ℕ → Option ℕ
level_of trail v = option_map (λ (e : Entry). e.level) (entry_of trail v)

-- the number of the clause that forced a variable
abbrev pub reason_of : List Entry → ℕ → Option ℕ
reason_of trail v = option_and_then (λ (e : Entry). e.reason) (entry_of trail v)

-- the level of the last literal, 0 before the first
abbrev pub present_level : List Entry → ℕ
present_level [] = 0
present_level (e ∷ []) = e.level
present_level (e ∷ f ∷ later) = present_level (f ∷ later)

-- what stands at most at a level
abbrev pub up_to_level : ℕ → List Entry → List Entry
up_to_level level trail = filter (λ (e : Entry). nat_le e.level level) trail

-- each level is that of the literal before, and one more exactly where the literal was assigned
abbrev pub is_level_after : ℕ → Entry → Bool
is_level_after before e = option_map_or (λ _. e.level == before) e.reason (e.level == before + 1)

-- an entry that may come after the earlier ones: its variable is unset, and its level fits
abbrev pub may_come : ℕ → List Entry → Entry → Bool
may_come vars earlier e = is_literal vars e.lit && not (is_some (entry_of earlier (variable e.lit)))
    && is_level_after (present_level earlier) e

-- each entry may come after those before it
unfoldable pub is_path : ℕ → List Entry → Bool
is_path vars trail = list_all (λ (earlier, e). may_come vars earlier e) (with_earlier [] trail)

-- entries over a number of variables
pub record Path : Type 0 where
  pub vars : ℕ
  pub entries : List Entry

-- the entry of a literal that the clause of a number forces at the present level
abbrev pub forced_entry : List Entry → ℤ → ℕ → Entry
forced_entry trail l number = record { lit = l; level = present_level trail; reason = Some number }

-- with it, if the literal is not true yet
abbrev pub with_forced : Path → ℤ → ℕ → Path
with_forced path l number = if true_in path.entries l then path else record path { entries = path.entries ++ forced_entry path.entries l number ∷ [] }

-- the literals of the clause of a number
abbrev pub clause_numbered : List NumberedClause → ℕ → Option (List ℤ)
clause_numbered clauses k = option_map (λ (c : NumberedClause). c.lits) (find (λ (c : NumberedClause). c.number == k) clauses)

-- the clause contains the literal, and each other literal of it is the complement of an earlier one
abbrev pub forces : List ℤ → List Entry → ℤ → Bool
forces c earlier l = contains c l && list_all (λ k. int_eq k l || contains (literals_of earlier) (complement k)) c

-- the literal was assigned, or has a reason that forced it
abbrev pub has_reason : List NumberedClause → List Entry → Entry → Bool
has_reason clauses earlier e =
    option_map_or (λ k. option_map_or (λ c. forces c earlier e.lit) (clause_numbered clauses k) false) e.reason true

-- an entry that may follow the earlier ones: it may come after them, and has a reason among the clauses if it was forced
abbrev pub may_follow : ℕ → List NumberedClause → List Entry → Entry → Bool
may_follow vars clauses earlier e = may_come vars earlier e && has_reason clauses earlier e

-- each entry may follow those before it
unfoldable pub is_trail : ℕ → List NumberedClause → List Entry → Bool
is_trail vars clauses trail = list_all (λ (earlier, e). may_follow vars clauses earlier e) (with_earlier [] trail)
