-- What tables say of the lines of a matching document.
use Rattle.std.specs.Prelude.{◌≡◌, ◌≤◌, ◌-◌, ◌+◌, ℕ, Bool, false, if◌then◌else◌, not, ◌&&◌, ◌||◌, ◌==◌, nat_lt, List, [], ◌∷◌, length, max, ℤ, Option, Some, None, slice_index, slice_index_or}
use Rattle.std.specs.List.{list_any}
use Rattle.std.specs.Option.{option_map_or}
use Rattle.lk_model.specs.Formulas.Literal.{mentions}
use Rattle.lk_model.specs.Formulas.Formula.{Cnf, clause_at}
use Rattle.lk_model.specs.Held.VariableSets.{is_in}
use Rattle.lk_model.specs.Checks.Check.{line_fails}
use Rattle.lk_model.specs.declared.document.Own.{Own}
use Rattle.lk_model.specs.declared.document.MatchRow.{MatchRow}
use Rattle.kernel_laws.specs.FirstTables.{IsFirstTable}
use Rattle.check_places.specs.Places.{is_misranked}

-- OWN LINES, over m positions and n variables

-- the variable of each position; 0 where the position has no line
abbrev pub AreOwners : ℕ → List Own → List ℕ → Type 0
AreOwners m own table = IsFirstTable m (λ (o : Own). o.pos) (λ (o : Own). o.var) 0 0 own table

-- the first position with each variable; the last of all where none has it
abbrev pub AreFirstOwners : ℕ → ℕ → List Own → List ℕ → Type 0
AreFirstOwners n m own table = IsFirstTable n (λ (o : Own). o.var) (λ (o : Own). o.pos) 0 m own table

-- ROWS, over n variables and m positions

-- the row of each variable
abbrev pub AreRows : ℕ → List MatchRow → List (Option MatchRow) → Type 0
AreRows n rows table = IsFirstTable n (λ (r : MatchRow). r.var) (λ (r : MatchRow). Some r) None None rows table

-- the first variable with each own position; the last of all where none has it
abbrev pub AreFirstRows : ℕ → ℕ → List MatchRow → List ℕ → Type 0
AreFirstRows m n rows table = IsFirstTable m (λ (r : MatchRow). r.own) (λ (r : MatchRow). r.var) 0 n rows table

-- one more than the greatest rank of the rows with this own position; 0 if there is none
abbrev pub rank_bound : List MatchRow → ℕ → ℕ
rank_bound [] p = 0
rank_bound (r ∷ rows) p = if r.own == p then max (rank_bound rows p) (r.rank + 1) else rank_bound rows p

pub record AreRankBounds (m : ℕ) (rows : List MatchRow) (table : List ℕ) : Type 0 where
  pub size_is : length table ≡ m
  pub told : (p : ℕ) → 1 ≤ p → p ≤ m → slice_index table (p - 1) ≡ rank_bound rows p

-- the row names this position: as its own, or as its escape
abbrev pub has_own : Option MatchRow → ℕ → Bool
has_own row p = option_map_or (λ (r : MatchRow). p == r.own) row false

abbrev pub has_escape : Option MatchRow → ℕ → Bool
has_escape row p = option_map_or (λ (r : MatchRow). p == r.escape) row false

-- the row of a variable in a table
abbrev pub row_in : List (Option MatchRow) → ℕ → Option MatchRow
row_in table v = slice_index_or table (v - 1) None

-- the variables that occur at one of the positions with a row that names it by the test
pub record AreNamedThere (F : Cnf) (ps : List ℕ) (table : List (Option MatchRow)) (names : Option MatchRow → ℕ → Bool) (set : List Bool) : Type 0 where
  pub size : length set ≡ F.vars
  pub told : (v : ℕ) → 1 ≤ v → v ≤ F.vars → is_in set v ≡ list_any (λ p. names (row_in table v) p && mentions (clause_at F p) v) ps

-- the set, with those of the variables of the clause at one position more that have such a row
pub record NotesNamed (n : ℕ) (clause : List ℤ) (position : ℕ) (table : List (Option MatchRow)) (names : Option MatchRow → ℕ → Bool) (before after : List Bool) : Type 0 where
  pub size : length after ≡ length before
  pub noted : (v : ℕ) → 1 ≤ v → v ≤ n → is_in after v ≡ (is_in before v || (names (row_in table v) position && mentions clause v))

-- The variable has no row and occurs; or it has one and does not occur, or its own position or its escape is no kept clause
-- with it, or an earlier row has the own position, or the escape is the own position of a row whose rank is not lower.
abbrev pub is_bad_row : List (Option MatchRow) → List ℕ → List ℕ → List Bool → List Bool → List Bool → ℕ → Bool
is_bad_row table first bounds occurring own escape v = line_fails (is_in occurring v) (row_in table v) (λ (r : MatchRow).
    not (is_in own v) || not (is_in escape v) || nat_lt (slice_index first (r.own - 1)) v || is_misranked bounds r.rank r.escape)
