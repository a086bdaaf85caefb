-- What is asked of one place.
use Rattle.std.specs.Prelude.{ℕ, ◌-◌, ◌+◌, Bool, false, length, if◌then◌else◌, not, ◌&&◌, ◌||◌, ◌==◌, nat_lt, List, ℤ, Option, None, slice_index, slice_index_or}
use Rattle.std.specs.List.{list_any}
use Rattle.lk_model.specs.Formulas.Literal.{variable}
use Rattle.lk_model.specs.Formulas.Assignment.{Assignment, makes_true, touches}
use Rattle.lk_model.specs.Checks.Check.{line_fails}
use Rattle.check_places.specs.Flags.{is_flagged}

-- a kept clause is touched, or one that is not kept is not
abbrev pub is_misplaced : Assignment → Bool → List ℤ → Bool
is_misplaced φ kept clause = if kept then touches φ clause else not (touches φ clause)

-- the clause contains a literal on the variable that is true
abbrev pub holds_true : Assignment → ℕ → List ℤ → Bool
holds_true φ v clause = list_any (λ l. makes_true φ l && (variable l == v)) clause

-- The position has no line and is not kept; or it has one and is kept, or no literal on its variable is true, or an earlier
-- position has the variable.
abbrev pub is_bad_owner : Assignment → List Bool → List ℕ → List ℕ → ℕ → List ℤ → Bool
is_bad_owner φ kept owners first p clause = if slice_index owners (p - 1) == 0
    then not (is_flagged kept p)
    else is_flagged kept p || not (holds_true φ (slice_index owners (p - 1)) clause) || nat_lt (slice_index first (slice_index owners (p - 1) - 1)) p

-- A row of this rank has this escape, which is the own position of a row whose rank is not lower: each position's bound is one
-- more than the greatest rank of the rows with this own position.
abbrev pub is_misranked : List ℕ → ℕ → ℕ → Bool
is_misranked bounds rank escape = nat_lt rank (slice_index bounds (escape - 1))

-- the position is kept and has no dual, or has one and is not kept, or one below 1
abbrev pub is_bad_dual : List Bool → List (Option Bool) → ℕ → Bool
is_bad_dual kept table p = line_fails (is_flagged kept p) (slice_index_or table (p - 1) None) not

-- the step is the last one, or has a mark
abbrev pub is_reached : List Bool → ℕ → Bool
is_reached marks i = (i + 1 == length marks) || slice_index_or marks i false
