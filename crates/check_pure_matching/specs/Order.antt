-- The places of literals in an order, and the first place at which a clause breaks it.
use Rattle.std.specs.Prelude.{◌≡◌, ◌≤◌, ◌<◌, ℕ, ◌+◌, ◌*◌, Bool, true, false, if◌then◌else◌, not, ◌||◌, List, [], ◌∷◌, length, map, min, take, nat_le, ℤ, pos, IsTrue, slice_index, slice_index_or}
use Rattle.std.specs.Ordering.{int_eq}
use Rattle.lk_model.specs.Formulas.Literal.{complement, contains, is_literal, rank_of}

-- the first place of the literal, counted from 1; the place after the last where it stands nowhere
abbrev pub place_in : List ℤ → ℤ → ℕ
place_in [] l = 1
place_in (k ∷ order) l = (if int_eq l k then 1 else place_in order l + 1)

-- the least of the places of these literals; the place after the last where they have none
abbrev pub least_place : List ℤ → List ℤ → ℕ
least_place order [] = length order + 1
least_place order (l ∷ c) = min (place_in order l) (least_place order c)

-- The place of the first literal whose complement the clause holds, where no literal of the clause stands earlier; else the
-- place after the last.
abbrev pub broken_place : List ℤ → List ℤ → ℕ
broken_place order c =
    (if nat_le (least_place order (map complement c)) (least_place order c) then least_place order (map complement c) else length order + 1)

-- the least of them over some clauses
abbrev pub first_broken : List ℤ → List (List ℤ) → ℕ
first_broken order [] = length order + 1
first_broken order (c ∷ cs) = min (broken_place order c) (first_broken order cs)

-- the literal stands earlier in the order, or not in the set line
abbrev pub is_unsound : List ℤ → List ℤ → ℤ → Bool
is_unsound set earlier l = contains earlier l || not (contains set l)

-- The first k literals of the order are each new and in the set line, and the next one, if there is one, is not.
pub record IsSoundCount (set order : List ℤ) (k : ℕ) : Type 0 where
  pub within : k ≤ length order
  pub sound : (i : ℕ) → i < k → is_unsound set (take i order) (slice_index_or order i (pos 0)) ≡ false
  pub stops : k < length order → is_unsound set (take k order) (slice_index_or order k (pos 0)) ≡ true

-- at the rank of each literal over n variables stands its place in the order
pub record ArePlaces (n : ℕ) (order : List ℤ) (places : List ℕ) : Type 0 where
  pub size : length places ≡ 2 * n + 2
  pub told : (l : ℤ) → IsTrue (is_literal n l) → slice_index places (rank_of l) ≡ place_in order l
