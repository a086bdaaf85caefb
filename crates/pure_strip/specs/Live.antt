-- Which clauses the order has not touched, by a flag for each position.
use Rattle.std.specs.Prelude.{◌≡◌, ◌≤◌, ℕ, ◌+◌, ◌*◌, ◌-◌, Bool, false, not, ◌&&◌, List, length, count_by, ℤ, IsTrue, slice_index_or}
use Rattle.lk_model.specs.Lists.{among}
use Rattle.lk_model.specs.Formulas.Literal.{is_literal, contains}
use Rattle.lk_model.specs.Formulas.Formula.{Cnf, clause_at, positions_of}
use Rattle.lk_model.specs.Formulas.Assignment.{assignment_of, touches}
use Rattle.lk_model.specs.Formulas.Lean.{all_of}
use Rattle.pure_strip.specs.Counted.{Counted, count_of}

-- the flag of a position, which counts from 1
abbrev pub is_live : List Bool → ℕ → Bool
is_live live p = slice_index_or live (p - 1) false

-- how many of the live clauses contain the literal
abbrev pub holder_count : Cnf → List Bool → ℤ → ℕ
holder_count F live l = count_by (λ p. is_live live p && contains (clause_at F p) l) (positions_of F)

-- each count is that of the live clauses that contain the literal
pub record AreCounted (F : Cnf) (live : List Bool) (c : Counted) : Type 0 where
  pub size : length live ≡ length F.clauses
  pub vars : c.vars ≡ F.vars
  pub width : length c.counts ≡ 2 * F.vars + 2
  pub counted : (l : ℤ) → IsTrue (is_literal F.vars l) → count_of c.counts l ≡ holder_count F live l

-- the live clauses are those that no literal of the order touches
pub record AreUntouched (F : Cnf) (order : List ℤ) (live : List Bool) : Type 0 where
  pub size : length live ≡ length F.clauses
  pub told : (p : ℕ) → IsTrue (all_of F p) → is_live live p ≡ not (touches (assignment_of order) (clause_at F p))

-- the flags of some positions go down, and no other
pub record GoDown (ps : List ℕ) (m : ℕ) (before after : List Bool) : Type 0 where
  pub size : length after ≡ length before
  pub down : (p : ℕ) → 1 ≤ p → p ≤ m → is_live after p ≡ (is_live before p && not (among ps p))
