-- Which variables the kept clauses hold, and which pairs they bear out.
use Rattle.std.specs.Prelude.{◌≡◌, ℕ, ◌+◌, ◌*◌, Bool, if◌then◌else◌, not, ◌&&◌, ◌||◌, ◌==◌, List, length, ℤ, pos, IsTrue, slice_index}
use Rattle.std.specs.List.{list_any}
use Rattle.std.specs.Option.{option_map_or}
use Rattle.lk_model.specs.Formulas.Literal.{variable, complement, contains, is_literal, is_positive, rank_of}
use Rattle.lk_model.specs.Formulas.Formula.{Cnf, clause_at}
use Rattle.lk_model.specs.Held.VariableSets.{is_in}
use Rattle.lk_model.specs.Documents.Documents.{pair_of}
use Rattle.lk_model.specs.declared.document.Pair.{Pair}
use Rattle.check_tables.specs.LiteralSets.{has_literal}

-- the position that the pair of a literal's variable names for the literal; 0 where there is no pair
abbrev pub named_at : List Pair → ℤ → ℕ
named_at pairs l = option_map_or (λ (q : Pair). (if is_positive l then q.with else q.against)) (pair_of pairs (variable l)) 0

-- at the rank of each literal over n variables stands that position
pub record AreNamed (n : ℕ) (pairs : List Pair) (named : List ℕ) : Type 0 where
  pub size : length named ≡ 2 * n + 2
  pub told : (l : ℤ) → IsTrue (is_literal n l) → slice_index named (rank_of l) ≡ named_at pairs l

-- one of the positions is that one, and its clause holds the literal
abbrev pub is_shown : Cnf → List ℕ → ℕ → ℤ → Bool
is_shown F ps named l = list_any (λ p. p == named && contains (clause_at F p) l) ps

-- the literals whose named position is one of these and holds them
pub record AreShown (F : Cnf) (ps named : List ℕ) (shown : List Bool) : Type 0 where
  pub size : length shown ≡ 2 * F.vars + 2
  pub told : (l : ℤ) → IsTrue (is_literal F.vars l) → has_literal shown l ≡ is_shown F ps (slice_index named (rank_of l)) l

-- the literals of the clause at one position more whose named position that is
pub record NotesLiterals (n : ℕ) (clause : List ℤ) (position : ℕ) (named : List ℕ) (before after : List Bool) : Type 0 where
  pub size : length after ≡ length before
  pub noted : (l : ℤ) → IsTrue (is_literal n l) → has_literal after l ≡ (has_literal before l || (position == slice_index named (rank_of l) && contains clause l))

-- The variable has no pair and occurs; or it has one and does not occur, or a literal of it is not shown.
abbrev pub is_bad_at : List ℕ → List Bool → List Bool → ℕ → Bool
is_bad_at named occurring shown v = if slice_index named (rank_of (pos v)) == 0
    then is_in occurring v
    else not (is_in occurring v) || not (has_literal shown (pos v)) || not (has_literal shown (complement (pos v)))
