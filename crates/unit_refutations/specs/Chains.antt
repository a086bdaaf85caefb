-- The way back from a false clause to the empty one.
use Rattle.std.specs.Prelude.{◌≡◌, ℕ, ◌+◌, ◌<◌, ◌≤◌, ◌==◌, ◌||◌, ◌&&◌, Bool, false, not, List, [], ◌∷◌, length, map, ℤ, Some, IsTrue}
use Rattle.std.specs.List.{list_all, list_any}
use Rattle.std.specs.Option.{option_map_or}
use Rattle.lk_model.specs.Lists.{among, is_empty}
use Rattle.lk_model.specs.Formulas.Literal.{complement}
use Rattle.lk_model.specs.Held.VariableSets.{is_in, premises_of}
use Rattle.lk_model.specs.Chains.Chain.{chain_clause}
use Rattle.lk_model.specs.declared.crossed.Crossed.{Crossed}
use Rattle.lk_model.specs.declared.document.Turn.{Turn}
use Rattle.lk_model.specs.Formulas.Formula.{clause_at}
use Rattle.lk_model.specs.Formulas.Crossed.{crossed_out}
use Rattle.unit_refutations.specs.declared.chain.Chain.{Chain}
use Rattle.unit_refutations.specs.Trails.{Came, place_of, is_false_in}

-- the place is that of the complement of a literal of the clause
abbrev pub meets : Came → List ℤ → ℕ → Bool
meets t c place = list_any (λ k. option_map_or (λ at. at == place) (place_of t (complement k)) false) c

-- the places are those before, and those of the complements of the clause's literals
abbrev pub HaveMet : Came → List ℤ → List ℕ → List ℕ → Type 0
HaveMet t c before after = (place : ℕ) → among after place ≡ (among before place || meets t c place)

-- the place is there, and none is greater
pub record IsGreatest (places : List ℕ) (top : ℕ) : Type 0 where
  pub there : IsTrue (among places top)
  pub most : (place : ℕ) → IsTrue (among places place) → place ≤ top

-- such a place is taken out once
pub record IsPopped (before : List ℕ) (top : ℕ) (after : List ℕ) : Type 0 where
  pub others : (place : ℕ) → among before place ≡ (top == place || among after place)
  pub most : (place : ℕ) → IsTrue (among after place) → place ≤ top
  pub fewer : length after + 1 ≡ length before

-- the last one of the places is taken out
pub record IsTakenOut (before : List ℕ) (last : ℕ) (after : List ℕ) : Type 0 where
  pub there : IsTrue (among before last)
  pub others : (place : ℕ) → among after place ≡ (among before place && not (place == last))
  pub below : (place : ℕ) → IsTrue (among after place) → place < last

-- the crossed clause at a position
abbrev pub clause_over : Crossed → ℕ → List ℤ
clause_over over position = crossed_out (is_in over.blocked.now) (clause_at over.formula.now position)

-- a crossed clause of the part that is false and not empty
pub record IsConflict (over : Crossed) (t : Came) (position : ℕ) : Type 0 where
  pub within : IsTrue (among over.part.now position)
  pub filled : IsTrue (not (is_empty (clause_over over position)))
  pub falsified : IsTrue (list_all (is_false_in t) (clause_over over position))

-- a position of the part whose crossed clause is not empty
abbrev pub is_filled : Crossed → ℕ → Bool
is_filled over position = among over.part.now position && not (is_empty (clause_over over position))

-- a chain that begins with the clause at a position and leads to the empty clause, with the positions that it names
pub record LeadsToEmpty (over : Crossed) (first : ℕ) (chain : Chain) : Type 0 where
  pub empty : chain_clause (premises_of over []) first chain.turns.items ≡ Some []
  pub names : chain.used ≡ first ∷ map (λ (t : Turn). t.with) chain.turns.items
  pub filled : IsTrue (list_all (is_filled over) chain.used)
