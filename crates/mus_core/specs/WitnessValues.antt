-- Witnesses for places of a refuted set.
use Rattle.std.specs.Prelude.{length, ◌≡◌, ℕ, ◌-◌, Bool, not, ◌&&◌, List, [], ◌∷◌, ⊤, ℤ, Option, Some, None, is_some, slice_index_or, IfSome, IsTrue}
use Rattle.std.specs.Option.{option_map_or}
use Rattle.lk_model.specs.Lists.{among}
use Rattle.lk_model.specs.Formulas.Formula.{Cnf}
use Rattle.lk_model.specs.Formulas.Crossed.{Variables}
use Rattle.lk_model.specs.Formulas.Autarky.{Positions}
use Rattle.lk_model.specs.Formulas.Minimal.{all_but}
use Rattle.lk_model.specs.Held.PartialValues.{assignment_by}
use Rattle.lk_model.specs.Formulas.Assignment.{IsModel}
use Rattle.lk_model.specs.declared.document.Without.{Without}
use Rattle.general_kernel.specs.SetLiterals.{literals_on}
use Rattle.renaming_laws.specs.Renaming.{nth}
use Rattle.part_copy.specs.Copies.{Copy, AreTold}

-- the values for a place, where there are some
abbrev pub witness_at : List (Option (List (Option Bool))) → ℕ → Option (List (Option Bool))
witness_at ws p = slice_index_or ws (p - 1) None

-- the true literals of values, on some of the variables from 1 to n
abbrev pub literals_of : ℕ → Variables → List (Option Bool) → List ℤ
literals_of n on values = literals_on on (assignment_by values) n

-- those of the values for a place
abbrev pub literals_at : ℕ → Variables → List (Option (List (Option Bool))) → ℕ → List ℤ
literals_at n on ws p = option_map_or (literals_of n on) (witness_at ws p) []

-- The line of a place: its position, and those literals, in the formula's numbers.
pub record IsLine (c : Copy) (on : Variables) (ws : List (Option (List (Option Bool)))) (p : ℕ) (w : Without) : Type 0 where
  pub pos : w.pos ≡ nth c.part p
  pub lits : AreTold c (literals_at c.clauses.vars on ws p) w.lits

-- one for each of these places
abbrev pub AreLines : Copy → Variables → List (Option (List (Option Bool))) → List ℕ → List Without → Type 0
AreLines c on ws [] [] = ⊤
AreLines c on ws (p ∷ places) (w ∷ lines) = IsLine c on ws p w × AreLines c on ws places lines
AreLines c on ws _ _ = ⊥

-- values for places, of all variables; those for a place of the set satisfy the clauses at all others of it
pub record AreHeld (F : Cnf) (S : Positions) (ws : List (Option (List (Option Bool)))) : Type 0 where
  pub size : length ws ≡ length F.clauses
  pub vars : (p : ℕ) → IfSome (witness_at ws p) (λ values. length values ≡ F.vars)
  pub witnesses : (p : ℕ) (values : List (Option Bool)) → IsTrue (S p) → witness_at ws p ≡ Some values
      → IsModel F (all_but S p) (assignment_by values)

-- other values are held, and no place has lost its own
pub record IsRotated (F : Cnf) (S : Positions) (ws us : List (Option (List (Option Bool)))) : Type 0 where
  pub held : AreHeld F S us
  pub kept : (p : ℕ) → IsTrue (is_some (witness_at ws p)) → IsTrue (is_some (witness_at us p))

-- a place of the set without a witness
abbrev pub is_open : List ℕ → List (Option (List (Option Bool))) → ℕ → Bool
is_open places ws p = among places p && not (is_some (witness_at ws p))
