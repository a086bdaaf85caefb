-- A refutation without the steps that its last one does not need.
use Rattle.std.specs.Prelude.{◌≡◌, ℕ, ◌+◌, ◌==◌, ◌||◌, ◌≤◌, Bool, true, not, ◌&&◌, nat_lt, nat_le, ◌<◌, IsTrue, List, [], ◌∷◌, length, map, filter, position}
use Rattle.std.specs.List.{list_all}
use Rattle.std.specs.Option.{option_map_or}
use Rattle.lk_model.specs.Lists.{among, is_empty}
use Rattle.lk_model.specs.Chains.Chain.{names_of}
use Rattle.lk_model.specs.Chains.Rounds.{reached, is_refutation, used_positions, names_within, is_trimmed}
use Rattle.lk_model.specs.Held.VariableSets.{IsCrossed}
use Rattle.lk_model.specs.declared.crossed.Crossed.{Crossed}
use Rattle.lk_model.specs.declared.document.Step.{Step}
use Rattle.lk_model.specs.declared.document.Turn.{Turn}
use Rattle.refutation_log.specs.Derivation.{IsDerivation, are_chains}

-- the steps that are reached backwards from the last one
abbrev pub reached_steps : List Step → List Step
reached_steps steps = filter (λ (s : Step). among (reached steps) s.number) steps

-- The number at which one of the kept steps stands when they are numbered from `next`. The number of a position stays.
abbrev pub new_number : List ℕ → ℕ → ℕ → ℕ
new_number kept next k = option_map_or (λ place. next + place) (position (λ n. n == k) kept) k

abbrev pub with_numbers : (ℕ → ℕ) → Step → Step
with_numbers number s = record {
  number = number s.number;
  clause = s.clause;
  first = number s.first;
  turns = map (λ (t : Turn). record { lit = t.lit; with = number t.with }) s.turns;
}

-- the reached steps, in their order, numbered from `next`
unfoldable pub trimmed : ℕ → List Step → List Step
trimmed next steps =
    let kept = reached_steps steps in map (with_numbers (new_number (map (λ (s : Step). s.number) kept) next)) kept

-- every position that a chain names is below a number; what is not below `first` is a step
abbrev pub names_positions_below : ℕ → ℕ → List Step → Bool
names_positions_below bound first steps =
    list_all (λ (s : Step). list_all (λ k. nat_lt k bound || nat_le first k) (names_of s)) steps

-- each clause before the last one has a literal
abbrev pub are_filled_before_last : List Step → Bool
are_filled_before_last [] = true
are_filled_before_last (s ∷ []) = true
are_filled_before_last (s ∷ t ∷ later) = not (is_empty s.clause) && are_filled_before_last (t ∷ later)

-- how many steps have a clause with a literal
abbrev pub count_filled : List Step → ℕ
count_filled steps = length (filter (λ (s : Step). not (is_empty s.clause)) steps)

-- Trimmed steps refute by chains over the same clauses, and use the same of them. Their clauses are those of the reached
-- steps, so they have no more clauses with a literal, and none without one before the last if there was none. Of the positions
-- their chains name only those that are used, and each of them is reached from the last one.
pub record TrimsTo (over : Crossed) (next : ℕ) (steps after : List Step) : Type 0 where
  pub derivation : IsDerivation next after
  pub shorter : length after ≤ length steps
  pub chains : IsTrue (are_chains over after)
  pub refutation : IsTrue (is_refutation after)
  pub positions : used_positions over.formula.now (record { steps = after }) ≡ used_positions over.formula.now (record { steps = steps })
  pub names : IsCrossed over → IsTrue (names_within over.formula.now (used_positions over.formula.now (record { steps = steps })) (record { steps = after } ∷ []))
  pub clauses : map (λ (s : Step). s.clause) after ≡ map (λ (s : Step). s.clause) (reached_steps steps)
  pub filled : IsTrue (are_filled_before_last steps) → IsTrue (are_filled_before_last after)
  pub fewer : count_filled after ≤ count_filled steps
  pub needed : IsTrue (is_trimmed (record { steps = after }))

-- a refutation whose new numbers are above those of the formula's clauses
abbrev pub TrimmedLaw : Type 0
TrimmedLaw = (over : Crossed) (first next : ℕ) (steps : List Step) → IsDerivation first steps
    → IsTrue (are_chains over steps) → IsTrue (is_refutation steps)
    → length over.formula.now.clauses < next → next ≤ first → TrimsTo over next steps (trimmed next steps)
