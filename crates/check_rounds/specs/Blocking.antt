-- The first round that blocks each variable, in a table, and the marks of what a round reaches.
use Rattle.std.specs.Prelude.{◌≡◌, ◌≤◌, ◌<◌, ◌-◌, ◌+◌, ℕ, zero, suc, Bool, true, false, if◌then◌else◌, not, ◌&&◌, nat_lt, List, [], ◌∷◌, ℤ, map, length, IsTrue, slice_index, slice_index_or}
use Rattle.std.specs.List.{list_all}
use Rattle.lk_model.specs.Lists.{among}
use Rattle.lk_model.specs.Formulas.Literal.{mentions}
use Rattle.lk_model.specs.Formulas.Formula.{Cnf, clause_at, variable_occurs}
use Rattle.lk_model.specs.Formulas.Crossed.{Variables}
use Rattle.lk_model.specs.Held.VariableSets.{is_in}
use Rattle.lk_model.specs.Chains.Rounds.{is_refutation, used_positions}
use Rattle.lk_model.specs.Documents.Form.{counts_from, is_step}
use Rattle.lk_model.specs.declared.document.Step.{Step}
use Rattle.lk_model.specs.declared.document.Round.{Round}
use Rattle.check_places.specs.Places.{is_reached}

-- the round is whole, and a clause that it uses holds the variable
abbrev pub blocks : Cnf → Round → ℕ → Bool
blocks F r v = is_refutation r.steps && variable_occurs F (used_positions F r) v

-- the first of the rounds that blocks the variable, by its number, where the numbers begin with k; the number behind the
-- last where none does
abbrev pub first_block : Cnf → ℕ → List Round → ℕ → ℕ
first_block F k [] v = k
first_block F k (r ∷ rounds) v = if blocks F r v then k else first_block F (k + 1) rounds v

-- the table has for each variable the first of the rounds that blocks it, by this number
pub record AreBlocks (F : Cnf) (k : ℕ) (rounds : List Round) (table : List ℕ) : Type 0 where
  pub size : length table ≡ F.vars
  pub told : (v : ℕ) → 1 ≤ v → v ≤ F.vars → slice_index table (v - 1) ≡ first_block F k rounds v

-- the variables whose number is below k: those that are blocked before the round k
abbrev pub is_before : ℕ → List ℕ → Variables
is_before k table zero = false
is_before k table (suc j) = nat_lt (slice_index_or table j k) k

-- the variable occurs, and its number is not below k
abbrev pub is_unblocked : ℕ → List Bool → List ℕ → ℕ → Bool
is_unblocked k occurring table v = is_in occurring v && not (is_before k table v)

-- the steps of a round in a document over n variables and m clauses: numbered one after another, from above m on
pub record AreRoundSteps (n m : ℕ) (steps : List Step) : Type 0 where
  pub first : ℕ
  pub past : m < first
  pub numbered : IsTrue (counts_from first (map (λ (s : Step). s.number) steps))
  pub form : IsTrue (list_all (is_step n) steps)

-- the number of the first step
abbrev pub first_number : List Step → ℕ
first_number [] = 0
first_number (s ∷ steps) = s.number

-- Reached are the steps of a round, numbered from `first` on, whose numbers are known; and the variables of the known
-- positions have k in the table, where the others have what they had.
pub record AreMarked (F : Cnf) (k first count : ℕ) (known before : List ℕ) (marks : List Bool) (table : List ℕ) : Type 0 where
  pub marks_size : length marks ≡ count
  pub table_size : length table ≡ F.vars
  pub marked : (i : ℕ) → i < count → is_reached marks i ≡ among known (first + i)
  pub blocked : (v : ℕ) → 1 ≤ v → v ≤ F.vars → slice_index table (v - 1) ≡ (if variable_occurs F known v then k else slice_index before (v - 1))

-- the variables of a clause have k in the table, and the others what they had
pub record BlocksClause (n k : ℕ) (clause : List ℤ) (before after : List ℕ) : Type 0 where
  pub size : length after ≡ length before
  pub told : (v : ℕ) → 1 ≤ v → v ≤ n → slice_index after (v - 1) ≡ (if mentions clause v then k else slice_index before (v - 1))

-- where a position has k in its list, the variables of its clause have k in the table; no position has less
pub record AreSeen (F : Cnf) (k : ℕ) (seen table : List ℕ) : Type 0 where
  pub size : length seen ≡ length F.clauses
  pub least : (p : ℕ) → 1 ≤ p → p ≤ length F.clauses → k ≤ slice_index seen (p - 1)
  pub told : (p : ℕ) → 1 ≤ p → p ≤ length F.clauses → slice_index seen (p - 1) ≡ k
      → (v : ℕ) → 1 ≤ v → v ≤ F.vars → mentions (clause_at F p) v ≡ true → slice_index table (v - 1) ≡ k

-- the variables that the round k blocks have k in the table, and the others what they had
pub record BlocksRound (F : Cnf) (k : ℕ) (r : Round) (before after : List ℕ) : Type 0 where
  pub size : length after ≡ length before
  pub told : (v : ℕ) → 1 ≤ v → v ≤ F.vars → slice_index after (v - 1) ≡ (if blocks F r v then k else slice_index before (v - 1))
