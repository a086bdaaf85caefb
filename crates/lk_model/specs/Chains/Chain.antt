-- Resolution chains over clauses in which the literals of blocked variables are crossed out.
use Rattle.std.specs.Prelude.{ℕ, Bool, false, not, if◌then◌else◌, ◌&&◌, ◌==◌, List, [], ◌∷◌, ◌++◌, filter, find, length, map, ℤ, Option, Some, None, option_and_then, option_map, nat_le}
use Rattle.std.specs.Option.{option_map_or}
use Rattle.std.specs.List.{list_any}
use Rattle.std.specs.Ordering.{int_eq}
use Rattle.lk_model.specs.Lists.{among, is_empty}
use Rattle.lk_model.specs.Formulas.Literal.{complement, contains, is_within, is_same_set, is_tautology}
use Rattle.lk_model.specs.Formulas.Formula.{Cnf, clause_at}
use Rattle.lk_model.specs.Formulas.Crossed.{Variables, crossed_out}
use Rattle.lk_model.specs.declared.document.Turn.{Turn}
use Rattle.lk_model.specs.declared.document.Step.{Step}

-- What a chain may name: the clauses of a formula at some positions, with the literals of blocked variables crossed out,
-- and earlier steps.
pub record Premises : Type 0 where
  pub formula : Cnf
  pub part : List ℕ
  pub blocked : Variables
  pub earlier : List Step

-- the crossed clause at a position
abbrev pub crossed_at : Premises → ℕ → List ℤ
crossed_at from p = crossed_out from.blocked (clause_at from.formula p)

-- The clause that a number stands for, if it stands for one: up to the number of clauses a position of the part, past it
-- an earlier step.
abbrev pub clause_named : Premises → ℕ → Option (List ℤ)
clause_named from k = if nat_le k (length from.formula.clauses)
    then (if among from.part k then Some (crossed_at from k) else None)
    else option_map (λ (s : Step). s.clause) (find (λ (s : Step). s.number == k) from.earlier)

-- the numbers that the chain of a step names
abbrev pub names_of : Step → List ℕ
names_of s = s.first ∷ map (λ (t : Turn). t.with) s.turns

-- the clause without a literal
abbrev pub without : List ℤ → ℤ → List ℤ
without c l = filter (λ k. not (int_eq k l)) c

-- the resolvent on t of a clause that contains t and one that contains its complement
abbrev pub resolvent : ℤ → List ℤ → List ℤ → Option (List ℤ)
resolvent t c d = if contains c t && contains d (complement t) then Some (without c t ++ without d (complement t)) else None

-- the clause after the turns, if each can be made
abbrev pub after_turns : Premises → List ℤ → List Turn → Option (List ℤ)
after_turns from c [] = Some c
after_turns from c (turn ∷ turns) =
    option_and_then (λ d. option_and_then (λ r. after_turns from r turns) (resolvent turn.lit c d)) (clause_named from turn.with)

-- the chain's clause, a list that is read as a set
abbrev pub chain_clause : Premises → ℕ → List Turn → Option (List ℤ)
chain_clause from first turns = option_and_then (λ c. after_turns from c turns) (clause_named from first)

-- the step states the clause of its chain
unfoldable pub states_its_clause : Premises → Step → Bool
states_its_clause from s = option_map_or (is_same_set s.clause) (chain_clause from s.first s.turns) false

-- A clause is learned if it is not empty, contains no two complementary literals, and contains no non-empty crossed
-- clause of the part and no clause of an earlier step.
unfoldable pub is_learned : Premises → List ℤ → Bool
is_learned from c = not (is_empty c) && not (is_tautology c)
    && not (list_any (λ p. not (is_empty (crossed_at from p)) && is_within (crossed_at from p) c) from.part)
    && not (list_any (λ (s : Step). is_within s.clause c) from.earlier)
