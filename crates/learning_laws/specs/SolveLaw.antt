-- A solver that learns: what it holds at each step, and what each step asks.
use Rattle.std.specs.Prelude.{◌≡◌, ℕ, ◌^◌, ◌<◌, Bool, not, ◌||◌, nat_lt, List, [], filter, length, ℤ, Some, IsTrue, IsNone}
use Rattle.std.specs.List.{list_all}
use Rattle.lk_model.specs.Lists.{among, is_empty, with_earlier}
use Rattle.lk_model.specs.Formulas.Literal.{variable, is_literal, is_distinct, is_same_set}
use Rattle.lk_model.specs.Formulas.Formula.{is_formula}
use Rattle.lk_model.specs.Held.VariableSets.{IsCrossed, premises_of}
use Rattle.lk_model.specs.Chains.Chain.{names_of, chain_clause, is_learned}
use Rattle.lk_model.specs.Chains.Rounds.{is_refutation}
use Rattle.lk_model.specs.declared.crossed.Crossed.{Crossed}
use Rattle.lk_model.specs.declared.document.Step.{Step}
use Rattle.lk_model.specs.declared.document.Turn.{Turn}
use Rattle.refutation_log.specs.Derivation.{Derivation, next_number, are_chains, IsDerivation, Extends}
use Rattle.watch_prop.specs.Propagation.{Propagation, IsPropagation, GoesOn, assigned, is_quiet, crossed_clauses, numbers_of, with_held, with_assigned, back_at, may_be_held}
use Rattle.learning_laws.specs.Learned.{IsQuietBelow, IsLearnedFor, HoldsAll, names_held}
use Rattle.learning_laws.specs.ModelLaw.{is_open, clause_over, IsOpen}

-- each position that a chain names has a crossed clause that is not empty
abbrev pub names_filled : Crossed → List Step → Bool
names_filled over steps = list_all
    (λ (s : Step). list_all (λ k. nat_lt (length over.formula.now.clauses) k || not (is_empty (clause_over over k))) (names_of s))
    steps

-- each step with a clause that is not empty has learned it
unfoldable pub all_learned : Crossed → List Step → Bool
all_learned over steps = list_all (λ (earlier, s). is_empty s.clause || is_learned (premises_of over earlier) s.clause) (with_earlier [] steps)

-- chains over the crossed clauses whose clauses are learned
pub record IsRoundOver (over : Crossed) (d : Derivation) : Type 0 where
  pub past : length over.formula.now.clauses < d.first
  pub form : IsDerivation d.first d.steps
  pub chains : IsTrue (are_chains over d.steps)
  pub names : IsTrue (names_filled over d.steps)
  pub learned : IsTrue (all_learned over d.steps)

-- what a solver holds
pub record IsSolving (over : Crossed) (d : Derivation) (p : Propagation) : Type 0 where
  pub round : IsRoundOver over d
  pub held : IsPropagation p
  pub vars : p.vars ≡ over.formula.now.vars
  pub clauses : HoldsAll over d.steps p
  pub quiet : IsQuietBelow p
  pub no_blocked : IsOpen over p
  pub filled : IsTrue (list_all (λ (s : Step). not (is_empty s.clause)) d.steps)

-- a solver that has learned a clause and gone back to its level: the clause may be held, under the number of its step
pub record HasLearned (over : Crossed) (d : Derivation) (p : Propagation) (number level : ℕ) (c : List ℤ) : Type 0 where
  pub may_hold : IsTrue (may_be_held p.vars c)
  pub fresh : IsTrue (not (among (numbers_of p.clauses) number))
  pub solving : IsSolving over d (with_held (back_at p level) number c)

-- A solver begins with the crossed clauses and no step. It assigns unset literals of variables that are not blocked where all
-- is quiet, and propagates. A chain of held clauses with a learned clause extends its log, and it goes on after the return to
-- the level that the clause is learned for. A chain with the empty clause makes the log a refutation. What extends a log states
-- the clause of its chain in order. Fewer than 3^n clauses are learned.
pub record SolveLaw : Type 0 where
  pub start : (over : Crossed) (d : Derivation) (p : Propagation) → length over.formula.now.clauses < d.first → d.steps ≡ [] → IsPropagation p
      → p.vars ≡ over.formula.now.vars → p.clauses ≡ crossed_clauses over → p.trail ≡ [] → IsSolving over d p
  pub assigns : (over : Crossed) (d : Derivation) (p : Propagation) (l : ℤ) → IsSolving over d p → IsTrue (is_quiet (assigned p) p.clauses)
      → IsTrue (is_literal p.vars l) → IsNone (assigned p (variable l)) → IsTrue (is_open over l) → IsSolving over d (with_assigned p l)
  pub goes_on : (over : Crossed) (d : Derivation) (p q : Propagation) → IsSolving over d p → GoesOn p q → IsPropagation q → IsSolving over d q
  pub learns : (over : Crossed) (d d' : Derivation) (p : Propagation) (first : ℕ) (turns : List Turn) (c : List ℤ) (u : ℤ) (level : ℕ) → IsCrossed over
      → IsSolving over d p → (e : Extends over d first turns d') → IsTrue (names_held p first turns)
      → chain_clause (premises_of over d.steps) first turns ≡ Some c → IsLearnedFor p.trail c u level
      → HasLearned over d' p (next_number d) level e.clause
  pub refutes : (over : Crossed) (d d' : Derivation) (p : Propagation) (first : ℕ) (turns : List Turn) → IsCrossed over
      → IsSolving over d p → Extends over d first turns d' → IsTrue (names_held p first turns)
      → chain_clause (premises_of over d.steps) first turns ≡ Some [] → IsRoundOver over d' × IsTrue (is_refutation d'.steps)
  pub states : (over : Crossed) (d d' : Derivation) (first : ℕ) (turns : List Turn) (c : List ℤ) → (e : Extends over d first turns d')
      → chain_clause (premises_of over d.steps) first turns ≡ Some c → IsTrue (is_same_set c e.clause) × IsTrue (is_distinct e.clause)
  pub few : (over : Crossed) (d : Derivation) (p : Propagation) → IsTrue (is_formula over.formula.now) → IsSolving over d p
      → length d.steps < 3 ^ over.formula.now.vars
  pub few_of_round : (over : Crossed) (d : Derivation) → IsTrue (is_formula over.formula.now) → IsRoundOver over d
      → length (filter (λ (s : Step). not (is_empty s.clause)) d.steps) < 3 ^ over.formula.now.vars
