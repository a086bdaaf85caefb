-- Chains over other clauses.
use Rattle.std.specs.Prelude.{◌≡◌, ℕ, ◌∷◌, List, map, IsTrue}
use Rattle.lk_model.specs.Lists.{among}
use Rattle.lk_model.specs.Formulas.Literal.{mentions}
use Rattle.lk_model.specs.Formulas.Formula.{clause_at}
use Rattle.lk_model.specs.Held.VariableSets.{is_in}
use Rattle.lk_model.specs.Chains.Chain.{Premises, clause_named, chain_clause, names_of, states_its_clause}
use Rattle.lk_model.specs.declared.crossed.Crossed.{Crossed}
use Rattle.lk_model.specs.declared.document.Step.{Step}
use Rattle.lk_model.specs.declared.document.Turn.{Turn}
use Rattle.refutation_log.specs.Derivation.{are_chains}
use Rattle.refutation_log.specs.Numbers.{is_named}

-- Over the same formula the other one has the positions of the first that the steps name, and blocks the same variables of
-- their clauses.
pub record HasNamed (steps : List Step) (over other : Crossed) : Type 0 where
  pub formula : other.formula.now ≡ over.formula.now
  pub positions : (k : ℕ) → IsTrue (is_named steps k) → IsTrue (among over.part.now k) → IsTrue (among other.part.now k)
  pub blocked : (k v : ℕ) → IsTrue (is_named steps k) → IsTrue (among over.part.now k) → IsTrue (mentions (clause_at over.formula.now k) v)
      → is_in other.blocked.now v ≡ is_in over.blocked.now v

-- The clause of a chain, and whether a step states it, depend on nothing but the clauses that the named numbers stand for. So
-- chains over some positions are chains over others that have the named ones, with the same variables blocked in their clauses.
pub record OtherPremisesLaw : Type 0 where
  pub clause : (from to : Premises) (first : ℕ) (turns : List Turn)
      → ((k : ℕ) → IsTrue (among (first ∷ map (λ (t : Turn). t.with) turns) k) → clause_named to k ≡ clause_named from k)
      → chain_clause to first turns ≡ chain_clause from first turns
  pub stated : (from to : Premises) (s : Step) → ((k : ℕ) → IsTrue (among (names_of s) k) → clause_named to k ≡ clause_named from k)
      → states_its_clause to s ≡ states_its_clause from s
  pub chains : (over other : Crossed) (steps : List Step) → HasNamed steps over other → IsTrue (are_chains over steps) → IsTrue (are_chains other steps)
