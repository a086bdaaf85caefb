-- The chain of a learned clause: back along the trail from a clause that is false.
use Rattle.std.specs.Prelude.{◌≡◌, ◌≢◌, ℕ, ◌+◌, ◌<◌, ◌||◌, nat_lt, not, List, [], ◌∷◌, ◌++◌, length, ℤ, Some, None, IsTrue, is_some}
use Rattle.lk_model.specs.Lists.{among, is_empty}
use Rattle.lk_model.specs.Formulas.Literal.{complement, contains}
use Rattle.lk_model.specs.Held.VariableSets.{IsCrossed, premises_of}
use Rattle.lk_model.specs.Chains.Chain.{Premises, crossed_at, clause_named, without, chain_clause}
use Rattle.lk_model.specs.declared.crossed.Crossed.{Crossed}
use Rattle.lk_model.specs.declared.document.Step.{Step}
use Rattle.lk_model.specs.declared.document.Turn.{Turn}
use Rattle.refutation_log.specs.Derivation.{are_numbered}
use Rattle.watch_prop.specs.declared.entry.Entry.{Entry}
use Rattle.watch_prop.specs.declared.entry.Propagated.TheVariants.{Conflict}
use Rattle.watch_prop.specs.Trail.{present_level, clause_numbered}
use Rattle.watch_prop.specs.Propagation.{Propagation, IsPropagation, assigned, numbers_of, IsAnswered}
use Rattle.lk_model.specs.Formulas.Units.{is_false}
use Rattle.learning_laws.specs.Learned.{stands_at, are_false_in, IsQuietBelow, IsLearnedFor, HoldsAll}

-- each number of a clause that is held stands for this clause in chains
abbrev pub AreNamed : Propagation → Premises → Type 0
AreNamed p from = (k : ℕ) (c : List ℤ) → clause_numbered p.clauses k ≡ Some c → clause_named from k ≡ Some c

-- what the chain of a held clause may name: the position of a crossed clause that is not empty, or a step
pub record IsHeldName (over : Crossed) (steps : List Step) (k : ℕ) (c : List ℤ) : Type 0 where
  pub named : clause_named (premises_of over steps) k ≡ Some c
  pub filled : IsTrue (nat_lt (length over.formula.now.clauses) k || not (is_empty (crossed_at (premises_of over steps) k)))

-- The clause that forced the literal, and what its resolvent with another one leaves: what is false before the literal.
pub record IsStepBack (p : Propagation) (before : List Entry) (l : ℤ) (reason : ℕ) (c : List ℤ) : Type 0 where
  pub other : List ℤ
  pub named : clause_numbered p.clauses reason ≡ Some other
  pub holds : IsTrue (contains other l)
  pub falsified : IsTrue (are_false_in before (without c (complement l) ++ without other l))

-- a clause may be learned for some level
pub record IsLearned (trail : List Entry) (c : List ℤ) : Type 0 where
  pub literal : ℤ
  pub level : ℕ
  pub learned : IsLearnedFor trail c literal level

-- A chain begins with a clause, and one more turn is one more resolvent. The numbers of the clauses that are held stand
-- for them, and none names an empty crossed clause; the next number is new. A clause is false up to a literal of the
-- trail. If it contains the complement, it is resolved with the literal's reason, and what stands is false before the
-- literal; else it is false before the literal as it stands. If the literal was assigned, no other one of the clause is
-- of the present level. A conflict is a held clause that is false. Above level 0 such a clause has a literal of the
-- present level; at level 0 each literal has a reason, and what is false before all of them is empty. A false clause
-- with just one literal of the present level is learned for a level.
pub record ChainLaw : Type 0 where
  pub begins : (from : Premises) (k : ℕ) (c : List ℤ) → clause_named from k ≡ Some c → chain_clause from k [] ≡ Some c
  pub more : (from : Premises) (first : ℕ) (turns : List Turn) (t : Turn) (c d : List ℤ) → chain_clause from first turns ≡ Some c
      → clause_named from t.with ≡ Some d → IsTrue (contains c t.lit) → IsTrue (contains d (complement t.lit))
      → chain_clause from first (turns ++ t ∷ []) ≡ Some (without c t.lit ++ without d (complement t.lit))
  pub named : (over : Crossed) (steps : List Step) (p : Propagation) (first k : ℕ) (c : List ℤ) → IsCrossed over
      → length over.formula.now.clauses < first → IsTrue (are_numbered first steps) → HoldsAll over steps p
      → clause_numbered p.clauses k ≡ Some c → IsHeldName over steps k c
  pub fresh : (over : Crossed) (steps : List Step) (p : Propagation) (first : ℕ) → IsCrossed over
      → length over.formula.now.clauses < first → IsTrue (are_numbered first steps) → HoldsAll over steps p
      → IsTrue (not (among (numbers_of p.clauses) (first + length steps)))
  pub back : (p : Propagation) (before : List Entry) (e : Entry) (after : List Entry) (reason : ℕ) (c : List ℤ) → IsPropagation p
      → p.trail ≡ before ++ e ∷ after → e.reason ≡ Some reason → IsTrue (are_false_in (before ++ e ∷ []) c) → IsStepBack p before e.lit reason c
  pub passed : (before : List Entry) (e : Entry) (c : List ℤ) → IsTrue (are_false_in (before ++ e ∷ []) c)
      → IsTrue (not (contains c (complement e.lit))) → IsTrue (are_false_in before c)
  pub last : (p : Propagation) (before : List Entry) (e : Entry) (after : List Entry) (c : List ℤ) (k : ℤ) → IsPropagation p
      → p.trail ≡ before ++ e ∷ after → e.reason ≡ None → IsTrue (are_false_in (before ++ e ∷ []) c) → IsTrue (contains c k)
      → k ≢ complement e.lit → IsTrue (not (stands_at p.trail (present_level p.trail) k))
  pub answered : (p : Propagation) (k : ℕ) → IsAnswered p (Conflict k)
      → (c : List ℤ) × (clause_numbered p.clauses k ≡ Some c) × IsTrue (is_false (assigned p) c)
  pub conflict : (p : Propagation) (k : ℕ) (c : List ℤ) → IsPropagation p → IsQuietBelow p → 0 < present_level p.trail
      → clause_numbered p.clauses k ≡ Some c → IsTrue (is_false (assigned p) c)
      → (l : ℤ) × IsTrue (contains c l) × IsTrue (stands_at p.trail (present_level p.trail) l)
  pub falsified : (p : Propagation) (k : ℕ) (c : List ℤ) → IsPropagation p → clause_numbered p.clauses k ≡ Some c → IsTrue (is_false (assigned p) c)
      → IsTrue (are_false_in p.trail c)
  pub zero_level : (p : Propagation) (before : List Entry) (e : Entry) (after : List Entry) → IsPropagation p → present_level p.trail ≡ 0
      → p.trail ≡ before ++ e ∷ after → IsTrue (is_some e.reason)
  pub none : (c : List ℤ) → IsTrue (are_false_in [] c) → c ≡ []
  pub learned : (p : Propagation) (c : List ℤ) (u : ℤ) → IsPropagation p → 0 < present_level p.trail → IsTrue (are_false_in p.trail c)
      → IsTrue (contains c u) → IsTrue (stands_at p.trail (present_level p.trail) u)
      → ((k : ℤ) → IsTrue (contains c k) → k ≢ u → IsTrue (not (stands_at p.trail (present_level p.trail) k))) → (level : ℕ) × IsLearnedFor p.trail c u level
