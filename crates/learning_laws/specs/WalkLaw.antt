-- The walk back along the trail, by places.
use Rattle.std.specs.Prelude.{◌≡◌, ℕ, ◌+◌, ◌<◌, ◌≤◌, not, List, [], ◌∷◌, ◌++◌, take, length, ℤ, Some, IsTrue, IsSome}
use Rattle.lk_model.specs.Formulas.Literal.{variable, complement, mentions}
use Rattle.lk_model.specs.Chains.Chain.{Premises, without, chain_clause}
use Rattle.lk_model.specs.declared.document.Turn.{Turn}
use Rattle.watch_prop.specs.declared.entry.Propagated.TheVariants.{Conflict}
use Rattle.watch_prop.specs.Trail.{present_level, clause_numbered}
use Rattle.watch_prop.specs.Propagation.{Propagation, IsPropagation, IsAnswered}
use Rattle.learning_laws.specs.Learned.{are_false_in, IsQuietBelow, IsLearnedFor, names_held}
use Rattle.learning_laws.specs.ChainLaw.{AreNamed}
use Rattle.learning_laws.specs.PlaceLaw.{IsPlace, count_at}

-- A chain of held clauses whose clause is false by the first entries, with a literal of the present level among them where that
-- is not 0.
pub record IsWalk (p : Propagation) (from : Premises) (first : ℕ) (turns : List Turn) (c : List ℤ) (i : ℕ) : Type 0 where
  pub within : i ≤ length p.trail
  pub chain : chain_clause from first turns ≡ Some c
  pub names : IsTrue (names_held p first turns)
  pub falsified : IsTrue (are_false_in (take i p.trail) c)
  pub present : 0 < present_level p.trail → 0 < count_at (take i p.trail) (present_level p.trail) c

-- the turn that resolves with the reason of a literal
abbrev pub turn_on : ℤ → ℕ → Turn
turn_on l reason = record { lit = complement l; with = reason }

-- A walk starts after the trail with the clause of a conflict. It passes a literal whose variable the clause does not
-- contain. It resolves on one that the clause contains, if another one of the present level is left before it, or the
-- present level is 0: such a literal was forced. If no other one is left it stops at a clause that is learned, and at
-- the beginning of the trail with the empty clause, at level 0.
pub record WalkLaw : Type 0 where
  pub start : (p : Propagation) (from : Premises) (k : ℕ) (c : List ℤ) → IsPropagation p → IsQuietBelow p → AreNamed p from → IsAnswered p (Conflict k)
      → clause_numbered p.clauses k ≡ Some c → IsWalk p from k [] c (length p.trail)
  pub pass : (p : Propagation) (from : Premises) (first : ℕ) (turns : List Turn) (c : List ℤ) (i : ℕ) → IsPropagation p → (at : IsPlace p.trail i)
      → IsWalk p from first turns c (i + 1) → IsTrue (not (mentions c (variable at.entry.lit))) → IsWalk p from first turns c i
  pub forced : (p : Propagation) (c : List ℤ) (i : ℕ) → IsPropagation p → (at : IsPlace p.trail i)
      → (0 < present_level p.trail → 0 < count_at (take i p.trail) (present_level p.trail) c) → IsSome at.entry.reason
  pub resolve : (p : Propagation) (from : Premises) (first : ℕ) (turns : List Turn) (c : List ℤ) (i reason : ℕ) (d : List ℤ) → IsPropagation p → AreNamed p from
      → (at : IsPlace p.trail i) → IsWalk p from first turns c (i + 1) → IsTrue (mentions c (variable at.entry.lit))
      → (0 < present_level p.trail → 0 < count_at (take i p.trail) (present_level p.trail) c)
      → at.entry.reason ≡ Some reason → clause_numbered p.clauses reason ≡ Some d
      → IsWalk p from first (turns ++ turn_on at.entry.lit reason ∷ []) (without c (complement at.entry.lit) ++ without d at.entry.lit) i
  pub stop : (p : Propagation) (from : Premises) (first : ℕ) (turns : List Turn) (c : List ℤ) (i : ℕ) → IsPropagation p → (at : IsPlace p.trail i)
      → IsWalk p from first turns c (i + 1) → IsTrue (mentions c (variable at.entry.lit)) → 0 < present_level p.trail
      → count_at (take i p.trail) (present_level p.trail) c ≡ 0 → (level : ℕ) × IsLearnedFor p.trail c (complement at.entry.lit) level
  pub done : (p : Propagation) (from : Premises) (first : ℕ) (turns : List Turn) (c : List ℤ) → IsWalk p from first turns c 0
      → (present_level p.trail ≡ 0) × (c ≡ [])
