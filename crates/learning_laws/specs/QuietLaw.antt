-- What a solver knows below the present level, and why what it learns is new.
use Rattle.std.specs.Prelude.{◌≡◌, ℕ, ◌≤◌, not, List, [], ℤ, IsTrue}
use Rattle.std.specs.List.{list_all}
use Rattle.lk_model.specs.Formulas.Literal.{is_distinct, is_within, is_same_set, is_tautology}
use Rattle.lk_model.specs.Held.VariableSets.{premises_of}
use Rattle.lk_model.specs.Chains.Chain.{is_learned}
use Rattle.lk_model.specs.declared.crossed.Crossed.{Crossed}
use Rattle.lk_model.specs.declared.document.Step.{Step}
use Rattle.watch_prop.specs.declared.entry.Entry.{Entry}
use Rattle.watch_prop.specs.declared.entry.NumberedClause.{NumberedClause}
use Rattle.watch_prop.specs.Trail.{present_level}
use Rattle.watch_prop.specs.Propagation.{Propagation, IsPropagation, GoesOn, assigned, is_quiet, with_held, with_assigned, back_at, may_be_held}
use Rattle.learning_laws.specs.Learned.{are_false_in, IsQuietBelow, IsLearnedFor, HoldsAll}

-- An empty trail has nothing below. A literal that is assigned where all is quiet keeps it so, and so does what clauses force
-- at the present level, a return to a level, and a learned clause that is held after the return to the level that it is
-- learned for. So a learned clause contains no clause that is held. It contains no complementary pair, may be held, and
-- is learned for the round. Clauses with the same literals are learned together.
pub record QuietLaw : Type 0 where
  pub start : (p : Propagation) → p.trail ≡ [] → IsQuietBelow p
  pub assigns : (p : Propagation) (l : ℤ) → IsPropagation p → IsTrue (is_quiet (assigned p) p.clauses) → IsQuietBelow p → IsQuietBelow (with_assigned p l)
  pub goes_on : (p q : Propagation) → GoesOn p q → IsQuietBelow p → IsQuietBelow q
  pub back : (p : Propagation) (level : ℕ) → IsPropagation p → level ≤ present_level p.trail → IsQuietBelow p → IsQuietBelow (back_at p level)
  pub learns : (p : Propagation) (c : List ℤ) (u : ℤ) (number level : ℕ) → IsPropagation p → IsQuietBelow p → IsLearnedFor p.trail c u level
      → IsQuietBelow (with_held (back_at p level) number c)
  pub new : (p : Propagation) (c : List ℤ) (u : ℤ) (level : ℕ) → IsPropagation p → IsQuietBelow p → IsLearnedFor p.trail c u level
      → IsTrue (list_all (λ (d : NumberedClause). not (is_within d.lits c)) p.clauses)
  pub apart : (p : Propagation) (c : List ℤ) → IsPropagation p → IsTrue (are_false_in p.trail c) → IsTrue (not (is_tautology c))
  pub may_hold : (p : Propagation) (c : List ℤ) (u : ℤ) (level : ℕ) → IsPropagation p → IsLearnedFor p.trail c u level → IsTrue (is_distinct c)
      → IsTrue (may_be_held p.vars c)
  pub round : (over : Crossed) (steps : List Step) (p : Propagation) (c : List ℤ) (u : ℤ) (level : ℕ) → IsPropagation p → IsQuietBelow p
      → HoldsAll over steps p → IsLearnedFor p.trail c u level → IsTrue (is_learned (premises_of over steps) c)
  pub same : (trail : List Entry) (c d : List ℤ) (u : ℤ) (level : ℕ) → IsTrue (is_same_set c d) → IsLearnedFor trail c u level → IsLearnedFor trail d u level
