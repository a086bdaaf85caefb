-- What a quiet propagation satisfies, and that no blocked variable is set.
use Rattle.std.specs.Prelude.{◌+◌, ◌<◌, Bool, Option, None, length, slice_index_or, ◌≡◌, ℕ, not, ◌||◌, List, [], ℤ, IsTrue, IsSome, IsNone}
use Rattle.std.specs.List.{list_all}
use Rattle.lk_model.specs.Lists.{among, is_empty}
use Rattle.lk_model.specs.Formulas.Literal.{variable, contains}
use Rattle.lk_model.specs.Formulas.Formula.{clause_at}
use Rattle.lk_model.specs.Formulas.Assignment.{Assignment, satisfies}
use Rattle.lk_model.specs.Held.PartialValues.{assignment_by}
use Rattle.lk_model.specs.Formulas.Crossed.{crossed_out}
use Rattle.lk_model.specs.Held.VariableSets.{is_in}
use Rattle.lk_model.specs.declared.crossed.Crossed.{Crossed}
use Rattle.lk_model.specs.declared.document.Step.{Step}
use Rattle.watch_prop.specs.declared.entry.Entry.{Entry}
use Rattle.watch_prop.specs.declared.entry.NumberedClause.{NumberedClause}
use Rattle.watch_prop.specs.Propagation.{Propagation, IsPropagation, GoesOn, assigned, is_quiet, crossed_clauses, with_held, with_assigned, back_at}
use Rattle.learning_laws.specs.Learned.{are_false_in, HoldsAll}

-- the variable of the literal is not blocked
abbrev pub is_open : Crossed → ℤ → Bool
is_open over l = not (is_in over.blocked.now (variable l))

-- no literal of the trail or of a clause that is held has a blocked variable
pub record IsOpen (over : Crossed) (p : Propagation) : Type 0 where
  pub trail : IsTrue (list_all (λ (e : Entry). is_open over e.lit) p.trail)
  pub clauses : IsTrue (list_all (λ (d : NumberedClause). list_all (is_open over) d.lits) p.clauses)

-- the crossed clause at a position
abbrev pub clause_over : Crossed → ℕ → List ℤ
clause_over over p = crossed_out (is_in over.blocked.now) (clause_at over.formula.now p)

-- No blocked variable is set: none is at the start, and each step of a solver that assigns none keeps it so. Where all is quiet
-- and each variable of the crossed clauses is set, each of them that is not empty is satisfied. A list of the variables' values
-- is the assignment, and what agrees on all variables satisfies the same clauses.
pub record ModelLaw : Type 0 where
  pub start : (over : Crossed) (p : Propagation) → p.clauses ≡ crossed_clauses over → p.trail ≡ [] → IsOpen over p
  pub assigns : (over : Crossed) (p : Propagation) (l : ℤ) → IsTrue (is_open over l) → IsOpen over p → IsOpen over (with_assigned p l)
  pub goes_on : (over : Crossed) (p q : Propagation) → IsPropagation q → GoesOn p q → IsOpen over p → IsOpen over q
  pub back : (over : Crossed) (p : Propagation) (level : ℕ) → IsOpen over p → IsOpen over (back_at p level)
  pub holds : (over : Crossed) (p : Propagation) (number : ℕ) (c : List ℤ) → IsTrue (list_all (is_open over) c) → IsOpen over p → IsOpen over (with_held p number c)
  pub falsified : (over : Crossed) (p : Propagation) (c : List ℤ) → IsPropagation p → IsTrue (are_false_in p.trail c) → IsOpen over p
      → IsTrue (list_all (is_open over) c)
  pub unset : (over : Crossed) (p : Propagation) (v : ℕ) → IsOpen over p → IsTrue (is_in over.blocked.now v) → IsNone (assigned p v)
  pub satisfied : (over : Crossed) (steps : List Step) (p : Propagation) → IsPropagation p → HoldsAll over steps p → IsTrue (is_quiet (assigned p) p.clauses)
      → ((position : ℕ) (l : ℤ) → IsTrue (among over.part.now position) → IsTrue (contains (clause_over over position) l) → IsSome (assigned p (variable l)))
      → IsTrue (list_all (λ position. is_empty (clause_over over position) || satisfies (assigned p) (clause_over over position)) over.part.now)
  pub values : (p : Propagation) (values : List (Option Bool)) → IsPropagation p → length values ≡ p.vars
      → ((k : ℕ) → k < p.vars → slice_index_or values k None ≡ assigned p (k + 1)) → (v : ℕ) → assignment_by values v ≡ assigned p v
  pub same : (φ ψ : Assignment) (c : List ℤ) → ((v : ℕ) → φ v ≡ ψ v) → satisfies φ c ≡ satisfies ψ c
