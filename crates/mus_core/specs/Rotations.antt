-- Model rotation.
use Rattle.std.specs.Prelude.{◌≡◌, ◌≢◌, ℕ, ◌<◌, ◌≤◌, Bool, not, ◌&&◌, List, length, ℤ, Option, IsTrue}
use Rattle.std.specs.List.{list_all}
use Rattle.lk_model.specs.Formulas.Literal.{contains, complement}
use Rattle.lk_model.specs.Formulas.Formula.{clause_at}
use Rattle.lk_model.specs.Formulas.Assignment.{Assignment, satisfies, IsModel}
use Rattle.lk_model.specs.Formulas.Minimal.{all_but, with_made_true}
use Rattle.lk_model.specs.Held.PartialValues.{assignment_by}
use Rattle.occurrence_lists.specs.Occurrences.{AreOccurrences}
use Rattle.mus_core.specs.declared.rotation.Rotating.{Rotating}
use Rattle.mus_core.specs.Flags.{flag_at}
use Rattle.mus_core.specs.WitnessValues.{IsRotated}

-- the lists are those of the clauses, and what is flagged are places of them
pub record IsRotating (c : Rotating) : Type 0 where
  pub lists : AreOccurrences c.clauses.now c.lists.now
  pub first : (k : ℕ) → IsTrue (flag_at c.inside.now k) → 0 < k
  pub last : (k : ℕ) → IsTrue (flag_at c.inside.now k) → k ≤ length c.clauses.now.clauses

-- values of all variables that satisfy the clauses of the set but the one at the place
pub record IsWitnessOf (c : Rotating) (p : ℕ) (values : List (Option Bool)) : Type 0 where
  pub vars : length values ≡ c.clauses.now.vars
  pub satisfied : IsModel c.clauses.now (all_but (flag_at c.inside.now) p) (assignment_by values)

-- the place is one of the set, and the clause there is not satisfied once the literal is true
abbrev pub fails : Rotating → Assignment → ℤ → ℕ → Bool
fails c φ l k = flag_at c.inside.now k && not (satisfies (with_made_true φ l) (clause_at c.clauses.now k))

-- of the set's clauses with the complement none but that at the place may be unsatisfied once the literal is true
pub record IsOnly (c : Rotating) (φ : Assignment) (l : ℤ) (q : ℕ) : Type 0 where
  pub there : IsTrue (flag_at c.inside.now q)
  pub others : (k : ℕ) → IsTrue (flag_at c.inside.now k) → IsTrue (contains (clause_at c.clauses.now k) (complement l)) → k ≢ q
      → IsTrue (satisfies (with_made_true φ l) (clause_at c.clauses.now k))

-- witnesses are rotated, and the walk goes through places of the set
pub record WentOn (c : Rotating) (ws us : List (Option (List (Option Bool)))) (places : List ℕ) : Type 0 where
  pub rotated : IsRotated c.clauses.now (flag_at c.inside.now) ws us
  pub walk : IsTrue (list_all (flag_at c.inside.now) places)
