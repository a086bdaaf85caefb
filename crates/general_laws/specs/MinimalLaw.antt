-- Minimally unsatisfiable sets of clauses, and assignments that satisfy all clauses of a set but one.
use Rattle.std.specs.Prelude.{◌≡◌, ◌≢◌, ℕ, List, [], ◌∷◌, ℤ, IsTrue}
use Rattle.lk_model.specs.declared.class.Class.TheVariants as class
use Rattle.lk_model.specs.Lists.{among, is_nonzero}
use Rattle.lk_model.specs.Formulas.Literal.{contains, complement}
use Rattle.lk_model.specs.Formulas.Formula.{Cnf, clause_at}
use Rattle.lk_model.specs.Formulas.Assignment.{Assignment, satisfies, IsModel}
use Rattle.lk_model.specs.Formulas.Autarky.{Positions, Within}
use Rattle.lk_model.specs.Formulas.Lean.{Kernel, all_of, IsLean}
use Rattle.lk_model.specs.Formulas.Minimal.{IsSatisfiable, IsUnsatisfiable, IsMinimallyUnsatisfiable, all_but, with_made_true}

-- A set without a model of which each clause can be left out for a model is minimally unsatisfiable; it is lean, and so lies
-- in the general kernel. An empty clause by itself is such a set.
pub record MinimalLaw : Type 0 where
  pub minimal : (F : Cnf) (S : Positions) → IsUnsatisfiable F S
      → ((p : ℕ) → IsTrue (S p) → IsSatisfiable F (all_but S p))
      → IsMinimallyUnsatisfiable F S
  pub lean : (F : Cnf) (S : Positions) → IsMinimallyUnsatisfiable F S → IsLean class.General F S
  pub kernel : (F : Cnf) (S : Positions) (kept : List ℕ) → Within S (all_of F) → IsMinimallyUnsatisfiable F S
      → Kernel class.General F kept
      → Within S (among kept)
  pub empty : (F : Cnf) (p : ℕ) → clause_at F p ≡ [] → IsMinimallyUnsatisfiable F (among (p ∷ []))

-- Model rotation (Marques-Silva and Lynce, 2011): where a literal of the clause at p is made true in an assignment that
-- satisfies the others, and of the clauses with its complement at most the one at q is then left unsatisfied, all but q are
-- satisfied. What satisfies all but p of a set does so of each smaller set, and such a p is in each unsatisfiable smaller set.
pub record WitnessLaw : Type 0 where
  pub rotates : (F : Cnf) (S : Positions) (p q : ℕ) (l : ℤ) (φ : Assignment) → IsTrue (is_nonzero l)
      → IsModel F (all_but S p) φ
      → IsTrue (contains (clause_at F p) l)
      → ((k : ℕ) → IsTrue (S k) → IsTrue (contains (clause_at F k) (complement l)) → k ≢ q → IsTrue (satisfies (with_made_true φ l) (clause_at F k)))
      → IsModel F (all_but S q) (with_made_true φ l)
  pub stays : (F : Cnf) (S T : Positions) (p : ℕ) (φ : Assignment) → Within T S → IsModel F (all_but S p) φ
      → IsModel F (all_but T p) φ
  pub needed : (F : Cnf) (S T : Positions) (p : ℕ) (φ : Assignment) → Within T S → IsModel F (all_but S p) φ
      → IsUnsatisfiable F T
      → IsTrue (T p)
