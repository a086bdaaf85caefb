-- Assignments, runs, balances and kernels of worked formulas.
use Rattle.std.specs.Prelude.{◌≡◌, ℕ, zero, suc, true, if◌then◌else◌, ◌==◌, [], ◌∷◌, pos, negsuc, Some, refl, IsTrue, map}
use Rattle.std.proofs.Common.{arith}
use Rattle.lk_model.specs.Lists.{among}
use Rattle.lk_model.specs.Formulas.Formula.{Cnf, clause_at}
use Rattle.lk_model.specs.Formulas.Crossed.{Variables}
use Rattle.lk_model.specs.Formulas.Assignment.{Assignment, touches, assignment_of, extended_literals}
use Rattle.lk_model.specs.Formulas.Balance.{Weighting}
use Rattle.lk_model.specs.Formulas.Autarky.{first_balance, first_sign}
use Rattle.lk_model.specs.Formulas.Lean.{Kernel, all_of}
use Rattle.lk_model.specs.Formulas.Protected.{KernelUnder}
use Rattle.lk_model.specs.Formulas.PureRun.{IsPureRun, untouched, least_pairs}
use Rattle.lk_model.specs.declared.class.Class.{Class}
use Rattle.test_definitions.proofs.WorkedDocuments.{equivalence, cycle, two_stages, kept_pairs}

-- PURE

-- the run takes 1 and ends
pure_run : IsPureRun equivalence (pos 1 ∷ [])
pure_run = (refl, refl)

kept_by_run : untouched equivalence (pos 1 ∷ []) ≡ 2 ∷ 3 ∷ []
kept_by_run = refl

pairs_of_kept : least_pairs equivalence (2 ∷ 3 ∷ []) ≡ kept_pairs
pairs_of_kept = refl

-- LINEAR

-- weights of 1 on all variables of the cycle: each balance is 0
ones : Weighting
ones v = pos 1

balances_of_cycle : map (first_balance (ones ∷ [])) cycle.clauses ≡ Some (pos 0) ∷ Some (pos 0) ∷ Some (pos 0) ∷ Some (pos 0) ∷ []
unfolding ones
balances_of_cycle = refl

-- 1 on the variables but 3, and then 1 on 3
first_stage : Weighting
first_stage v = if v == 3 then pos 0 else pos 1

second_stage : Weighting
second_stage v = if v == 3 then pos 1 else pos 0

balances_of_stages : map (first_balance (first_stage ∷ second_stage ∷ [])) two_stages.clauses ≡ Some (pos 0) ∷ Some (pos 0) ∷ Some (pos 1) ∷ []
unfolding first_stage second_stage
balances_of_stages = refl

signs_of_stages : map (first_sign (first_stage ∷ second_stage ∷ [])) (1 ∷ 2 ∷ 3 ∷ []) ≡ Some true ∷ Some true ∷ Some true ∷ []
unfolding first_stage second_stage
signs_of_stages = refl

-- EXTENSION

-- the own value of 1, those of the model for 1 and 2, and false for 3
extended_model : extended_literals (assignment_of (pos 1 ∷ [])) (assignment_of (pos 2 ∷ negsuc 0 ∷ [])) 3 ≡ pos 1 ∷ pos 2 ∷ negsuc 2 ∷ []
extended_model = refl

-- THE EMPTY CLAUSE ALONE IS ITS OWN KERNEL, FOR EACH CLASS

empty_clause : Cnf
empty_clause = record { vars = 1; clauses = [] ∷ [] }

untouched_there : (φ : Assignment) (p : ℕ) → IsTrue (touches φ (clause_at empty_clause p)) → ⊥
unfolding empty_clause
untouched_there φ zero t = cc
untouched_there φ (suc zero) t = cc
untouched_there φ (suc (suc p)) t = cc

only_one : (p : ℕ) → IsTrue (all_of empty_clause p) → IsTrue (among (1 ∷ []) p)
unfolding empty_clause
only_one zero h = cc
only_one (suc zero) h = refl
only_one (suc (suc p)) h = grind (arith, h)

kernel_of_empty : (class : Class) → Kernel class empty_clause (1 ∷ [])
unfolding empty_clause
kernel_of_empty class = record {
  positions = refl;
  lean = λ φ a p s t. untouched_there φ p t;
  largest = λ S within lean p s. only_one p (within p s);
}

-- and whatever is protected
kernel_under : (P : Variables) (class : Class) → KernelUnder P class empty_clause (1 ∷ [])
unfolding empty_clause
kernel_under P class = record {
  positions = refl;
  lean = λ φ a p s t. untouched_there φ p t;
  largest = λ S within lean p s. only_one p (within p s);
}
