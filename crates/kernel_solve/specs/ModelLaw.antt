-- The matching kernel of a formula, its parts, and models.
use Rattle.std.specs.Prelude.{◌≡◌, ℕ, List, [], ℤ, IsTrue, map}
use Rattle.lk_model.specs.Lists.{among}
use Rattle.lk_model.specs.Formulas.Literal.{variable}
use Rattle.lk_model.specs.Formulas.Formula.{Cnf, is_formula, IsWithinLimits, positions_of, clauses_at, variables_to}
use Rattle.lk_model.specs.Formulas.Assignment.{Assignment, assignment_of, extended, extended_literals, IsModel}
use Rattle.lk_model.specs.Formulas.Crossed.{no_variable}
use Rattle.lk_model.specs.Formulas.Lean.{are_positions, all_of}
use Rattle.lk_model.specs.Formulas.Parts.{IsPart}
use Rattle.lk_model.specs.declared.result.GeneralResult.{GeneralResult}
use Rattle.lk_model.specs.declared.result.MatchingResult.{MatchingResult}
use Rattle.matching_laws.specs.MatchingResults.{IsMatchingResult, set_line}
use Rattle.general_laws.specs.ForeignLaw.{IsAmongForeign}
use Rattle.general_laws.specs.GeneralResults.{IsGeneralResult}
use Rattle.part_copy.specs.Found.{IsPartModel, sets_only}
use Rattle.kernel_solve.specs.KernelParts.{IsKernelPart, told}

-- A part of the matching kernel has positions of the formula, and each other clause has a variable that the part does not
-- have: a removed one its own variable. What satisfies the part satisfies it as a part of the kernel. A model of the kernel,
-- overridden by the matching autarky, is one of the formula, and so a literal for each variable.
pub record SolveModelLaw : Type 0 where
  pub positions : (F : Cnf) (kept part : List ℕ) → IsTrue (are_positions F kept) → IsTrue (are_positions (clauses_at F kept) part)
      → IsTrue (are_positions F (told kept part))
  pub is_part : (F : Cnf) (r : MatchingResult) (part : List ℕ) → IsTrue (is_formula F) → IsMatchingResult F (positions_of F) r
      → IsPart (clauses_at F r.kept) part → IsKernelPart F (told r.kept part)
  pub foreign : (F : Cnf) (r : MatchingResult) (part : List ℕ) → IsMatchingResult F (positions_of F) r
      → IsPart (clauses_at F r.kept) part → IsAmongForeign no_variable F (told r.kept part)
  pub part : (F : Cnf) (kept part : List ℕ) (lits : List ℤ) → IsTrue (are_positions (clauses_at F kept) part) → IsPartModel F (told kept part) lits
      → IsGeneralResult (clauses_at F kept) part (sets_only lits)
  pub kernel : (F : Cnf) (kept : List ℕ) (t : GeneralResult) → IsTrue (are_positions F kept)
      → IsGeneralResult (clauses_at F kept) (positions_of (clauses_at F kept)) t → t.kept ≡ [] → IsModel F (among kept) (assignment_of t.set)
  pub whole : (F : Cnf) (r : MatchingResult) (ψ : Assignment) → IsTrue (is_formula F) → IsWithinLimits F → IsMatchingResult F (positions_of F) r
      → IsModel F (among r.kept) ψ → IsModel F (all_of F) (extended (assignment_of (set_line F r.own)) ψ F.vars)
  pub total : (φ ψ : Assignment) (n : ℕ) → map variable (extended_literals φ ψ n) ≡ variables_to n
