-- The checks of every finished document, and the one of `extend`.
use Rattle.std.specs.Prelude.{ℕ, Bool, not, if◌then◌else◌, ◌&&◌, ◌==◌, [], ◌∷◌, length, is_some}
use Rattle.lk_model.specs.Lists.{among}
use Rattle.lk_model.specs.Formulas.Literal.{is_same_list}
use Rattle.lk_model.specs.Formulas.Formula.{Cnf, positions_of, clause_at, variables_to}
use Rattle.lk_model.specs.Formulas.Crossed.{Variables}
use Rattle.lk_model.specs.Formulas.Assignment.{Assignment, assignment_of, touches, satisfies}
use Rattle.lk_model.specs.Documents.Documents.{clause_line_at}
use Rattle.lk_model.specs.Checks.Check.{Check, fails}
use Rattle.lk_model.specs.declared.document.DoneDocument.{DoneDocument}
use Rattle.lk_model.specs.declared.verdict.Kind.TheVariants.{OtherFormula, KeptClause, ProtectedSet, NotAutarky, NotExactlyRemoved, ModelFails}

-- the formula has other numbers of variables or clauses
unfoldable pub other_formula : Cnf → ℕ → ℕ → Check
other_formula F vars clauses = fails OtherFormula (0 ∷ []) (λ _. not (vars == F.vars && clauses == length F.clauses))

-- the clause line of a kept position is not the formula's clause, as a list
unfoldable pub kept_clause : Cnf → DoneDocument → Check
kept_clause F d = fails KeptClause d.kept (λ p. not (is_same_list (clause_line_at d p) (clause_at F p)))

-- the set line sets a variable of P
unfoldable pub protected_set : Variables → Cnf → DoneDocument → Check
protected_set P F d = fails ProtectedSet (variables_to F.vars) (λ v. P v && is_some (assignment_of d.set v))

-- the set line touches the clause at a position and does not satisfy it
abbrev pub autarky_fails : Cnf → DoneDocument → ℕ → Bool
autarky_fails F d p = let φ = assignment_of d.set in touches φ (clause_at F p) && not (satisfies φ (clause_at F p))

unfoldable pub not_autarky : Cnf → DoneDocument → Check
not_autarky F d = fails NotAutarky (positions_of F) (λ p. autarky_fails F d p)

-- the set line touches the clause at a kept position, or doesn't touch the one at a removed position
abbrev pub removal_fails : Cnf → DoneDocument → ℕ → Bool
removal_fails F d p = let φ = assignment_of d.set in if among d.kept p then touches φ (clause_at F p) else not (touches φ (clause_at F p))

unfoldable pub not_exactly_removed : Cnf → DoneDocument → Check
not_exactly_removed F d = fails NotExactlyRemoved (positions_of F) (λ p. removal_fails F d p)

-- of `extend`: the model's own literals don't satisfy a kept clause
unfoldable pub model_fails : Cnf → DoneDocument → Assignment → Check
model_fails F d ψ = fails ModelFails d.kept (λ p. not (satisfies ψ (clause_at F p)))
