-- The checks of every finished document, as code holds them.
use Rattle.std.specs.Prelude.{ℕ, ◌-◌, Bool, not, List, [], ◌∷◌, slice_index, Option}
use Rattle.lk_model.specs.Formulas.Literal.{is_same_list}
use Rattle.lk_model.specs.Formulas.Formula.{Cnf, clause_at}
use Rattle.lk_model.specs.Checks.Check.{Check}
use Rattle.lk_model.specs.declared.verdict.Kind.TheVariants.{KeptClause, ProtectedSet, NotAutarky, NotExactlyRemoved}

-- the checks behind that of the numbers, by their places
abbrev pub common_checks : Option ℕ → Option ℕ → Option ℕ → Option ℕ → List Check
common_checks changed protected unsatisfied misplaced =
    record { kind = KeptClause; place = changed }
    ∷ record { kind = ProtectedSet; place = protected }
    ∷ record { kind = NotAutarky; place = unsatisfied }
    ∷ record { kind = NotExactlyRemoved; place = misplaced }
    ∷ []

-- a clause line is not the clause at its position, which is the kept one of the same number
abbrev pub is_changed_line : Cnf → Cnf → List ℕ → ℕ → Bool
is_changed_line F texts kept i = not (is_same_list (clause_at texts i) (clause_at F (slice_index kept (i - 1))))
