-- Where no clause is touched and not satisfied.
use Rattle.std.proofs.Common.{◌≡◌, ℕ, Bool, not, ◌&&◌, None, refl, arith}
use Rattle.std.specs.Prelude.{◌↔◌, IsNone}
use Rattle.std.proofs.lemmas.Bool.Decides.{nat_tests}
use Rattle.lk_model.specs.Formulas.Formula.{Cnf, clause_at, positions_of}
use Rattle.lk_model.specs.Formulas.Assignment.{Assignment, touches, satisfies, first_unsatisfied}
use Rattle.lk_model.specs.Formulas.Autarky.{IsAutarky}
use Rattle.lk_model.specs.Formulas.Lean.{all_of}
use Rattle.lk_model.proofs.Founds.{none_found, none_at, is_position}

-- the clause at a position is touched and not satisfied
abbrev pub is_unsatisfied : Assignment → Cnf → ℕ → Bool
is_unsatisfied φ F p = touches φ (clause_at F p) && not (satisfies φ (clause_at F p))

-- an assignment is an autarky exactly where no position is found
pub autarky_where_none : (φ : Assignment) (F : Cnf) → IsNone (first_unsatisfied φ F) ↔ IsAutarky F (all_of F) φ
autarky_where_none φ F = (
  λ none p in_F touched.
      let found : first_unsatisfied φ F ≡ None = grind arith in
      let fine = none_at (is_unsatisfied φ F) F p found in_F in
      grind arith,
  λ autarky.
      let none : first_unsatisfied φ F ≡ None = none_found (is_unsatisfied φ F) (positions_of F) (λ p there. let within = is_position F p there in grind (arith, nat_tests, autarky p)) in
      rw none refl,
)
