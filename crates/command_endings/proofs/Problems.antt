-- What is found in what is left of a problem.
use Rattle.std.proofs.Common.{◌≡◌, ◌∙◌, ℕ, List, Option, length, sym, ap, subst}
use Rattle.std.specs.Prelude.{IsTrue}
use Rattle.lk_model.specs.Formulas.Formula.{Cnf}
use Rattle.lk_model.specs.Formulas.Crossed.{protected_by}
use Rattle.lk_model.specs.Formulas.Lean.{are_positions}
use Rattle.lk_model.specs.Lists.{rises_within}
use Rattle.kernel_laws.proofs.Crossing.{same_count}
use Rattle.reductions.specs.Protecting.{line_of, left_of, IsProblem}
use Rattle.reductions.specs.declared.problem.Problem.{Problem}

-- its positions are positions of the formula
pub positions_left : (F : Cnf) (listed : Option (List ℕ)) (p : Problem) (rest : Cnf) (ps : List ℕ) → IsProblem F listed p → rest ≡ left_of p → IsTrue (are_positions rest ps) → IsTrue (are_positions p.formula ps)
positions_left F listed p rest ps is left h =
    let size : (G : Cnf) → ℕ = λ G. length G.clauses in
    let same : length rest.clauses ≡ length p.formula.clauses = ap size left ∙ ap size is.left ∙ same_count F (protected_by (line_of p)) ∙ ap size (sym is.formula) in
    subst (λ (n : ℕ). IsTrue (rises_within 0 n ps)) same h
