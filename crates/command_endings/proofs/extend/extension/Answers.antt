use Rattle.std.proofs.Common.{◌≡◌, ℕ, length, IfOk, subst}
use Rattle.lk_model.specs.Formulas.Assignment.{Assignment, assignment_of, extended, extended_literals}
use Rattle.lk_model.specs.Held.PartialValues.{assignment_by}
use Rattle.command_endings.proofs.extend.extension.Goals as goal

pub returns-clause-literals : goal.returns-clause-literals
returns-clause-literals c =
    let ψ = assignment_by c.args.model.now in
    let by = λ (φ : Assignment) (n : ℕ). IfOk c.extend_total.result (λ ls. ls ≡ extended_literals φ ψ n) in
    subst (λ (n : ℕ). by (assignment_of c.args.set.now) n) c.in_ok-values.ensures.vars
    (subst (λ (φ : Assignment). by φ (length c.in_ok-values.values)) c.in_ok-values.ensures.values c.extend_total.ensures.literals)

pub returns-clause-values : goal.returns-clause-values
returns-clause-values c =
    let ψ = assignment_by c.args.model.now in
    let by = λ (φ : Assignment) (n : ℕ). IfOk c.extend_total.result (λ ls. assignment_of ls ≡ extended φ ψ n) in
    subst (λ (n : ℕ). by (assignment_of c.args.set.now) n) c.in_ok-values.ensures.vars
    (subst (λ (φ : Assignment). by φ (length c.in_ok-values.values)) c.in_ok-values.ensures.values c.extend_total.ensures.values)
