use Rattle.std.proofs.Common.{◌≡◌, ◌∙◌, ℕ, ℤ, List, length, map, true, sym, ap, subst}
use Rattle.lk_model.specs.Lists.{rises_within}
use Rattle.lk_model.specs.Formulas.Literal.{variable}
use Rattle.lk_model.specs.Formulas.Assignment.{assignment_of, extended, extended_literals}
use Rattle.lk_model.specs.Held.PartialValues.{assignment_by}
use Rattle.matching_laws.specs.MatchingResults.{set_line}
use Rattle.matching_laws.proofs.SetLines.{set_rises}
use Rattle.kernel_solve.specs.Solutions.{IsTotalModel}
use Rattle.kernel_solve.proofs.SolveResults.{both_ok, joinable, joined_rises, total_model}
use Rattle.kernel_solve.proofs.model.model_of.Goals as goal

pub joined-requires : goal.joined-requires
joined-requires c = joinable c.args.f.now c.args.found.now.kept c.args.models c.requires.models

-- literals whose variables rise do so as they were read
rise_as : (n m : ℕ) (ls ks : List ℤ) → n ≡ m → ls ≡ ks → rises_within 0 m (map variable ks) ≡ true → rises_within 0 n (map variable ls) ≡ true
rise_as n m ls ks size same rise =
    subst (λ (k : ℕ). rises_within 0 k (map variable ls) ≡ true) (sym size) (subst (λ (xs : List ℤ). rises_within 0 m (map variable xs) ≡ true) (sym same) rise)

pub assignment_of-requires-clause-rising : goal.assignment_of-requires-clause-rising
assignment_of-requires-clause-rising c =
    let F = c.args.f.now in
    let own = c.as_slice.result.now in
    rise_as c.vars.result F.vars c.as_slice-2.result.now (set_line F own) c.vars.ensures.value (c.as_slice-2.ensures ∙ c.in_ok-set.ensures) (set_rises F own)

pub assignment_of-requires-2-clause-rising : goal.assignment_of-requires-2-clause-rising
assignment_of-requires-2-clause-rising c =
    let F = c.args.f.now in
    let model = c.in_ok-model.model in
    rise_as c.vars-2.result F.vars c.as_slice-3.result.now model c.vars-2.ensures.value c.as_slice-3.ensures
    (joined_rises F c.args.found.now c.args.models model c.vars.ensures.limits c.requires.matching c.requires.models c.in_ok-model.ensures)

pub returns : goal.returns
returns c =
    let F = c.args.f.now in
    let found = c.args.found.now in
    let model = c.in_ok-model.model in
    let φ : assignment_by c.in_ok-phi.phi ≡ assignment_of (set_line F found.own) =
    c.in_ok-phi.ensures.values ∙ ap assignment_of (c.as_slice-2.ensures ∙ c.in_ok-set.ensures ∙ ap (set_line F) c.as_slice.ensures) in
    let ψ : assignment_by c.in_ok-psi.psi ≡ assignment_of model = c.in_ok-psi.ensures.values ∙ ap assignment_of c.as_slice-3.ensures in
    let n : length c.in_ok-phi.phi ≡ F.vars = c.in_ok-phi.ensures.vars ∙ c.vars.ensures.value in
    both_ok c.extend_total.result
    (λ ls. ls ≡ extended_literals (assignment_by c.in_ok-phi.phi) (assignment_by c.in_ok-psi.psi) (length c.in_ok-phi.phi))
    (λ ls. assignment_of ls ≡ extended (assignment_by c.in_ok-phi.phi) (assignment_by c.in_ok-psi.psi) (length c.in_ok-phi.phi))
    (IsTotalModel F)
    (λ ls literals values.
    total_model F found c.args.models model ls c.vars.ensures.formula c.vars.ensures.limits c.requires.matching c.requires.models c.in_ok-model.ensures
    (literals ∙ (λ j. extended_literals (φ j) (ψ j) (n j)))
    (values ∙ (λ j. extended (φ j) (ψ j) (n j))))
    c.extend_total.ensures.literals c.extend_total.ensures.values
