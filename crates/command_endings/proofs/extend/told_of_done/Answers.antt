use Rattle.std.proofs.Common.{◌≡◌, ◌∙◌, ℤ, List, Ok, ap, sym}
use Rattle.lk_model.specs.Formulas.Assignment.{assignment_of, extended, extended_literals}
use Rattle.lk_model.specs.Held.PartialValues.{assignment_by}
use Rattle.command_endings.specs.Commands.Extend.{extension, model_line}
use Rattle.command_endings.proofs.Extensions.{set_rises, tells_failure, tells_extension}
use Rattle.command_endings.proofs.extend.told_of_done.Goals as goal

pub returns-in-Some : goal.returns-in-Some
returns-in-Some c =
    tells_failure c.args.f.now c.args.d.now (assignment_by c.args.model.now) c.in-Some.why _ _ (sym c.in-Some.is ∙ c.in_ok-why.ensures.first) c.new.ensures.items c.in_ok-failure_line.ensures

pub extension-requires-clause-rising : goal.extension-requires-clause-rising
extension-requires-clause-rising c =
    rw (c.as_slice.ensures, c.vars.ensures.value) (set_rises c.args.f.now c.args.d.now (assignment_by c.args.model.now) c.requires.form (sym c.in_ok-why.ensures.first ∙ c.in_default.is))

pub returns : goal.returns
returns c =
    let F = c.args.f.now in
    let d = c.args.d.now in
    let ψ = assignment_by c.args.model.now in
    let passes = ap Ok c.in_default.is in
    let is : c.in_ok-literals.literals ≡ extension F d ψ =
    c.in_ok-literals.ensures.literals ∙ ap (λ (ls : List ℤ). extended_literals (assignment_of ls) ψ c.vars.result) c.as_slice.ensures ∙ ap (extended_literals (assignment_of d.set) ψ) c.vars.ensures.value in
    let values : assignment_of c.in_ok-literals.literals ≡ extended (assignment_of d.set) ψ F.vars =
    c.in_ok-literals.ensures.values ∙ ap (λ (ls : List ℤ). extended (assignment_of ls) ψ c.vars.result) c.as_slice.ensures ∙ ap (extended (assignment_of d.set) ψ) c.vars.ensures.value in
    tells_extension F d ψ c.in_ok-literals.literals _ _ (sym c.in_default.is ∙ c.in_ok-why.ensures.first) is values (c.in_ok-why.ensures.extends passes) (c.in_ok-why.ensures.protected passes)
    (c.in_ok-print_model.ensures ∙ ap model_line c.as_slice-2.ensures) c.new-2.ensures.items
