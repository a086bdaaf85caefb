use Rattle.std.proofs.Common.{◌≡◌, ◌∙◌, ◌+◌, ℕ, Bool, true, false, List, length, replicate, sym, ap, subst, arith}
use Rattle.std.proofs.lemmas.List.{length-replicate}
use Rattle.lk_model.specs.Formulas.Formula.{positions_of}
use Rattle.lk_model.specs.Formulas.Lean.{are_positions}
use Rattle.lk_model.specs.declared.document.Step.{Step}
use Rattle.refutation_log.specs.Trimmed.{trimmed}
use Rattle.general_kernel.proofs.Names.{names_below}
use Rattle.part_copy.specs.Found.{are_filled, IsPartRefuted}
use Rattle.part_formula.specs.Decisions.{most_steps}
use Rattle.part_formula.proofs.Tested.{refuted_by_chains, some_log}
use Rattle.part_formula.proofs.reducing.tested_refutation.Goals as goal

pub trim-requires-clause-positions : goal.trim-requires-clause-positions
trim-requires-clause-positions c =
    let next = c.from-next.result + 1 in
    let h = some_log _ c.in_ok-log.field-0 c.in-Some.log c.in-Some.is c.in_ok-log.ensures.some in
    let past = c.from-next.ensures ∙ c.len.ensures.value in
    names_below _ next c.in-Some.log.first c.in-Some.log.steps (omega (arith, past)) h.derivation.numbers h.chains

pub returns-in-Some : goal.returns-in-Some
returns-in-Some c =
    let F = c.args.f.now in
    let next = c.from-next.result + 1 in
    let budget = most_steps F c.args.conflicts in
    let h = some_log _ c.in_ok-log.field-0 c.in-Some.log c.in-Some.is c.in_ok-log.ensures.some in
    let is = c.from-next.ensures ∙ c.len.ensures.value in
    let all = c.as_slice.ensures ∙ c.in_ok-all.ensures.value in
    let blocked = c.in_ok-blocked.ensures ∙ ap (λ (n : ℕ). replicate n false) c.vars.ensures.value in
    let rise = subst (λ (ps : List ℕ). are_positions F ps ≡ true) (sym c.as_slice.ensures) c.in_ok-all.ensures.part in
    let few = c.if-chains-most_steps.false in
    let most = c.most_steps.ensures.value in
    let small = c.most_steps.ensures.small in
    let clauses = c.len.ensures.limits.clauses in
    let r = refuted_by_chains _ next budget c.args.chains.now c.in-Some.log
    (record { part = rise; blocked = ap (λ (bs : List Bool). length bs) blocked ∙ length-replicate F.vars false })
    c.len.ensures.formula (subst (λ (ps : List ℕ). are_filled F ps ≡ true) (sym all) c.requires) blocked
    (omega (arith, is)) (omega (arith, few, most)) (omega (arith, is, most, small, clauses)) h in
    subst (λ (us : List Step). IsPartRefuted F (positions_of F) budget (record { steps = us })) (sym c.in_ok-trim-in-Some.ensures.steps)
    (subst (λ (ps : List ℕ). IsPartRefuted F ps budget (record { steps = trimmed next c.in-Some.log.steps })) all r)
