use Rattle.std.proofs.Common.{◌≡◌, ◌∙◌, ap, rules}
use borrow.Author.Tests.{tests}
use Rattle.std.proofs.lemmas.Result.{IfOk-weaker}
use Rattle.lk_model.specs.Formulas.Crossed.{no_variable}
use Rattle.check_rounds.specs.declared.steps.Rounds.{Rounds}
use Rattle.check_rounds.specs.Chains.{misstates}
use Rattle.check_rounds.specs.Steps.{step_at, first_step}
use Rattle.check_rounds.proofs.ChainChecks.{bad_step_is}
use Rattle.check_rounds.proofs.StepPlaces.{are_rounds, part_places, steps_told}
use Rattle.check_rounds.proofs.chains.bad_step.Goals as goal

pub first_found-requires-after_bounds : goal.first_found-requires-after_bounds
first_found-requires-after_bounds g c κs within = λ part inside _ _ _ _ _.
    let over : Rounds = record { formula = c.args.f; part = c.args.part; flags = c.as_slice.result; blocked_at = c.args.blocks; rounds = c.args.rounds } in
    let h = are_rounds over c.len.result c.in_ok-flags.flags.items c.len.ensures.formula c.len.ensures.value c.as_slice.ensures.value c.in_ok-flags.ensures c.requires.blocks c.requires.steps in
    let places = part_places c.args.rounds.now part.now c.as_slice-2.result.now (c.as_slice-2.ensures.value ∙ c.in_ok-places.ensures) inside in
    (h, places)

pub returns : goal.returns
returns g c =
    let over : Rounds = record { formula = c.args.f; part = c.args.part; flags = c.as_slice.result; blocked_at = c.args.blocks; rounds = c.args.rounds } in
    let h = are_rounds over c.len.result c.in_ok-flags.flags.items c.len.ensures.formula c.len.ensures.value c.as_slice.ensures.value c.in_ok-flags.ensures c.requires.blocks c.requires.steps in
    IfOk-weaker c.first_found.result (λ place. place ≡ first_step misstates over c.as_slice-2.result.now) _
    (λ place found.
    found
    ∙ ap (first_step misstates over) (c.as_slice-2.ensures.value ∙ c.in_ok-places.ensures)
    ∙ steps_told misstates over h
    ∙ bad_step_is no_variable c.args.f.now c.args.part.now c.args.rounds.now)
    (c.first_found.ensures (λ at. misstates (step_at over at)) (λ at. (step_at over at).step.number) (λ part r inside told. search (rules, tests)))
