use Rattle.std.proofs.Common.{◌≡◌, ◌∙◌, ap, rules, length}
use borrow.Author.Tests.{tests}
use Rattle.std.proofs.lemmas.Result.{IfOk-weaker}
use Rattle.lk_model.specs.Formulas.Crossed.{no_variable}
use Rattle.check_rounds.specs.declared.steps.Rounds.{Rounds}
use Rattle.check_rounds.specs.Chains.{is_unlearned}
use Rattle.check_rounds.specs.Steps.{step_at, first_step}
use Rattle.check_rounds.proofs.ChainChecks.{not_learned_is}
use Rattle.check_rounds.proofs.LearnedChecks.{positions_rise}
use Rattle.check_rounds.proofs.StepPlaces.{are_rounds, part_places, steps_told}
use Rattle.check_rounds.proofs.learned.not_learned.Goals as goal

pub kept_flags-requires : goal.kept_flags-requires
kept_flags-requires g c = rw (c.len.ensures.value, c.requires.part) (positions_rise (length c.args.f.now.clauses))

pub first_found-requires-after_bounds : goal.first_found-requires-after_bounds
first_found-requires-after_bounds g c κs within = λ part inside _ _ _ _ _.
    let over : Rounds = record { formula = c.args.f; part = c.args.part; flags = c.as_slice.result; blocked_at = c.args.blocks; rounds = c.args.rounds } in
    let h = are_rounds over c.len.result c.in_ok-flags.flags.items c.len.ensures.formula c.len.ensures.value c.as_slice.ensures.value c.in_ok-flags.ensures c.requires.blocks c.requires.steps in
    let places = part_places c.args.rounds.now part.now c.as_slice-2.result.now (c.as_slice-2.ensures.value ∙ c.in_ok-places.ensures) inside in (
      h,
      (
        record { part = c.requires.part; rounds_open = c.requires.rounds; clauses_size = c.in_ok-known.ensures.clauses_size; steps_size = c.in_ok-known.ensures.steps_size; clauses = c.in_ok-known.ensures.clauses; steps = c.in_ok-known.ensures.steps },
        places,
      ),
    )

pub returns : goal.returns
returns g c =
    let over : Rounds = record { formula = c.args.f; part = c.args.part; flags = c.as_slice.result; blocked_at = c.args.blocks; rounds = c.args.rounds } in
    let h = are_rounds over c.len.result c.in_ok-flags.flags.items c.len.ensures.formula c.len.ensures.value c.as_slice.ensures.value c.in_ok-flags.ensures c.requires.blocks c.requires.steps in
    IfOk-weaker c.first_found.result (λ place. place ≡ first_step is_unlearned over c.as_slice-2.result.now) _
    (λ place found.
    found
    ∙ ap (first_step is_unlearned over) (c.as_slice-2.ensures.value ∙ c.in_ok-places.ensures)
    ∙ steps_told is_unlearned over h
    ∙ not_learned_is no_variable c.args.f.now c.args.part.now c.args.rounds.now)
    (c.first_found.ensures (λ at. is_unlearned (step_at over at)) (λ at. (step_at over at).step.number) (λ part r inside told. search (rules, tests)))
