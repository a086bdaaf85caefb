use Rattle.std.proofs.Common.{◌∙◌, sym}
use Rattle.mus_core.proofs.Answered.{filled, empty_at, empty_within}
use Rattle.mus_core.proofs.search.minimal.Goals as goal

pub empty_core-requires : goal.empty_core-requires
empty_core-requires c = empty_at c.args.f.now c.in-Some.p (sym c.first_empty.ensures.first ∙ c.in-Some.is)

pub minimal_of_filled-requires : goal.minimal_of_filled-requires
minimal_of_filled-requires c = filled c.args.f.now (sym c.first_empty.ensures.first ∙ c.in-None.is)

pub returns-in_ok-empty_core-in-Some-clause-found : goal.returns-in_ok-empty_core-in-Some-clause-found
returns-in_ok-empty_core-in-Some-clause-found c =
    let core = c.in_ok-empty_core-in-Some in
    empty_within c.args.f.now c.in-Some.p c.args.conflicts core.field-0 core.ensures.core core.ensures.round
