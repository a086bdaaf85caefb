use Rattle.std.proofs.Common.{◌≡◌, ◌∙◌, ◌<◌, [], ap, sym, subst, arith, Some, take, length, not, false, true}
use Rattle.std.proofs.lemmas.List.{drop_all}
use Rattle.lk_model.specs.Formulas.Formula.{Cnf}
use Rattle.lk_model.specs.Chains.Chain.{states_its_clause}
use Rattle.check_rounds.specs.Chains.{IsWork, premises_at, step_behind, misstates}
use Rattle.check_rounds.specs.Repeats.{IsIdle}
use Rattle.check_rounds.specs.Steps.{first_step, is_step_place, step_at}
use Rattle.lk_model.proofs.ListTests.{all_at}
use Rattle.check_rounds.proofs.StepPlaces.{place_at, place_of, place_first, place_later, round_is, step_in, step_reads, step_is}
use Rattle.check_rounds.proofs.chains.first_misstated.Goals as goal

pub states_its_clause-requires-clause-round : goal.states_its_clause-requires-clause-round
states_its_clause-requires-clause-round c =
    let places = c.args.places.now in
    let w = place_of c.args.over.now.rounds.now places c.loop-j.j c.requires.places (omega arith) in
    round_is c.args.over.now (place_at places c.loop-j.j).round c.round_at.result c.requires.rounds c.round_at.ensures w.round

pub returns-then-not-branch : goal.returns-then-not-branch
returns-then-not-branch c =
    let over = c.args.over.now in
    let places = c.args.places.now in
    let j = c.loop-j.j in
    let at = place_at places j in
    let r = c.round_at.result in
    let w = place_of over.rounds.now places j c.requires.places (omega arith) in
    let inside : at.index < length r.steps.now = omega (arith, w.index, ap length c.round_at.ensures.steps) in
    let is = step_reads r at inside in
    let bad : states_its_clause (premises_at r at.index) (step_in r at) ≡ false = sym (c.in_ok-states_its_clause.ensures.stated (step_in r at) is) ∙ c.if-not-branch.true in
    let same : step_behind r (take at.index r.steps.now) (step_in r at) ≡ step_at over at = step_is over at r (step_in r at) c.round_at.ensures inside is in
    ap Some c.number_of.ensures ∙ sym (place_first misstates over places j at (omega arith) w.is (ap misstates (sym same) ∙ ap not bad)) ∙ c.loop-j.invariant.rest

pub loop-j-preserved : goal.loop-j-preserved
loop-j-preserved c =
    let over = c.args.over.now in
    let places = c.args.places.now in
    let j = c.loop-j.j in
    let at = place_at places j in
    let r = c.round_at.result in
    let w = place_of over.rounds.now places j c.requires.places (omega arith) in
    let inside : at.index < length r.steps.now = omega (arith, w.index, ap length c.round_at.ensures.steps) in
    let is = step_reads r at inside in
    let good : states_its_clause (premises_at r at.index) (step_in r at) ≡ true = sym (c.in_ok-states_its_clause.ensures.stated (step_in r at) is) ∙ c.if-not-branch.false in
    let same : step_behind r (take at.index r.steps.now) (step_in r at) ≡ step_at over at = step_is over at r (step_in r at) c.round_at.ensures inside is in
    record {
      work = subst (λ (G : Cnf). IsWork G.vars [] c.states_its_clause.new.work) c.round_at.ensures.formula c.in_ok-states_its_clause.ensures.work;
      repeated = subst (λ (G : Cnf). IsIdle G.vars c.states_its_clause.new.repeated) c.round_at.ensures.formula c.in_ok-states_its_clause.ensures.repeated;
      rest = sym (place_later misstates over places j at (omega arith) w.is (ap misstates (sym same) ∙ ap not good)) ∙ c.loop-j.invariant.rest;
    }

pub states_its_clause-requires-clause-place : goal.states_its_clause-requires-clause-place
states_its_clause-requires-clause-place c =
    let w = place_of c.args.over.now.rounds.now c.args.places.now c.loop-j.j c.requires.places (omega arith) in
    omega (arith, w.index, ap length c.round_at.ensures.steps)

pub states_its_clause-requires-clause-work : goal.states_its_clause-requires-clause-work
states_its_clause-requires-clause-work c = subst (λ (G : Cnf). IsWork G.vars [] c.loop-j.work) (sym c.round_at.ensures.formula) c.loop-j.invariant.work

pub states_its_clause-requires-clause-repeated : goal.states_its_clause-requires-clause-repeated
states_its_clause-requires-clause-repeated c = subst (λ (G : Cnf). IsIdle G.vars c.loop-j.repeated) (sym c.round_at.ensures.formula) c.loop-j.invariant.repeated

pub round_at-requires : goal.round_at-requires
round_at-requires c = (place_of c.args.over.now.rounds.now c.args.places.now c.loop-j.j c.requires.places (omega arith)).round

pub number_of-requires : goal.number_of-requires
number_of-requires c = all_at (is_step_place c.args.over.now.rounds.now) c.args.places.now c.loop-j.j _ c.requires.places c.loop-j-test.true

pub returns : goal.returns
returns c = sym (ap (first_step misstates c.args.over.now) (drop_all c.loop-j.j c.args.places.now (omega arith))) ∙ c.loop-j.invariant.rest
