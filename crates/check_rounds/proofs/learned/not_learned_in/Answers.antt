use Rattle.std.proofs.Common.{◌≡◌, ◌∙◌, ◌<◌, [], ap, sym, subst, arith, Some, take, length, false, true}
use Rattle.lk_model.specs.Formulas.Formula.{Cnf}
use Rattle.check_rounds.specs.Chains.{step_behind, is_unlearned}
use Rattle.check_tables.specs.LiteralSets.{IsSetOf}
use Rattle.check_rounds.specs.Steps.{step_at}
use Rattle.check_rounds.proofs.LearnedChecks.{known_at}
use Rattle.check_rounds.proofs.StepPlaces.{place_at, place_of, place_first, place_later, step_in, step_reads, step_is}
use Rattle.check_rounds.proofs.learned.not_learned_in.Goals as goal

pub is_unlearned-requires-clause-known : goal.is_unlearned-requires-clause-known
is_unlearned-requires-clause-known c =
    let over = c.args.over.now in
    let places = c.args.places.now in
    let w = place_of over.rounds.now places c.loop-j.j c.requires.places (omega arith) in
    known_at over (place_at places c.loop-j.j).round c.round_at.result c.args.known.now c.requires.rounds c.requires.known c.round_at.ensures w.round

pub returns-then-is_unlearned : goal.returns-then-is_unlearned
returns-then-is_unlearned c =
    let over = c.args.over.now in
    let places = c.args.places.now in
    let j = c.loop-j.j in
    let at = place_at places j in
    let r = c.round_at.result in
    let w = place_of over.rounds.now places j c.requires.places (omega arith) in
    let inside : at.index < length r.steps.now = omega (arith, w.index, ap length c.round_at.ensures.steps) in
    let is = step_reads r at inside in
    let same : step_behind r (take at.index r.steps.now) (step_in r at) ≡ step_at over at = step_is over at r (step_in r at) c.round_at.ensures inside is in
    let passes : is_unlearned (step_at over at) ≡ true = ap is_unlearned (sym same) ∙ sym (c.is_unlearned.ensures.test (step_in r at) is) ∙ c.if-is_unlearned.true in
    ap Some c.number_of.ensures ∙ sym (place_first is_unlearned over places j at (omega arith) w.is passes) ∙ c.loop-j.invariant.rest

pub loop-j-preserved : goal.loop-j-preserved
loop-j-preserved c =
    let over = c.args.over.now in
    let places = c.args.places.now in
    let j = c.loop-j.j in
    let at = place_at places j in
    let r = c.round_at.result in
    let w = place_of over.rounds.now places j c.requires.places (omega arith) in
    let inside : at.index < length r.steps.now = omega (arith, w.index, ap length c.round_at.ensures.steps) in
    let is = step_reads r at inside in
    let same : step_behind r (take at.index r.steps.now) (step_in r at) ≡ step_at over at = step_is over at r (step_in r at) c.round_at.ensures inside is in
    let fails : is_unlearned (step_at over at) ≡ false = ap is_unlearned (sym same) ∙ sym (c.is_unlearned.ensures.test (step_in r at) is) ∙ c.if-is_unlearned.false in
    record {
      held = subst (λ (F : Cnf). IsSetOf F.vars [] c.is_unlearned.new.held) c.round_at.ensures.formula c.is_unlearned.ensures.held;
      rest = sym (place_later is_unlearned over places j at (omega arith) w.is fails) ∙ c.loop-j.invariant.rest;
    }
