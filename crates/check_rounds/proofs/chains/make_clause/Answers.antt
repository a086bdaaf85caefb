use Rattle.std.proofs.Common.{get_or, length, ◌≡◌, ◌∙◌, ◌+◌, List, ℤ, Bool, Option, true, false, sym, ap, subst, refl, arith, drop, None}
use Rattle.std.specs.Prelude.{option_and_then}
use Rattle.lk_model.specs.Chains.Chain.{after_turns, clause_named, chain_clause, resolvent}
use Rattle.lk_model.specs.declared.document.Turn.{Turn}
use Rattle.check_rounds.specs.Chains.{IsMade, premises_at}
use Rattle.check_rounds.proofs.ChainChecks.{turn_at, made_none, made_some, step_form}
use Rattle.check_rounds.proofs.Reaching.{first_bounds, turn_bounds, turn_literal}
use Rattle.check_rounds.proofs.chains.make_clause.Goals as goal

pub start-requires-clause-first : goal.start-requires-clause-first
start-requires-clause-first c =
    let over = c.args.over.now in
    (first_bounds over.formula.now.vars c.args.step.now (step_form over c.args.i c.args.step.now c.requires.round c.requires.place c.requires.step)).0

pub take-requires-clause-literal : goal.take-requires-clause-literal
take-requires-clause-literal c =
    let over = c.args.over.now in
    let s = c.args.step.now in
    let is = c.turn-item.is ∙ ap (λ (ts : List Turn). get_or ts c.loop-turn.turn-index c.turn-item.result) c.as_slice-turn-items.ensures in
    turn_literal over.formula.now.vars s c.loop-turn.turn-index c.turn-item.result (step_form over c.args.i s c.requires.round c.requires.place c.requires.step)
    (omega (arith, ap (λ (ts : List Turn). length ts) c.as_slice-turn-items.ensures, c.loop-turn-test.true)) is

pub take-requires-clause-first : goal.take-requires-clause-first
take-requires-clause-first c =
    let over = c.args.over.now in
    let s = c.args.step.now in
    let is = c.turn-item.is ∙ ap (λ (ts : List Turn). get_or ts c.loop-turn.turn-index c.turn-item.result) c.as_slice-turn-items.ensures in
    (turn_bounds over.formula.now.vars s c.loop-turn.turn-index c.turn-item.result (step_form over c.args.i s c.requires.round c.requires.place c.requires.step)
    (omega (arith, ap (λ (ts : List Turn). length ts) c.as_slice-turn-items.ensures, c.loop-turn-test.true)) is).0

pub returns-then-not-branch-2-clause-made : goal.returns-then-not-branch-2-clause-made
returns-then-not-branch-2-clause-made c =
    let from = premises_at c.args.over.now c.args.i in
    let n = c.args.over.now.formula.now.vars in
    let inv = c.loop-turn.invariant in
    let t = c.turn-item.result in
    let turns = c.as_slice-turn-items.result.now in
    let taken : IsMade n (option_and_then (resolvent t.lit inv.clause) (clause_named from t.with)) false c.take.new.work =
    subst (λ (b : Bool). IsMade n (option_and_then (resolvent t.lit inv.clause) (clause_named from t.with)) b c.take.new.work) c.if-not-branch-2.true (c.in_ok-take.ensures.made inv.clause inv.held) in
    let none = made_none n (option_and_then (resolvent t.lit inv.clause) (clause_named from t.with)) c.take.new.work taken in
    let chain : chain_clause from c.args.step.now.first c.args.step.now.turns ≡ None =
    sym inv.rest ∙ turn_at from inv.clause turns c.loop-turn.turn-index t (omega arith) c.turn-item.is
    ∙ ap (option_and_then (λ r. after_turns from r (drop (c.loop-turn.turn-index + 1) turns))) none.0 in
    subst (λ (o : Option (List ℤ)). IsMade n o false c.take.new.work) (sym chain) (refl, none.1)

pub loop-turn-preserved : goal.loop-turn-preserved
loop-turn-preserved c =
    let from = premises_at c.args.over.now c.args.i in
    let n = c.args.over.now.formula.now.vars in
    let inv = c.loop-turn.invariant in
    let t = c.turn-item.result in
    let turns = c.as_slice-turn-items.result.now in
    let taken : IsMade n (option_and_then (resolvent t.lit inv.clause) (clause_named from t.with)) true c.take.new.work =
    subst (λ (b : Bool). IsMade n (option_and_then (resolvent t.lit inv.clause) (clause_named from t.with)) b c.take.new.work) c.if-not-branch-2.false (c.in_ok-take.ensures.made inv.clause inv.held) in
    let some = made_some n (option_and_then (resolvent t.lit inv.clause) (clause_named from t.with)) c.take.new.work taken in
    record {
      clause = some.0;
      held = some.2;
      repeated = c.in_ok-take.ensures.repeated;
      named = c.in_ok-take.ensures.named;
      rest = sym (turn_at from inv.clause turns c.loop-turn.turn-index t (omega arith) c.turn-item.is
          ∙ ap (option_and_then (λ r. after_turns from r (drop (c.loop-turn.turn-index + 1) turns))) some.1) ∙ inv.rest;
    }
