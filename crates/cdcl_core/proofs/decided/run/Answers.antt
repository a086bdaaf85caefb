use Rattle.std.proofs.Common.{◌≡◌, ◌∙◌, ◌<◌, ◌^◌, ℕ, length, sym, subst, arith}
use Rattle.watch_prop.specs.declared.entry.Propagated.{Propagated}
use Rattle.watch_prop.specs.Propagation.{IsAnswered}
use Rattle.learning_laws.proofs.Solving.{solve_law}
use Rattle.cdcl_core.proofs.Searches.{search_forced, less_assigned}
use Rattle.cdcl_core.proofs.decided.run.Goals as goal

pub assign_next-requires-clause-search : goal.assign_next-requires-clause-search
assign_next-requires-clause-search c = search_forced c.args.over.now c.turns.search c.propagate.new.self c.turns.invariant.search c.propagate.ensures.goes_on c.propagate.ensures.held

pub turns-smaller-else-not-branch : goal.turns-smaller-else-not-branch
turns-smaller-else-not-branch c =
    less_assigned c.args.over.now c.args.budget c.turns.search c.assign_next.new.self c.propagate.new.self c.propagate.ensures.goes_on c.in_ok-assign_next-in-Quiet.ensures.search
    c.assign_next.ensures.log c.in_ok-assign_next-in-Quiet.ensures.vars (c.in_ok-assign_next-in-Quiet.ensures.more c.if-not-branch.false)

pub refute-requires-clause-search : goal.refute-requires-clause-search
refute-requires-clause-search c = search_forced c.args.over.now c.turns.search c.propagate.new.self c.turns.invariant.search c.propagate.ensures.goes_on c.propagate.ensures.held

pub returns-then-len-budget : goal.returns-then-len-budget
returns-then-len-budget c =
    let h = c.turns.invariant.search in
    let forced = search_forced c.args.over.now c.turns.search c.propagate.new.self h c.propagate.ensures.goes_on c.propagate.ensures.held in
    let all : length c.turns.search.log.steps ≡ c.args.budget = sym c.len.ensures.count ∙ c.if-len-budget.true in
    record {
      decided = record {
        numbered = c.turns.invariant.first;
        round = h.solving.round;
        filled = h.solving.filled;
        all = all;
        few = subst (λ (n : ℕ). n < 3 ^ c.args.over.now.formula.now.vars) all (solve_law.few c.args.over.now c.turns.search.log c.turns.search.propagator h.formula h.solving);
        wants = record {
          state = c.propagate.new.self;
          solving = forced.solving;
          above = omega (arith, c.present_level.ensures.value, c.if-present_level-eq0.false);
          number = c.in-Conflict.conflict;
          conflict = subst (λ (a : Propagated). IsAnswered c.propagate.new.self a) c.in-Conflict.is c.propagate.ensures.answer;
        };
      };
      goes_on = forced;
    }

pub learn-requires-clause-search : goal.learn-requires-clause-search
learn-requires-clause-search c = search_forced c.args.over.now c.turns.search c.propagate.new.self c.turns.invariant.search c.propagate.ensures.goes_on c.propagate.ensures.held
