use Rattle.std.proofs.Common.{arith}
use Rattle.std.proofs.lemmas.Grind.{common_steps}
use Rattle.std.proofs.Common.{◌∙◌, ◌&&◌, ℕ, ◌++◌, ◌∷◌, [], List, not, length, refl, sym, ap, subst, IsTrue}
use Rattle.std.specs.List.{list_all}
use Rattle.lk_model.specs.Lists.{among, is_empty}
use Rattle.lk_model.specs.Formulas.Literal.{is_clause, is_literal, is_distinct}
use Rattle.watch_prop.specs.declared.watch.Watch.{Watch}
use Rattle.lk_model.proofs.Booleans.{and_true}
use Rattle.watch_prop.specs.declared.entry.NumberedClause.{NumberedClause}
use Rattle.watch_prop.specs.HeldPropagator.{propagator_seen}
use Rattle.watch_prop.specs.Propagation.{Propagation, numbers_of}
use Rattle.watch_prop.proofs.Holding.{ranks_within, held_state}
use Rattle.watch_prop.proofs.propagator.Propagator.hold.Goals as goal

pub count-requires-clause-ranks : goal.count-requires-clause-ranks
count-requires-clause-ranks c =
    let p = propagator_seen c.self.inside in
    let clause : IsTrue (not (is_empty c.args.lits.now) && is_clause p.vars c.args.lits.now) =
    subst (λ (q : Propagation). IsTrue (not (is_empty c.args.lits.now) && is_clause q.vars c.args.lits.now)) (sym c.self.view_is) c.requires.clause in
    let both = and_true (not (is_empty c.args.lits.now)) (is_clause p.vars c.args.lits.now) clause in
    let lits = and_true (list_all (is_literal p.vars) c.args.lits.now) (is_distinct c.args.lits.now) both.1 in
    ranks_within p.vars (length c.self.inside.state.lists.lists) c.args.lits.now c.self.invariant.known.linked.ranks lits.0

pub invariant_of-self-2 : goal.invariant_of-self-2
invariant_of-self-2 c =
    let p = propagator_seen c.self.inside in
    let d : NumberedClause = record { number = c.args.number; lits = c.args.lits.now } in
    let clause : IsTrue (not (is_empty c.args.lits.now) && is_clause p.vars c.args.lits.now) =
    subst (λ (q : Propagation). IsTrue (not (is_empty c.args.lits.now) && is_clause q.vars c.args.lits.now)) (sym c.self.view_is) c.requires.clause in
    let fresh : IsTrue (not (among (numbers_of p.clauses) c.args.number)) = subst (λ (q : Propagation). IsTrue (not (among (numbers_of q.clauses) c.args.number))) (sym c.self.view_is) c.requires.fresh in
    let x : Watch = record { first = c.index-lits-0.result; second = c.index-lits-0.result } in
    held_state c.self.inside.clauses c.push.new.self c.self.inside.trail c.self.inside.state _ d x
    (record {
      state = c.self.invariant;
      clause = clause;
      fresh = fresh;
      more = c.in_ok-push.ensures.ok;
      watches = c.push_reserved.ensures.items ∙ ap (λ (ws : List Watch). ws ++ x ∷ []) c.reserve.ensures.items;
      lists = c.count.ensures.lists;
      rows = c.count.ensures.rows;
      counts = c.in_default-count.ensures.counts;
      waiting = c.push_reserved-2.ensures.items ∙ ap (λ (ps : List ℕ). ps ++ c.in-Ok.place ∷ []) c.reserve-2.ensures.items
          ∙ ap (λ (n : ℕ). c.self.inside.state.waiting.items ++ n ∷ []) (c.in-Ok.ensures.1 ∙ c.len-len.ensures);
      satisfied = refl;
      head = refl;
      marks = refl;
    })

pub len-len-requires : goal.len-len-requires
len-len-requires c = grind (arith, common_steps)

pub returns-in_default-clause-ok : goal.returns-in_default-clause-ok
returns-in_default-clause-ok c = grind (arith, common_steps)

pub returns-in_default-clause-err : goal.returns-in_default-clause-err
returns-in_default-clause-err c = grind (arith, common_steps)

pub returns-in_err-reserve-clause-ok : goal.returns-in_err-reserve-clause-ok
returns-in_err-reserve-clause-ok c = grind (arith, common_steps)

pub returns-in_err-reserve-clause-err : goal.returns-in_err-reserve-clause-err
returns-in_err-reserve-clause-err c = grind (arith, common_steps)

pub invariant_of-self-in_err-reserve-2 : goal.invariant_of-self-in_err-reserve-2
invariant_of-self-in_err-reserve-2 c = grind (arith, common_steps)

pub returns-in_err-reserve-2-clause-ok : goal.returns-in_err-reserve-2-clause-ok
returns-in_err-reserve-2-clause-ok c = grind (arith, common_steps)

pub returns-in_err-reserve-2-clause-err : goal.returns-in_err-reserve-2-clause-err
returns-in_err-reserve-2-clause-err c = grind (arith, common_steps)

pub invariant_of-self-in_err-reserve-3 : goal.invariant_of-self-in_err-reserve-3
invariant_of-self-in_err-reserve-3 c = grind (arith, common_steps)

pub returns-in_err-reserve-3-clause-ok : goal.returns-in_err-reserve-3-clause-ok
returns-in_err-reserve-3-clause-ok c = grind (arith, common_steps)

pub returns-in_err-reserve-3-clause-err : goal.returns-in_err-reserve-3-clause-err
returns-in_err-reserve-3-clause-err c = grind (arith, common_steps)

pub push-requires : goal.push-requires
push-requires c = grind (arith, common_steps)

pub invariant_of-self-in_err-push : goal.invariant_of-self-in_err-push
invariant_of-self-in_err-push c = grind (arith, common_steps)

pub returns-in_err-push-clause-ok : goal.returns-in_err-push-clause-ok
returns-in_err-push-clause-ok c = grind (arith, common_steps)

pub returns-in_err-push-clause-err : goal.returns-in_err-push-clause-err
returns-in_err-push-clause-err c = grind (arith, common_steps)

pub count-requires-clause-distinct : goal.count-requires-clause-distinct
count-requires-clause-distinct c = grind (arith, common_steps)

pub truncate-requires : goal.truncate-requires
truncate-requires c = grind (arith, common_steps)

pub invariant_of-self-in-Err : goal.invariant_of-self-in-Err
invariant_of-self-in-Err c = grind (arith, common_steps)

pub returns-in-Err-clause-ok : goal.returns-in-Err-clause-ok
returns-in-Err-clause-ok c = grind (arith, common_steps)

pub returns-in-Err-clause-err : goal.returns-in-Err-clause-err
returns-in-Err-clause-err c = grind (arith, common_steps)

pub bounds-lits-0 : goal.bounds-lits-0
bounds-lits-0 c = grind (arith, common_steps)

pub push_reserved-requires : goal.push_reserved-requires
push_reserved-requires c = grind (arith, common_steps)

pub push_reserved-requires-2 : goal.push_reserved-requires-2
push_reserved-requires-2 c = grind (arith, common_steps)

pub push_reserved-requires-3 : goal.push_reserved-requires-3
push_reserved-requires-3 c = grind (arith, common_steps)

pub returns-clause-ok : goal.returns-clause-ok
returns-clause-ok c = grind (arith, common_steps)

pub returns-clause-err : goal.returns-clause-err
returns-clause-err c = grind (arith, common_steps)
