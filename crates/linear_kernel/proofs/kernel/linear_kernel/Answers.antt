use Rattle.std.proofs.Common.{◌∙◌, ap, arith, length, List, ℕ, Ok, subst, sym}
use Rattle.std.proofs.lemmas.Result.{err_from_is_err_and}
use Rattle.lk_model.specs.Formulas.Formula.{variables_at}
use Rattle.lk_model.specs.Linear.LinearRun.{moved}
use Rattle.linear_kernel.specs.declared.run.Progress.{Progress}
use Rattle.linear_kernel.specs.Moves.{LeadsTo}
use Rattle.linear_kernel.proofs.Ends.{answers_done, answers_stop, few_occur, is_small}
use Rattle.linear_kernel.proofs.Moments.{GoesOn, goes_first, goes_later, less_room}
use Rattle.linear_kernel.proofs.kernel.linear_kernel.Goals as goal

pub overflow_cast-vars : goal.overflow_cast-vars
overflow_cast-vars c =
    let few = few_occur c.args.f.now c.as_slice.result.now c.occurring.ensures.limits.vars in
    let vars = c.len-vars.ensures ∙ ap (λ (vs : List ℕ). length vs) c.in_ok-occurring.ensures.value in
    record { fits = omega (arith, few, vars) }

pub is_too_large-requires-clause-vars : goal.is_too_large-requires-clause-vars
is_too_large-requires-clause-vars c =
    let few = few_occur c.args.f.now c.as_slice.result.now c.occurring.ensures.limits.vars in
    let vars = c.len-vars.ensures ∙ ap (λ (vs : List ℕ). length vs) c.in_ok-occurring.ensures.value in
    omega (arith, few, vars)

pub moves-init : goal.moves-init
moves-init c = subst (GoesOn c.args.f.now c.args.pivots) (sym c.in_ok-run.ensures) (goes_first c.args.f.now c.args.pivots)

pub moves-preserved : goal.moves-preserved
moves-preserved c =
    let later = subst (λ (x : Progress). LeadsTo c.args.pivots (moved c.args.f.now c.args.pivots c.moves.run) (Ok x)) c.in-On.is c.in_ok-next.ensures in
    goes_later c.args.f.now c.args.pivots c.moves.run c.in-On.next c.moves.invariant later

pub moves-smaller : goal.moves-smaller
moves-smaller c =
    let later = subst (λ (x : Progress). LeadsTo c.args.pivots (moved c.args.f.now c.args.pivots c.moves.run) (Ok x)) c.in-On.is c.in_ok-next.ensures in
    less_room c.args.f.now c.args.pivots c.moves.run c.in-On.next c.moves.invariant later

pub returns-in_err-next : goal.returns-in_err-next
returns-in_err-next c =
    let vars = c.len-vars.ensures ∙ ap (λ (vs : List ℕ). length vs) (c.in_ok-occurring.ensures.value ∙ ap (variables_at c.args.f.now) (c.as_slice.ensures ∙ c.in_ok-kept.ensures.value)) in
    let small = is_small c.args.f.now c.len-vars.result c.len-clauses.result c.is_too_large.result vars c.len-clauses.ensures.value c.is_too_large.ensures c.if-is_too_large.false in
    let p = err_from_is_err_and c.from_residual-in_err-next.result c.from_residual-in_err-next.ensures.1 in
    rw (p.1, p.2) (answers_stop c.args.f.now c.args.pivots c.moves.run small c.moves.invariant c.in_err-next.field-0.0 c.in_err-next.ensures)

pub returns-in-Done : goal.returns-in-Done
returns-in-Done c =
    let vars = c.len-vars.ensures ∙ ap (λ (vs : List ℕ). length vs) (c.in_ok-occurring.ensures.value ∙ ap (variables_at c.args.f.now) (c.as_slice.ensures ∙ c.in_ok-kept.ensures.value)) in
    let small = is_small c.args.f.now c.len-vars.result c.len-clauses.result c.is_too_large.result vars c.len-clauses.ensures.value c.is_too_large.ensures c.if-is_too_large.false in
    let done = subst (λ (x : Progress). LeadsTo c.args.pivots (moved c.args.f.now c.args.pivots c.moves.run) (Ok x)) c.in-Done.is c.in_ok-next.ensures in
    answers_done c.args.f.now c.args.pivots c.moves.run small c.moves.invariant c.in-Done.result done
