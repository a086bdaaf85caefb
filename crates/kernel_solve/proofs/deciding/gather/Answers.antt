use Rattle.std.proofs.Common.{rules, arith, ◌≡◌, ℤ, List, [], ◌∷◌, ◌++◌, Some, sym, subst}
use Rattle.std.specs.Vec.Iter.{into_iter_items, into_iter_len}
use Rattle.std.proofs.lemmas.Grind.{common_steps}
use Rattle.lk_model.specs.declared.document.Round.{Round}
use Rattle.kernel_solve.specs.Answers.{IsGatheredSoFar}
use Rattle.kernel_solve.proofs.Gathering.{model_more, stopped_more, first_refutation, all_come, first_stop, all_models}
use Rattle.kernel_solve.proofs.deciding.gather.Goals as goal

pub loop-answer-preserved-in-Continue-1 : goal.loop-answer-preserved-in-Continue-1
loop-answer-preserved-in-Continue-1 c = record {
  so_far =
      subst (λ (sets : List (List ℤ)). IsGatheredSoFar (c.loop-answer.yielded ++ c.in-Some.answer ∷ []) sets c.loop-answer.stopped) (sym c.in_ok-push-in-Model.ensures.ok)
      (model_more c.loop-answer.yielded c.loop-answer.models c.loop-answer.stopped c.in-Some.answer c.in-Model.model c.in-Model.is c.loop-answer.invariant.so_far);
  rest = grind (arith, common_steps);
  long = search rules;
}

pub loop-answer-preserved : goal.loop-answer-preserved
loop-answer-preserved c = record {
  so_far =
      subst (λ (r : Round). IsGatheredSoFar (c.loop-answer.yielded ++ c.in-Some.answer ∷ []) c.loop-answer.models (Some r)) (sym c.unwrap_or.ensures)
      (stopped_more c.loop-answer.yielded c.loop-answer.models c.loop-answer.stopped c.in-Some.answer c.in-Stopped.round c.in-Stopped.is c.loop-answer.invariant.so_far);
  rest = grind (arith, common_steps);
  long = search rules;
}

pub returns-in-Refuted : goal.returns-in-Refuted
returns-in-Refuted c =
    let all : c.loop-answer.yielded ++ c.in-Some.answer ∷ [] ++ into_iter_items c.next.new.self ≡ c.args.answers = grind (arith, common_steps) in
    first_refutation c.args.answers c.loop-answer.yielded (into_iter_items c.next.new.self) c.loop-answer.models c.loop-answer.stopped c.in-Some.answer c.in-Refuted.round
    c.in-Refuted.is all c.loop-answer.invariant.so_far

pub returns-in-Some-stopped : goal.returns-in-Some-stopped
returns-in-Some-stopped c =
    let h = c.loop-answer.invariant in
    first_stop c.args.answers c.loop-answer.yielded c.loop-answer.models c.loop-answer.stopped c.in-Some-stopped.round
    (all_come c.args.answers c.loop-answer.yielded (into_iter_items c.loop-answer.answer-iterator) (into_iter_len c.loop-answer.answer-iterator) h.rest h.long c.in-None.ensures.steps.0)
    c.in-Some-stopped.is h.so_far

pub returns-in-None-stopped : goal.returns-in-None-stopped
returns-in-None-stopped c =
    let h = c.loop-answer.invariant in
    all_models c.args.answers c.loop-answer.yielded c.loop-answer.models c.loop-answer.stopped
    (all_come c.args.answers c.loop-answer.yielded (into_iter_items c.loop-answer.answer-iterator) (into_iter_len c.loop-answer.answer-iterator) h.rest h.long c.in-None.ensures.steps.0)
    c.in-None-stopped.is h.so_far
