use Rattle.std.proofs.Common.{◌≡◌, ◌-◌, ℕ, false, true, nat_lt, slice_index_or, ◌+◌, ◌∷◌, ◌∙◌, sym, ap, subst, length, arith, List, [], ◌++◌, IsTrue}
use Rattle.std.proofs.lemmas.List.{length_push}
use Rattle.std.proofs.lemmas.Iterator.Adapters.{YieldsList-from_vec}
use Rattle.std.proofs.lemmas.Iterator.Consumers.{YieldsList-turn}
use Rattle.std.specs.List.{list_all}
use Rattle.lk_model.specs.Chains.Chain.{names_of}
use Rattle.lk_model.specs.declared.document.Step.{Step}
use Rattle.lk_model.proofs.ListTests.{all_at}
use Rattle.refutation_log.specs.Derivation.{names_lower}
use Rattle.refutation_log.specs.Trimmed.{with_numbers}
use Rattle.refutation_log.specs.Numbers.{number_by_table, is_marked}
use Rattle.refutation_log.proofs.Steps.{number_get}
use Rattle.refutation_log.proofs.Marking.{names_all}
use Rattle.refutation_log.proofs.Renumbering.{more_passes, more_fails}
use Rattle.refutation_log.proofs.numbers.kept_steps.Goals as goal

pub overflow_sub-number : goal.overflow_sub-number
overflow_sub-number c =
    let g = c.into_iter-step-iterator.ensures.into_iter_gives in
    let t = YieldsList-turn (YieldsList-from_vec c.args.steps.items g.0 (g.1 ∙ c.args.steps.ok.0)) c.loop-step.yielded _ c.loop-step.yielded_by c.next.result c.next.new.self c.in-Some.step c.in-Some.is c.next.ensures.steps in
    let number = number_get c.args.first c.args.steps.items (length c.loop-step.yielded) c.in-Some.step c.requires.numbered t.0 t.1 in
    omega (arith, number, c.number.ensures)

pub bounds-marks-number : goal.bounds-marks-number
bounds-marks-number c =
    let g = c.into_iter-step-iterator.ensures.into_iter_gives in
    let t = YieldsList-turn (YieldsList-from_vec c.args.steps.items g.0 (g.1 ∙ c.args.steps.ok.0)) c.loop-step.yielded _ c.loop-step.yielded_by c.next.result c.next.new.self c.in-Some.step c.in-Some.is c.next.ensures.steps in
    let number = number_get c.args.first c.args.steps.items (length c.loop-step.yielded) c.in-Some.step c.requires.numbered t.0 t.1 in
    omega (arith, number, t.0, c.requires.marks, c.number.ensures)

pub with_new_numbers-requires : goal.with_new_numbers-requires
with_new_numbers-requires c =
    let g = c.into_iter-step-iterator.ensures.into_iter_gives in
    let t = YieldsList-turn (YieldsList-from_vec c.args.steps.items g.0 (g.1 ∙ c.args.steps.ok.0)) c.loop-step.yielded _ c.loop-step.yielded_by c.next.result c.next.new.self c.in-Some.step c.in-Some.is c.next.ensures.steps in
    let number = number_get c.args.first c.args.steps.items (length c.loop-step.yielded) c.in-Some.step c.requires.numbered t.0 t.1 in
    let s = c.in-Some.step in
    let bound = c.args.first + length c.args.numbers.now in
    let lower : IsTrue (names_lower s) =
    subst (λ (u : Step). IsTrue (names_lower u)) (sym t.1) (all_at names_lower c.args.steps.items (length c.loop-step.yielded) s c.requires.names t.0) in
    subst (λ (u : Step). IsTrue (list_all (λ k. nat_lt k bound) (u.number ∷ names_of u))) (sym c.in_ok-step.ensures)
    (names_all s bound lower (omega (arith, number, t.0, c.requires.numbers)))

pub loop-step-preserved-in-Continue-branch-2 : goal.loop-step-preserved-in-Continue-branch-2
loop-step-preserved-in-Continue-branch-2 c =
    let g = c.into_iter-step-iterator.ensures.into_iter_gives in
    let t = YieldsList-turn (YieldsList-from_vec c.args.steps.items g.0 (g.1 ∙ c.args.steps.ok.0)) c.loop-step.yielded _ c.loop-step.yielded_by c.next.result c.next.new.self c.in-Some.step c.in-Some.is c.next.ensures.steps in
    let f = with_numbers (number_by_table c.args.first c.args.numbers.now) in
    let marked : is_marked c.args.first c.args.marks.now c.in-Some.step ≡ true =
    subst (λ (k : ℕ). slice_index_or c.args.marks.now (k - c.args.first) false ≡ true) c.number.ensures c.if-marks-number.true in
    rw (length_push c.loop-step.yielded c.in-Some.step)
    (c.in_ok-push.ensures.ok ∙ ap (λ (s : Step). c.loop-step.kept ++ s ∷ []) (c.with_new_numbers.ensures ∙ ap f c.in_ok-step.ensures) ∙ ap (λ (ss : List Step). ss ++ f c.in-Some.step ∷ []) c.loop-step.invariant
    ∙ sym (more_passes (is_marked c.args.first c.args.marks.now) f c.args.steps.items (length c.loop-step.yielded) c.in-Some.step t.0 t.1 marked))

pub loop-step-preserved-else-marks-number : goal.loop-step-preserved-else-marks-number
loop-step-preserved-else-marks-number c =
    let g = c.into_iter-step-iterator.ensures.into_iter_gives in
    let t = YieldsList-turn (YieldsList-from_vec c.args.steps.items g.0 (g.1 ∙ c.args.steps.ok.0)) c.loop-step.yielded _ c.loop-step.yielded_by c.next.result c.next.new.self c.in-Some.step c.in-Some.is c.next.ensures.steps in
    let f = with_numbers (number_by_table c.args.first c.args.numbers.now) in
    let unmarked : is_marked c.args.first c.args.marks.now c.in-Some.step ≡ false =
    subst (λ (k : ℕ). slice_index_or c.args.marks.now (k - c.args.first) false ≡ false) c.number.ensures c.if-marks-number.false in
    rw (length_push c.loop-step.yielded c.in-Some.step)
    (c.loop-step.invariant
    ∙ sym (more_fails (is_marked c.args.first c.args.marks.now) f c.args.steps.items (length c.loop-step.yielded) c.in-Some.step t.0 t.1 unmarked))
