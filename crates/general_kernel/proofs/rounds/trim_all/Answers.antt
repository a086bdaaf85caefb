use Rattle.std.proofs.Common.{◌≡◌, ◌+◌, ◌++◌, ◌∷◌, ◌∙◌, [], ℕ, List, arith, ap, subst, sym, length}
use Rattle.std.specs.Vec.Iter.{into_iter_items}
use Rattle.lk_model.specs.Documents.Documents.{steps_of}
use Rattle.lk_model.specs.declared.document.Step.{Step}
use Rattle.lk_model.specs.declared.document.Round.{Round}
use Rattle.refutation_log.specs.Trimmed.{trimmed}
use Rattle.general_kernel.specs.TrimmedRounds.{AreRefuting, rounds_of, trimmed_rounds}
use Rattle.general_kernel.proofs.Names.{trimmed_shorter}
use Rattle.general_kernel.proofs.Needed.{round_of, names_above, trimmed_rounds_more, count_more, count_logs}
use Rattle.general_kernel.proofs.rounds.trim_all.Goals as goal

pub trim-requires-clause-whole : goal.trim-requires-clause-whole
trim-requires-clause-whole c =
    let i = c.loop-log.invariant in
    let one = subst (AreRefuting c.args.low (c.args.low + length (steps_of (rounds_of c.loop-log.yielded)))) c.in-Some.ensures.steps.0 i.left in
    one.0.refutes

pub trim-requires-clause-least : goal.trim-requires-clause-least
trim-requires-clause-least c =
    let i = c.loop-log.invariant in
    let one = subst (AreRefuting c.args.low (c.args.low + length (steps_of (rounds_of c.loop-log.yielded)))) c.in-Some.ensures.steps.0 i.left in
    omega (arith, i.order, one.0.numbered)

pub trim-requires-clause-positions : goal.trim-requires-clause-positions
trim-requires-clause-positions c =
    let i = c.loop-log.invariant in
    let one = subst (AreRefuting c.args.low (c.args.low + length (steps_of (rounds_of c.loop-log.yielded)))) c.in-Some.ensures.steps.0 i.left in
    names_above c.args.low c.loop-log.next c.in-Some.log.first c.in-Some.log.steps i.above one.0.positions

pub overflow_add-next : goal.overflow_add-next
overflow_add-next c =
    let i = c.loop-log.invariant in
    let one = subst (AreRefuting c.args.low (c.args.low + length (steps_of (rounds_of c.loop-log.yielded)))) c.in-Some.ensures.steps.0 i.left in
    let shorter = trimmed_shorter c.loop-log.next c.in-Some.log.steps in
    let steps = ap (λ (us : List Step). length us) c.in_ok-needed.ensures.steps in
    omega (arith, c.len.ensures, steps, shorter, i.order, one.0.numbered, one.0.form.room)

pub loop-log-preserved : goal.loop-log-preserved
loop-log-preserved c =
    let i = c.loop-log.invariant in
    let low = c.args.low in
    let log = c.in-Some.log in
    let before = c.loop-log.yielded in
    let first = low + length (steps_of (rounds_of before)) in
    let one = subst (AreRefuting low first) c.in-Some.ensures.steps.0 i.left in
    let shorter = trimmed_shorter c.loop-log.next log.steps in
    let is = c.in_ok-needed.ensures.steps in
    let steps = ap (λ (us : List Step). length us) is in
    let all = count_logs before log in
    let count = count_more (trimmed_rounds low before) (round_of (trimmed c.loop-log.next log.steps)) in
    let so_far = ap (λ (rs : List Round). length (steps_of rs)) i.trimmed in
    let place : c.loop-log.next ≡ low + length (steps_of (trimmed_rounds low before)) = omega (arith, i.next, so_far) in
    let pushed : c.push.new.self ≡ trimmed_rounds low before ++ round_of (trimmed c.loop-log.next log.steps) ∷ [] =
    c.in_ok-push.ensures.ok ∙ ap (λ (rs : List Round). rs ++ c.in_ok-needed.needed ∷ []) i.trimmed ∙ ap (λ (us : List Step). trimmed_rounds low before ++ round_of us ∷ []) is in
    let now = ap (λ (rs : List Round). length (steps_of rs)) pushed in
    let on : first + length log.steps ≡ low + length (steps_of (rounds_of (before ++ log ∷ []))) = omega (arith, all) in
    record {
      trimmed = pushed ∙ ap (λ (k : ℕ). trimmed_rounds low before ++ round_of (trimmed k log.steps) ∷ []) place ∙ sym (trimmed_rounds_more low before log);
      next = omega (arith, c.len.ensures, steps, place, now, count);
      above = omega (arith, i.above);
      order = omega (arith, c.len.ensures, steps, shorter, i.order, all);
      left = subst (λ (k : ℕ). AreRefuting low k (into_iter_items c.next.new.self)) on one.1;
    }
