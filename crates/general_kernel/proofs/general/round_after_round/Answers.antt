use Rattle.std.proofs.Common.{◌≡◌, ◌∙◌, ℕ, ◌||◌, true, List, [], ◌∷◌, ◌++◌, Bool, length, refl, sym, ap, subst}
use Rattle.lk_model.specs.Formulas.Formula.{variable_occurs}
use Rattle.lk_model.specs.Held.VariableSets.{is_in}
use Rattle.lk_model.specs.declared.document.Step.{Step}
use Rattle.unit_refutations.specs.Standing.{are_between}
use Rattle.unit_refutations.specs.declared.units.UnitRefutation.{UnitRefutation}
use Rattle.crossed_copy.specs.declared.telling.CrossedRefutation.{CrossedRefutation}
use Rattle.general_kernel.specs.TrimmedRounds.{rounds_of}
use Rattle.general_kernel.proofs.States.{begins}
use Rattle.general_kernel.proofs.NearRounds.{near_answered, near_log, near_round, covered_all, not_covered}
use Rattle.general_kernel.proofs.NextRounds.{all_covered, model_ends, used_rise, next_round, none_left, stops}
use Rattle.general_kernel.proofs.UnitRounds.{answered, unit_log, unit_between, rise_between, unit_round, within_same}
use Rattle.general_kernel.proofs.general.round_after_round.Goals as goal

pub rounds-init : goal.rounds-init
rounds-init c =
    let s = c.args.rounds.now in
    let b = c.requires.begun in
    record {
      at = begins c.args.f.now c.args.part.now s.budget s b.form b.limits b.first b.logs b.blocked b.next refl;
      kept = c.requires.kept;
      within = c.requires.within;
    }

pub push_round-requires-clause-log : goal.push_round-requires-clause-log
push_round-requires-clause-log c =
    let r : UnitRefutation = c.in-Some.field-0 in
    unit_log _ c.args.rounds.now.budget c.rounds.rounds r c.requires.most (record { part = c.requires.part; blocked = c.rounds.invariant.at.size })
    (answered _ _ _ r c.in_ok-round.ensures.answer c.in-Some.is) c.rounds.invariant.at

pub block-requires-clause-positions : goal.block-requires-clause-positions
block-requires-clause-positions c =
    let r : UnitRefutation = c.in-Some.field-0 in
    subst (λ (ps : List ℕ). are_between c.args.f.now ps ≡ true) (sym c.as_slice.ensures)
    (unit_between _ _ r (record { part = c.requires.part; blocked = c.rounds.invariant.at.size }) (answered _ _ _ r c.in_ok-round.ensures.answer c.in-Some.is))

pub rounds-smaller-in-Some : goal.rounds-smaller-in-Some
rounds-smaller-in-Some c =
    let e = c.in_ok-push_round.ensures in
    let b = c.in_ok-block.ensures in
    let r : UnitRefutation = c.in-Some.field-0 in
    let after = unit_round c.args.f.now c.args.part.now c.args.rounds.now.budget c.rounds.rounds (record c.push_round.new.self { blocked = c.block.new.blocked }) r
    (record { over = _; refuted = answered _ _ _ r c.in_ok-round.ensures.answer c.in-Some.is; formula = refl; positions = refl; blocked = refl }) c.requires.most c.requires.part c.rounds.invariant.at
    (record {
      first = e.first;
      logs = e.logs;
      next = e.next;
      budget = e.budget;
      size = b.size ∙ ap (λ (bs : List Bool). length bs) e.blocked;
      blocked = λ v. b.vars v ∙ ap (λ (bs : List Bool). is_in bs v || variable_occurs c.args.f.now c.as_slice.result.now v) e.blocked
          ∙ ap (λ (ps : List ℕ). is_in c.rounds.rounds.blocked v || variable_occurs c.args.f.now ps v) c.as_slice.ensures;
    }) in
    after.1

pub rounds-preserved-in-Some : goal.rounds-preserved-in-Some
rounds-preserved-in-Some c =
    let e = c.in_ok-push_round.ensures in
    let b = c.in_ok-block.ensures in
    let r : UnitRefutation = c.in-Some.field-0 in
    let after = unit_round c.args.f.now c.args.part.now c.args.rounds.now.budget c.rounds.rounds _ r
    (record { over = _; refuted = answered _ _ _ r c.in_ok-round.ensures.answer c.in-Some.is; formula = refl; positions = refl; blocked = refl }) c.requires.most c.requires.part c.rounds.invariant.at
    (record {
      first = e.first;
      logs = e.logs;
      next = e.next;
      budget = e.budget;
      size = b.size ∙ ap (λ (bs : List Bool). length bs) e.blocked;
      blocked = λ v. b.vars v ∙ ap (λ (bs : List Bool). is_in bs v || variable_occurs c.args.f.now c.as_slice.result.now v) e.blocked
          ∙ ap (λ (ps : List ℕ). is_in c.rounds.rounds.blocked v || variable_occurs c.args.f.now ps v) c.as_slice.ensures;
    }) in
    record {
      at = after.0;
      kept = b.kept;
      within = within_same c.args.part.now c.refute.new.self c.block.new.self b.inside c.in_ok-round.ensures.within;
    }

pub returns-then-is_covered : goal.returns-then-is_covered
returns-then-is_covered c = (
  c.rounds.invariant.at.logs,
  all_covered c.args.f.now c.args.part.now c.args.rounds.now.budget c.rounds.rounds _ c.requires.part c.rounds.invariant.at c.in_ok-kept.ensures c.new-set.ensures refl
      (covered_all c.args.f.now (is_in c.rounds.rounds.blocked) c.args.part.now (sym c.is_covered.ensures ∙ c.if-is_covered.true)),
)

pub returns-then-rounds-eq0 : goal.returns-then-rounds-eq0
returns-then-rounds-eq0 c =
    none_left c.args.f.now c.args.part.now c.args.rounds.now.budget c.rounds.rounds _ c.new-steps.result c.requires.some c.rounds.invariant.at
    c.new-steps.ensures refl c.if-rounds-eq0.true
    (not_covered c.args.f.now (is_in c.rounds.rounds.blocked) c.args.part.now (sym c.is_covered.ensures ∙ c.if-is_covered.false))

pub push_round-requires-in-Some-2-clause-log : goal.push_round-requires-in-Some-2-clause-log
push_round-requires-in-Some-2-clause-log c =
    let r : CrossedRefutation = c.in-Some-2.field-0 in
    near_log _ c.args.rounds.now.budget c.rounds.rounds r c.requires.most (near_answered _ _ _ _ r c.in_ok-near.ensures c.in-Some-2.is) c.rounds.invariant.at

pub block-requires-in-Some-2-clause-positions : goal.block-requires-in-Some-2-clause-positions
block-requires-in-Some-2-clause-positions c =
    let r : CrossedRefutation = c.in-Some-2.field-0 in
    rise_between c.args.f.now c.as_slice-in-Some-2.result.now
    (used_rise c.args.f.now r.round c.as_slice-in-Some-2.result.now (c.as_slice-in-Some-2.ensures ∙ (near_answered _ _ _ _ r c.in_ok-near.ensures c.in-Some-2.is).used))

pub rounds-smaller-in-Some-2 : goal.rounds-smaller-in-Some-2
rounds-smaller-in-Some-2 c =
    let e = c.in_ok-push_round-2.ensures in
    let b = c.in_ok-block-2.ensures in
    let r : CrossedRefutation = c.in-Some-2.field-0 in
    let near = near_answered _ _ _ _ r c.in_ok-near.ensures c.in-Some-2.is in
    let after = next_round c.args.f.now c.args.part.now c.args.rounds.now.budget c.rounds.rounds (record c.push_round-in-Some-2.new.self { blocked = c.block-in-Some-2.new.blocked }) _ _
    (near_round _ _ _ r near) refl c.requires.most c.requires.part c.rounds.invariant.at
    (record {
      first = e.first;
      logs = e.logs;
      next = e.next;
      budget = e.budget;
      size = b.size ∙ ap (λ (bs : List Bool). length bs) e.blocked;
      blocked = λ v. b.vars v ∙ ap (λ (bs : List Bool). is_in bs v || variable_occurs c.args.f.now c.as_slice-in-Some-2.result.now v) e.blocked
          ∙ ap (λ (ps : List ℕ). is_in c.rounds.rounds.blocked v || variable_occurs c.args.f.now ps v) (c.as_slice-in-Some-2.ensures ∙ near.used);
    }) in
    after.1

pub rounds-preserved-in-Some-2 : goal.rounds-preserved-in-Some-2
rounds-preserved-in-Some-2 c =
    let e = c.in_ok-push_round-2.ensures in
    let b = c.in_ok-block-2.ensures in
    let r : CrossedRefutation = c.in-Some-2.field-0 in
    let near = near_answered _ _ _ _ r c.in_ok-near.ensures c.in-Some-2.is in
    let after = next_round c.args.f.now c.args.part.now c.args.rounds.now.budget c.rounds.rounds _ _ _
    (near_round _ _ _ r near) refl c.requires.most c.requires.part c.rounds.invariant.at
    (record {
      first = e.first;
      logs = e.logs;
      next = e.next;
      budget = e.budget;
      size = b.size ∙ ap (λ (bs : List Bool). length bs) e.blocked;
      blocked = λ v. b.vars v ∙ ap (λ (bs : List Bool). is_in bs v || variable_occurs c.args.f.now c.as_slice-in-Some-2.result.now v) e.blocked
          ∙ ap (λ (ps : List ℕ). is_in c.rounds.rounds.blocked v || variable_occurs c.args.f.now ps v) (c.as_slice-in-Some-2.ensures ∙ near.used);
    }) in
    record {
      at = after.0;
      kept = b.kept;
      within = within_same c.args.part.now c.refute.new.self c.block-in-Some-2.new.self b.inside c.in_ok-round.ensures.within;
    }

pub returns-in-Model : goal.returns-in-Model
returns-in-Model c = (
  c.rounds.invariant.at.logs,
  model_ends c.args.f.now c.args.part.now c.args.rounds.now.budget c.rounds.rounds c.in_ok-values.field-0 c.in-Model.values _
      (record { over = _; decided = c.in_ok-values.ensures.decided; formula = refl; positions = refl; blocked = refl }) c.in-Model.is c.requires.part c.rounds.invariant.at
      c.in_ok-kept-in-Model.ensures c.in_ok-set-in-Model.ensures refl,
)

pub block-requires-in-Refuted-clause-positions : goal.block-requires-in-Refuted-clause-positions
block-requires-in-Refuted-clause-positions c =
    rise_between c.args.f.now c.as_slice-in-Refuted.result.now
    (used_rise c.args.f.now (record { steps = c.in-Refuted.log.steps }) c.as_slice-in-Refuted.result.now (c.as_slice-in-Refuted.ensures ∙ c.in_ok-used-in-Refuted.ensures))

pub returns-in-Stopped : goal.returns-in-Stopped
returns-in-Stopped c =
    stops c.args.f.now c.args.part.now c.args.rounds.now.budget c.rounds.rounds _ c.in_ok-values.field-0 c.in-Stopped.log
    (record { over = _; decided = c.in_ok-values.ensures.decided; formula = refl; positions = refl; blocked = refl }) c.in-Stopped.is c.requires.part c.requires.some c.requires.most c.rounds.invariant.at
    (ap (λ (us : List Step). rounds_of c.rounds.rounds.logs.items ++ record { steps = us } ∷ []) c.in_ok-into_round-in-Stopped.ensures.steps)
    (not_covered c.args.f.now (is_in c.rounds.rounds.blocked) c.args.part.now (sym c.is_covered.ensures ∙ c.if-is_covered.false))

pub rounds-smaller : goal.rounds-smaller
rounds-smaller c =
    let e = c.in_ok-push-in-Refuted.ensures in
    let b = c.in_ok-block-in-Refuted.ensures in
    let after = next_round c.args.f.now c.args.part.now c.args.rounds.now.budget c.rounds.rounds (record c.push.new.self { blocked = c.block-in-Refuted.new.blocked }) c.in_ok-values.field-0 c.in-Refuted.log
    (record { over = _; decided = c.in_ok-values.ensures.decided; formula = refl; positions = refl; blocked = refl }) c.in-Refuted.is c.requires.most c.requires.part c.rounds.invariant.at
    (record {
      first = e.first;
      logs = e.logs;
      next = e.next;
      budget = e.budget;
      size = b.size ∙ ap (λ (bs : List Bool). length bs) e.blocked;
      blocked = λ v. b.vars v ∙ ap (λ (bs : List Bool). is_in bs v || variable_occurs c.args.f.now c.as_slice-in-Refuted.result.now v) e.blocked
          ∙ ap (λ (ps : List ℕ). is_in c.rounds.rounds.blocked v || variable_occurs c.args.f.now ps v) (c.as_slice-in-Refuted.ensures ∙ c.in_ok-used-in-Refuted.ensures);
    }) in
    after.1

pub rounds-preserved : goal.rounds-preserved
rounds-preserved c =
    let e = c.in_ok-push-in-Refuted.ensures in
    let b = c.in_ok-block-in-Refuted.ensures in
    let after = next_round c.args.f.now c.args.part.now c.args.rounds.now.budget c.rounds.rounds _ c.in_ok-values.field-0 c.in-Refuted.log
    (record { over = _; decided = c.in_ok-values.ensures.decided; formula = refl; positions = refl; blocked = refl }) c.in-Refuted.is c.requires.most c.requires.part c.rounds.invariant.at
    (record {
      first = e.first;
      logs = e.logs;
      next = e.next;
      budget = e.budget;
      size = b.size ∙ ap (λ (bs : List Bool). length bs) e.blocked;
      blocked = λ v. b.vars v ∙ ap (λ (bs : List Bool). is_in bs v || variable_occurs c.args.f.now c.as_slice-in-Refuted.result.now v) e.blocked
          ∙ ap (λ (ps : List ℕ). is_in c.rounds.rounds.blocked v || variable_occurs c.args.f.now ps v) (c.as_slice-in-Refuted.ensures ∙ c.in_ok-used-in-Refuted.ensures);
    }) in
    record {
      at = after.0;
      kept = b.kept;
      within = within_same c.args.part.now c.refute.new.self c.block-in-Refuted.new.self b.inside c.in_ok-round.ensures.within;
    }
