use Rattle.std.proofs.Common.{◌∙◌, ap, length, sym, false, true}
use Rattle.std.specs.List.{list_any}
use Rattle.std.proofs.lemmas.List.{append-nil}
use Rattle.lk_model.specs.Formulas.Literal.{variable}
use Rattle.lk_model.specs.Held.VariableSets.{is_in}
use Rattle.lk_model.proofs.Rising.{rising_bounds}
use Rattle.linear_kernel.proofs.Weightings.{left_more}
use Rattle.linear_kernel.proofs.weighted.left_by.Goals as goal
use Rattle.linear_kernel.proofs.weighted.left_by.Goals.{then-not-touches+in_ok-push, else-not-touches}

pub clause-requires-clause-first : goal.clause-requires-clause-first
clause-requires-clause-first c = (rising_bounds 0 (length c.args.f.now.clauses) c.args.kept.now c.loop-p.p-index c.requires.kept c.loop-p-test.true).0

pub clause-requires-clause-last : goal.clause-requires-clause-last
clause-requires-clause-last c = (rising_bounds 0 (length c.args.f.now.clauses) c.args.kept.now c.loop-p.p-index c.requires.kept c.loop-p-test.true).1

pub loop-p-preserved : goal.loop-p-preserved
loop-p-preserved c =
    let touched = c.touches.ensures ∙ ap (list_any (λ l. is_in c.args.set.now (variable l))) c.clause.ensures.value in
    elim c.if-not-touches.branch [
      | then-not-touches+in_ok-push w ↦
          left_more c.args.f.now c.args.set.now c.args.kept.now c.loop-p.p-index c.loop-p.rest c.if-not-touches.rest false c.loop-p-test.true c.loop-p.invariant
          (sym w.if-not-touches.true ∙ touched) (w.rest-is ∙ w.in_ok-push.ensures.ok)
      | else-not-touches w ↦
          left_more c.args.f.now c.args.set.now c.args.kept.now c.loop-p.p-index c.loop-p.rest c.if-not-touches.rest true c.loop-p-test.true c.loop-p.invariant
          (sym w.if-not-touches.false ∙ touched) (w.rest-is ∙ sym (append-nil c.loop-p.rest))
    ]
