use Rattle.std.proofs.Common.{◌∙◌, List, ℕ, IsTrue, ap, length, subst, sym}
use Rattle.lk_model.specs.Lists.{rises_within}
use Rattle.lk_model.specs.Formulas.Lean.{are_positions}
use Rattle.lk_model.specs.Linear.Rows.{TableauRows, start_of}
use Rattle.lk_model.specs.Linear.Phases.{stage_of}
use Rattle.lk_model.specs.Linear.LinearRun.{Moment}
use Rattle.linear_kernel.proofs.Weightings.{left_rises}
use Rattle.linear_kernel.proofs.run.Run.stage.Goals as goal

pub push_stage-requires-clause-positions : goal.push_stage-requires-clause-positions
push_stage-requires-clause-positions c =
    let kept = c.as_slice.ensures ∙ c.self.invariant ∙ ap (λ (m : Moment). m.rows.positions) c.self.view_is in
    subst (λ (ps : List ℕ). IsTrue (are_positions c.args.f.now ps)) (sym kept) c.requires.positions

pub of-requires : goal.of-requires
of-requires c =
    let kept = c.as_slice.ensures ∙ c.self.invariant ∙ ap (λ (m : Moment). m.rows.positions) c.self.view_is in
    let rest = c.as_slice-2.ensures ∙ c.in_ok-kept.ensures.rest.1 in
    let positions = subst (λ (ps : List ℕ). IsTrue (are_positions c.args.f.now ps)) (sym kept) c.requires.positions in
    subst (λ ps. IsTrue (rises_within 0 (length c.args.f.now.clauses) ps)) (sym rest) (left_rises c.args.f.now (stage_of c.self.inside.rows) c.as_slice.result.now positions)

pub invariant_of-result : goal.invariant_of-result
unfolding start_of
invariant_of-result c = sym (ap (λ (t : TableauRows). t.positions) c.in_ok-rows.ensures ∙ c.as_slice-2.ensures)
