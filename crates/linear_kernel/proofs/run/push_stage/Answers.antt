use Rattle.std.proofs.Common.{subst, sym}
use Rattle.std.specs.List.{All}
use Rattle.lk_model.specs.declared.document.Stage.{Stage}
use Rattle.linear_kernel.specs.Weights.{IsWeight}
use Rattle.linear_kernel.proofs.Weightings.{stage_weights}
use Rattle.linear_kernel.proofs.run.push_stage.Goals as goal

pub unweighted-requires-clause-weights : goal.unweighted-requires-clause-weights
unweighted-requires-clause-weights c =
    subst (λ (s : Stage). All (IsWeight c.args.f.now.vars) s.weights) (sym c.in_ok-stage.ensures.1) (stage_weights c.args.f.now c.requires.reached.0 c.args.rows c.requires.reached.1)
