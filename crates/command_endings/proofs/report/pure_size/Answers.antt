use Rattle.command_endings.proofs.KernelSizes.{size_kept}
use Rattle.lk_model.specs.declared.class.Class.TheVariants.{Pure}
use Rattle.command_endings.proofs.report.pure_size.Goals as goal

pub returns : goal.returns
returns c = rw c.len.ensures (size_kept Pure c.args.f.now c.in_ok-found.found.kept _ c.in_ok-found.ensures.kernel)
