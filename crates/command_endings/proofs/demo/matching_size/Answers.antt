use Rattle.lk_model.specs.Formulas.Formula.{positions_of}
use Rattle.lk_model.specs.declared.class.Class.TheVariants.{Matching}
use Rattle.matching_laws.proofs.MatchingReductions.{matching_result_law}
use Rattle.command_endings.proofs.KernelSizes.{size_of_all}
use Rattle.command_endings.proofs.demo.matching_size.Goals as goal

pub returns : goal.returns
returns g c =
    let F = c.args.f.now in
    let found = c.in_ok-found.found in
    rw c.len.ensures (size_of_all Matching F found.kept (matching_result_law.kernel F (positions_of F) found c.requires.formula c.in_ok-found.ensures))
