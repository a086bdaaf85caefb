use Rattle.std.proofs.Common.{◌≡◌, List, subst, get_or}
use Rattle.lk_model.specs.declared.document.Step.{Step}
use Rattle.refutation_log.proofs.Marking.{names_there}
use Rattle.refutation_log.proofs.reach.RoundChains.mark_names.Goals as goal

pub returns-clause-marks : goal.returns-clause-marks
returns-clause-marks c known h =
    let steps = c.args.self.now.steps in
    let s = c.index-as_slice-at.result in
    let is : s ≡ get_or steps c.args.at s = subst (λ (us : List Step). s ≡ get_or us c.args.at s) c.as_slice.ensures c.index-as_slice-at.is in
    rw (names_there steps c.args.at s c.requires.within is) (c.mark_names.ensures.marks known h)
