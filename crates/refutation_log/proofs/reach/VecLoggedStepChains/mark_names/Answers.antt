use Rattle.refutation_log.proofs.Marking.{names_there}
use Rattle.refutation_log.proofs.reach.VecLoggedStepChains.mark_names.Goals as goal

pub returns-clause-marks : goal.returns-clause-marks
returns-clause-marks c known h =
    rw (names_there c.args.self.now.items c.args.at c.index.result.now c.requires.within c.index.ensures) (c.mark_logged.ensures.marks known h)
