use Rattle.std.proofs.Common.{refl}
use Rattle.check_rounds.proofs.WorkSets.{work_removed}
use Rattle.check_rounds.proofs.work.Work.remove.Goals as goal

pub returns-clause-removed : goal.returns-clause-removed
returns-clause-removed c n clause lit h = work_removed n clause c.args.l c.args.self.now _ lit c.remove.ensures refl h
