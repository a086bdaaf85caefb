use Rattle.std.proofs.Common.{subst}
use Rattle.part_kernels.specs.ByParts.{IsFoundByParts}
use Rattle.reductions.proofs.Founds.{kernel_found}
use Rattle.reductions.proofs.find.find_general.Goals as goal

pub returns-in-Done-clause-found : goal.returns-in-Done-clause-found
returns-in-Done-clause-found g c =
    let h = subst (IsFoundByParts c.args.f.now c.args.conflicts) c.in-Done.is c.in_ok-found.ensures in
    kernel_found c.args.f.now c.args.conflicts c.in-Done.found h.shows

pub returns-in-Unfinished-clause-stop : goal.returns-in-Unfinished-clause-stop
returns-in-Unfinished-clause-stop g c = (subst (IsFoundByParts c.args.f.now c.args.conflicts) c.in-Unfinished.is c.in_ok-found.ensures).shows
