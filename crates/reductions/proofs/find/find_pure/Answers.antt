use Rattle.std.proofs.Common.{subst, List, ℤ}
use Rattle.pure_laws.specs.PureResults.{IsSetLine}
use Rattle.reductions.proofs.Founds.{pure_found}
use Rattle.reductions.proofs.find.find_pure.Goals as goal

pub returns : goal.returns
returns c =
    let found = c.in_ok-found.ensures in
    pure_found c.args.f.now c.in_ok-found.found c.in_ok-set.set found.positions (record { run = found.order; kept = found.kept; pairs = found.pairs })
    (subst (λ (ls : List ℤ). IsSetLine ls c.in_ok-set.set) c.as_slice.ensures c.in_ok-set.ensures)
