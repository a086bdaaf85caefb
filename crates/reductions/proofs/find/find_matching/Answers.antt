use Rattle.std.proofs.Common.{◌∙◌, ap}
use Rattle.matching_laws.specs.MatchingResults.{set_line}
use Rattle.reductions.proofs.Founds.{matching_found}
use Rattle.reductions.proofs.find.find_matching.Goals as goal

pub returns : goal.returns
returns g c =
    matching_found c.args.f.now c.in_ok-found.found c.in_ok-set.set c.in_ok-found.ensures (c.in_ok-set.ensures ∙ ap (set_line c.args.f.now) c.as_slice.ensures)
