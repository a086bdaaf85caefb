use Rattle.std.proofs.Common.{◌≡◌}
use Rattle.unit_refutations.specs.Standing.{IsKept}
use Rattle.unit_refutations.specs.Trails.{unset}
use Rattle.unit_refutations.proofs.units.Units.propagate.Given as goal

abbrev pub invariant-found : goal.invariant-found
invariant-found l = record {
  kept : IsKept l.f l.blocked l.self;
  inside : l.self.agenda.inside ≡ l.initial.self.agenda.inside;
}

-- each literal that is forced was unset
abbrev pub decreases-found : goal.decreases-found
decreases-found l = unset l.self.trail
