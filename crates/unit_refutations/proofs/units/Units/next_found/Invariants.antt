use Rattle.std.proofs.Common.{◌≡◌, length}
use Rattle.unit_refutations.proofs.units.Units.next_found.Given as goal
use Rattle.unit_refutations.specs.Standing.{IsKept}

abbrev pub invariant-waiting : goal.invariant-waiting
invariant-waiting l = record {
  kept : IsKept l.f l.blocked l.self;
  inside : l.self.agenda.inside ≡ l.initial.self.agenda.inside;
  trail : l.self.trail ≡ l.initial.self.trail;
}

abbrev pub decreases-waiting : goal.decreases-waiting
decreases-waiting l = length l.self.agenda.waiting
