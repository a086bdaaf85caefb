use Rattle.std.proofs.Common.{◌≡◌, length}
use Rattle.watch_prop.specs.Trail.{up_to_level}
use Rattle.watch_prop.proofs.trail.Trail.retract.Given as goal

abbrev pub invariant-entries : goal.invariant-entries
invariant-entries l = record {
  vars : l.self.vars ≡ l.fn.self.vars;
  entries : up_to_level l.level l.self.entries ≡ up_to_level l.level l.fn.self.entries;
}

abbrev pub decreases-entries : goal.decreases-entries
decreases-entries l = length l.self.entries
