use Rattle.std.proofs.Common.{◌≡◌, [], drop}
use Rattle.check_rounds.specs.Chains.{IsWork, misstates}
use Rattle.check_rounds.specs.Repeats.{IsIdle}
use Rattle.check_rounds.specs.Steps.{first_step}
use Rattle.check_rounds.proofs.chains.first_misstated.Given as goal

-- the first bad step is one of those that are left
abbrev pub invariant-loop-j : goal.invariant-loop-j
invariant-loop-j l = record {
  work : IsWork l.over.formula.now.vars [] l.work;
  repeated : IsIdle l.over.formula.now.vars l.repeated;
  rest : first_step misstates l.over (drop l.j l.places) ≡ first_step misstates l.over l.places;
}
