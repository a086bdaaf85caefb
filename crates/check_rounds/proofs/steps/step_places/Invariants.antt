use Rattle.std.proofs.Common.{◌≡◌, take}
use Rattle.check_rounds.specs.Steps.{places_from}
use Rattle.check_rounds.proofs.steps.step_places.Given as goal

-- the places of the rounds so far
abbrev pub invariant-loop-k : goal.invariant-loop-k
invariant-loop-k l = l.places.items ≡ places_from 0 (take l.k l.rounds)
