use Rattle.std.proofs.Common.{◌≡◌, ◌++◌}
use Rattle.check_rounds.specs.Steps.{places_in_round}
use Rattle.check_rounds.proofs.steps.add_places.Given as goal

-- the places so far are added
abbrev pub invariant-loop-index : goal.invariant-loop-index
invariant-loop-index l = l.places.items ≡ l.initial.places.items ++ places_in_round l.round 0 l.index
