use Rattle.std.proofs.Common.{◌≡◌, ◌++◌, map, take, drop}
use Rattle.result_renaming.specs.Renamed.{new_step}
use Rattle.result_renaming.proofs.renaming.Renaming.round.Given as goal

abbrev pub invariant-loop-step : goal.invariant-loop-step
invariant-loop-step l =
    l.step-items ≡ map (new_step l.self) (take l.step-index l.fn.round.steps) ++ drop l.step-index l.fn.round.steps
