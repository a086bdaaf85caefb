use Rattle.std.proofs.Common.{◌≡◌, length, take}
use Rattle.refutation_log.proofs.logged_step.unlogged.Given as goal

abbrev pub invariant-loop-step : goal.invariant-loop-step
invariant-loop-step l = l.unlogged.items ≡ take (length l.yielded) l.fn.steps.items
