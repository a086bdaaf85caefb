use Rattle.std.proofs.Common.{◌≡◌, ◌+◌, take, length}
use Rattle.lk_model.specs.Checks.RoundChecks.{learned_steps}
use Rattle.lean_checker.proofs.unfinished.has_learned.Given as goal

-- what is left, and the steps of the rounds so far
abbrev pub invariant-loop-k : goal.invariant-loop-k
invariant-loop-k l = l.remaining + length (learned_steps (take l.k l.rounds)) ≡ l.learned
