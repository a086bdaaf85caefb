use Rattle.std.proofs.Common.{◌≡◌, ◌≤◌, not, filter, take, length}
use Rattle.lk_model.specs.Lists.{is_empty}
use Rattle.lk_model.specs.declared.document.Step.{Step}
use Rattle.lean_checker.proofs.unfinished.learned_count.Given as goal

-- the count of the steps so far
abbrev pub invariant-loop-i : goal.invariant-loop-i
invariant-loop-i l = (l.count ≡ length (filter (λ (s : Step). not (is_empty s.clause)) (take l.i l.steps))) × (l.count ≤ l.i)
