use Rattle.std.proofs.Common.{◌≡◌, ◌≤◌, ◌<◌, ℕ, None, length}
use Rattle.lk_model.specs.Held.PartialValues.{assignment_by}
use Rattle.lk_model.specs.Formulas.Assignment.{composed}
use Rattle.partial_assign.proofs.extension.compose.Given as goal

-- the variables so far have their values, and no later one is set
abbrev pub invariant-loop-v : goal.invariant-loop-v
invariant-loop-v l = record {
  vars : length l.whole ≡ length l.first;
  taken : (u : ℕ) → u ≤ l.v → assignment_by l.whole u ≡ composed (assignment_by l.first) (assignment_by l.second) u;
  unset : (u : ℕ) → l.v < u → assignment_by l.whole u ≡ None;
}
