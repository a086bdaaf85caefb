use Rattle.std.proofs.Common.{◌≡◌, ◌+◌, ◌-◌, ◌<◌, ◌≤◌, ℕ, false}
use Rattle.pure_strip.specs.Counted.{is_lone_variable}
use Rattle.pure_strip.proofs.counts.next_lone.Given as goal

-- no variable that was passed occurs in one sign only
abbrev pub invariant-loop-next : goal.invariant-loop-next
invariant-loop-next l = record {
  onward : l.initial.next ≤ l.next;
  last : l.next ≤ l.vars + 1;
  passed : (v : ℕ) → l.initial.next ≤ v → v < l.next → is_lone_variable l.counts v ≡ false;
}

abbrev pub decreases-loop-next : goal.decreases-loop-next
decreases-loop-next l = l.vars + 1 - l.next
