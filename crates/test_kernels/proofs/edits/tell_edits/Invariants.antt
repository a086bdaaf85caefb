use Rattle.std.proofs.Common.{◌≡◌}
use Rattle.test_kernels.proofs.edits.tell_edits.Given as goal

-- the variables stay
abbrev pub invariant-loop-word : goal.invariant-loop-word
invariant-loop-word l = record {
  can_next : (goal.iterator-loop-word).can_next l.word-iterator;
  finite : (goal.iterator-loop-word).is_finite l.word-iterator;
  vars : l.live.held.vars ≡ l.f.vars;
}
