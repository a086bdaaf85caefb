use Rattle.std.proofs.Common.{◌≡◌, ◌≤◌, ◌-◌, length, drop}
use Rattle.model_text.specs.ModelTexts.{words_in}
use Rattle.edit_text.proofs.ClauseWords.{AreRead}
use Rattle.edit_text.proofs.lines.read_clause.Given as goal

-- the words before the place are literals
abbrev pub invariant-loop-cut : goal.invariant-loop-cut
invariant-loop-cut l = record {
  within : l.from ≤ length l.line;
  vars : l.clause.vars ≡ l.fn.clause.vars;
  read : AreRead l.fn.clause.vars (words_in (drop l.begin l.line)) (words_in (drop l.from l.line)) l.clause.literals;
}

abbrev pub decreases-loop-cut : goal.decreases-loop-cut
decreases-loop-cut l = length l.line - l.from
