use Rattle.std.proofs.Common.{◌≡◌, ◌*◌, length}
use Rattle.demo_formula.specs.Demo.{first_clauses}
use Rattle.demo_formula.specs.Sizes.{IsSmall}
use Rattle.demo_formula.proofs.formula.put_first.Given as goal

-- those of the pairs so far, four of each
abbrev pub invariant-loop-i : goal.invariant-loop-i
invariant-loop-i l = record {
  clauses : l.formula.clauses ≡ first_clauses l.i;
  size : length l.formula.clauses ≡ 4 * l.i;
  small : IsSmall l.formula;
}
