use Rattle.std.proofs.Common.{◌≡◌, ◌+◌, ◌++◌, length}
use Rattle.std.specs.Prelude.{◌-◌}
use Rattle.demo_formula.specs.Demo.{drawn_clauses}
use Rattle.demo_formula.specs.Sizes.{IsSmall}
use Rattle.demo_formula.proofs.formula.put_drawn.Given as goal

-- what is still to be drawn stands after the clauses so far
abbrev pub invariant-loop : goal.invariant-loop
invariant-loop l = record {
  clauses : l.formula.clauses ++ drawn_clauses (6000 - l.counter) l.words ≡ l.fn.formula.clauses ++ drawn_clauses 6000 l.fn.words;
  size : length l.formula.clauses ≡ 400 + l.counter;
  small : IsSmall l.formula;
}
