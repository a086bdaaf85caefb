use Rattle.std.proofs.Common.{◌≡◌, ℤ, List, drop}
use Rattle.lk_model.specs.Chains.Chain.{after_turns, chain_clause}
use Rattle.check_rounds.specs.Chains.{IsWork, premises_at}
use Rattle.check_rounds.specs.Repeats.{IsNamed, IsRepeated}
use Rattle.check_rounds.proofs.chains.make_clause.Given as goal

-- from the clause so far the turns that are left give that of the whole chain; a kept clause is one that was joined
abbrev pub invariant-loop-turn : goal.invariant-loop-turn
invariant-loop-turn l = record {
  clause : List ℤ;
  held : IsWork l.over.formula.now.vars clause l.work;
  repeated : IsRepeated l.over.formula.now.vars l.work l.repeated;
  named : IsNamed (premises_at l.over l.i) l.repeated;
  rest : after_turns (premises_at l.over l.i) clause (drop l.turn-index l.turn-items) ≡ chain_clause (premises_at l.over l.i) l.step.first l.step.turns;
}
