use Rattle.std.proofs.Common.{List, ℕ, ◌<◌, ◌≤◌, length, sym, subst, arith}
use Rattle.std.specs.List.{All}
use Rattle.variable_orders.proofs.Holding.{held_within}
use Rattle.variable_orders.proofs.connection.come.Goals as goal

pub positions_of_variable-requires : goal.positions_of_variable-requires
positions_of_variable-requires c = let size = c.requires.holders.size in omega (arith, size, c.requires.last)

pub give-requires-clause-positions : goal.give-requires-clause-positions
give-requires-clause-positions c =
    subst (λ (ps : List ℕ). All (λ p. (0 < p) × (p ≤ length c.args.over.now.formula.now.clauses)) ps) (sym c.positions_of_variable.ensures)
    (held_within c.args.over.now.formula.now c.args.holders.now c.args.v c.requires.holders c.requires.first c.requires.last)
