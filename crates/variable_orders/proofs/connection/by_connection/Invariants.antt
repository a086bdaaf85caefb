use Rattle.std.proofs.Common.{◌≡◌, ◌<◌, ℕ, false}
use Rattle.lk_model.specs.Held.VariableSets.{is_in}
use Rattle.variable_orders.specs.Arrivals.{IsComing}
use Rattle.variable_orders.proofs.connection.by_connection.Given as goal

-- of those that were passed none is ahead
abbrev pub invariant-loop-v : goal.invariant-loop-v
invariant-loop-v l = record {
  coming : IsComing l.over l.coming;
  passed : (u : ℕ) → u < l.v → is_in l.coming.ahead u ≡ false;
}
