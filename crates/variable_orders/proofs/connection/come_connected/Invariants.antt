use Rattle.std.proofs.Common.{◌≡◌, ℕ, false}
use Rattle.lk_model.specs.Held.VariableSets.{is_in}
use Rattle.variable_orders.specs.Arrivals.{IsComing}
use Rattle.variable_orders.proofs.connection.come_connected.Given as goal

-- none that has come is ahead again
abbrev pub invariant-loop : goal.invariant-loop
invariant-loop l = record {
  coming : IsComing l.over l.coming;
  fewer : (u : ℕ) → is_in l.fn.coming.ahead u ≡ false → is_in l.coming.ahead u ≡ false;
}
