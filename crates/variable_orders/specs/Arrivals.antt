-- Which variables have come into an order, and which are ahead.
use Rattle.std.specs.Prelude.{◌≡◌, ℕ, ◌++◌, Bool, List, length, filter, IsPermutation}
use Rattle.lk_model.specs.Lists.{up_to}
use Rattle.lk_model.specs.Held.VariableSets.{is_in}
use Rattle.lk_model.specs.declared.crossed.Crossed.{Crossed}
use Rattle.variable_orders.specs.VariableOrders.{variables_over}
use Rattle.variable_orders.specs.declared.coming.Coming.{Coming}

-- those of a set, ascending
abbrev pub those_in : Crossed → List Bool → List ℕ
those_in over set = filter (is_in set) (up_to over.formula.now.vars)

-- each variable that occurs has come or is ahead, once
pub record IsComing (over : Crossed) (c : Coming) : Type 0 where
  pub size : length c.ahead ≡ over.formula.now.vars
  pub whole : IsPermutation (variables_over over) (c.vars.items ++ those_in over c.ahead)
