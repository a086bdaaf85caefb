use Rattle.std.proofs.Common.{◌≡◌, ◌++◌, map, take}
use Rattle.lk_model.specs.Formulas.Literal.{variable}
use Rattle.dense_copy.proofs.names.push_variables.Given as goal

abbrev pub invariant-loop-l : goal.invariant-loop-l
invariant-loop-l l = l.variables.items ≡ l.fn.variables.items ++ map variable (take l.l-index l.clause)
