use Rattle.std.proofs.Common.{◌≡◌, take}
use Rattle.lk_model.specs.Formulas.Crossed.{crossed_out}
use Rattle.lk_model.specs.Held.VariableSets.{is_in}
use Rattle.watch_prop.proofs.propagator.cross_out.Given as goal

abbrev pub invariant-loop-l : goal.invariant-loop-l
invariant-loop-l l = l.lits.items ≡ crossed_out (is_in l.blocked) (take l.l-index l.clause)
