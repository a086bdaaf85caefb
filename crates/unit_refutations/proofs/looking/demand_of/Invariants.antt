use Rattle.std.proofs.Common.{take}
use Rattle.lk_model.specs.Formulas.Crossed.{crossed_out}
use Rattle.lk_model.specs.Held.VariableSets.{is_in}
use Rattle.unit_refutations.specs.Looks.{IsLookSoFar}
use Rattle.unit_refutations.proofs.looking.demand_of.Given as goal

-- what the literals so far ask for
abbrev pub invariant-loop-l : goal.invariant-loop-l
invariant-loop-l l = IsLookSoFar l.trail (crossed_out (is_in l.blocked) (take l.l-index l.clause)) l.look
