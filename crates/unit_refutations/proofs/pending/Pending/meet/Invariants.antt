use Rattle.std.proofs.Common.{ℕ, take}
use Rattle.lk_model.specs.Formulas.Crossed.{crossed_out}
use Rattle.lk_model.specs.Held.VariableSets.{is_in}
use Rattle.unit_refutations.specs.Chains.{HaveMet}
use Rattle.unit_refutations.proofs.pending.Pending.meet.Given as goal

-- the places of the literals so far are in
abbrev pub invariant-loop-l : goal.invariant-loop-l
invariant-loop-l l = HaveMet l.trail (crossed_out (is_in l.blocked) (take l.l-index l.clause)) l.initial.self l.self
