use Rattle.std.proofs.Common.{take}
use Rattle.lk_model.specs.Held.VariableSets.{is_in}
use Rattle.mus_core.specs.WitnessValues.{AreLines}
use Rattle.mus_core.proofs.told_core.lines.Given as goal

abbrev pub invariant-loop-p : goal.invariant-loop-p
invariant-loop-p l = AreLines l.core (is_in l.vars) l.witnesses (take l.p-index l.places) l.lines
