use Rattle.std.proofs.Common.{List, ℕ, subst}
use Rattle.lk_model.specs.Formulas.Formula.{variable_occurs}
use Rattle.mus_core.specs.WitnessValues.{AreLines}
use Rattle.mus_core.proofs.ToldCores.{ends}
use Rattle.mus_core.proofs.told_core.told_core.Goals as goal

pub returns : goal.returns
returns c conflicts shrunk =
    ends c.args.core.now conflicts c.args.refutation c.args.witnesses.now c.positions.result c.in_ok-without.without c.positions.ensures.copy shrunk c.requires.each
    c.positions.ensures.positions
    (subst (λ (ps : List ℕ). AreLines c.args.core.now (variable_occurs c.args.core.now.clauses ps) c.args.witnesses.now ps c.in_ok-without.without) c.as_slice.ensures c.in_ok-without.ensures)
