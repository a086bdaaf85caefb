use Rattle.std.proofs.Common.{◌∙◌, Bool, List, sym, ap}
use Rattle.lk_model.specs.Lists.{among}
use Rattle.lk_model.specs.Held.VariableSets.{is_in}
use Rattle.unit_refutations.proofs.Keeping.{wider}
use Rattle.unit_refutations.proofs.units.Units.refute.Goals as goal

pub chain_from-requires-clause-reasoned : goal.chain_from-requires-clause-reasoned
chain_from-requires-clause-reasoned c =
    let e = c.in_ok-conflict.ensures in
    wider c.args.over.now.formula.now (is_in c.propagate.new.self.agenda.inside) (among c.args.over.now.part.now) c.args.over.now.blocked.now c.propagate.new.self.trail
    (λ p there. c.requires.within p (ap (λ (x : List Bool). is_in x p) (sym e.inside) ∙ there)) e.kept.reasoned
