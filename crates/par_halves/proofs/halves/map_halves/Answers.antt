use Rattle.std.proofs.Common.{sym, subst}
use Rattle.par_halves.specs.Answering.{GivesItems}
use Rattle.par_halves.proofs.HalfResults.{gives_items}
use Rattle.par_halves.proofs.halves.map_halves.Goals as goal

pub returns-clause-each : goal.returns-clause-each
returns-clause-each g c =
    subst (λ us. GivesItems g.F.Fn c.args.f.now c.args.items.now us) (sym c.from_vec.ensures)
    (gives_items g.F.Fn c.args.f.now c.args.items.now c.in_ok-in_halves.field-0.items c.in_ok-in_halves.ensures)
