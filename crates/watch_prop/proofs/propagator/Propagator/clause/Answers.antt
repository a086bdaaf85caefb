use Rattle.std.proofs.Common.{◌∙◌, Some, sym, ap}
use Rattle.watch_prop.specs.Trail.{clause_numbered}
use Rattle.watch_prop.specs.Propagation.{Propagation}
use Rattle.watch_prop.proofs.Trails.{found_by_number}
use Rattle.watch_prop.proofs.propagator.Propagator.clause.Goals as goal

pub returns : goal.returns
returns c =
    let clauses = c.self.inside.clauses in
    let i = c.place_of.result in
    ap (λ (p : Propagation). clause_numbered p.clauses c.args.number) (sym c.self.view_is)
    ∙ ap (clause_numbered clauses) (sym c.place_of.ensures.number)
    ∙ found_by_number clauses i c.self.invariant.propagation.numbers c.place_of.ensures.within
    ∙ ap Some (sym c.lits.ensures)
