use Rattle.std.proofs.Common.{rules, ◌≡◌, subst, IfSome, IsSome}
use Rattle.watch_prop.specs.HeldPropagator.{propagator_seen}
use Rattle.watch_prop.specs.Trail.{reason_of, clause_numbered}
use Rattle.watch_prop.specs.Propagation.{Propagation}
use Rattle.watch_prop.proofs.Trails.{reason_held}
use Rattle.watch_prop.proofs.propagator.Propagator.reason.Goals as goal

pub returns-clause-held : goal.returns-clause-held
returns-clause-held c =
    let p = propagator_seen c.self.inside in
    let is : c.and_then.result ≡ reason_of p.trail c.args.v = search rules in
    subst (λ (q : Propagation). IfSome c.and_then.result (λ k. IsSome (clause_numbered q.clauses k))) c.self.view_is
    (reason_held p c.args.v c.and_then.result c.self.invariant.propagation is)
