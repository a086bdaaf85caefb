-- What a propagator is seen as, and what it holds.
use Rattle.watch_prop.specs.declared.propagator.Propagator.TheInside.{Inside}
use Rattle.watch_prop.specs.Propagation.{Propagation}
use Rattle.watch_prop.specs.States.{IsState, propagation_of}

abbrev pub propagator_seen : Inside → Propagation
propagator_seen p = propagation_of p.clauses p.trail

abbrev pub IsHeldPropagator : Inside → Type 0
IsHeldPropagator p = IsState p.clauses p.trail p.state
