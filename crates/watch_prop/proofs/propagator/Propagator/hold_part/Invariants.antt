use Rattle.std.proofs.Common.{◌≡◌, take}
use Rattle.watch_prop.specs.Propagation.{crossed_clauses}
use Rattle.watch_prop.proofs.propagator.Propagator.hold_part.Given as goal

-- the clauses so far
abbrev pub invariant-loop-p : goal.invariant-loop-p
invariant-loop-p l = l.self ≡ record l.fn.self { clauses = crossed_clauses (record l.over { part = record l.over.part { now = take l.p-index l.p-items } }) }
