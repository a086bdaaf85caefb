use Rattle.std.proofs.Common.{drop, IsSome}
use Rattle.watch_prop.specs.Trail.{clause_numbered}
use Rattle.watch_prop.proofs.places.searched.Given as goal

abbrev pub invariant-loop-place : goal.invariant-loop-place
invariant-loop-place l = IsSome (clause_numbered (drop l.place l.clauses) l.number)
