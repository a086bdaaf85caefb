use Rattle.unit_refutations.proofs.Walks.{IsOnTheWay, bound_of}
use Rattle.unit_refutations.proofs.chain.chain_from.Given as goal

-- a clause of which the places are left
abbrev pub invariant-places : goal.invariant-places
invariant-places l = IsOnTheWay l.over l.trail l.conflict l.turns.items l.used l.pending

-- each resolution leaves earlier places
abbrev pub decreases-places : goal.decreases-places
decreases-places l = bound_of l.pending
