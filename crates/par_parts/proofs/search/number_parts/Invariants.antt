use Rattle.par_parts.specs.Numbering.{found_of, IsUpTo}
use Rattle.par_parts.proofs.search.number_parts.Given as goal

abbrev pub invariant-loop-p : goal.invariant-loop-p
invariant-loop-p l = IsUpTo l.f (found_of l.search) l.p
