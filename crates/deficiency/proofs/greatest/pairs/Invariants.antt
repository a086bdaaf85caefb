use Rattle.std.proofs.Common.{◌≡◌, ◌++◌, drop}
use Rattle.deficiency.specs.Deficiency.{pairs_of}
use Rattle.deficiency.proofs.greatest.pairs.Given as goal

-- the pairs so far, and those that are still to come
abbrev pub invariant-loop-i : goal.invariant-loop-i
invariant-loop-i l = l.own.items ++ pairs_of (drop l.i l.part) (drop l.i l.of_clause) ≡ pairs_of l.part l.of_clause
