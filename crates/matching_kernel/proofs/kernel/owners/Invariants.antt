use Rattle.std.proofs.Common.{◌≡◌, ◌++◌, drop}
use Rattle.matching_kernel.specs.Lines.{owners_of}
use Rattle.matching_kernel.proofs.kernel.owners.Given as goal

-- the owners so far, and those that are still to come
abbrev pub invariant-loop-i : goal.invariant-loop-i
invariant-loop-i l = l.own.items ++ owners_of (drop l.i l.part) (drop l.i l.of_clause) l.escape ≡ owners_of l.part l.of_clause l.escape
