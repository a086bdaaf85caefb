use Rattle.std.proofs.Common.{◌≡◌, ◌++◌, map, take, drop}
use Rattle.renaming_laws.specs.Renaming.{named}
use Rattle.result_renaming.proofs.renaming.Renaming.literals.Given as goal

abbrev pub invariant-loop-l : goal.invariant-loop-l
invariant-loop-l l = l.l-items ≡ map (named l.self.names.now) (take l.l-index l.fn.literals) ++ drop l.l-index l.fn.literals
