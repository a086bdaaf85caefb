use Rattle.std.proofs.Common.{◌≡◌, ◌+◌, ◌++◌, length, map}
use Rattle.lk_model.specs.Documents.Documents.{steps_of}
use Rattle.result_renaming.specs.Renamed.{new_round}
use Rattle.result_renaming.proofs.renaming.Renaming.append.Given as goal

abbrev pub invariant-loop-round : goal.invariant-loop-round
invariant-loop-round l = record {
  rounds : l.rounds ≡ l.fn.rounds ++ map (new_round l.self) l.yielded;
  last : l.last ≡ l.self.last + length (steps_of l.yielded);
}
