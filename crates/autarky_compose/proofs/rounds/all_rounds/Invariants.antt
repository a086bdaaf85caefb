use Rattle.std.proofs.Common.{◌≡◌, ◌+◌, ◌<◌, ◌^◌, [], length}
use Rattle.lk_model.specs.Documents.Documents.{steps_of}
use Rattle.autarky_compose.specs.JoinedGeneral.{rounds_behind}
use Rattle.autarky_compose.proofs.rounds.all_rounds.Given as goal

abbrev pub invariant-loop-r : goal.invariant-loop-r
invariant-loop-r l = record {
  rounds : l.rounds ≡ rounds_behind l.fn.m [] l.yielded;
  last : l.last ≡ l.fn.m + length (steps_of l.rounds);
  fits : l.last < 2 ^ 64;
}
