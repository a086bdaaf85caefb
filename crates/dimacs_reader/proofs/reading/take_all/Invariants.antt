use Rattle.std.proofs.Common.{ℕ, List, ◌++◌, take}
use Rattle.dimacs_reader.specs.Taken.{HasTaken, IsSoundReading}
use Rattle.dimacs_reader.proofs.reading.take_all.Given as goal

-- the bytes before the place were taken
abbrev pub invariant-loop-byte : goal.invariant-loop-byte
invariant-loop-byte l = record {
  sound : IsSoundReading l.reading;
  taken : (fed : List ℕ) → HasTaken fed l.fn.reading → HasTaken (fed ++ take l.byte-index l.piece) l.reading;
}
