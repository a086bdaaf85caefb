use Rattle.std.proofs.Common.{ℕ, List, ◌++◌, take}
use Rattle.model_text.specs.Fed.{HasTaken, IsSound}
use Rattle.model_text.proofs.progress.take_all.Given as goal

-- the bytes before the place were taken
abbrev pub invariant-loop-byte : goal.invariant-loop-byte
invariant-loop-byte l = record {
  sound : IsSound l.progress;
  taken : (n : ℕ) (fed : List ℕ) → HasTaken n fed l.fn.progress → HasTaken n (fed ++ take l.byte-index l.piece) l.progress;
}
