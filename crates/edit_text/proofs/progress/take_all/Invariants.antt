use Rattle.std.proofs.Common.{ℕ, List, ◌++◌, take}
use Rattle.lk_model.specs.Formulas.Formula.{Cnf}
use Rattle.edit_text.specs.Fed.{HasTaken, IsSoundProgress}
use Rattle.edit_text.proofs.progress.take_all.Given as goal

-- the bytes before the place were taken
abbrev pub invariant-loop-byte : goal.invariant-loop-byte
invariant-loop-byte l = record {
  sound : IsSoundProgress l.progress;
  taken : (F : Cnf) (fed : List ℕ) → HasTaken F fed l.fn.progress → HasTaken F (fed ++ take l.byte-index l.piece) l.progress;
}
