use Rattle.std.proofs.Common.{drop}
use Rattle.exact_rows.specs.Made.{AreInRange}
use Rattle.check_linear.specs.Linear.{NotesStage}
use Rattle.check_linear.proofs.linear.Firsts.note.Given as goal

-- the weights so far, which stand last
abbrev pub invariant-loop-i : goal.invariant-loop-i
invariant-loop-i l = record {
  noted : NotesStage l.n l.k (drop l.i l.stage) l.fn.self.places.items l.fn.self.weights.items l.self.places.items l.self.weights.items;
  range : AreInRange l.self.weights.items;
}
