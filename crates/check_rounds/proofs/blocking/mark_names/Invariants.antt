use Rattle.std.proofs.Common.{◌≡◌, ℕ, ◌++◌, ◌∷◌, List, map, take, length}
use Rattle.lk_model.specs.declared.document.Turn.{Turn}
use Rattle.check_rounds.specs.Blocking.{AreMarked, AreSeen}
use Rattle.check_rounds.proofs.blocking.mark_names.Given as goal

-- the names so far are marked
abbrev pub invariant-loop-turn : goal.invariant-loop-turn
invariant-loop-turn l = record {
  marks_size : length l.marks ≡ length l.fn.marks;
  table_size : length l.table ≡ length l.fn.table;
  seen : AreSeen l.f l.k l.seen l.table;
  marked : (known before : List ℕ) → AreMarked l.f l.k l.first (length l.fn.marks) known before l.fn.marks l.fn.table
      → AreMarked l.f l.k l.first (length l.fn.marks) ((l.step.first ∷ map (λ (t : Turn). t.with) (take l.turn-index l.turn-items)) ++ known) before l.marks l.table;
}
