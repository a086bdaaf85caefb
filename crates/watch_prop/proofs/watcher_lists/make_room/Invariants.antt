use Rattle.std.proofs.Common.{◌≡◌, ℕ, ℤ, ◌<◌, take, length, get_or, IsTrue, Vec, vec_capacity}
use Rattle.std.specs.declared.alloc.Global.{Global}
use Rattle.lk_model.specs.Formulas.Literal.{contains, rank_of}
use Rattle.watch_prop.specs.declared.watcher_lists.Watcher.{Watcher}
use Rattle.watch_prop.specs.Watchers.{count_of}
use Rattle.watch_prop.specs.HeldWatchers.{watcher_rows, HasRoom}
use Rattle.watch_prop.proofs.watcher_lists.make_room.Given as goal

abbrev pub invariant-loop-l : goal.invariant-loop-l
invariant-loop-l l = record {
  items : watcher_rows l.lists ≡ watcher_rows l.fn.lists;
  room : (r : ℕ) (d : Vec Watcher Global) → r < length l.lists → HasRoom (get_or l.lists r d) (get_or l.counts r 0);
  more : (k : ℤ) (d : Vec Watcher Global) → IsTrue (contains (take l.l-index l.lits) k) → count_of l.counts k < vec_capacity (get_or l.lists (rank_of k) d);
}
