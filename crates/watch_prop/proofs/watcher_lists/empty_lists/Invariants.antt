use Rattle.std.proofs.Common.{◌≡◌, [], length, Vec}
use Rattle.std.specs.declared.alloc.Global.{Global}
use Rattle.std.specs.List.{All}
use Rattle.watch_prop.specs.declared.watcher_lists.Watcher.{Watcher}
use Rattle.watch_prop.proofs.watcher_lists.empty_lists.Given as goal

abbrev pub invariant-loop-capacity : goal.invariant-loop-capacity
invariant-loop-capacity l = record {
  size : length l.lists.items ≡ l.capacity-index;
  empty : All (λ (v : Vec Watcher Global). v.items ≡ []) l.lists.items;
}
