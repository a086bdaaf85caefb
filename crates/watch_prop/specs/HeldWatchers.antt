-- How the lists of watchers are held: for as many clauses as contain a literal there is room.
use Rattle.std.specs.Prelude.{◌≡◌, ℕ, ◌<◌, ◌≤◌, List, map, length, slice_index_or, Vec, vec_len, vec_capacity}
use Rattle.std.specs.declared.alloc.Global.{Global}
use Rattle.watch_prop.specs.declared.watcher_lists.Watcher.{Watcher}
use Rattle.watch_prop.specs.declared.watcher_lists.WatcherLists.TheInside.{Inside}
use Rattle.watch_prop.specs.Watchers.{Watchers, all_places}

abbrev pub watcher_rows : List (Vec Watcher Global) → List (List Watcher)
watcher_rows lists = map (λ (v : Vec Watcher Global). v.items) lists

abbrev pub watchers_seen : Inside → Watchers
watchers_seen w = record { lists = all_places (watcher_rows w.lists); rows = watcher_rows w.lists; counts = w.counts }

abbrev pub HasRoom : Vec Watcher Global → ℕ → Type 0
HasRoom v n = (vec_len v ≤ n) × (n ≤ vec_capacity v)

pub record HaveRoom (w : Inside) : Type 0 where
  pub same : length w.lists ≡ length w.counts
  pub each : (r : ℕ) (d : Vec Watcher Global) → r < length w.lists → HasRoom (slice_index_or w.lists r d) (slice_index_or w.counts r 0)
