use Rattle.std.proofs.Common.{◌≡◌, ◌∙◌, ◌<◌, length, length-set, ap, subst, sym, arith}
use Rattle.lk_model.specs.Formulas.Literal.{rank_of}
use Rattle.watch_prop.specs.declared.watcher_lists.Watcher.{Watcher}
use Rattle.watch_prop.specs.HeldWatchers.{watcher_rows, HasRoom}
use Rattle.watch_prop.specs.Watchers.{Watchers, all_places, watchers, count_of, with_row, with_watcher}
use Rattle.watch_prop.proofs.Roomy.{rows_push, places_with, rooms_set, items_long, room_of, seen_long}
use Rattle.watch_prop.proofs.watcher_lists.WatcherLists.push.Goals as goal

pub returns-clause-lists : goal.returns-clause-lists
returns-clause-lists c =
    let L = c.self.inside.lists in
    let w : Watcher = record { place = c.args.place; blocker = c.args.blocker } in
    let lists : length c.args.self.now.lists ≡ length L = ap (λ (w : Watchers). length w.lists) (sym c.self.view_is) ∙ seen_long L in
    ap all_places (rows_push L c.args.l w c.index_mut.result.now c.push_reserved.new.self (omega (arith, c.requires.rank, lists)) c.index_mut.ensures.value c.push_reserved.ensures.items)
    ∙ places_with (watcher_rows L) c.args.l w
    ∙ ap (λ (w : Watchers). with_watcher w.lists c.args.l c.args.place) c.self.view_is

pub returns-clause-rows : goal.returns-clause-rows
returns-clause-rows c =
    let L = c.self.inside.lists in
    let w : Watcher = record { place = c.args.place; blocker = c.args.blocker } in
    let lists : length c.args.self.now.lists ≡ length L = ap (λ (w : Watchers). length w.lists) (sym c.self.view_is) ∙ seen_long L in
    rows_push L c.args.l w c.index_mut.result.now c.push_reserved.new.self (omega (arith, c.requires.rank, lists)) c.index_mut.ensures.value c.push_reserved.ensures.items
    ∙ ap (λ (v : Watchers). with_row v.rows c.args.l w) c.self.view_is

pub push_reserved-requires : goal.push_reserved-requires
push_reserved-requires c =
    let L = c.self.inside.lists in
    let l = c.args.l in
    let v = c.index_mut.result.now in
    let lists : length c.args.self.now.lists ≡ length L = ap (λ (w : Watchers). length w.lists) (sym c.self.view_is) ∙ seen_long L in
    let lt : rank_of l < length L = omega (arith, c.requires.rank, lists) in
    let has : length (watchers (all_places (watcher_rows L)) l) < count_of c.self.inside.counts l =
    subst (λ (w : Watchers). length (watchers w.lists l) < count_of w.counts l) (sym c.self.view_is) c.requires.room in
    let long = items_long L l v lt c.index_mut.ensures.value in
    let room = room_of L c.self.inside.counts (rank_of l) v (record { each = c.self.invariant.each }) lt c.index_mut.ensures.value in
    omega (arith, has, long, room.1)

pub invariant_of-self : goal.invariant_of-self
invariant_of-self c =
    let L = c.self.inside.lists in
    let H = c.self.inside.counts in
    let l = c.args.l in
    let v = c.index_mut.result.now in
    let p = c.push_reserved.new.self in
    let lists : length c.args.self.now.lists ≡ length L = ap (λ (w : Watchers). length w.lists) (sym c.self.view_is) ∙ seen_long L in
    let lt : rank_of l < length L = omega (arith, c.requires.rank, lists) in
    let has : length (watchers (all_places (watcher_rows L)) l) < count_of H l = subst (λ (w : Watchers). length (watchers w.lists l) < count_of w.counts l) (sym c.self.view_is) c.requires.room in
    let long = items_long L l v lt c.index_mut.ensures.value in
    let inv = c.self.invariant in
    let room = room_of L H (rank_of l) v (record { each = inv.each }) lt c.index_mut.ensures.value in
    let more : HasRoom p (count_of H l) = (omega (arith, has, long, c.push_reserved.ensures.len), omega (arith, room.1, c.push_reserved.ensures.capacity)) in
    record { same = length-set L (rank_of l) p ∙ inv.same; each = (rooms_set L H (rank_of l) p (record { each = inv.each }) more).each }
