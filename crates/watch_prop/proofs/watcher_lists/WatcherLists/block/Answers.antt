use Rattle.std.proofs.Common.{◌≡◌, ◌∙◌, ◌<◌, length, length-set, ap, sym, arith}
use Rattle.lk_model.specs.Formulas.Literal.{rank_of}
use Rattle.watch_prop.specs.HeldWatchers.{HasRoom}
use Rattle.watch_prop.specs.Watchers.{Watchers, all_places, watchers, count_of}
use Rattle.watch_prop.specs.Linked.{blocked_rows}
use Rattle.watch_prop.proofs.Roomy.{rows_blocked, all_places_kept, rooms_set, items_long, room_of, seen_long}
use Rattle.watch_prop.proofs.watcher_lists.WatcherLists.block.Goals as goal

pub set_blocker-requires : goal.set_blocker-requires
set_blocker-requires c =
    let L = c.self.inside.lists in
    let l = c.args.l in
    let v = c.index_mut.result.now in
    let lists : length c.args.self.now.lists ≡ length L = ap (λ (w : Watchers). length w.lists) (sym c.self.view_is) ∙ seen_long L in
    let long = items_long L l v (omega (arith, c.requires.rank, lists)) c.index_mut.ensures.value in
    let seen = ap (λ (w : Watchers). length (watchers w.lists l)) c.self.view_is in
    let len = v.ok.0 in
    omega (arith, c.requires.within, long, seen, len)

pub invariant_of-self : goal.invariant_of-self
invariant_of-self c =
    let L = c.self.inside.lists in
    let H = c.self.inside.counts in
    let l = c.args.l in
    let p = c.set_blocker.new.list in
    let lists : length c.args.self.now.lists ≡ length L = ap (λ (w : Watchers). length w.lists) (sym c.self.view_is) ∙ seen_long L in
    let lt : rank_of l < length L = omega (arith, c.requires.rank, lists) in
    let inv = c.self.invariant in
    let room = room_of L H (rank_of l) c.index_mut.result.now (record { each = inv.each }) lt c.index_mut.ensures.value in
    let same : HasRoom p (count_of H l) = (omega (arith, room.0, c.set_blocker.ensures.len), omega (arith, room.1, c.set_blocker.ensures.capacity)) in
    record { same = length-set L (rank_of l) p ∙ inv.same; each = (rooms_set L H (rank_of l) p (record { each = inv.each }) same).each }

-- the rows with the other blocker
rows_changed : goal.returns-clause-rows
rows_changed c =
    let L = c.self.inside.lists in
    let l = c.args.l in
    let lists : length c.args.self.now.lists ≡ length L = ap (λ (w : Watchers). length w.lists) (sym c.self.view_is) ∙ seen_long L in
    rows_blocked L l c.args.at c.args.blocker c.index_mut.result.now c.set_blocker.new.list (omega (arith, c.requires.rank, lists)) c.index_mut.ensures.value c.set_blocker.ensures.items
    ∙ ap (λ (w : Watchers). blocked_rows w.rows l c.args.at c.args.blocker) c.self.view_is

pub returns-clause-rows : goal.returns-clause-rows
returns-clause-rows c = rows_changed c

pub returns-clause-lists : goal.returns-clause-lists
returns-clause-lists c =
    ap all_places (rows_changed c) ∙ all_places_kept c.args.self.now.rows c.args.l c.args.at c.args.blocker
    ∙ ap (λ (w : Watchers). all_places w.rows) (sym c.self.view_is) ∙ ap (λ (w : Watchers). w.lists) c.self.view_is
