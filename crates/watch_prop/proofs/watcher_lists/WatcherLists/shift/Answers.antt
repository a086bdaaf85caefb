use Rattle.std.proofs.Common.{◌≡◌, ◌≢◌, ◌∙◌, ◌<◌, length, length-set, get_or, set, get_or-set_other, sym, ap, subst, arith, Vec}
use Rattle.std.specs.declared.alloc.Global.{Global}
use Rattle.lk_model.specs.Formulas.Literal.{rank_of}
use Rattle.lk_model.proofs.Ranks.{rank_apart}
use Rattle.watch_prop.specs.declared.watcher_lists.Watcher.{Watcher}
use Rattle.watch_prop.specs.Watchers.{Watchers, all_places, watchers, count_of}
use Rattle.watch_prop.specs.Linked.{moved, moved_rows}
use Rattle.watch_prop.specs.HeldWatchers.{watcher_rows, HasRoom}
use Rattle.watch_prop.proofs.Roomy.{rooms_set, items_long, room_of, seen_long, shift_rows, places_moved}
use Rattle.watch_prop.proofs.watcher_lists.WatcherLists.shift.Goals as goal

pub invariant_of-self : goal.invariant_of-self
invariant_of-self c =
    let L = c.self.inside.lists in
    let H = c.self.inside.counts in
    let r1 = rank_of c.args.l in
    let r2 = rank_of c.args.to in
    let old1 = c.index_mut.result.now in
    let old2 = c.index_mut-2.result.now in
    let s = c.swap_remove-place.new.self in
    let p = c.push_reserved.new.self in
    let lists : length c.args.self.now.lists ≡ length L = ap (λ (w : Watchers). length w.lists) (sym c.self.view_is) ∙ seen_long L in
    let lt1 : r1 < length L = omega (arith, c.requires.from, lists) in
    let lt2 : r2 < length L = omega (arith, c.requires.to, lists) in
    let apart : r2 ≢ r1 = λ e. c.requires.apart (rank_apart c.args.l c.args.to (sym e)) in
    let inv = c.self.invariant in
    let room1 : HasRoom old1 (get_or H r1 0) = subst (λ (v : Vec Watcher Global). HasRoom v (get_or H r1 0)) (sym c.index_mut.ensures.value) (inv.each r1 old1 lt1) in
    let rs : HasRoom s (get_or H r1 0) = (omega (arith, room1.0, c.swap_remove-place.ensures.len), omega (arith, room1.1, c.swap_remove-place.ensures.capacity)) in
    let once = rooms_set L H r1 s (record { each = inv.each }) rs in
    let read2 : old2 ≡ get_or L r2 old2 = c.index_mut-2.ensures.value ∙ get_or-set_other L r1 r2 s old2 apart in
    let room2 : HasRoom old2 (get_or H r2 0) = subst (λ (v : Vec Watcher Global). HasRoom v (get_or H r2 0)) (sym read2) (inv.each r2 old2 lt2) in
    let has : length (watchers (all_places (watcher_rows L)) c.args.to) < count_of H c.args.to = subst (λ (w : Watchers). length (watchers w.lists c.args.to) < count_of w.counts c.args.to) (sym c.self.view_is) c.requires.room in
    let long = items_long L c.args.to old2 lt2 read2 in
    let rp : HasRoom p (get_or H r2 0) = (omega (arith, c.push_reserved.ensures.len, has, long), omega (arith, room2.1, c.push_reserved.ensures.capacity)) in
    let twice = rooms_set (set L r1 s) H r2 p once rp in
    record { same = length-set (set L r1 s) r2 p ∙ length-set L r1 s ∙ inv.same; each = twice.each }

-- the rows when it has come to the other list
rows_shifted : goal.returns-clause-rows
rows_shifted c =
    let L = c.self.inside.lists in
    let l = c.args.l in
    let lists : length c.args.self.now.lists ≡ length L = ap (λ (w : Watchers). length w.lists) (sym c.self.view_is) ∙ seen_long L in
    let lt1 : rank_of l < length L = omega (arith, c.requires.from, lists) in
    let lt2 : rank_of c.args.to < length L = omega (arith, c.requires.to, lists) in
    let was = items_long L l c.index_mut.result.now lt1 c.index_mut.ensures.value in
    let seen = ap (λ (w : Watchers). length (watchers w.lists l)) c.self.view_is in
    let len = c.index_mut.result.now.ok.0 in
    let within : c.args.at < length c.index_mut.result.now.items = omega (arith, c.requires.within, was, seen, len) in
    shift_rows L l c.args.to c.args.at c.args.blocker c.index_mut.result.now c.index_mut-2.result.now c.swap_remove-place.new.self c.push_reserved.new.self c.swap_remove-place.result lt1 lt2
    c.index_mut.ensures.value c.index_mut-2.ensures.value within c.swap_remove-place.ensures.value c.swap_remove-place.ensures.items c.push_reserved.ensures.items
    ∙ ap (λ (w : Watchers). moved_rows w.rows l c.args.at c.args.to c.args.blocker) c.self.view_is

pub returns-clause-rows : goal.returns-clause-rows
returns-clause-rows c = rows_shifted c

pub returns-clause-lists : goal.returns-clause-lists
returns-clause-lists c =
    let l = c.args.l in
    ap all_places (rows_shifted c) ∙ places_moved c.args.self.now.rows l c.args.at c.args.to c.args.blocker
    ∙ ap (λ (w : Watchers). moved (all_places w.rows) l c.args.at c.args.to) (sym c.self.view_is) ∙ ap (λ (w : Watchers). moved w.lists l c.args.at c.args.to) c.self.view_is

pub swap_remove-place-requires : goal.swap_remove-place-requires
swap_remove-place-requires c =
    let L = c.self.inside.lists in
    let l = c.args.l in
    let lists : length c.args.self.now.lists ≡ length L = ap (λ (w : Watchers). length w.lists) (sym c.self.view_is) ∙ seen_long L in
    let long = items_long L l c.index_mut.result.now (omega (arith, c.requires.from, lists)) c.index_mut.ensures.value in
    let seen = ap (λ (w : Watchers). length (watchers w.lists l)) c.self.view_is in
    omega (arith, c.requires.within, long, seen)

pub push_reserved-requires : goal.push_reserved-requires
push_reserved-requires c =
    let L = c.self.inside.lists in
    let H = c.self.inside.counts in
    let r1 = rank_of c.args.l in
    let r2 = rank_of c.args.to in
    let s = c.swap_remove-place.new.self in
    let old2 = c.index_mut-2.result.now in
    let lists : length c.args.self.now.lists ≡ length L = ap (λ (w : Watchers). length w.lists) (sym c.self.view_is) ∙ seen_long L in
    let lt2 : r2 < length L = omega (arith, c.requires.to, lists) in
    let apart : r2 ≢ r1 = λ e. c.requires.apart (rank_apart c.args.l c.args.to (sym e)) in
    let read2 : old2 ≡ get_or L r2 old2 = c.index_mut-2.ensures.value ∙ get_or-set_other L r1 r2 s old2 apart in
    let has : length (watchers (all_places (watcher_rows L)) c.args.to) < count_of H c.args.to = subst (λ (w : Watchers). length (watchers w.lists c.args.to) < count_of w.counts c.args.to) (sym c.self.view_is) c.requires.room in
    let long = items_long L c.args.to old2 lt2 read2 in
    let room = room_of L H r2 old2 (record { each = c.self.invariant.each }) lt2 read2 in
    omega (arith, has, long, room.1)
