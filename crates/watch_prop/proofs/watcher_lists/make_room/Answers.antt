use Rattle.std.proofs.Common.{◌≡◌, ◌∙◌, ℕ, ℤ, ◌<◌, true, List, get_or, get_or-set_same, set, length, length-set, refl, sym, ap, subst, arith, inl, inr, Vec, vec_len, vec_capacity}
use Rattle.std.specs.declared.alloc.Global.{Global}
use Rattle.std.proofs.lemmas.List.{length-map, get_or_read, take_all}
use Rattle.lk_model.specs.Formulas.Literal.{contains, rank_of}
use Rattle.watch_prop.specs.declared.watcher_lists.Watcher.{Watcher}
use Rattle.watch_prop.specs.HeldWatchers.{watcher_rows, HasRoom}
use Rattle.watch_prop.proofs.Roomy.{same_rows, rooms_set, capacity_set}
use Rattle.watch_prop.proofs.Counts.{contains_more, rank_at}
use Rattle.watch_prop.proofs.watcher_lists.make_room.Goals as goal

same_length : (lists lists' : List (Vec Watcher Global)) → watcher_rows lists ≡ watcher_rows lists' → length lists ≡ length lists'
same_length lists lists' e =
    sym (length-map lists (λ (v : Vec Watcher Global). v.items)) ∙ ap (λ (rows : List (List Watcher)). length rows) e ∙ length-map lists' (λ (v : Vec Watcher Global). v.items)

pub loop-l-init : goal.loop-l-init
loop-l-init c = record { items = refl; room = c.requires.room; more = λ k d e. absurd (let f : ⊥ = cc in f) }

pub overflow_sub-more : goal.overflow_sub-more
overflow_sub-more c =
    let L = c.loop-l.lists in
    let H = c.args.counts.now in
    let r = rank_of c.l-item.result in
    let n = c.index.result.now in
    let a = c.index-in-loop-l.result.now in
    let long = same_length L c.args.lists.now c.loop-l.invariant.items in
    let low = rank_at c.args.lits.now c.loop-l.l-index (length c.args.lists.now) c.l-item.result c.requires.ranks (omega (arith, c.loop-l-test.true)) c.l-item.is in
    let held : n ≡ get_or H r 0 = get_or_read H r n (omega (arith, low, c.requires.same)) c.index.ensures 0 in
    let room : HasRoom a (get_or H r 0) = subst (λ (x : Vec Watcher Global). HasRoom x (get_or H r 0)) (sym c.index-in-loop-l.ensures) (c.loop-l.invariant.room r a (omega (arith, low, long))) in
    omega (arith, room.0, held, c.len.ensures)

pub index-requires : goal.index-requires
index-requires c =
    let low = rank_at c.args.lits.now c.loop-l.l-index (length c.args.lists.now) c.l-item.result c.requires.ranks (omega (arith, c.loop-l-test.true)) c.l-item.is in
    omega (arith, low, c.requires.same)

pub index-requires-in-loop-l : goal.index-requires-in-loop-l
index-requires-in-loop-l c =
    let long = same_length c.loop-l.lists c.args.lists.now c.loop-l.invariant.items in
    let low = rank_at c.args.lits.now c.loop-l.l-index (length c.args.lists.now) c.l-item.result c.requires.ranks (omega (arith, c.loop-l-test.true)) c.l-item.is in
    omega (arith, low, long)

pub index_mut-requires : goal.index_mut-requires
index_mut-requires c =
    let long = same_length c.loop-l.lists c.args.lists.now c.loop-l.invariant.items in
    let low = rank_at c.args.lits.now c.loop-l.l-index (length c.args.lists.now) c.l-item.result c.requires.ranks (omega (arith, c.loop-l-test.true)) c.l-item.is in
    omega (arith, low, long)

pub returns-in_err-reserve-clause-rows : goal.returns-in_err-reserve-clause-rows
returns-in_err-reserve-clause-rows c =
    let L = c.loop-l.lists in
    let r = rank_of c.l-item.result in
    let v = c.index_mut.result.now in
    let long = same_length L c.args.lists.now c.loop-l.invariant.items in
    let low = rank_at c.args.lits.now c.loop-l.l-index (length c.args.lists.now) c.l-item.result c.requires.ranks (omega (arith, c.loop-l-test.true)) c.l-item.is in
    let lt : r < length L = omega (arith, low, long) in
    same_rows L r v c.reserve.new.self lt c.index_mut.ensures.value c.reserve.ensures.items ∙ c.loop-l.invariant.items

pub loop-l-preserved : goal.loop-l-preserved
loop-l-preserved c =
    let L = c.loop-l.lists in
    let H = c.args.counts.now in
    let s = c.args.lits.now in
    let r = rank_of c.l-item.result in
    let n = c.index.result.now in
    let a = c.index-in-loop-l.result.now in
    let v = c.index_mut.result.now in
    let v' = c.reserve.new.self in
    let here : c.loop-l.l-index < length s = omega (arith, c.loop-l-test.true) in
    let long = same_length L c.args.lists.now c.loop-l.invariant.items in
    let low = rank_at s c.loop-l.l-index (length c.args.lists.now) c.l-item.result c.requires.ranks here c.l-item.is in
    let lt : r < length L = omega (arith, low, long) in
    let is = c.index_mut.ensures.value in
    let same : a ≡ v = get_or_read L r a lt c.index-in-loop-l.ensures v ∙ sym is in
    let len_a : vec_len a ≡ vec_len v = ap (λ (x : Vec Watcher Global). vec_len x) same in
    let held : n ≡ get_or H r 0 = get_or_read H r n (omega (arith, low, c.requires.same)) c.index.ensures 0 in
    let room : HasRoom v (get_or H r 0) = subst (λ (x : Vec Watcher Global). HasRoom x (get_or H r 0)) (sym is) (c.loop-l.invariant.room r v lt) in
    let rooms = rooms_set L H r v' (record { each = c.loop-l.invariant.room }) (omega (arith, c.reserve.ensures.len, room.0), omega (arith, c.reserve.ensures.capacity, room.1)) in
    let fits : get_or H r 0 < vec_capacity v' = omega (arith, c.in_ok-reserve.ensures.ok, c.len.ensures, c.reserve.ensures.len, len_a, held, room.0) in
    record {
      items = same_rows L r v v' lt is c.reserve.ensures.items ∙ c.loop-l.invariant.items;
      room = rooms.each;
      more = λ k d there. elim (contains_more s c.loop-l.l-index c.l-item.result k here c.l-item.is there) [
        | inl y ↦ (let earlier = c.loop-l.invariant.more k d y in let grows = capacity_set L r v v' (rank_of k) d lt is c.reserve.ensures.capacity in omega (arith, earlier, grows))
        | inr y ↦
            subst (λ (n : ℕ). get_or H n 0 < vec_capacity (get_or (set L r v') n d)) (ap rank_of (sym y))
            (subst (λ (x : Vec Watcher Global). get_or H r 0 < vec_capacity x) (sym (get_or-set_same L r v' d lt)) fits)
      ];
    }

pub returns-in_err-reserve-clause-room : goal.returns-in_err-reserve-clause-room
returns-in_err-reserve-clause-room c =
    let L = c.loop-l.lists in
    let H = c.args.counts.now in
    let r = rank_of c.l-item.result in
    let v = c.index_mut.result.now in
    let v' = c.reserve.new.self in
    let long = same_length L c.args.lists.now c.loop-l.invariant.items in
    let low = rank_at c.args.lits.now c.loop-l.l-index (length c.args.lists.now) c.l-item.result c.requires.ranks (omega (arith, c.loop-l-test.true)) c.l-item.is in
    let lt : r < length L = omega (arith, low, long) in
    let room : HasRoom v (get_or H r 0) = subst (λ (x : Vec Watcher Global). HasRoom x (get_or H r 0)) (sym c.index_mut.ensures.value) (c.loop-l.invariant.room r v lt) in
    let rooms = rooms_set L H r v' (record { each = c.loop-l.invariant.room }) (omega (arith, c.reserve.ensures.len, room.0), omega (arith, c.reserve.ensures.capacity, room.1)) in
    let size = length-set L r v' in
    λ k d within. rooms.each k d (omega (arith, within, long, size))

pub returns-clause-rows : goal.returns-clause-rows
returns-clause-rows c = c.loop-l.invariant.items

pub returns-clause-room : goal.returns-clause-room
returns-clause-room c =
    let long = same_length c.loop-l.lists c.args.lists.now c.loop-l.invariant.items in
    λ k d within. c.loop-l.invariant.room k d (omega (arith, within, long))

pub returns-clause-more : goal.returns-clause-more
returns-clause-more c =
    let all = take_all c.loop-l.l-index c.args.lits.now (omega (arith, c.loop-l-test.false)) in
    λ k d there. c.loop-l.invariant.more k d (subst (λ (ls : List ℤ). contains ls k ≡ true) (sym all) there)
