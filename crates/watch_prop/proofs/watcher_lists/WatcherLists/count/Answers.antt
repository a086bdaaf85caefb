use Rattle.std.proofs.Common.{◌≡◌, ◌∙◌, [], ◌∷◌, ℕ, ◌^◌, ◌<◌, nat_lt, true, List, ℤ, get_or, length, sym, ap, subst, arith, Vec, vec_capacity}
use Rattle.std.specs.declared.alloc.Global.{Global}
use Rattle.std.proofs.lemmas.Bool.{ltb-true}
use Rattle.std.proofs.lemmas.List.{length-map}
use Rattle.lk_model.specs.Formulas.Literal.{contains, is_distinct, rank_of}
use Rattle.lk_model.proofs.ListTests.{passes_each}
use Rattle.watch_prop.specs.declared.watcher_lists.Watcher.{Watcher}
use Rattle.watch_prop.specs.Watchers.{Watchers, places, count_of, with_counted}
use Rattle.watch_prop.specs.HeldWatchers.{watcher_rows, HasRoom, HaveRoom, watchers_seen}
use Rattle.watch_prop.specs.declared.watcher_lists.WatcherLists.TheInside.{Inside}
use Rattle.watch_prop.proofs.Roomy.{HaveRooms}
use Rattle.watch_prop.proofs.Counts.{HaveRanks, rooms_then, counted_long}
use Rattle.watch_prop.proofs.watcher_lists.WatcherLists.count.Goals as goal

-- what is known when there is room: the lists before and after, the counts, and the literals of the clause
record ArePrepared (before lists : List (Vec Watcher Global)) (counts : List ℕ) (c : List ℤ) : Type 0 where
  long : length lists ≡ length before
  same : length lists ≡ length counts
  ranks : HaveRanks c (length lists)
  more : (l : ℤ) (d : Vec Watcher Global) → contains c l ≡ true → count_of counts l < vec_capacity (get_or lists (rank_of l) d)
  rooms : HaveRooms lists (with_counted counts c)

prepared : (inside : Inside) (seen : Watchers) (lists : List (Vec Watcher Global)) (c : List ℤ) → watchers_seen inside ≡ seen → HaveRoom inside
    → HaveRanks c (length seen.lists) → is_distinct c ≡ true → watcher_rows lists ≡ watcher_rows inside.lists
    → ((r : ℕ) (d : Vec Watcher Global) → r < length inside.lists → HasRoom (get_or lists r d) (get_or inside.counts r 0))
    → ((l : ℤ) (d : Vec Watcher Global) → contains c l ≡ true → count_of inside.counts l < vec_capacity (get_or lists (rank_of l) d))
    → ArePrepared inside.lists lists inside.counts c
prepared inside seen lists c view kept ranks distinct same room more =
    let long : length lists ≡ length inside.lists = sym (length-map lists (λ (v : Vec Watcher Global). v.items)) ∙ ap (λ (rows : List (List Watcher)). length rows) same
    ∙ length-map inside.lists (λ (v : Vec Watcher Global). v.items) in
    let seen_long : length seen.lists ≡ length inside.lists = ap (λ (w : Watchers). length w.lists) (sym view) ∙ length-map (watcher_rows inside.lists) places ∙ length-map inside.lists (λ (v : Vec Watcher Global). v.items) in
    let within : HaveRanks c (length lists) = subst (λ (n : ℕ). HaveRanks c n) (seen_long ∙ sym long) ranks in
    let rooms : HaveRooms lists inside.counts = record { each = λ r d lt. room r d (omega (arith, lt, long)) } in
    record {
      long = long;
      same = long ∙ kept.same;
      ranks = within;
      more = more;
      rooms = rooms_then lists inside.counts c distinct (subst (λ (n : ℕ). HaveRanks c n) (long ∙ kept.same) within) rooms more;
    }

small_count : (lists : List (Vec Watcher Global)) (r n : ℕ) → r < length lists → ((d : Vec Watcher Global) → n < vec_capacity (get_or lists r d)) → n < 2 ^ 63
small_count [] r n lt h = absurd (omega arith)
small_count (v ∷ lists) r n lt h =
    let w = get_or (v ∷ lists) r v in
    let high = h v in
    let small = w.small in
    omega (arith, high, small)

pub count_literals-requires-clause-small : goal.count_literals-requires-clause-small
count_literals-requires-clause-small c =
    let s = c.args.lits.now in
    let L = c.make_room.new.lists in
    let e = c.in_ok-make_room.ensures in
    let p = prepared c.self.inside c.args.self.now L s c.self.view_is c.self.invariant c.requires.ranks c.requires.distinct e.rows e.room e.more in
    λ l there. small_count L (rank_of l) (count_of c.self.inside.counts l) (ltb-true (rank_of l) (length L) (passes_each (λ (k : ℤ). nat_lt (rank_of k) (length L)) s l p.ranks there)) (λ d. p.more l d there)

pub invariant_of-self-2 : goal.invariant_of-self-2
invariant_of-self-2 c =
    let s = c.args.lits.now in
    let L = c.make_room.new.lists in
    let H = c.self.inside.counts in
    let e = c.in_ok-make_room.ensures in
    let p = prepared c.self.inside c.args.self.now L s c.self.view_is c.self.invariant c.requires.ranks c.requires.distinct e.rows e.room e.more in
    rw c.count_literals.ensures (record { same = p.same ∙ sym (counted_long H s); each = p.rooms.each })
