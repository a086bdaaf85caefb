-- Lists of watchers with room, when one of them changes.
use Rattle.std.proofs.Common.{◌≡◌, ◌∙◌, ℕ, zero, suc, refl, replicate, ◌-◌, ◌<◌, ◌≤◌, ◌++◌, ◌∷◌, ℤ, pos, take, List, [], length, length-set, get_or, set, get_or-set_other, get_or-set_same, sym, ap, subst, arith, inl, inr, Vec, vec_len, vec_capacity}
use Rattle.std.specs.declared.alloc.Global.{Global}
use Rattle.std.specs.List.{swap_remove, All}
use Rattle.std.proofs.lemmas.Bool.{cases_eq}
use Rattle.std.proofs.Math.ListN.{get_or-map as get_or-mapped}
use Rattle.std.proofs.lemmas.List.{set-get_or, get_or_read, get_or-map, map-set, map-append, take-map, length-map}
use Rattle.lk_model.specs.Formulas.Literal.{rank_of}
use Rattle.watch_prop.specs.declared.watcher_lists.Watcher.{Watcher}
use Rattle.watch_prop.specs.Watchers.{places, all_places, row_of, watchers, with_watcher, with_row}
use Rattle.watch_prop.specs.Linked.{moved, moved_rows, with_blocker, blocked_rows}
use Rattle.watch_prop.specs.HeldWatchers.{watcher_rows, HasRoom}

-- lists without an item
pub rows_none : (lists : List (Vec Watcher Global)) → All (λ (v : Vec Watcher Global). v.items ≡ []) lists → watcher_rows lists ≡ replicate (length lists) []
rows_none [] h = refl
rows_none (v ∷ lists) h = rw (h 0 v (omega arith), rows_none lists (λ k d lt. h (suc k) d (omega (arith, lt)))) refl

-- what a read gives at another default
pub read_at : (lists : List (Vec Watcher Global)) (r : ℕ) (v d : Vec Watcher Global) → r < length lists → v ≡ get_or lists r v → get_or lists r d ≡ v
read_at lists r v d lt e = sym (get_or_read lists r v lt e d)

pub row_at : (lists : List (Vec Watcher Global)) (r : ℕ) (v : Vec Watcher Global) → r < length lists → v ≡ get_or lists r v → get_or (watcher_rows lists) r [] ≡ v.items
row_at lists r v lt e = get_or-map (λ (x : Vec Watcher Global). x.items) lists r v [] lt ∙ ap (λ (x : Vec Watcher Global). x.items) (sym e)

pub same_rows : (lists : List (Vec Watcher Global)) (r : ℕ) (v v' : Vec Watcher Global) → r < length lists → v ≡ get_or lists r v → v'.items ≡ v.items
    → watcher_rows (set lists r v') ≡ watcher_rows lists
same_rows lists r v v' lt e same =
    map-set (λ (x : Vec Watcher Global). x.items) lists r v' ∙ ap (λ (row : List Watcher). set (watcher_rows lists) r row) (same ∙ sym (row_at lists r v lt e)) ∙ set-get_or (watcher_rows lists) r []

-- a watcher comes to the end of a list
pub rows_push : (lists : List (Vec Watcher Global)) (l : ℤ) (w : Watcher) (v v' : Vec Watcher Global) → rank_of l < length lists → v ≡ get_or lists (rank_of l) v → v'.items ≡ v.items ++ w ∷ []
    → watcher_rows (set lists (rank_of l) v') ≡ with_row (watcher_rows lists) l w
rows_push lists l w v v' lt e pushed =
    map-set (λ (x : Vec Watcher Global). x.items) lists (rank_of l) v'
    ∙ ap (λ (row : List Watcher). set (watcher_rows lists) (rank_of l) row) (pushed ∙ ap (λ (row : List Watcher). row ++ w ∷ []) (sym (row_at lists (rank_of l) v lt e)))

pub record HaveRooms (lists : List (Vec Watcher Global)) (counts : List ℕ) : Type 0 where
  pub each : (r : ℕ) (d : Vec Watcher Global) → r < length lists → HasRoom (get_or lists r d) (get_or counts r 0)

pub rooms_set : (lists : List (Vec Watcher Global)) (counts : List ℕ) (i : ℕ) (v : Vec Watcher Global) → HaveRooms lists counts → HasRoom v (get_or counts i 0) → HaveRooms (set lists i v) counts
rooms_set lists counts i v h room = record {
  each = λ r d lt.
      let long = length-set lists i v in
      elim (cases_eq r i) [
        | inl y ↦ subst (λ (k : ℕ). HasRoom (get_or (set lists i v) k d) (get_or counts k 0)) (sym y)
            (subst (λ (x : Vec Watcher Global). HasRoom x (get_or counts i 0)) (sym (get_or-set_same lists i v d (omega (arith, y, lt, long)))) room)
        | inr y ↦ subst (λ (x : Vec Watcher Global). HasRoom x (get_or counts r 0)) (sym (get_or-set_other lists i r v d y)) (h.each r d (omega (arith, lt, long)))
      ];
}

-- a capacity that grows
pub capacity_set : (lists : List (Vec Watcher Global)) (i : ℕ) (v v' : Vec Watcher Global) (r : ℕ) (d : Vec Watcher Global) → i < length lists → v ≡ get_or lists i v
    → vec_capacity v ≤ vec_capacity v' → vec_capacity (get_or lists r d) ≤ vec_capacity (get_or (set lists i v') r d)
capacity_set lists i v v' r d lt e le = elim (cases_eq r i) [
  | inl y ↦ subst (λ (k : ℕ). vec_capacity (get_or lists k d) ≤ vec_capacity (get_or (set lists i v') k d)) (sym y)
      (let a = ap (λ (x : Vec Watcher Global). vec_capacity x) (read_at lists i v d lt e) in
      let b = ap (λ (x : Vec Watcher Global). vec_capacity x) (get_or-set_same lists i v' d lt) in omega (arith, a, b))
  | inr y ↦ (let b = ap (λ (x : Vec Watcher Global). vec_capacity x) (get_or-set_other lists i r v' d y) in omega (arith, b))
]

set_rows : (lists : List (Vec Watcher Global)) (i : ℕ) (v : Vec Watcher Global) → watcher_rows (set lists i v) ≡ set (watcher_rows lists) i v.items
set_rows lists i v = map-set (λ (v : Vec Watcher Global). v.items) lists i v

-- a clause that moves from the list of l to that of another literal
pub shift_rows : (lists : List (Vec Watcher Global)) (l other : ℤ) (at : ℕ) (blocker : ℤ) (from to from' to' : Vec Watcher Global) (w : Watcher) → rank_of l < length lists → rank_of other < length lists
    → from ≡ get_or lists (rank_of l) from → to ≡ get_or (set lists (rank_of l) from') (rank_of other) to → at < length from.items
    → w ≡ get_or from.items at w → from'.items ≡ swap_remove from.items at w → to'.items ≡ to.items ++ record { place = w.place; blocker = blocker } ∷ []
    → watcher_rows (set (set lists (rank_of l) from') (rank_of other) to') ≡ moved_rows (watcher_rows lists) l at other blocker
shift_rows lists l other at blocker from to from' to' w lt_l lt_other read_from read_to within read_w made_from made_to =
    let none : Watcher = record { place = 0; blocker = pos 0 } in
    let row = row_of (watcher_rows lists) l in
    let was : from.items ≡ row = sym (row_at lists (rank_of l) from lt_l read_from) in
    let w_is : w ≡ get_or row at none = get_or_read from.items at w within read_w none ∙ ap (λ (ws : List Watcher). get_or ws at none) was in
    let less : from'.items ≡ swap_remove row at (get_or row at none) =
    made_from ∙ ap (λ (ws : List Watcher). swap_remove ws at w) was ∙ ap (λ (x : Watcher). swap_remove row at x) w_is in
    let once : watcher_rows (set lists (rank_of l) from') ≡ set (watcher_rows lists) (rank_of l) (swap_remove row at (get_or row at none)) =
    set_rows lists (rank_of l) from' ∙ ap (λ (ws : List Watcher). set (watcher_rows lists) (rank_of l) ws) less in
    let lt_other' : rank_of other < length (set lists (rank_of l) from') = (let n = length-set lists (rank_of l) from' in omega (arith, lt_other, n)) in
    let had : to.items ≡ get_or (watcher_rows (set lists (rank_of l) from')) (rank_of other) [] = sym (row_at (set lists (rank_of l) from') (rank_of other) to lt_other' read_to) in
    let put : Watcher → Watcher = λ x. record { place = x.place; blocker = blocker } in
    set_rows (set lists (rank_of l) from') (rank_of other) to'
    ∙ ap (λ (ws : List Watcher). set (watcher_rows (set lists (rank_of l) from')) (rank_of other) ws) (made_to ∙ ap (λ (ws : List Watcher). ws ++ put w ∷ []) had)
    ∙ ap (λ (x : Watcher). set (watcher_rows (set lists (rank_of l) from')) (rank_of other) (get_or (watcher_rows (set lists (rank_of l) from')) (rank_of other) [] ++ put x ∷ [])) w_is
    ∙ ap (λ (rows : List (List Watcher)). set rows (rank_of other) (get_or rows (rank_of other) [] ++ put (get_or row at none) ∷ [])) once

-- THE PLACES OF WATCHERS

pub no_places : (n : ℕ) → all_places (replicate n []) ≡ replicate n []
no_places zero = refl
no_places (suc n) = rw (no_places n) refl

pub places_at : (rows : List (List Watcher)) (l : ℤ) → watchers (all_places rows) l ≡ places (row_of rows l)
places_at rows l = get_or-mapped places rows (rank_of l) []

pub places_with : (rows : List (List Watcher)) (l : ℤ) (w : Watcher) → all_places (with_row rows l w) ≡ with_watcher (all_places rows) l w.place
places_with rows l w =
    map-set places rows (rank_of l) (row_of rows l ++ w ∷ [])
    ∙ ap (λ (ps : List ℕ). set (all_places rows) (rank_of l) ps)
    (map-append (λ (x : Watcher). x.place) (row_of rows l) (w ∷ []) ∙ ap (λ (ps : List ℕ). ps ++ w.place ∷ []) (sym (places_at rows l)))

-- the place at a place of a row
pub place_at : (row : List Watcher) (at : ℕ) → get_or (places row) at 0 ≡ (get_or row at (record { place = 0; blocker = pos 0 })).place
place_at row at = get_or-mapped (λ (w : Watcher). w.place) row at (record { place = 0; blocker = pos 0 })

places_swap : (row : List Watcher) (at : ℕ) (w : Watcher) → places (swap_remove row at w) ≡ swap_remove (places row) at w.place
places_swap row at w =
    let f : Watcher → ℕ = λ x. x.place in
    let last = get_or row (length row - 1) w in
    sym (take-map f (length row - 1) (set row at last))
    ∙ ap (λ (ps : List ℕ). take (length row - 1) ps) (map-set f row at last)
    ∙ ap (λ (n : ℕ). take (length row - 1) (set (places row) at n)) (sym (get_or-mapped f row (length row - 1) w))
    ∙ ap (λ (n : ℕ). take (n - 1) (set (places row) at (get_or (places row) (n - 1) w.place))) (sym (length-map row f))

pub places_moved : (rows : List (List Watcher)) (l : ℤ) (at : ℕ) (to blocker : ℤ) → all_places (moved_rows rows l at to blocker) ≡ moved (all_places rows) l at to
places_moved rows l at to blocker =
    let w = get_or (row_of rows l) at (record { place = 0; blocker = pos 0 }) in
    let less = swap_remove (row_of rows l) at w in
    let was = sym (places_at rows l) in
    let less_is : places less ≡ swap_remove (watchers (all_places rows) l) at w.place =
    places_swap (row_of rows l) at w ∙ ap (λ (ps : List ℕ). swap_remove ps at w.place) was in
    let place_is : w.place ≡ get_or (watchers (all_places rows) l) at 0 = sym (place_at (row_of rows l) at) ∙ ap (λ (ps : List ℕ). get_or ps at 0) was in
    places_with (set rows (rank_of l) less) to (record { place = w.place; blocker = blocker })
    ∙ ap (λ (ls : List (List ℕ)). with_watcher ls to w.place) (map-set places rows (rank_of l) less ∙ ap (λ (ps : List ℕ). set (all_places rows) (rank_of l) ps) less_is)
    ∙ ap (λ (n : ℕ). with_watcher (set (all_places rows) (rank_of l) (swap_remove (watchers (all_places rows) l) at n)) to n) place_is

-- how long a list is, and that it has room
pub items_long : (lists : List (Vec Watcher Global)) (l : ℤ) (v : Vec Watcher Global) → rank_of l < length lists → v ≡ get_or lists (rank_of l) v
    → length (watchers (all_places (watcher_rows lists)) l) ≡ vec_len v
items_long lists l v lt e =
    ap length (places_at (watcher_rows lists) l) ∙ length-map (row_of (watcher_rows lists) l) (λ (w : Watcher). w.place) ∙ ap (λ (ws : List Watcher). length ws) (row_at lists (rank_of l) v lt e) ∙ sym v.ok.0

pub room_of : (lists : List (Vec Watcher Global)) (counts : List ℕ) (r : ℕ) (v : Vec Watcher Global) → HaveRooms lists counts → r < length lists → v ≡ get_or lists r v → HasRoom v (get_or counts r 0)
room_of lists counts r v h lt e = subst (λ (x : Vec Watcher Global). HasRoom x (get_or counts r 0)) (sym e) (h.each r v lt)

pub seen_long : (lists : List (Vec Watcher Global)) → length (all_places (watcher_rows lists)) ≡ length lists
seen_long lists = length-map (watcher_rows lists) places ∙ length-map lists (λ (v : Vec Watcher Global). v.items)

-- another blocker leaves the places
pub places_kept : (row : List Watcher) (at : ℕ) (blocker : ℤ) → places (with_blocker row at blocker) ≡ places row
places_kept row at blocker =
    let f : Watcher → ℕ = λ w. w.place in
    map-set f row at (record { place = (get_or row at (record { place = 0; blocker = pos 0 })).place; blocker = blocker })
    ∙ ap (λ (n : ℕ). set (places row) at n) (sym (place_at row at)) ∙ set-get_or (places row) at 0

pub all_places_kept : (rows : List (List Watcher)) (l : ℤ) (at : ℕ) (blocker : ℤ) → all_places (blocked_rows rows l at blocker) ≡ all_places rows
all_places_kept rows l at blocker =
    map-set places rows (rank_of l) (with_blocker (row_of rows l) at blocker)
    ∙ ap (λ (ps : List ℕ). set (all_places rows) (rank_of l) ps) (places_kept (row_of rows l) at blocker ∙ sym (places_at rows l)) ∙ set-get_or (all_places rows) (rank_of l) []

pub rows_blocked : (lists : List (Vec Watcher Global)) (l : ℤ) (at : ℕ) (blocker : ℤ) (v v' : Vec Watcher Global) → rank_of l < length lists → v ≡ get_or lists (rank_of l) v
    → v'.items ≡ with_blocker v.items at blocker → watcher_rows (set lists (rank_of l) v') ≡ blocked_rows (watcher_rows lists) l at blocker
rows_blocked lists l at blocker v v' lt e made =
    set_rows lists (rank_of l) v' ∙ ap (λ (row : List Watcher). set (watcher_rows lists) (rank_of l) row)
    (made ∙ ap (λ (row : List Watcher). with_blocker row at blocker) (sym (row_at lists (rank_of l) v lt e)))
