-- Blockers stay literals of their clauses.
use Rattle.std.proofs.Common.{◌≡◌, ℕ, zero, suc, ◌-◌, ◌<◌, ◌++◌, ◌∷◌, [], true, Bool, List, ℤ, pos, length, take, get_or, set, replicate, refl, sym, subst, arith}
use Rattle.std.specs.List.{list_all, swap_remove}
use Rattle.lk_model.specs.Formulas.Literal.{contains, rank_of}
use Rattle.lk_model.proofs.Booleans.{and_true}
use Rattle.lk_model.proofs.ListTests.{all_at, all_more, all_weaker}
use Rattle.watch_prop.specs.declared.entry.NumberedClause.{NumberedClause}
use Rattle.watch_prop.specs.declared.watcher_lists.Watcher.{Watcher}
use Rattle.watch_prop.specs.Watchers.{row_of, with_row}
use Rattle.watch_prop.specs.Linked.{clause_at_place, blocks, AreBlocked, moved_rows, blocked_rows}

-- LISTS WHOSE ITEMS PASS

all_set : {X : Type 0} (p : X → Bool) (xs : List X) (i : ℕ) (x : X) → list_all p xs ≡ true → p x ≡ true → list_all p (set xs i x) ≡ true
all_set p [] i x h t = refl
all_set p (y ∷ xs) zero x h t = (let both = and_true (p y) (list_all p xs) h in rw (t) both.1)
all_set p (y ∷ xs) (suc i) x h t = (let both = and_true (p y) (list_all p xs) h in rw (both.0) (all_set p xs i x both.1 t))

all_take : {X : Type 0} (p : X → Bool) (n : ℕ) (xs : List X) → list_all p xs ≡ true → list_all p (take n xs) ≡ true
all_take p zero xs h = refl
all_take p (suc n) [] h = refl
all_take p (suc n) (y ∷ xs) h = (let both = and_true (p y) (list_all p xs) h in rw (both.0) (all_take p n xs both.1))

all_swap : {X : Type 0} (p : X → Bool) (xs : List X) (i : ℕ) (d : X) → i < length xs → list_all p xs ≡ true → list_all p (swap_remove xs i d) ≡ true
all_swap p xs i d lt h =
    let last = get_or xs (length xs - 1) d in
    all_take p (length xs - 1) (set xs i last) (all_set p xs i last h (all_at p xs (length xs - 1) d h (omega (arith, lt))))

row_set : (rows : List (List Watcher)) (i r : ℕ) (row : List Watcher) (p : Watcher → Bool) → list_all p row ≡ true → list_all p (get_or rows r []) ≡ true
    → list_all p (get_or (set rows i row) r []) ≡ true
row_set [] i r row p new old = old
row_set (x ∷ rows) zero zero row p new old = new
row_set (x ∷ rows) zero (suc r) row p new old = old
row_set (x ∷ rows) (suc i) zero row p new old = old
row_set (x ∷ rows) (suc i) (suc r) row p new old = row_set rows i r row p new old

-- ROWS OF WATCHERS

-- one watcher more
pub blocked_with : (clauses : List NumberedClause) (rows : List (List Watcher)) (l : ℤ) (w : Watcher) → AreBlocked clauses rows → blocks clauses w ≡ true → AreBlocked clauses (with_row rows l w)
blocked_with clauses rows l w h t = λ r. row_set rows (rank_of l) r (row_of rows l ++ w ∷ []) (blocks clauses) (all_more (blocks clauses) (row_of rows l) w (h (rank_of l)) t) (h r)

-- a clause that comes to another list, with a literal of it
pub blocked_moved : (clauses : List NumberedClause) (rows : List (List Watcher)) (l : ℤ) (at : ℕ) (to blocker : ℤ) (place : ℕ) → AreBlocked clauses rows → at < length (row_of rows l)
    → (get_or (row_of rows l) at (record { place = 0; blocker = pos 0 })).place ≡ place → contains (clause_at_place clauses place).lits blocker ≡ true
    → AreBlocked clauses (moved_rows rows l at to blocker)
blocked_moved clauses rows l at to blocker place h lt stands has =
    let w = get_or (row_of rows l) at (record { place = 0; blocker = pos 0 }) in
    let less = swap_remove (row_of rows l) at w in
    let without : AreBlocked clauses (set rows (rank_of l) less) =
    λ r. row_set rows (rank_of l) r less (blocks clauses) (all_swap (blocks clauses) (row_of rows l) at w lt (h (rank_of l))) (h r) in
    blocked_with clauses (set rows (rank_of l) less) to (record { place = w.place; blocker = blocker }) without
    (subst (λ (p : ℕ). contains (clause_at_place clauses p).lits blocker ≡ true) (sym stands) has)

-- another blocker, which is a literal of the clause
pub blocked_again : (clauses : List NumberedClause) (rows : List (List Watcher)) (l : ℤ) (at : ℕ) (blocker : ℤ) (place : ℕ) → AreBlocked clauses rows
    → (get_or (row_of rows l) at (record { place = 0; blocker = pos 0 })).place ≡ place → contains (clause_at_place clauses place).lits blocker ≡ true
    → AreBlocked clauses (blocked_rows rows l at blocker)
blocked_again clauses rows l at blocker place h stands has =
    let w : Watcher = record { place = (get_or (row_of rows l) at (record { place = 0; blocker = pos 0 })).place; blocker = blocker } in
    let passes : blocks clauses w ≡ true = subst (λ (p : ℕ). contains (clause_at_place clauses p).lits blocker ≡ true) (sym stands) has in
    λ r. row_set rows (rank_of l) r (set (row_of rows l) at w) (blocks clauses) (all_set (blocks clauses) (row_of rows l) at w (h (rank_of l)) passes) (h r)

-- one clause more
pub blocked_more : (clauses : List NumberedClause) (d : NumberedClause) (rows : List (List Watcher)) → AreBlocked clauses rows → AreBlocked (clauses ++ d ∷ []) rows
blocked_more clauses d rows h = λ r. all_weaker (blocks clauses) (blocks (clauses ++ d ∷ [])) (λ w t. still clauses w.place w.blocker t) (get_or rows r []) (h r)
  where
    still : (clauses : List NumberedClause) (p : ℕ) (b : ℤ) → contains (clause_at_place clauses p).lits b ≡ true → contains (clause_at_place (clauses ++ d ∷ []) p).lits b ≡ true
    still [] p b t = absurd (let f : ⊥ = cc in f)
    still (c ∷ clauses) zero b t = t
    still (c ∷ clauses) (suc p) b t = still clauses p b t

-- no watcher
pub blocked_none : (clauses : List NumberedClause) (n : ℕ) → AreBlocked clauses (replicate n [])
blocked_none clauses zero r = refl
blocked_none clauses (suc n) zero = refl
blocked_none clauses (suc n) (suc r) = blocked_none clauses n r

-- the blocker that stands at a place of a row
pub blocker_there : (clauses : List NumberedClause) (rows : List (List Watcher)) (l : ℤ) (at : ℕ) (w : Watcher) → AreBlocked clauses rows → at < length (row_of rows l)
    → w ≡ get_or (row_of rows l) at w → contains (clause_at_place clauses w.place).lits w.blocker ≡ true
blocker_there clauses rows l at w h lt is = subst (λ (x : Watcher). blocks clauses x ≡ true) (sym is) (all_at (blocks clauses) (row_of rows l) at w (h (rank_of l)) lt)
