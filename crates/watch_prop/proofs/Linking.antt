-- How lists of watchers stay linked with the clauses.
use Rattle.std.proofs.Common.{◌≡◌, ◌≢◌, ℕ, ◌+◌, ◌<◌, ◌≤◌, Bool, true, false, not, ◌==◌, List, [], ◌∷◌, ◌++◌, refl, sym, ◌∙◌, ap, subst, arith, ℤ, pos, length, drop, get_or, set, inl, inr}
use Rattle.std.specs.Ordering.{int_eq}
use Rattle.std.specs.List.{swap_remove}
use Rattle.std.proofs.lemmas.Bool.{cases_Bool, cases_eq, eqb-true, false_from_ne_true}
use Rattle.std.proofs.lemmas.List.{get_or-set_same, get_or-set_other, get_or_default, length-set}
use Rattle.lk_model.specs.Lists.{among}
use Rattle.lk_model.specs.Formulas.Literal.{contains, is_literal, rank_of}
use Rattle.lk_model.proofs.Booleans.{or_true, or_left, or_right}
use Rattle.lk_model.proofs.Ranks.{rank_small}
use Rattle.lk_model.proofs.Literals.{same_int}
use Rattle.watch_prop.specs.declared.entry.NumberedClause.{NumberedClause}
use Rattle.watch_prop.specs.declared.watch.Watch.{Watch}
use Rattle.watch_prop.specs.declared.watcher_lists.Watcher.{Watcher}
use Rattle.watch_prop.specs.Watch.{other_of}
use Rattle.watch_prop.specs.Watchers.{Watchers, watchers, count_of, with_watcher}
use Rattle.watch_prop.specs.Linked.{IsLinked, IsWatched, IsListed, clause_at_place, watch_at, watches_it, moved}
use Rattle.watch_prop.proofs.Truths.{same_true, false_apart}
use Rattle.watch_prop.proofs.Upheld.{IsOneOf, one_of, first, second, other_apart}
use Rattle.watch_prop.proofs.Counts.{other_rank}
use Rattle.watch_prop.proofs.Lists.{one, times, times-push, some_times, among_some, no_times, one_same, one_apart, at_most_once, distinct_from_times, among_at, times-swap_remove, times-rest, length-swap_remove, ArePlaces, no_more_places}

-- THE LIST OF A LITERAL

pub watcher_here : (lists : List (List ℕ)) (l : ℤ) (n : ℕ) → rank_of l < length lists → watchers (with_watcher lists l n) l ≡ watchers lists l ++ n ∷ []
watcher_here lists l n lt = get_or-set_same lists (rank_of l) (watchers lists l ++ n ∷ []) [] lt

pub watcher_other : (lists : List (List ℕ)) (l : ℤ) (n : ℕ) (k : ℤ) → k ≢ l → watchers (with_watcher lists l n) k ≡ watchers lists k
watcher_other lists l n k apart = get_or-set_other lists (rank_of l) (rank_of k) (watchers lists l ++ n ∷ []) [] (other_rank l k apart)

-- how often numbers stand in two states of the lists, when the number at a place of the list of l comes to the list of r
record IsShift (lists lists' : List (List ℕ)) (l r : ℤ) (place at : ℕ) : Type 0 where
  left : watchers lists' l ≡ swap_remove (watchers lists l) at place
  came : watchers lists' r ≡ watchers lists r ++ place ∷ []
  other : (k : ℤ) → k ≢ l → k ≢ r → watchers lists' k ≡ watchers lists k

moved_shift : (lists : List (List ℕ)) (l r : ℤ) (place at : ℕ) → rank_of l < length lists → rank_of r < length lists → r ≢ l
    → get_or (watchers lists l) at 0 ≡ place → IsShift lists (moved lists l at r) l r place at
moved_shift lists l r place at low high apart stands =
    let p = get_or (watchers lists l) at 0 in
    let less = swap_remove (watchers lists l) at p in
    let without = set lists (rank_of l) less in
    let long = length-set lists (rank_of l) less in
    let back : l ≢ r = λ e. apart (sym e) in
    let unless : (k : ℤ) → k ≢ l → watchers without k ≡ watchers lists k = λ k n. get_or-set_other lists (rank_of l) (rank_of k) less [] (other_rank l k n) in
    record {
      left = watcher_other without r p l back ∙ get_or-set_same lists (rank_of l) less [] low ∙ ap (λ (n : ℕ). swap_remove (watchers lists l) at n) stands;
      came = watcher_here without r p (omega arith) ∙ ap (λ (ps : List ℕ). ps ++ p ∷ []) (unless r apart) ∙ ap (λ (n : ℕ). watchers lists r ++ n ∷ []) stands;
      other = λ k n m. watcher_other without r p k m ∙ unless k n;
    }

-- WHAT IS KNOWN OF A CLAUSE IN A LIST

pub rank_within : (vars : ℕ) (clauses : List NumberedClause) (watches : List Watch) (w : Watchers) (waiting : List ℕ) (l : ℤ) → IsLinked vars clauses watches w waiting → is_literal vars l ≡ true
    → rank_of l < length w.lists
rank_within vars clauses watches w waiting l h lit = let s = rank_small vars l lit in let n = h.ranks in omega arith

-- a clause that stands in the list of a literal
pub record InList (vars : ℕ) (clauses : List NumberedClause) (watches : List Watch) (w : Watchers) (waiting : List ℕ) (l : ℤ) (p : ℕ) : Type 0 where
  pub within : p < length clauses
  pub ready : not (among waiting p) ≡ true
  pub it : watches_it (watch_at watches p) l ≡ true
  pub has_it : contains (clause_at_place clauses p).lits l ≡ true
  pub has_other : contains (clause_at_place clauses p).lits (other_of (watch_at watches p) l) ≡ true
  pub in_other : among (watchers w.lists (other_of (watch_at watches p) l)) p ≡ true
  pub apart : other_of (watch_at watches p) l ≢ l

pub in_list : (vars : ℕ) (clauses : List NumberedClause) (watches : List Watch) (w : Watchers) (waiting : List ℕ) (l : ℤ) (p : ℕ) → IsLinked vars clauses watches w waiting
    → is_literal vars l ≡ true → among (watchers w.lists l) p ≡ true → InList vars clauses watches w waiting l p
in_list vars clauses watches w waiting l p h lit there =
    let list = h.listed l lit in
    let within = list.within p there in
    let ready = list.ready p there in
    let it = list.watched p there in
    let x = watch_at watches p in
    let c = (clause_at_place clauses p).lits in
    let y = h.watched p within ready in
    elim (one_of x l it) [
      | first a b ↦ record {
        within = within;
        ready = ready;
        it = it;
        has_it = subst (λ (k : ℤ). contains c k ≡ true) (sym a) y.first;
        has_other = subst (λ (k : ℤ). contains c k ≡ true) (sym b) y.second;
        in_other = subst (λ (k : ℤ). among (watchers w.lists k) p ≡ true) (sym b) y.in_second;
        apart = other_apart x l y.apart it;
      }
      | second a b ↦ record {
        within = within;
        ready = ready;
        it = it;
        has_it = subst (λ (k : ℤ). contains c k ≡ true) (sym a) y.second;
        has_other = subst (λ (k : ℤ). contains c k ≡ true) (sym b) y.first;
        in_other = subst (λ (k : ℤ). among (watchers w.lists k) p ≡ true) (sym b) y.in_first;
        apart = other_apart x l y.apart it;
      }
    ]

-- of two literals of a watch each is the other's
other_one : (x : Watch) (l k : ℤ) → watches_it x l ≡ true → watches_it x k ≡ true → k ≢ l → k ≡ other_of x l
other_one x l k it that apart = at (one_of x l it) (one_of x k that)
  where
    at : IsOneOf x l → IsOneOf x k → k ≡ other_of x l
    at (first a b) (first c d) = absurd (apart (c ∙ sym a))
    at (first a b) (second c d) = c ∙ sym b
    at (second a b) (first c d) = c ∙ sym b
    at (second a b) (second c d) = absurd (apart (c ∙ sym a))

-- a clause that has a literal and does not stand in its list has room there
pub room_for : (vars : ℕ) (clauses : List NumberedClause) (watches : List Watch) (w : Watchers) (waiting : List ℕ) (r : ℤ) (place : ℕ) → IsLinked vars clauses watches w waiting
    → is_literal vars r ≡ true → place < length clauses → contains (clause_at_place clauses place).lits r ≡ true → among (watchers w.lists r) place ≡ false
    → length (watchers w.lists r) < count_of w.counts r
room_for vars clauses watches w waiting r place h lit in_clauses has out =
    let list = h.listed r lit in
    let ps = watchers w.lists r in
    let all : ArePlaces (λ (c : NumberedClause). contains c.lits r) clauses (place ∷ ps) = record {
      distinct = rw (out) list.distinct;
      within = λ p e. elim (or_true (place == p) (among ps p) e) [
        | inl y ↦ subst (λ (n : ℕ). n < length clauses) (eqb-true place p y) in_clauses
        | inr y ↦ list.within p y
      ];
      pass = λ p e. elim (or_true (place == p) (among ps p) e) [
        | inl y ↦ subst (λ (n : ℕ). contains (clause_at_place clauses n).lits r ≡ true) (eqb-true place p y) has
        | inr y ↦ (in_list vars clauses watches w waiting r p h lit y).has_it
      ];
    } in
    let n = no_more_places (λ (c : NumberedClause). contains c.lits r) clauses (place ∷ ps) all in
    let count = list.count in
    omega (arith, n, count)

-- the watches where one of them changes
pub watch_here : (watches : List Watch) (place : ℕ) (x : Watch) → place < length watches → watch_at (set watches place x) place ≡ x
watch_here watches place x lt = get_or-set_same watches place x (record { first = pos 0; second = pos 0 }) lt

pub watch_other : (watches : List Watch) (place : ℕ) (x : Watch) (p : ℕ) → p ≢ place → watch_at (set watches place x) p ≡ watch_at watches p
watch_other watches place x p apart = get_or-set_other watches place p x (record { first = pos 0; second = pos 0 }) apart

-- a clause whose watch stays, over lists that it does not leave
pub watched_still : (clauses : List NumberedClause) (watches watches' : List Watch) (lists lists' : List (List ℕ)) (p : ℕ) → IsWatched clauses watches lists p
    → watch_at watches' p ≡ watch_at watches p → ((k : ℤ) → among (watchers lists k) p ≡ true → among (watchers lists' k) p ≡ true) → IsWatched clauses watches' lists' p
watched_still clauses watches watches' lists lists' p old same stays =
    let x = watch_at watches p in
    let c = (clause_at_place clauses p).lits in
    record {
      first = subst (λ (y : Watch). contains c y.first ≡ true) (sym same) old.first;
      second = subst (λ (y : Watch). contains c y.second ≡ true) (sym same) old.second;
      apart = subst (λ (y : Watch). not (int_eq y.second y.first) ≡ true) (sym same) old.apart;
      in_first = subst (λ (y : Watch). among (watchers lists' y.first) p ≡ true) (sym same) (stays x.first old.in_first);
      in_second = subst (λ (y : Watch). among (watchers lists' y.second) p ≡ true) (sym same) (stays x.second old.in_second);
    }

-- ANOTHER LITERAL WATCHED

-- the clause at a place, which stands at `at` of the list of l, comes to watch r in place of l
pub record IsMove (vars : ℕ) (clauses : List NumberedClause) (watches : List Watch) (w : Watchers) (waiting : List ℕ) (place : ℕ) (l r : ℤ) (at : ℕ) : Type 0 where
  pub linked : IsLinked vars clauses watches w waiting
  pub from : is_literal vars l ≡ true
  pub to : is_literal vars r ≡ true
  pub within : at < length (watchers w.lists l)
  pub stands : get_or (watchers w.lists l) at 0 ≡ place
  pub has_it : contains (clause_at_place clauses place).lits r ≡ true
  pub not_it : r ≢ l
  pub not_other : r ≢ other_of (watch_at watches place) l

-- a read at another default
read_itself : (ps : List ℕ) (at place : ℕ) → at < length ps → get_or ps at 0 ≡ place → place ≡ get_or ps at place
read_itself ps at place lt e = sym e ∙ get_or_default ps at 0 place lt

shift_of : (vars : ℕ) (clauses : List NumberedClause) (watches : List Watch) (w : Watchers) (waiting : List ℕ) (place : ℕ) (l r : ℤ) (at : ℕ) → IsMove vars clauses watches w waiting place l r at
    → IsShift w.lists (moved w.lists l at r) l r place at
shift_of vars clauses watches w waiting place l r at m =
    moved_shift w.lists l r place at (rank_within vars clauses watches w waiting l m.linked m.from) (rank_within vars clauses watches w waiting r m.linked m.to) m.not_it m.stands

-- the place in the list of l
mover : (vars : ℕ) (clauses : List NumberedClause) (watches : List Watch) (w : Watchers) (waiting : List ℕ) (place : ℕ) (l r : ℤ) (at : ℕ) → IsMove vars clauses watches w waiting place l r at
    → InList vars clauses watches w waiting l place
mover vars clauses watches w waiting place l r at m =
    in_list vars clauses watches w waiting l place m.linked m.from (subst (λ (n : ℕ). among (watchers w.lists l) n ≡ true) m.stands (among_at (watchers w.lists l) at 0 m.within))

-- the place does not stand in the list of r
pub not_listed : (vars : ℕ) (clauses : List NumberedClause) (watches : List Watch) (w : Watchers) (waiting : List ℕ) (place : ℕ) (l r : ℤ) (at : ℕ)
    → IsMove vars clauses watches w waiting place l r at → among (watchers w.lists r) place ≡ false
not_listed vars clauses watches w waiting place l r at m =
    let i = mover vars clauses watches w waiting place l r at m in
    false_from_ne_true (among (watchers w.lists r) place) (λ e.
    m.not_other (other_one (watch_at watches place) l r i.it ((m.linked.listed r m.to).watched place e) m.not_it))

pub room_to_move : (vars : ℕ) (clauses : List NumberedClause) (watches : List Watch) (w : Watchers) (waiting : List ℕ) (place : ℕ) (l r : ℤ) (at : ℕ)
    → IsMove vars clauses watches w waiting place l r at → length (watchers w.lists r) < count_of w.counts r
room_to_move vars clauses watches w waiting place l r at m =
    room_for vars clauses watches w waiting r place m.linked m.to (mover vars clauses watches w waiting place l r at m).within m.has_it (not_listed vars clauses watches w waiting place l r at m)

-- HOW OFTEN NUMBERS STAND IN THE LISTS NOW

left_times : (lists lists' : List (List ℕ)) (l r : ℤ) (place at : ℕ) → IsShift lists lists' l r place at → at < length (watchers lists l) → get_or (watchers lists l) at 0 ≡ place
    → (p : ℕ) → times (watchers lists' l) p + one (place == p) ≡ times (watchers lists l) p
left_times lists lists' l r place at s lt stands p =
    ap (λ (ps : List ℕ). times ps p + one (place == p)) s.left
    ∙ ap (λ (n : ℕ). times (swap_remove (watchers lists l) at place) p + one (n == p)) (read_itself (watchers lists l) at place lt stands)
    ∙ times-swap_remove (watchers lists l) at place p lt

came_times : (lists lists' : List (List ℕ)) (l r : ℤ) (place at : ℕ) → IsShift lists lists' l r place at → (p : ℕ) → times (watchers lists' r) p ≡ times (watchers lists r) p + one (place == p)
came_times lists lists' l r place at s p = ap (λ (ps : List ℕ). times ps p) s.came ∙ times-push (watchers lists r) place p

other_times : (lists lists' : List (List ℕ)) (l r : ℤ) (place at : ℕ) → IsShift lists lists' l r place at → at < length (watchers lists l) → get_or (watchers lists l) at 0 ≡ place
    → (k : ℤ) (p : ℕ) → p ≢ place → times (watchers lists' k) p ≡ times (watchers lists k) p
other_times lists lists' l r place at s lt stands k p apart =
    let none = one_apart place p apart in
    elim (cases_Bool (int_eq k l)) [
      | inl y ↦ subst (λ (i : ℤ). times (watchers lists' i) p ≡ times (watchers lists i) p) (sym (same_int k l y))
          (let t = left_times lists lists' l r place at s lt stands p in omega arith)
      | inr y ↦ elim (cases_Bool (int_eq k r)) [
        | inl z ↦ subst (λ (i : ℤ). times (watchers lists' i) p ≡ times (watchers lists i) p) (sym (same_int k r z))
            (let t = came_times lists lists' l r place at s p in omega arith)
        | inr z ↦ ap (λ (ps : List ℕ). times ps p) (s.other k (false_apart k l y) (false_apart k r z))
      ]
    ]

-- what holds of each list, at the place and elsewhere
record AreMoved (w : Watchers) (lists' : List (List ℕ)) (place : ℕ) (l r : ℤ) : Type 0 where
  stays : (k : ℤ) (p : ℕ) → p ≢ place → among (watchers w.lists k) p ≡ true → among (watchers lists' k) p ≡ true
  was : (k : ℤ) (p : ℕ) → p ≢ place → among (watchers lists' k) p ≡ true → among (watchers w.lists k) p ≡ true
  elsewhere : (k : ℤ) (p : ℕ) → p ≢ place → times (watchers lists' k) p ≡ times (watchers w.lists k) p
  gone : times (watchers lists' l) place ≡ 0
  once : times (watchers lists' r) place ≡ 1
  other : (k : ℤ) → k ≢ l → k ≢ r → watchers lists' k ≡ watchers w.lists k

are_moved : (vars : ℕ) (clauses : List NumberedClause) (watches : List Watch) (w : Watchers) (waiting : List ℕ) (place : ℕ) (l r : ℤ) (at : ℕ)
    → IsMove vars clauses watches w waiting place l r at → AreMoved w (moved w.lists l at r) place l r
are_moved vars clauses watches w waiting place l r at m =
    let lists' = moved w.lists l at r in
    let s = shift_of vars clauses watches w waiting place l r at m in
    let same = other_times w.lists lists' l r place at s m.within m.stands in
    let here = one_same place in
    record {
      stays = λ k p apart e. let t = some_times (watchers w.lists k) p e in let u = same k p apart in among_some (watchers lists' k) p (omega arith);
      was = λ k p apart e. let t = some_times (watchers lists' k) p e in let u = same k p apart in among_some (watchers w.lists k) p (omega arith);
      elsewhere = same;
      gone =
          let t = left_times w.lists lists' l r place at s m.within m.stands place in
          let u = at_most_once (watchers w.lists l) place (m.linked.listed l m.from).distinct in
          omega arith;
      once =
          let t = came_times w.lists lists' l r place at s place in
          let u = no_times (watchers w.lists r) place (not_listed vars clauses watches w waiting place l r at m) in
          omega arith;
      other = s.other;
    }

watched_here : (vars : ℕ) (clauses : List NumberedClause) (watches : List Watch) (w : Watchers) (waiting : List ℕ) (place : ℕ) (l r : ℤ) (at : ℕ)
    → IsMove vars clauses watches w waiting place l r at
    → IsWatched clauses (set watches place (record { first = r; second = other_of (watch_at watches place) l })) (moved w.lists l at r) place
watched_here vars clauses watches w waiting place l r at m =
    let lists' = moved w.lists l at r in
    let b = other_of (watch_at watches place) l in
    let lits = (clause_at_place clauses place).lits in
    let a = are_moved vars clauses watches w waiting place l r at m in
    let i = mover vars clauses watches w waiting place l r at m in
    let long = m.linked.places in
    let inside = i.within in
    let same = sym (watch_here watches place (record { first = r; second = b }) (omega arith)) in
    let not_r : b ≢ r = λ e. m.not_other (sym e) in
    let one_there = a.once in
    let in_r : among (watchers lists' r) place ≡ true = among_some (watchers lists' r) place (omega arith) in
    let in_b : among (watchers lists' b) place ≡ true = subst (λ (ps : List ℕ). among ps place ≡ true) (sym (a.other b i.apart not_r)) i.in_other in
    record {
      first = subst (λ (y : Watch). contains lits y.first ≡ true) same m.has_it;
      second = subst (λ (y : Watch). contains lits y.second ≡ true) same i.has_other;
      apart = subst (λ (y : Watch). not (int_eq y.second y.first) ≡ true) same (rw (false_from_ne_true (int_eq b r) (λ e. not_r (same_int b r e))) refl);
      in_first = subst (λ (y : Watch). among (watchers lists' y.first) place ≡ true) same in_r;
      in_second = subst (λ (y : Watch). among (watchers lists' y.second) place ≡ true) same in_b;
    }

listed_then : (vars : ℕ) (clauses : List NumberedClause) (watches : List Watch) (w : Watchers) (waiting : List ℕ) (place : ℕ) (l r : ℤ) (at : ℕ)
    → IsMove vars clauses watches w waiting place l r at → (rows : List (List Watcher)) (k : ℤ) → is_literal vars k ≡ true
    → IsListed clauses (set watches place (record { first = r; second = other_of (watch_at watches place) l })) (record { lists = moved w.lists l at r; rows = rows; counts = w.counts }) waiting k
listed_then vars clauses watches w waiting place l r at m rows k lit = record {
  distinct = distinct_from_times (watchers lists' k) (λ p. elim (cases_eq p place) [
    | inl y ↦ subst (λ (n : ℕ). times (watchers lists' k) n ≤ 1) (sym y) (here_once (int_eq k l) (int_eq k r) refl refl)
    | inr y ↦ (let t = a.elsewhere k p y in let u = at_most_once (watchers w.lists k) p list.distinct in omega arith)
  ]);
  within = λ p e. elim (cases_eq p place) [
    | inl y ↦ subst (λ (n : ℕ). n < length clauses) (sym y) i.within
    | inr y ↦ list.within p (a.was k p y e)
  ];
  ready = λ p e. elim (cases_eq p place) [
    | inl y ↦ subst (λ (n : ℕ). not (among waiting n) ≡ true) (sym y) i.ready
    | inr y ↦ list.ready p (a.was k p y e)
  ];
  watched = λ p e. elim (cases_eq p place) [
    | inl y ↦ subst (λ (n : ℕ). watches_it (watch_at (set watches place x) n) k ≡ true) (sym y)
        (subst (λ (z : Watch). watches_it z k ≡ true) (sym (watch_here watches place x long))
        (here_watched (int_eq k l) (int_eq k r) refl refl (subst (λ (n : ℕ). among (watchers lists' k) n ≡ true) y e)))
    | inr y ↦ subst (λ (z : Watch). watches_it z k ≡ true) (sym (watch_other watches place x p y)) (list.watched p (a.was k p y e))
  ];
  count = list.count;
}
  where
    lists' : List (List ℕ)
    lists' = moved w.lists l at r

    x : Watch
    x = record { first = r; second = other_of (watch_at watches place) l }

    list : IsListed clauses watches w waiting k
    list = m.linked.listed k lit

    a : AreMoved w lists' place l r
    a = are_moved vars clauses watches w waiting place l r at m

    i : InList vars clauses watches w waiting l place
    i = mover vars clauses watches w waiting place l r at m

    long : place < length watches
    long = let e = m.linked.places in let f = i.within in omega arith

    here_once : (b c : Bool) → int_eq k l ≡ b → int_eq k r ≡ c → times (watchers lists' k) place ≤ 1
    here_once true c y z = subst (λ (i : ℤ). times (watchers lists' i) place ≤ 1) (sym (same_int k l y)) (let g = a.gone in omega arith)
    here_once false true y z = subst (λ (i : ℤ). times (watchers lists' i) place ≤ 1) (sym (same_int k r z)) (let g = a.once in omega arith)
    here_once false false y z = subst (λ (ps : List ℕ). times ps place ≤ 1) (sym (a.other k (false_apart k l y) (false_apart k r z))) (at_most_once (watchers w.lists k) place list.distinct)

    here_watched : (b c : Bool) → int_eq k l ≡ b → int_eq k r ≡ c → among (watchers lists' k) place ≡ true → watches_it x k ≡ true
    here_watched true c y z e =
        let t = some_times (watchers lists' l) place (subst (λ (i : ℤ). among (watchers lists' i) place ≡ true) (same_int k l y) e) in
        let g = a.gone in absurd (omega arith)
    here_watched false true y z e = or_left (int_eq k r) (int_eq k x.second) z
    here_watched false false y z e =
        let that = list.watched place (subst (λ (ps : List ℕ). among ps place ≡ true) (a.other k (false_apart k l y) (false_apart k r z)) e) in
        or_right (int_eq k r) (int_eq k x.second) (same_true k x.second (other_one (watch_at watches place) l k i.it that (false_apart k l y)))

pub same_watchers : (w : Watchers) (lists : List (List ℕ)) (counts : List ℕ) → w.lists ≡ lists → w.counts ≡ counts → w ≡ record w { lists = lists; counts = counts }
same_watchers w lists counts e f =
    ap (λ (ls : List (List ℕ)). record w { lists = ls }) e ∙ ap (λ (ns : List ℕ). record w { lists = lists; counts = ns }) f

-- the blockers matter nothing
pub same_linked : (vars : ℕ) (clauses : List NumberedClause) (watches : List Watch) (w w' : Watchers) (waiting : List ℕ) → IsLinked vars clauses watches w waiting → w'.lists ≡ w.lists → w'.counts ≡ w.counts
    → IsLinked vars clauses watches w' waiting
same_linked vars clauses watches w w' waiting h lists counts =
    subst (λ (v : Watchers). IsLinked vars clauses watches v waiting) (sym (same_watchers w' w.lists w.counts lists counts)) (record {
      ranks = h.ranks;
      counts = h.counts;
      places = h.places;
      distinct = h.distinct;
      within = h.within;
      watched = h.watched;
      listed = λ l lit. (let x = h.listed l lit in record { distinct = x.distinct; within = x.within; ready = x.ready; watched = x.watched; count = x.count });
    })

pub moved_linked : (vars : ℕ) (clauses : List NumberedClause) (watches watches' : List Watch) (w w' : Watchers) (waiting : List ℕ) (place : ℕ) (l r : ℤ) (at : ℕ)
    → IsMove vars clauses watches w waiting place l r at → watches' ≡ set watches place (record { first = r; second = other_of (watch_at watches place) l })
    → w'.lists ≡ moved w.lists l at r → w'.counts ≡ w.counts → IsLinked vars clauses watches' w' waiting
moved_linked vars clauses watches watches' w w' waiting place l r at m new_watches new_lists same =
    let x : Watch = record { first = r; second = other_of (watch_at watches place) l } in
    let lists' = moved w.lists l at r in
    let less = swap_remove (watchers w.lists l) at (get_or (watchers w.lists l) at 0) in
    let without = set w.lists (rank_of l) less in
    let h = m.linked in
    let a = are_moved vars clauses watches w waiting place l r at m in
    let all : IsLinked vars clauses (set watches place x) (record { lists = lists'; rows = w'.rows; counts = w.counts }) waiting = record {
      ranks = length-set without (rank_of r) (watchers without r ++ get_or (watchers w.lists l) at 0 ∷ []) ∙ length-set w.lists (rank_of l) less ∙ h.ranks;
      counts = h.counts;
      places = length-set watches place x ∙ h.places;
      distinct = h.distinct;
      within = h.within;
      watched = λ p lt ready. elim (cases_eq p place) [
        | inl y ↦ subst (λ (n : ℕ). IsWatched clauses (set watches place x) lists' n) (sym y) (watched_here vars clauses watches w waiting place l r at m)
        | inr y ↦ watched_still clauses watches (set watches place x) w.lists lists' p (h.watched p lt ready) (watch_other watches place x p y) (λ k e. a.stays k p y e)
      ];
      listed = λ k lit. listed_then vars clauses watches w waiting place l r at m w'.rows k lit;
    } in
    subst (λ (ws : List Watch). IsLinked vars clauses ws w' waiting) (sym new_watches)
    (subst (λ (v : Watchers). IsLinked vars clauses (set watches place x) v waiting) (sym (same_watchers w' lists' w.counts new_lists same)) all)

-- no other clause leaves the rest of the list
pub moved_rest : (vars : ℕ) (clauses : List NumberedClause) (watches : List Watch) (w : Watchers) (waiting : List ℕ) (place : ℕ) (l r : ℤ) (at : ℕ)
    → IsMove vars clauses watches w waiting place l r at → (p : ℕ) → p ≢ place → among (drop at (watchers w.lists l)) p ≡ true
    → among (drop at (watchers (moved w.lists l at r) l)) p ≡ true
moved_rest vars clauses watches w waiting place l r at m p apart there =
    let s = shift_of vars clauses watches w waiting place l r at m in
    let t = times-rest (watchers w.lists l) at place p m.within in
    let here : get_or (watchers w.lists l) at place ≡ place = sym (read_itself (watchers w.lists l) at place m.within m.stands) in
    let none : one (get_or (watchers w.lists l) at place == p) ≡ 0 = ap (λ (n : ℕ). one (n == p)) here ∙ one_apart place p apart in
    let some = some_times (drop at (watchers w.lists l)) p there in
    among_some (drop at (watchers (moved w.lists l at r) l)) p
    (subst (λ (ps : List ℕ). 1 ≤ times (drop at ps) p) (sym s.left) (omega arith))

pub moved_shorter : (vars : ℕ) (clauses : List NumberedClause) (watches : List Watch) (w : Watchers) (waiting : List ℕ) (place : ℕ) (l r : ℤ) (at : ℕ)
    → IsMove vars clauses watches w waiting place l r at → length (watchers (moved w.lists l at r) l) + 1 ≡ length (watchers w.lists l)
moved_shorter vars clauses watches w waiting place l r at m =
    let s = shift_of vars clauses watches w waiting place l r at m in
    ap (λ (ps : List ℕ). length ps + 1) s.left ∙ length-swap_remove (watchers w.lists l) at place m.within
