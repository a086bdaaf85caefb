-- How lists of watchers stay linked with the clauses where a clause begins to wait, or no longer waits.
use Rattle.std.proofs.Common.{◌≡◌, ◌≢◌, ℕ, zero, suc, ◌+◌, ◌*◌, ◌<◌, Bool, true, false, cond, not, ◌&&◌, ◌||◌, List, [], ◌∷◌, ◌++◌, refl, sym, ◌∙◌, ap, subst, arith, ℤ, pos, length, filter, replicate, get_or, set, inl, inr, ◌⊎◌}
use Rattle.std.specs.Ordering.{int_eq}
use Rattle.std.specs.List.{swap_remove, list_all}
use Rattle.std.proofs.lemmas.Bool.{cases_Bool, cases_eq, false_from_ne_true, not-true}
use Rattle.std.proofs.lemmas.List.{get_or-set_same, get_or-set_other, length-set, length-append, length-replicate, get_or_append_left}
use Rattle.lk_model.specs.Lists.{among}
use Rattle.lk_model.specs.Formulas.Literal.{contains, is_literal, is_clause, is_distinct, rank_of}
use Rattle.lk_model.proofs.Booleans.{and_true, or_true, or_left, or_right, or_false}
use Rattle.lk_model.proofs.Ranks.{rank_small}
use Rattle.lk_model.proofs.ListTests.{passes_each}
use Rattle.lk_model.proofs.Literals.{same_int}
use Rattle.lk_model.proofs.Lists.{among_front as in_push, among_last as pushed_there}
use Rattle.watch_prop.specs.declared.entry.NumberedClause.{NumberedClause}
use Rattle.watch_prop.specs.declared.watch.Watch.{Watch}
use Rattle.watch_prop.specs.declared.watcher_lists.Watcher.{Watcher}
use Rattle.watch_prop.specs.Watchers.{Watchers, watchers, count_of, with_watcher, with_counted}
use Rattle.watch_prop.specs.Propagation.{are_distinct}
use Rattle.watch_prop.specs.Linked.{IsLinked, IsWatched, IsListed, clause_at_place, watch_at, watches_it}
use Rattle.watch_prop.proofs.Truths.{same_true, false_apart}
use Rattle.watch_prop.proofs.Counts.{counted_long, other_rank}
use Rattle.watch_prop.proofs.Lists.{one, among_at, AreLeft, are_left, distinct_push, from_push}
use Rattle.watch_prop.proofs.Linking.{rank_within, room_for, watcher_here, watcher_other, watch_here, watch_other, watched_still, same_watchers}

-- A CLAUSE THAT NO LONGER WAITS

-- the clause that waits at `at` comes to watch two literals
pub record IsListing (vars : ℕ) (clauses : List NumberedClause) (watches : List Watch) (w : Watchers) (waiting : List ℕ) (place at : ℕ) (x : Watch) : Type 0 where
  pub linked : IsLinked vars clauses watches w waiting
  pub lits : list_all (is_literal vars) (clause_at_place clauses place).lits ≡ true
  pub within : at < length waiting
  pub stands : get_or waiting at 0 ≡ place
  pub in_first : contains (clause_at_place clauses place).lits x.first ≡ true
  pub in_second : contains (clause_at_place clauses place).lits x.second ≡ true
  pub apart : not (int_eq x.second x.first) ≡ true

abbrev pub listed_lists : List (List ℕ) → Watch → ℕ → List (List ℕ)
listed_lists lists x place = with_watcher (with_watcher lists x.first place) x.second place

-- it is a clause, and stands in no list
pub record IsFree (clauses : List NumberedClause) (w : Watchers) (place : ℕ) (l : ℤ) : Type 0 where
  pub rank : rank_of l < length w.lists
  pub out : among (watchers w.lists l) place ≡ false
  pub room : length (watchers w.lists l) < count_of w.counts l

waits : (vars : ℕ) (clauses : List NumberedClause) (watches : List Watch) (w : Watchers) (waiting : List ℕ) (place at : ℕ) (x : Watch)
    → IsListing vars clauses watches w waiting place at x → among waiting place ≡ true
waits vars clauses watches w waiting place at x m = subst (λ (n : ℕ). among waiting n ≡ true) m.stands (among_at waiting at 0 m.within)

pub place_within : (vars : ℕ) (clauses : List NumberedClause) (watches : List Watch) (w : Watchers) (waiting : List ℕ) (place at : ℕ) (x : Watch)
    → IsListing vars clauses watches w waiting place at x → place < length clauses
place_within vars clauses watches w waiting place at x m = m.linked.within place (waits vars clauses watches w waiting place at x m)

in_none : (vars : ℕ) (clauses : List NumberedClause) (watches : List Watch) (w : Watchers) (waiting : List ℕ) (place at : ℕ) (x : Watch)
    → IsListing vars clauses watches w waiting place at x → (k : ℤ) → is_literal vars k ≡ true → among (watchers w.lists k) place ≡ false
in_none vars clauses watches w waiting place at x m k lit = false_from_ne_true (among (watchers w.lists k) place) (λ e.
    let f : true ≡ false = sym (waits vars clauses watches w waiting place at x m) ∙ not-true (among waiting place) ((m.linked.listed k lit).ready place e) in let z : ⊥ = cc in z)

pub is_free : (vars : ℕ) (clauses : List NumberedClause) (watches : List Watch) (w : Watchers) (waiting : List ℕ) (place at : ℕ) (x : Watch)
    → IsListing vars clauses watches w waiting place at x → (l : ℤ) → contains (clause_at_place clauses place).lits l ≡ true → IsFree clauses w place l
is_free vars clauses watches w waiting place at x m l has =
    let lit = passes_each (is_literal vars) (clause_at_place clauses place).lits l m.lits has in
    let out = in_none vars clauses watches w waiting place at x m l lit in
    record {
      rank = rank_within vars clauses watches w waiting l m.linked lit;
      out = out;
      room = room_for vars clauses watches w waiting l place m.linked lit (place_within vars clauses watches w waiting place at x m) has out;
    }

-- the lists when one clause more watches two literals
record IsAdded (lists lists' : List (List ℕ)) (x : Watch) (n : ℕ) : Type 0 where
  here : (k : ℤ) → watches_it x k ≡ true → watchers lists' k ≡ watchers lists k ++ n ∷ []
  other : (k : ℤ) → watches_it x k ≡ false → watchers lists' k ≡ watchers lists k
  long : length lists' ≡ length lists

added : (lists : List (List ℕ)) (x : Watch) (n : ℕ) → rank_of x.first < length lists → rank_of x.second < length lists → x.second ≢ x.first → IsAdded lists (listed_lists lists x n) x n
added lists x n low high apart =
    let once = with_watcher lists x.first n in
    let long : length once ≡ length lists = length-set lists (rank_of x.first) (watchers lists x.first ++ n ∷ []) in
    let in_first : watchers (listed_lists lists x n) x.first ≡ watchers lists x.first ++ n ∷ [] =
    watcher_other once x.second n x.first (λ e. apart (sym e)) ∙ watcher_here lists x.first n low in
    let in_second : watchers (listed_lists lists x n) x.second ≡ watchers lists x.second ++ n ∷ [] =
    watcher_here once x.second n (omega (arith, long, high)) ∙ ap (λ (ps : List ℕ). ps ++ n ∷ []) (watcher_other lists x.first n x.second apart) in
    record {
      here = λ k it. elim (or_true (int_eq k x.first) (int_eq k x.second) it) [
        | inl y ↦ subst (λ (i : ℤ). watchers (listed_lists lists x n) i ≡ watchers lists i ++ n ∷ []) (sym (same_int k x.first y)) in_first
        | inr y ↦ subst (λ (i : ℤ). watchers (listed_lists lists x n) i ≡ watchers lists i ++ n ∷ []) (sym (same_int k x.second y)) in_second
      ];
      other = λ k none.
          let b = or_false (int_eq k x.first) (int_eq k x.second) none in
          watcher_other once x.second n k (false_apart k x.second b.1) ∙ watcher_other lists x.first n k (false_apart k x.first b.0);
      long = length-set once (rank_of x.second) (watchers once x.second ++ n ∷ []) ∙ long;
    }

added_of : (vars : ℕ) (clauses : List NumberedClause) (watches : List Watch) (w : Watchers) (waiting : List ℕ) (place at : ℕ) (x : Watch)
    → IsListing vars clauses watches w waiting place at x → IsAdded w.lists (listed_lists w.lists x place) x place
added_of vars clauses watches w waiting place at x m =
    added w.lists x place (is_free vars clauses watches w waiting place at x m x.first m.in_first).rank (is_free vars clauses watches w waiting place at x m x.second m.in_second).rank
    (false_apart x.second x.first (not-true _ m.apart))

listed_now : (vars : ℕ) (clauses : List NumberedClause) (watches : List Watch) (w : Watchers) (waiting : List ℕ) (place at : ℕ) (x : Watch)
    → IsListing vars clauses watches w waiting place at x → (rows : List (List Watcher)) (k : ℤ) → is_literal vars k ≡ true
    → IsListed clauses (set watches place x) (record { lists = listed_lists w.lists x place; rows = rows; counts = w.counts }) (swap_remove waiting at place) k
listed_now vars clauses watches w waiting place at x m rows k lit = record {
  distinct = elim (cases_Bool (watches_it x k)) [
    | inl it ↦ subst (λ (ps : List ℕ). are_distinct ps ≡ true) (sym (a.here k it))
        (distinct_push (watchers w.lists k) place list.distinct (in_none vars clauses watches w waiting place at x m k lit))
    | inr none ↦ subst (λ (ps : List ℕ). are_distinct ps ≡ true) (sym (a.other k none)) list.distinct
  ];
  within = λ p e. elim (came p e) [
    | inl y ↦ list.within p y
    | inr y ↦ subst (λ (n : ℕ). n < length clauses) (sym y.0) (place_within vars clauses watches w waiting place at x m)
  ];
  ready = λ p e. elim (came p e) [
    | inl y ↦ rw (false_from_ne_true (among (swap_remove waiting at place) p) (λ t.
        let f : true ≡ false = sym (left.were p t) ∙ not-true (among waiting p) (list.ready p y) in let z : ⊥ = cc in z)) refl
    | inr y ↦ subst (λ (n : ℕ). not (among (swap_remove waiting at place) n) ≡ true) (sym y.0) (rw (left.gone) refl)
  ];
  watched = λ p e. elim (came p e) [
    | inl y ↦
        let apart : p ≢ place = λ s.
        (let f : true ≡ false = sym (subst (λ (n : ℕ). among (watchers w.lists k) n ≡ true) s y) ∙ in_none vars clauses watches w waiting place at x m k lit in let z : ⊥ = cc in z) in
        subst (λ (z : Watch). watches_it z k ≡ true) (sym (watch_other watches place x p apart)) (list.watched p y)
    | inr y ↦ subst (λ (n : ℕ). watches_it (watch_at (set watches place x) n) k ≡ true) (sym y.0)
        (subst (λ (z : Watch). watches_it z k ≡ true) (sym (watch_here watches place x long)) y.1)
  ];
  count = list.count;
}
  where
    list : IsListed clauses watches w waiting k
    list = m.linked.listed k lit

    a : IsAdded w.lists (listed_lists w.lists x place) x place
    a = added_of vars clauses watches w waiting place at x m

    left : AreLeft waiting (swap_remove waiting at place) place
    left = are_left waiting at place m.linked.distinct m.within m.stands

    long : place < length watches
    long = let e = m.linked.places in let f = place_within vars clauses watches w waiting place at x m in omega arith

    came : (p : ℕ) → among (watchers (listed_lists w.lists x place) k) p ≡ true → (among (watchers w.lists k) p ≡ true) ⊎ ((p ≡ place) × (watches_it x k ≡ true))
    came p e = elim (cases_Bool (watches_it x k)) [
      | inl it ↦ elim (from_push (watchers w.lists k) place p (subst (λ (ps : List ℕ). among ps p ≡ true) (a.here k it) e)) [
        | inl y ↦ inl y
        | inr y ↦ inr (y, it)
      ]
      | inr none ↦ inl (subst (λ (ps : List ℕ). among ps p ≡ true) (a.other k none) e)
    ]

pub listed_linked : (vars : ℕ) (clauses : List NumberedClause) (watches watches' : List Watch) (w w' : Watchers) (waiting waiting' : List ℕ) (place at : ℕ) (x : Watch)
    → IsListing vars clauses watches w waiting place at x → watches' ≡ set watches place x → w'.lists ≡ listed_lists w.lists x place → w'.counts ≡ w.counts
    → waiting' ≡ swap_remove waiting at place → IsLinked vars clauses watches' w' waiting'
listed_linked vars clauses watches watches' w w' waiting waiting' place at x m new_watches new_lists same fewer =
    let h = m.linked in
    let a = added_of vars clauses watches w waiting place at x m in
    let left = are_left waiting at place h.distinct m.within m.stands in
    let lists' = listed_lists w.lists x place in
    let c = (clause_at_place clauses place).lits in
    let long : place < length watches = (let e = h.places in let f = place_within vars clauses watches w waiting place at x m in omega arith) in
    let here = watch_here watches place x long in
    let stays : (k : ℤ) (p : ℕ) → among (watchers w.lists k) p ≡ true → among (watchers lists' k) p ≡ true = λ k p e. elim (cases_Bool (watches_it x k)) [
      | inl it ↦ subst (λ (ps : List ℕ). among ps p ≡ true) (sym (a.here k it)) (in_push (watchers w.lists k) place p e)
      | inr none ↦ subst (λ (ps : List ℕ). among ps p ≡ true) (sym (a.other k none)) e
    ] in
    let there : (k : ℤ) → watches_it x k ≡ true → among (watchers lists' k) place ≡ true =
    λ k it. subst (λ (ps : List ℕ). among ps place ≡ true) (sym (a.here k it)) (pushed_there (watchers w.lists k) place) in
    let now : IsWatched clauses (set watches place x) lists' place = record {
      first = subst (λ (y : Watch). contains c y.first ≡ true) (sym here) m.in_first;
      second = subst (λ (y : Watch). contains c y.second ≡ true) (sym here) m.in_second;
      apart = subst (λ (y : Watch). not (int_eq y.second y.first) ≡ true) (sym here) m.apart;
      in_first = subst (λ (y : Watch). among (watchers lists' y.first) place ≡ true) (sym here)
          (there x.first (or_left (int_eq x.first x.first) (int_eq x.first x.second) (same_true x.first x.first refl)));
      in_second = subst (λ (y : Watch). among (watchers lists' y.second) place ≡ true) (sym here)
          (there x.second (or_right (int_eq x.second x.first) (int_eq x.second x.second) (same_true x.second x.second refl)));
    } in
    let all : IsLinked vars clauses (set watches place x) (record { lists = lists'; rows = w'.rows; counts = w.counts }) (swap_remove waiting at place) = record {
      ranks = a.long ∙ h.ranks;
      counts = h.counts;
      places = length-set watches place x ∙ h.places;
      distinct = left.distinct;
      within = λ p t. h.within p (left.were p t);
      watched = λ p lt ready. elim (cases_eq p place) [
        | inl y ↦ subst (λ (n : ℕ). IsWatched clauses (set watches place x) lists' n) (sym y) now
        | inr y ↦ watched_still clauses watches (set watches place x) w.lists lists' p
            (h.watched p lt (rw (left.stay p y (not-true (among (swap_remove waiting at place) p) ready)) refl)) (watch_other watches place x p y) (λ k e. stays k p e)
      ];
      listed = listed_now vars clauses watches w waiting place at x m w'.rows;
    } in
    subst (λ (ps : List ℕ). IsLinked vars clauses watches' w' ps) (sym fewer)
    (subst (λ (ws : List Watch). IsLinked vars clauses ws w' (swap_remove waiting at place)) (sym new_watches)
    (subst (λ (v : Watchers). IsLinked vars clauses (set watches place x) v (swap_remove waiting at place)) (sym (same_watchers w' lists' w.counts new_lists same)) all))

-- ONE MORE CLAUSE

-- the counts when one clause more has its literals
counted_at : (vars : ℕ) (counts : List ℕ) (c : List ℤ) (k : ℤ) → length counts ≡ 2 * vars + 2 → is_clause vars c ≡ true
    → count_of (with_counted counts c) k ≡ count_of counts k + one (contains c k)
counted_at vars counts [] k long clause = omega arith
counted_at vars counts (l ∷ c) k long clause =
    let parts = and_true (is_literal vars l && list_all (is_literal vars) c) (not (contains c l) && is_distinct c) clause in
    let lits = and_true (is_literal vars l) (list_all (is_literal vars) c) parts.0 in
    let apart = and_true (not (contains c l)) (is_distinct c) parts.1 in
    let small = rank_small vars l lits.0 in
    let rest : is_clause vars c ≡ true = rw (lits.1) apart.1 in
    let more = set counts (rank_of l) (count_of counts l + 1) in
    let h = counted_at vars more c k (length-set counts (rank_of l) (count_of counts l + 1) ∙ long) rest in
    at (int_eq k l) refl h (not-true (contains c l) apart.0) small
  where
    more : List ℕ
    more = set counts (rank_of l) (count_of counts l + 1)

    at : (b : Bool) → int_eq k l ≡ b → count_of (with_counted more c) k ≡ count_of more k + one (contains c k) → contains c l ≡ false → rank_of l < 2 * vars + 2
        → count_of (with_counted more c) k ≡ count_of counts k + one (b || contains c k)
    at true e h out small =
        let same = same_int k l e in
        let now : count_of more k ≡ count_of counts k + 1 = subst (λ (i : ℤ). count_of more i ≡ count_of counts i + 1) (sym same)
        (get_or-set_same counts (rank_of l) (count_of counts l + 1) 0 (omega arith)) in
        let none : one (contains c k) ≡ 0 = subst (λ (i : ℤ). one (contains c i) ≡ 0) (sym same) (ap one out) in
        omega arith
    at false e h out small =
        let now : count_of more k ≡ count_of counts k = get_or-set_other counts (rank_of l) (rank_of k) (count_of counts l + 1) 0 (other_rank l k (false_apart k l e)) in
        omega arith

filter_more : (t : NumberedClause → Bool) (clauses : List NumberedClause) (d : NumberedClause) → length (filter t (clauses ++ d ∷ [])) ≡ length (filter t clauses) + one (t d)
filter_more t [] d = at (t d)
  where
    at : (b : Bool) → length (cond b (d ∷ []) []) ≡ 0 + one b
    at true = refl
    at false = refl
filter_more t (c ∷ clauses) d = at (t c) (filter_more t clauses d)
  where
    at : (b : Bool) → length (filter t (clauses ++ d ∷ [])) ≡ length (filter t clauses) + one (t d)
        → length (cond b (c ∷ filter t (clauses ++ d ∷ [])) (filter t (clauses ++ d ∷ []))) ≡ length (cond b (c ∷ filter t clauses) (filter t clauses)) + one (t d)
    at true h = omega arith
    at false h = h

-- clauses and watches with one more
pub clause_before : (clauses : List NumberedClause) (d : NumberedClause) (p : ℕ) → p < length clauses → clause_at_place (clauses ++ d ∷ []) p ≡ clause_at_place clauses p
clause_before clauses d p lt = get_or_append_left clauses (d ∷ []) (record { number = 0; lits = [] }) p lt

pub watch_before : (watches : List Watch) (x : Watch) (p : ℕ) → p < length watches → watch_at (watches ++ x ∷ []) p ≡ watch_at watches p
watch_before watches x p lt = get_or_append_left watches (x ∷ []) (record { first = pos 0; second = pos 0 }) p lt

-- a clause that does not wait where one more does
pub record IsBefore (clauses : List NumberedClause) (waiting : List ℕ) (p : ℕ) : Type 0 where
  pub within : p < length clauses
  pub ready : not (among waiting p) ≡ true

pub before : (clauses : List NumberedClause) (d : NumberedClause) (waiting : List ℕ) (p : ℕ) → p < length (clauses ++ d ∷ []) → not (among (waiting ++ length clauses ∷ []) p) ≡ true
    → IsBefore clauses waiting p
before clauses d waiting p lt ready =
    let n = length clauses in
    let long = length-append clauses (d ∷ []) in
    let out = not-true (among (waiting ++ n ∷ []) p) ready in
    let apart : p ≢ n = λ e. (let f : true ≡ false = sym (subst (λ (k : ℕ). among (waiting ++ n ∷ []) k ≡ true) (sym e) (pushed_there waiting n)) ∙ out in let z : ⊥ = cc in z) in
    record {
      within = omega (arith, lt, long, apart);
      ready = rw (false_from_ne_true (among waiting p) (λ e. (let f : true ≡ false = sym (in_push waiting n p e) ∙ out in let z : ⊥ = cc in z))) refl;
    }

-- the clause that comes waits
pub waits_linked : (vars : ℕ) (clauses : List NumberedClause) (watches : List Watch) (w w' : Watchers) (waiting : List ℕ) (d : NumberedClause) (x : Watch)
    → IsLinked vars clauses watches w waiting → is_clause vars d.lits ≡ true → w'.lists ≡ w.lists → w'.counts ≡ with_counted w.counts d.lits
    → IsLinked vars (clauses ++ d ∷ []) (watches ++ x ∷ []) w' (waiting ++ length clauses ∷ [])
waits_linked vars clauses watches w w' waiting d x h clause lists counts = record {
  ranks = ap (λ (ls : List (List ℕ)). length ls) lists ∙ h.ranks;
  counts = ap (λ (ns : List ℕ). length ns) counts ∙ counted_long w.counts d.lits ∙ h.counts;
  places = length-append watches (x ∷ []) ∙ ap (λ (m : ℕ). m + 1) h.places ∙ sym long;
  distinct = distinct_push waiting n h.distinct (false_from_ne_true (among waiting n) (λ e. let lt = h.within n e in let z : ⊥ = absurd (omega arith) in z));
  within = λ p e. elim (from_push waiting n p e) [
    | inl y ↦ (let lt = h.within p y in omega (arith, lt, long))
    | inr y ↦ omega (arith, y, long)
  ];
  watched = λ p lt ready.
      let b = before clauses d waiting p lt ready in
      let old = watched_still clauses watches (watches ++ x ∷ []) w.lists w'.lists p (h.watched p b.within b.ready)
      (watch_before watches x p (let e = h.places in let l = b.within in omega arith)) (λ k e. subst (λ (ls : List (List ℕ)). among (watchers ls k) p ≡ true) (sym lists) e) in
      let same = sym (clause_before clauses d p b.within) in
      let y = watch_at (watches ++ x ∷ []) p in
      record {
        first = subst (λ (c : NumberedClause). contains c.lits y.first ≡ true) same old.first;
        second = subst (λ (c : NumberedClause). contains c.lits y.second ≡ true) same old.second;
        apart = old.apart;
        in_first = old.in_first;
        in_second = old.in_second;
      };
  listed = λ k lit.
      let list = h.listed k lit in
      let was : (p : ℕ) → among (watchers w'.lists k) p ≡ true → among (watchers w.lists k) p ≡ true = λ p e. subst (λ (ls : List (List ℕ)). among (watchers ls k) p ≡ true) lists e in
      record {
        distinct = subst (λ (ls : List (List ℕ)). are_distinct (watchers ls k) ≡ true) (sym lists) list.distinct;
        within = λ p e. let lt = list.within p (was p e) in omega (arith, lt, long);
        ready = λ p e. rw (false_from_ne_true (among (waiting ++ n ∷ []) p) (λ t. elim (from_push waiting n p t) [
          | inl y ↦ (let f : true ≡ false = sym y ∙ not-true (among waiting p) (list.ready p (was p e)) in let z : ⊥ = cc in z)
          | inr y ↦ (let lt = list.within p (was p e) in let z : ⊥ = absurd (omega (arith, lt, y)) in z)
        ])) refl;
        watched = λ p e. subst (λ (z : Watch). watches_it z k ≡ true)
            (sym (watch_before watches x p (let l = list.within p (was p e) in let m = h.places in omega arith))) (list.watched p (was p e));
        count =
            let a = filter_more (λ (c : NumberedClause). contains c.lits k) clauses d in
            let b : count_of w'.counts k ≡ count_of w.counts k + one (contains d.lits k) = ap (λ (ns : List ℕ). count_of ns k) counts ∙ counted_at vars w.counts d.lits k h.counts clause in
            let e = list.count in
            omega (arith, a, b, e);
      };
}
  where
    n : ℕ
    n = length clauses

    long : length (clauses ++ d ∷ []) ≡ n + 1
    long = length-append clauses (d ∷ [])

-- NO CLAUSE

all_same : {X : Type 0} (n i : ℕ) (y : X) → get_or (replicate n y) i y ≡ y
all_same zero i y = refl
all_same (suc n) zero y = refl
all_same (suc n) (suc i) y = all_same n i y

pub none_linked : (vars : ℕ) (w : Watchers) → w.lists ≡ replicate (2 * vars + 2) [] → w.counts ≡ replicate (2 * vars + 2) 0 → IsLinked vars [] [] w []
none_linked vars w lists counts = record {
  ranks = ap (λ (ls : List (List ℕ)). length ls) lists ∙ length-replicate (2 * vars + 2) [];
  counts = ap (λ (ns : List ℕ). length ns) counts ∙ length-replicate (2 * vars + 2) 0;
  places = refl;
  distinct = refl;
  within = λ p e. absurd (let z : ⊥ = cc in z);
  watched = λ p lt ready. absurd (omega arith);
  listed = λ k lit.
      let none : watchers w.lists k ≡ [] = ap (λ (ls : List (List ℕ)). watchers ls k) lists ∙ all_same (2 * vars + 2) (rank_of k) [] in
      record {
        distinct = subst (λ (ps : List ℕ). are_distinct ps ≡ true) (sym none) refl;
        within = λ p e. let f : among [] p ≡ true = subst (λ (ps : List ℕ). among ps p ≡ true) none e in absurd (let z : ⊥ = cc in z);
        ready = λ p e. refl;
        watched = λ p e. let f : among [] p ≡ true = subst (λ (ps : List ℕ). among ps p ≡ true) none e in absurd (let z : ⊥ = cc in z);
        count = ap (λ (ns : List ℕ). count_of ns k) counts ∙ all_same (2 * vars + 2) (rank_of k) 0;
      };
}
