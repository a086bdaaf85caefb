-- What comes of a clause's demand.
use Rattle.std.proofs.Common.{◌≡◌, ◌∙◌, ℕ, ◌+◌, ◌<◌, ◌≤◌, true, false, not, List, ℤ, pos, length, drop, get_or, refl, sym, ap, subst, arith, Vec}
use Rattle.std.specs.declared.alloc.Global.{Global}
use Rattle.std.specs.Ordering.{int_eq}
use Rattle.std.proofs.lemmas.Bool.{not-true}
use Rattle.std.proofs.lemmas.List.{length-map}
use Rattle.lk_model.specs.Lists.{among}
use Rattle.lk_model.specs.Formulas.Literal.{contains, is_literal}
use Rattle.watch_prop.specs.declared.entry.NumberedClause.{NumberedClause}
use Rattle.watch_prop.specs.declared.watch.Watch.{Watch}
use Rattle.watch_prop.specs.declared.watch.Demand.{Demand}
use Rattle.watch_prop.specs.declared.watch.Demand.TheVariants.{Move, Truth}
use Rattle.watch_prop.specs.declared.state.State.{State}
use Rattle.watch_prop.specs.declared.state.Settled.TheVariants as settled
use Rattle.watch_prop.specs.Trail.{Path, true_in, false_in}
use Rattle.watch_prop.specs.Watch.{other_of, IsDemand, all_false_but}
use Rattle.watch_prop.specs.declared.watcher_lists.Watcher.{Watcher}
use Rattle.watch_prop.specs.Watchers.{row_of, watchers}
use Rattle.watch_prop.specs.Linked.{IsLinked, AreBlocked, clause_at_place, watch_at, moved, blocked_rows}
use Rattle.watch_prop.specs.States.{Settles, Leads}
use Rattle.watch_prop.proofs.States.{Differs, Keeps, kept_leads, same_upheld, moved_upholds, watch_here, watch_there}
use Rattle.watch_prop.proofs.Demands.{Called, stands_there, other_literal, clause_of, literal_of_clause, moves, may_move, Forces}
use Rattle.lk_model.proofs.ListTests.{passes_one}
use Rattle.watch_prop.proofs.Roomy.{place_at}
use Rattle.watch_prop.proofs.Blocking.{blocked_moved, blocked_again}
use Rattle.watch_prop.proofs.Linking.{same_linked, moved_linked, moved_rest, moved_shorter}

pub place_in_watches : (clauses : List NumberedClause) (path : Path) (s : State) (place : ℕ) (l : ℤ) (at : ℕ) → Called clauses path s place l at → place < length s.watches.items
place_in_watches clauses path s place l at called = let i = stands_there clauses path s place l at called in omega (arith, i.within, called.state.known.linked.places)

-- the other literal, as it is read
pub other_is_literal : (clauses : List NumberedClause) (path : Path) (s : State) (place : ℕ) (l b : ℤ) (at : ℕ) → Called clauses path s place l at
    → b ≡ other_of (watch_at s.watches.items place) l → is_literal path.vars b ≡ true
other_is_literal clauses path s place l b at called is = subst (λ (k : ℤ). is_literal path.vars k ≡ true) (sym is) (other_literal clauses path s place l at called)

-- it is a literal of the clause
pub other_has : (clauses : List NumberedClause) (path : Path) (s : State) (place : ℕ) (l b : ℤ) (at : ℕ) → Called clauses path s place l at
    → b ≡ other_of (watch_at s.watches.items place) l → contains (clause_at_place clauses place).lits b ≡ true
other_has clauses path s place l b at called is =
    subst (λ (k : ℤ). contains (clause_at_place clauses place).lits k ≡ true) (sym is) (stands_there clauses path s place l at called).has_other

-- the blocker is one over the variables
pub blocker_literal : (clauses : List NumberedClause) (path : Path) (s : State) (place : ℕ) (l b : ℤ) (at : ℕ) → Called clauses path s place l at
    → contains (clause_at_place clauses place).lits b ≡ true → is_literal path.vars b ≡ true
blocker_literal clauses path s place l b at called has =
    literal_of_clause path.vars (clause_at_place clauses place).lits b (clause_of clauses path s place called.state (stands_there clauses path s place l at called).within) has

-- the demand, from what is read
pub asked : (clauses : List NumberedClause) (path : Path) (s : State) (place : ℕ) (l : ℤ) (at : ℕ) (c : List ℤ) (b : ℤ) (d d' : Demand) → Called clauses path s place l at
    → c ≡ (clause_at_place clauses place).lits → b ≡ other_of (watch_at s.watches.items place) l → IsDemand path.entries c b d → d ≡ d'
    → IsDemand path.entries (clause_at_place clauses place).lits (other_of (watch_at s.watches.items place) l) d'
asked clauses path s place l at c b d d' called lits is demand same =
    subst (λ (d : Demand). IsDemand path.entries (clause_at_place clauses place).lits (other_of (watch_at s.watches.items place) l) d) same
    (subst (λ (b : ℤ). IsDemand path.entries (clause_at_place clauses place).lits b d) is
    (subst (λ (c : List ℤ). IsDemand path.entries c b d) lits demand))

-- ANOTHER LITERAL WATCHED

-- the place at which it stands in the row
row_stands : (clauses : List NumberedClause) (path : Path) (s : State) (place : ℕ) (l : ℤ) (at : ℕ) → Called clauses path s place l at
    → (get_or (row_of s.lists.rows l) at (record { place = 0; blocker = pos 0 })).place ≡ place
row_stands clauses path s place l at called = sym (place_at (row_of s.lists.rows l) at) ∙ ap (λ (ps : List ℕ). get_or ps at 0) called.row ∙ called.stands

-- the other literal that it watches is its blocker now
moved_blocked : (clauses : List NumberedClause) (path : Path) (s s' : State) (place : ℕ) (l r : ℤ) (at : ℕ) → Called clauses path s place l at → Differs s s' place l r at
    → AreBlocked clauses s'.lists.rows
moved_blocked clauses path s s' place l r at called d =
    let i = stands_there clauses path s place l at called in
    let row = row_of s.lists.rows l in
    let long : length (watchers s.lists.lists l) ≡ length row = ap length (sym called.row) ∙ length-map row (λ (w : Watcher). w.place) in
    let in_row : at < length row = omega (arith, called.within, long) in
    subst (λ (rows : List (List Watcher)). AreBlocked clauses rows) (sym d.rows)
    (blocked_moved clauses s.lists.rows l at r (other_of (watch_at s.watches.items place) l) place called.state.known.blocked in_row (row_stands clauses path s place l at called) i.has_other)

pub move_leads : (clauses : List NumberedClause) (path : Path) (s s' : State) (place : ℕ) (l r : ℤ) (found at : ℕ) → Called clauses path s place l at
    → IsDemand path.entries (clause_at_place clauses place).lits (other_of (watch_at s.watches.items place) l) (Move r found) → Differs s s' place l r at
    → Leads clauses path path s s'
move_leads clauses path s s' place l r found at called asked d =
    let m = moves clauses path s place l r found at called asked in
    let old = called.state.known in
    let linked = moved_linked path.vars clauses s.watches.items s'.watches.items s.lists s'.lists s.waiting.items place l r at m d.watches d.lists d.counts in
    kept_leads clauses path s s' called.state d.keeps
    (moved_upholds clauses path.entries s s' place l r at (place_in_watches clauses path s place l at called) d (may_move clauses path s place l r found at called asked))
    (subst (λ (v : Vec ℕ Global). IsLinked path.vars clauses s'.watches.items s'.lists v.items) (sym d.waiting) linked)
    (moved_blocked clauses path s s' place l r at called d)
    (subst (λ (v : Vec ℕ Global). s'.satisfied ≤ length v.items) (sym d.waiting) (omega (arith, old.satisfied, d.keeps.satisfied)))

pub move_settles : (clauses : List NumberedClause) (path : Path) (s s' : State) (place : ℕ) (l r : ℤ) (found at : ℕ) → Called clauses path s place l at
    → IsDemand path.entries (clause_at_place clauses place).lits (other_of (watch_at s.watches.items place) l) (Move r found) → Differs s s' place l r at
    → Settles clauses path path s s' place l at settled.Moves
move_settles clauses path s s' place l r found at called asked d =
    let m = moves clauses path s place l r found at called asked in
    let y = watch_at s.watches.items place in
    let here = watch_here s s' place l r at (place_in_watches clauses path s place l at called) d in
    let lists : watchers s'.lists.lists l ≡ watchers (moved s.lists.lists l at r) l = ap (λ (ls : List (List ℕ)). watchers ls l) d.lists in
    record {
      waiting = d.waiting;
      satisfied = d.keeps.satisfied;
      head = d.keeps.head;
      others = λ p n. watch_there s s' place l r at p d n;
      settled = (
        refl,
        ap (λ (z : Watch). z.second) here,
        subst (λ (z : Watch). not (int_eq z.first (other_of y l)) ≡ true) (sym here) asked.1,
        subst (λ (z : Watch). not (false_in path.entries z.first) ≡ true) (sym here) asked.2,
      );
      list = (
        subst (λ (ps : List ℕ). length ps + 1 ≡ length (watchers s.lists.lists l)) (sym lists) (moved_shorter path.vars clauses s.watches.items s.lists s.waiting.items place l r at m),
        λ p n there. subst (λ (ps : List ℕ). among (drop at ps) p ≡ true) (sym lists) (moved_rest path.vars clauses s.watches.items s.lists s.waiting.items place l r at m p n there),
      );
    }

-- A LITERAL FORCED

pub demands_truth : (clauses : List NumberedClause) (path : Path) (s : State) (place : ℕ) (l k : ℤ) (at : ℕ) → Called clauses path s place l at
    → IsDemand path.entries (clause_at_place clauses place).lits (other_of (watch_at s.watches.items place) l) (Truth k) → Forces clauses path place k
demands_truth clauses path s place l k at called asked =
    let i = stands_there clauses path s place l at called in
    record {
      in_clauses = i.within;
      has_it = subst (λ (b : ℤ). contains (clause_at_place clauses place).lits b ≡ true) (sym asked.0) i.has_other;
      free = subst (λ (b : ℤ). false_in path.entries b ≡ false) (sym asked.0) (not-true _ asked.1);
      others = subst (λ (b : ℤ). all_false_but path.entries (clause_at_place clauses place).lits b ≡ true) (sym asked.0) asked.2;
    }

-- the clause keeps its watch, and has a true literal
pub stays_settled : (clauses : List NumberedClause) (path path' : Path) (s : State) (place : ℕ) (l b : ℤ) (at : ℕ) → contains (clause_at_place clauses place).lits b ≡ true
    → true_in path'.entries b ≡ true → Settles clauses path path' s s place l at settled.Stays
stays_settled clauses path path' s place l b at has t = record {
  waiting = refl;
  satisfied = refl;
  head = refl;
  others = λ p n. refl;
  settled = (refl, passes_one (true_in path'.entries) (clause_at_place clauses place).lits b has t);
  list = refl;
}

-- ANOTHER BLOCKER

-- what differs where the clause gets another blocker
pub record Reblocks (s s' : State) (l b : ℤ) (at : ℕ) : Type 0 where
  pub watches : s'.watches ≡ s.watches
  pub lists : s'.lists.lists ≡ s.lists.lists
  pub rows : s'.lists.rows ≡ blocked_rows s.lists.rows l at b
  pub counts : s'.lists.counts ≡ s.lists.counts
  pub waiting : s'.waiting ≡ s.waiting
  pub keeps : Keeps s s'

pub reblocked_leads : (clauses : List NumberedClause) (path : Path) (s s' : State) (place : ℕ) (l b : ℤ) (at : ℕ) → Called clauses path s place l at
    → contains (clause_at_place clauses place).lits b ≡ true → Reblocks s s' l b at → Leads clauses path path s s'
reblocked_leads clauses path s s' place l b at called has d =
    let old = called.state.known in
    let watches : s'.watches.items ≡ s.watches.items = ap (λ (v : Vec Watch Global). v.items) d.watches in
    let waiting : s'.waiting.items ≡ s.waiting.items = ap (λ (v : Vec ℕ Global). v.items) d.waiting in
    kept_leads clauses path s s' called.state d.keeps
    (record { still = λ sub passed count part passed_part under h. same_upheld clauses s s' sub passed count watches waiting h })
    (subst (λ (ws : List Watch). IsLinked path.vars clauses ws s'.lists s'.waiting.items) (sym watches)
    (subst (λ (ps : List ℕ). IsLinked path.vars clauses s.watches.items s'.lists ps) (sym waiting)
    (same_linked path.vars clauses s.watches.items s.lists s'.lists s.waiting.items old.linked d.lists d.counts)))
    (subst (λ (rows : List (List Watcher)). AreBlocked clauses rows) (sym d.rows)
    (blocked_again clauses s.lists.rows l at b place old.blocked (row_stands clauses path s place l at called) has))
    (subst (λ (v : Vec ℕ Global). s'.satisfied ≤ length v.items) (sym d.waiting) (omega (arith, old.satisfied, d.keeps.satisfied)))

pub reblocked_settles : (clauses : List NumberedClause) (path : Path) (s s' : State) (place : ℕ) (l b : ℤ) (at : ℕ) → contains (clause_at_place clauses place).lits b ≡ true
    → true_in path.entries b ≡ true → Reblocks s s' l b at → Settles clauses path path s s' place l at settled.Stays
reblocked_settles clauses path s s' place l b at has t d = record {
  waiting = d.waiting;
  satisfied = d.keeps.satisfied;
  head = d.keeps.head;
  others = λ p n. ap (λ (v : Vec Watch Global). watch_at v.items p) d.watches;
  settled = (ap (λ (v : Vec Watch Global). watch_at v.items place) d.watches, passes_one (true_in path.entries) (clause_at_place clauses place).lits b has t);
  list = ap (λ (ls : List (List ℕ)). watchers ls l) d.lists;
}
