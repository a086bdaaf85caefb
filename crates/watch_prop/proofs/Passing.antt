-- The literal at the head of the trail, passed on to the clauses that watch its complement.
use Rattle.std.proofs.Common.{◌≡◌, ◌≢◌, ◌∙◌, ℕ, zero, suc, ◌+◌, ◌-◌, ◌<◌, ◌≤◌, ◌==◌, ◌++◌, ◌∷◌, [], true, false, not, List, ℤ, pos, Some, length, length-append, drop, take, get_or, refl, sym, ap, subst, arith, inl, inr, ◌⊎◌, Vec}
use Rattle.std.specs.declared.alloc.Global.{Global}
use Rattle.std.specs.Option.{option_map_or}
use Rattle.std.specs.List.{list_all}
use Rattle.std.specs.Ordering.{int_eq}
use Rattle.std.proofs.lemmas.Bool.{cases_Bool, cases_eq, eqb-true}
use Rattle.std.proofs.lemmas.List.{take-append-le, get_or_read, length-map}
use Rattle.lk_model.specs.Lists.{among}
use Rattle.lk_model.specs.Formulas.Literal.{complement, contains, is_literal}
use Rattle.lk_model.proofs.Booleans.{or_true, or_false}
use Rattle.lk_model.proofs.Literals.{complement_twice, same_int, complement_literal, clause_literals as literals_of_clause}
use Rattle.watch_prop.specs.declared.entry.Entry.{Entry}
use Rattle.watch_prop.specs.declared.entry.NumberedClause.{NumberedClause}
use Rattle.watch_prop.specs.declared.watch.Watch.{Watch}
use Rattle.watch_prop.specs.declared.state.State.{State}
use Rattle.watch_prop.specs.declared.state.Settled.{Settled}
use Rattle.watch_prop.specs.declared.state.Settled.TheVariants.{Stays, Moves}
use Rattle.watch_prop.specs.Trail.{Path, literals_of, false_in, clause_numbered}
use Rattle.watch_prop.specs.Watch.{has_true, is_upheld}
use Rattle.watch_prop.specs.declared.watcher_lists.Watcher.{Watcher}
use Rattle.watch_prop.specs.Watchers.{places, row_of, watchers}
use Rattle.watch_prop.specs.Linked.{clause_at_place, watch_at, watches_it}
use Rattle.watch_prop.specs.Propagation.{assigned}
use Rattle.lk_model.specs.Formulas.Units.{is_false}
use Rattle.watch_prop.specs.States.{IsState, IsAtHead, Settles, Leads, propagation_of, unseen}
use Rattle.watch_prop.proofs.Truths.{same_true}
use Rattle.watch_prop.proofs.Along.{false_along, literal_on_path}
use Rattle.watch_prop.proofs.Trails.{trail_path, found_by_number}
use Rattle.watch_prop.proofs.Upheld.{free, upheld_true, upheld_free, upheld_more}
use Rattle.watch_prop.proofs.States.{leads_then, stays_leads}
use Rattle.watch_prop.proofs.Linking.{InList, in_list}
use Rattle.watch_prop.proofs.Settling.{literal_there, still_free, passed_stays, passed_moves}
use Rattle.watch_prop.proofs.Demands.{clause_of}
use Rattle.watch_prop.proofs.Lists.{among_at}
use Rattle.watch_prop.proofs.Roomy.{place_at}
use Rattle.watch_prop.proofs.Blocking.{blocker_there}

-- A FALSE CLAUSE

-- the clause of the number is false
pub conflict_named : (clauses : List NumberedClause) (path : Path) (s : State) (place number : ℕ) → IsState clauses path s → place < length clauses → number ≡ (clause_at_place clauses place).number
    → list_all (false_in path.entries) (clause_at_place clauses place).lits ≡ true
    → option_map_or (is_false (assigned (propagation_of clauses path))) (clause_numbered clauses number) false ≡ true
conflict_named clauses path s place number h lt same all =
    let found : clause_numbered clauses number ≡ Some (clause_at_place clauses place).lits = ap (clause_numbered clauses) same ∙ found_by_number clauses place h.propagation.numbers lt in
    let c = (clause_at_place clauses place).lits in
    let is_clause : list_all (is_literal path.vars) c ≡ true = literals_of_clause path.vars c (clause_of clauses path s place h lt) in
    rw found (false_along path.vars path.entries c (trail_path path.vars clauses path.entries h.propagation.trail) is_clause all)

-- PASSING ON

-- what holds while the watchers of l are settled, of which those from `at` on are left
pub record IsPassing (clauses : List NumberedClause) (path path' : Path) (s s' : State) (l : ℤ) (at : ℕ) : Type 0 where
  pub leads : Leads clauses path path' s s'
  pub count : unseen s' ≡ unseen s
  pub head : s'.head ≡ s.head
  pub at_head : IsAtHead path'.entries s'.head l
  pub literal : is_literal path'.vars l ≡ true
  pub passed : (p : ℕ) → p < length clauses → not (among s'.waiting.items p) ≡ true
      → (is_upheld path'.entries (take (suc s'.head) path'.entries) (clause_at_place clauses p).lits (watch_at s'.watches.items p) ≡ true) ⊎ (among (drop at (watchers s'.lists.lists l)) p ≡ true)

-- a watch without the literal is upheld also after the head
passed_by : (trail : List Entry) (head : ℕ) (c : List ℤ) (x : Watch) (l : ℤ) → IsAtHead trail head l → is_upheld trail (take head trail) c x ≡ true → watches_it x l ≡ false
    → is_upheld trail (take (suc head) trail) c x ≡ true
passed_by trail head c x l at_head h apart = elim (cases_Bool (has_true trail c)) [
  | inl t ↦ upheld_true trail (take (suc head) trail) c x t
  | inr none ↦
      let f = free trail (take head trail) c x h none in
      let ns = or_false (int_eq l x.first) (int_eq l x.second) apart in
      upheld_free trail (take (suc head) trail) c x (still x.first f.first ns.0) (still x.second f.second ns.1)
]
  where
    still : (b : ℤ) → false_in (take head trail) b ≡ false → int_eq l b ≡ false → false_in (take (suc head) trail) b ≡ false
    still b f n = still_free trail head b l at_head (λ e. (let z : true ≡ false = sym (same_true l b (sym e)) ∙ n in let q : ⊥ = cc in q)) f

pub passing_start : (clauses : List NumberedClause) (path : Path) (s : State) (l : ℤ) → IsState clauses path s → s.head < length path.entries
    → l ≡ complement (get_or (literals_of path.entries) s.head (pos 0)) → IsPassing clauses path path s s l 0
passing_start clauses path s l h more is =
    let k = get_or (literals_of path.entries) s.head (pos 0) in
    let comp : k ≡ complement l = sym (complement_twice k) ∙ ap complement (sym is) in
    let at_head : IsAtHead path.entries s.head l = (more, comp) in
    let p = trail_path path.vars clauses path.entries h.propagation.trail in
    let lit : is_literal path.vars l ≡ true = subst (λ (x : ℤ). is_literal path.vars x ≡ true) (sym is)
    (complement_literal path.vars k (literal_on_path path.vars path.entries k p (literal_there s.head path.entries k more refl))) in
    record {
      leads = stays_leads clauses path s h;
      count = refl;
      head = refl;
      at_head = at_head;
      literal = lit;
      passed = λ q lt ready.
          let x = watch_at s.watches.items q in
          let watched = h.known.linked.watched q lt ready in
          elim (cases_Bool (watches_it x l)) [
            | inl y ↦ inr (elim (or_true (int_eq l x.first) (int_eq l x.second) y) [
              | inl a ↦ subst (λ (z : ℤ). among (watchers s.lists.lists z) q ≡ true) (sym (same_int l x.first a)) watched.in_first
              | inr a ↦ subst (λ (z : ℤ). among (watchers s.lists.lists z) q ≡ true) (sym (same_int l x.second a)) watched.in_second
            ])
            | inr y ↦ inl (passed_by path.entries s.head (clause_at_place clauses q).lits x l at_head (h.known.upheld.ready q lt ready) y)
          ];
    }

-- the next clause of the list
drop_next : (xs : List ℕ) (at p place : ℕ) → at < length xs → get_or xs at 0 ≡ place → p ≢ place → among (drop at xs) p ≡ true → among (drop (suc at) xs) p ≡ true
drop_next [] at p place lt e n there = absurd (omega arith)
drop_next (x ∷ xs) zero p place lt e n there = elim (or_true (x == p) (among xs p) there) [
  | inl y ↦ absurd (n (sym (eqb-true x p y) ∙ e))
  | inr y ↦ y
]
drop_next (x ∷ xs) (suc at) p place lt e n there = drop_next xs at p place (omega arith) e n there

-- what one settled clause leads to
pub record SettledOnce (clauses : List NumberedClause) (path path' path'' : Path) (s s' s'' : State) (place : ℕ) (l : ℤ) (at : ℕ) (result : Settled) : Type 0 where
  pub passing : IsPassing clauses path path' s s' l at
  pub within : at < length (watchers s'.lists.lists l)
  pub stands : get_or (watchers s'.lists.lists l) at 0 ≡ place
  pub leads : Leads clauses path' path'' s' s''
  pub settles : Settles clauses path' path'' s' s'' place l at result

take_grown : (head : ℕ) (trail more trail' : List Entry) → head < length trail → trail' ≡ trail ++ more → take (suc head) trail' ≡ take (suc head) trail
take_grown head trail more trail' lt e = ap (take (suc head)) e ∙ take-append-le (suc head) trail more (omega (arith, lt))

head_grown : (head : ℕ) (trail more trail' : List Entry) (l : ℤ) → trail' ≡ trail ++ more → IsAtHead trail head l → IsAtHead trail' head l
head_grown head trail more trail' l e h = subst (λ (t : List Entry). IsAtHead t head l) (sym e)
    (let long = length-append trail more in omega (arith, h.0, long), from head trail h.0 ∙ h.1)
  where
    from : (n : ℕ) (trail : List Entry) → n < length trail → get_or (literals_of (trail ++ more)) n (pos 0) ≡ get_or (literals_of trail) n (pos 0)
    from n [] lt = absurd (omega arith)
    from zero (d ∷ trail) lt = refl
    from (suc n) (d ∷ trail) lt = from n trail (omega arith)

-- the other clauses
others_passed : (clauses : List NumberedClause) (path path' path'' : Path) (s s' s'' : State) (place : ℕ) (l : ℤ) (at : ℕ) (result : Settled)
    → SettledOnce clauses path path' path'' s s' s'' place l at result → (p : ℕ) → p ≢ place
    → is_upheld path'.entries (take (suc s'.head) path'.entries) (clause_at_place clauses p).lits (watch_at s'.watches.items p) ≡ true
    → is_upheld path''.entries (take (suc s''.head) path''.entries) (clause_at_place clauses p).lits (watch_at s''.watches.items p) ≡ true
others_passed clauses path path' path'' s s' s'' place l at result o p n up =
    let g = o.leads.goes_on in
    let more = g.forced in
    let lt = o.passing.at_head.0 in
    subst (λ (x : Watch). is_upheld path''.entries (take (suc s''.head) path''.entries) (clause_at_place clauses p).lits x ≡ true) (sym (o.settles.others p n))
    (subst (λ (h : ℕ). is_upheld path''.entries (take (suc h) path''.entries) (clause_at_place clauses p).lits (watch_at s'.watches.items p) ≡ true) (sym o.settles.head)
    (subst (λ (t : List Entry). is_upheld path''.entries t (clause_at_place clauses p).lits (watch_at s'.watches.items p) ≡ true) (sym (take_grown s'.head path'.entries more path''.entries lt g.trail))
    (subst (λ (t : List Entry). is_upheld t (take (suc s'.head) path'.entries) (clause_at_place clauses p).lits (watch_at s'.watches.items p) ≡ true) (sym g.trail)
    (upheld_more path'.entries more (take (suc s'.head) path'.entries) (clause_at_place clauses p).lits (watch_at s'.watches.items p) up))))

-- the clause itself
it_stands : (clauses : List NumberedClause) (path path' path'' : Path) (s s' s'' : State) (place : ℕ) (l : ℤ) (at : ℕ) (result : Settled)
    → SettledOnce clauses path path' path'' s s' s'' place l at result → InList path'.vars clauses s'.watches.items s'.lists s'.waiting.items l place
it_stands clauses path path' path'' s s' s'' place l at result o =
    in_list path'.vars clauses s'.watches.items s'.lists s'.waiting.items l place o.passing.leads.state.known.linked o.passing.literal
    (subst (λ (p : ℕ). among (watchers s'.lists.lists l) p ≡ true) o.stands (among_at (watchers s'.lists.lists l) at 0 o.within))

stays_passed : (clauses : List NumberedClause) (path path' path'' : Path) (s s' s'' : State) (place : ℕ) (l : ℤ) (at : ℕ)
    → SettledOnce clauses path path' path'' s s' s'' place l at Stays
    → is_upheld path''.entries (take (suc s''.head) path''.entries) (clause_at_place clauses place).lits (watch_at s''.watches.items place) ≡ true
stays_passed clauses path path' path'' s s' s'' place l at o =
    subst (λ (h : ℕ). is_upheld path''.entries (take (suc h) path''.entries) (clause_at_place clauses place).lits (watch_at s''.watches.items place) ≡ true) (sym o.settles.head)
    (passed_stays clauses path'.entries path''.entries s'.head place (watch_at s'.watches.items place) (watch_at s''.watches.items place) l o.settles.settled)

moves_passed : (clauses : List NumberedClause) (path path' path'' : Path) (s s' s'' : State) (place : ℕ) (l : ℤ) (at : ℕ)
    → SettledOnce clauses path path' path'' s s' s'' place l at Moves
    → is_upheld path''.entries (take (suc s''.head) path''.entries) (clause_at_place clauses place).lits (watch_at s''.watches.items place) ≡ true
moves_passed clauses path path' path'' s s' s'' place l at o =
    let state = o.passing.leads.state in
    let i = it_stands clauses path path' path'' s s' s'' place l at Moves o in
    subst (λ (h : ℕ). is_upheld path''.entries (take (suc h) path''.entries) (clause_at_place clauses place).lits (watch_at s''.watches.items place) ≡ true) (sym o.settles.head)
    (passed_moves clauses path'.entries path''.entries s'.head place (watch_at s'.watches.items place) (watch_at s''.watches.items place) l
    o.passing.at_head i.it i.apart
    (state.known.upheld.ready place i.within i.ready) o.settles.settled)

record Carried (clauses : List NumberedClause) (path path' path'' : Path) (s s' s'' : State) (l : ℤ) : Type 0 where
  leads : Leads clauses path path'' s s''
  count : unseen s'' ≡ unseen s
  head : s''.head ≡ s.head
  at_head : IsAtHead path''.entries s''.head l
  literal : is_literal path''.vars l ≡ true
  ready : (p : ℕ) → not (among s''.waiting.items p) ≡ true → not (among s'.waiting.items p) ≡ true

carried : (clauses : List NumberedClause) (path path' path'' : Path) (s s' s'' : State) (place : ℕ) (l : ℤ) (at : ℕ) (result : Settled)
    → SettledOnce clauses path path' path'' s s' s'' place l at result → Carried clauses path path' path'' s s' s'' l
carried clauses path path' path'' s s' s'' place l at result o =
    let g = o.leads.goes_on in
    record {
      leads = leads_then clauses path path' path'' s s' s'' o.passing.leads o.leads;
      count = ap (λ (v : Vec ℕ Global). length v.items - s''.satisfied) o.settles.waiting ∙ ap (λ (n : ℕ). length s'.waiting.items - n) o.settles.satisfied ∙ o.passing.count;
      head = o.settles.head ∙ o.passing.head;
      at_head = subst (λ (h : ℕ). IsAtHead path''.entries h l) (sym o.settles.head) (head_grown s'.head path'.entries g.forced path''.entries l g.trail o.passing.at_head);
      literal = subst (λ (n : ℕ). is_literal n l ≡ true) (sym g.vars) o.passing.literal;
      ready = λ p out. subst (λ (v : Vec ℕ Global). not (among v.items p) ≡ true) o.settles.waiting out;
    }

pub passing_stays : (clauses : List NumberedClause) (path path' path'' : Path) (s s' s'' : State) (place : ℕ) (l : ℤ) (at : ℕ)
    → SettledOnce clauses path path' path'' s s' s'' place l at Stays → IsPassing clauses path path'' s s'' l (at + 1)
passing_stays clauses path path' path'' s s' s'' place l at o =
    let c = carried clauses path path' path'' s s' s'' place l at Stays o in
    record {
      leads = c.leads;
      count = c.count;
      head = c.head;
      at_head = c.at_head;
      literal = c.literal;
      passed = λ p lt out. elim (cases_eq p place) [
        | inl y ↦ inl (subst (λ (q : ℕ). is_upheld path''.entries (take (suc s''.head) path''.entries) (clause_at_place clauses q).lits (watch_at s''.watches.items q) ≡ true) (sym y)
            (stays_passed clauses path path' path'' s s' s'' place l at o))
        | inr n ↦ elim (o.passing.passed p lt (c.ready p out)) [
          | inl up ↦ inl (others_passed clauses path path' path'' s s' s'' place l at Stays o p n up)
          | inr there ↦ inr (subst (λ (xs : List ℕ). among (drop (at + 1) xs) p ≡ true) (sym o.settles.list)
              (subst (λ (k : ℕ). among (drop k (watchers s'.lists.lists l)) p ≡ true) (let k : suc at ≡ at + 1 = omega arith in k)
              (drop_next (watchers s'.lists.lists l) at p place o.within o.stands n there)))
        ]
      ];
    }

pub passing_moves : (clauses : List NumberedClause) (path path' path'' : Path) (s s' s'' : State) (place : ℕ) (l : ℤ) (at : ℕ)
    → SettledOnce clauses path path' path'' s s' s'' place l at Moves → IsPassing clauses path path'' s s'' l at
passing_moves clauses path path' path'' s s' s'' place l at o =
    let c = carried clauses path path' path'' s s' s'' place l at Moves o in
    record {
      leads = c.leads;
      count = c.count;
      head = c.head;
      at_head = c.at_head;
      literal = c.literal;
      passed = λ p lt out. elim (cases_eq p place) [
        | inl y ↦ inl (subst (λ (q : ℕ). is_upheld path''.entries (take (suc s''.head) path''.entries) (clause_at_place clauses q).lits (watch_at s''.watches.items q) ≡ true) (sym y)
            (moves_passed clauses path path' path'' s s' s'' place l at o))
        | inr n ↦ elim (o.passing.passed p lt (c.ready p out)) [
          | inl up ↦ inl (others_passed clauses path path' path'' s s' s'' place l at Moves o p n up)
          | inr there ↦ inr (o.settles.list.1 p n there)
        ]
      ];
    }

-- ALL OF THEM PASSED

drop_all : (at : ℕ) (xs : List ℕ) (p : ℕ) → length xs ≤ at → among (drop at xs) p ≡ false
drop_all zero [] p le = refl
drop_all zero (x ∷ xs) p le = absurd (omega arith)
drop_all (suc at) [] p le = refl
drop_all (suc at) (x ∷ xs) p le = drop_all at xs p (omega arith)

pub passing_end : (clauses : List NumberedClause) (path path' : Path) (s s' : State) (l : ℤ) (at : ℕ) → IsPassing clauses path path' s s' l at → length (watchers s'.lists.lists l) ≤ at
    → Leads clauses path path' s (record s' { head = s'.head + 1 })
passing_end clauses path path' s s' l at o all = record {
  state = record {
    propagation = o.leads.state.propagation;
    known =
        (let h = o.leads.state.known in
        let lt = o.at_head.0 in
        record {
          linked = h.linked;
          blocked = h.blocked;
          satisfied = h.satisfied;
          head = omega (arith, lt);
          marks = h.marks;
          marks_room = h.marks_room;
          rising = h.rising;
          upheld = record {
            waiting = h.upheld.waiting;
            ready = λ p within out. elim (o.passed p within out) [
              | inl up ↦ subst (λ (k : ℕ). is_upheld path'.entries (take k path'.entries) (clause_at_place clauses p).lits (watch_at s'.watches.items p) ≡ true) (let k : suc s'.head ≡ s'.head + 1 = omega arith in k) up
              | inr there ↦ absurd (let f : true ≡ false = sym there ∙ drop_all at (watchers s'.lists.lists l) p all in let z : ⊥ = cc in z)
            ];
          };
          below = λ j under. (let b = h.below j under in record { mark = b.mark; passed = omega (arith, b.passed); upheld = record { waiting = b.upheld.waiting; ready = b.upheld.ready } });
        });
  };
  goes_on = o.leads.goes_on;
}

-- A CLAUSE OF THE LIST

pub record Picked (clauses : List NumberedClause) (path path' : Path) (s s' : State) (l : ℤ) (at : ℕ) (w : Watcher) : Type 0 where
  pub in_clauses : w.place < length clauses
  pub within : at < length (watchers s'.lists.lists l)
  pub stands : get_or (watchers s'.lists.lists l) at 0 ≡ w.place
  pub row : places (row_of s'.lists.rows l) ≡ watchers s'.lists.lists l
  pub blocker : contains (clause_at_place clauses w.place).lits w.blocker ≡ true

-- from the row as it is read before the test and after it
pub picked : (clauses : List NumberedClause) (path path' : Path) (s s' : State) (l : ℤ) (at : ℕ) (row row' : List Watcher) (w : Watcher) → IsPassing clauses path path' s s' l at
    → places row ≡ watchers s'.lists.lists l → row' ≡ row_of s'.lists.rows l → places row' ≡ watchers s'.lists.lists l → at < length row → w ≡ get_or row' at w
    → Picked clauses path path' s s' l at w
picked clauses path path' s s' l at row row' w o e is e' lt read =
    let state = o.leads.state in
    let none : Watcher = record { place = 0; blocker = pos 0 } in
    let long = length-map row (λ (x : Watcher). x.place) in
    let long' = length-map row' (λ (x : Watcher). x.place) in
    let same = ap length e in
    let same' = ap length e' in
    let lt' : at < length row' = omega (arith, lt, long, long', same, same') in
    let read_is : w ≡ get_or row' at none = get_or_read row' at w lt' read none in
    let stands : get_or (watchers s'.lists.lists l) at 0 ≡ w.place =
    ap (λ (ps : List ℕ). get_or ps at 0) (sym e') ∙ place_at row' at ∙ ap (λ (x : Watcher). x.place) (sym read_is) in
    let within : at < length (watchers s'.lists.lists l) = omega (arith, lt, long, same) in
    let there = among_at (watchers s'.lists.lists l) at 0 within in
    record {
      in_clauses = (state.known.linked.listed l o.literal).within w.place (subst (λ (p : ℕ). among (watchers s'.lists.lists l) p ≡ true) stands there);
      within = within;
      stands = stands;
      row = subst (λ (ws : List Watcher). places ws ≡ watchers s'.lists.lists l) is e';
      blocker = blocker_there clauses s'.lists.rows l at w state.known.blocked (subst (λ (ws : List Watcher). at < length ws) is lt') (subst (λ (ws : List Watcher). w ≡ get_or ws at w) is read);
    }

pub settled_once : (clauses : List NumberedClause) (path path' path'' : Path) (s s' s'' : State) (w : Watcher) (l : ℤ) (at : ℕ) (result : Settled)
    → IsPassing clauses path path' s s' l at → Picked clauses path path' s s' l at w → Leads clauses path' path'' s' s'' → Settles clauses path' path'' s' s'' w.place l at result
    → SettledOnce clauses path path' path'' s s' s'' w.place l at result
settled_once clauses path path' path'' s s' s'' w l at result o p leads settles =
    record { passing = o; within = p.within; stands = p.stands; leads = leads; settles = settles }
