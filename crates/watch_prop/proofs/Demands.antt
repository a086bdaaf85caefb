-- What a clause asks for, and what comes of it.
use Rattle.std.proofs.Common.{◌≡◌, ℕ, zero, suc, ◌+◌, ◌<◌, ◌≤◌, Bool, true, false, not, ◌&&◌, ◌||◌, List, [], ◌∷◌, ◌++◌, cond, sym, ◌∙◌, ap, subst, arith, ℤ, pos, Some, length, get_or, refl, inl, inr}
use Rattle.std.specs.List.{list_all}
use Rattle.std.specs.Ordering.{int_eq}
use Rattle.lk_model.specs.Lists.{among, is_empty}
use Rattle.lk_model.specs.Formulas.Literal.{contains, is_literal, is_clause}
use Rattle.std.proofs.lemmas.Bool.{cases_Bool, cases_eq, cases_lt, not-true}
use Rattle.std.proofs.lemmas.List.{get_or_read}
use Rattle.lk_model.proofs.Booleans.{and_true, or_left, or_right}
use Rattle.lk_model.proofs.ListTests.{passes_each, all_at}
use Rattle.lk_model.proofs.Literals.{clause_literals as literals_of_clause}
use Rattle.watch_prop.specs.declared.entry.Entry.{Entry}
use Rattle.watch_prop.specs.declared.entry.NumberedClause.{NumberedClause}
use Rattle.watch_prop.specs.declared.watch.Demand.TheVariants.{Move}
use Rattle.watch_prop.specs.declared.state.State.{State}
use Rattle.watch_prop.specs.Trail.{Path, true_in, false_in, forced_entry, with_forced, may_come, may_follow}
use Rattle.watch_prop.specs.Watch.{other_of, IsDemand, false_at, all_false_but}
use Rattle.watch_prop.specs.Watchers.{places, row_of, watchers}
use Rattle.watch_prop.specs.Linked.{clause_at_place, watch_at}
use Rattle.watch_prop.specs.States.{IsState, Leads, IsAtHead}
use Rattle.watch_prop.proofs.Truths.{same_true, false_apart}
use Rattle.watch_prop.proofs.Lists.{among_at}
use Rattle.watch_prop.proofs.Trails.{may_come_of, may_force}
use Rattle.watch_prop.proofs.States.{MayMove, stays_leads, forced_leads}
use Rattle.watch_prop.proofs.Settling.{head_false}
use Rattle.watch_prop.proofs.Values.{last_true}
use Rattle.watch_prop.proofs.Linking.{IsMove, InList, in_list}

pub all_from : {X : Type 0} (p : X → Bool) (xs : List X) (d : X) → ((i : ℕ) → i < length xs → p (get_or xs i d) ≡ true) → list_all p xs ≡ true
all_from p [] d h = refl
all_from p (x ∷ xs) d h = rw (h 0 (omega arith)) (all_from p xs d (λ i lt. h (suc i) (omega (arith, lt))))

-- what is read of a clause is a literal of it
pub read_there : (c : List ℤ) (i : ℕ) (l : ℤ) → i < length c → l ≡ get_or c i l → contains c l ≡ true
read_there [] i l lt e = absurd (omega arith)
read_there (k ∷ c) zero l lt e = or_left (int_eq l k) (contains c l) (same_true l k e)
read_there (k ∷ c) (suc i) l lt e = or_right (int_eq l k) (contains c l) (read_there c i l (omega arith) e)

-- each literal but that at a place is false, where those before and after it are
pub false_but : (trail : List Entry) (c : List ℤ) (i : ℕ) (l : ℤ) → i < length c → l ≡ get_or c i l → ((k : ℕ) → k < i → false_at trail c k ≡ true)
    → ((k : ℕ) → i + 1 ≤ k → k < length c → (int_eq (get_or c k (pos 0)) l || false_at trail c k) ≡ true) → all_false_but trail c l ≡ true
false_but trail c i l lt e before after = all_from (λ k. int_eq k l || false_in trail k) c (pos 0) (λ k within. elim (cases_lt k i) [
  | inl y ↦ or_right (int_eq (get_or c k (pos 0)) l) (false_at trail c k) (before k y)
  | inr y ↦ elim (cases_eq k i) [
    | inl z ↦ or_left (int_eq (get_or c k (pos 0)) l) (false_at trail c k)
        (same_true (get_or c k (pos 0)) l (ap (λ (n : ℕ). get_or c n (pos 0)) z ∙ sym (get_or_read c i l lt e (pos 0))))
    | inr z ↦ after k (omega (arith, y, z)) within
  ]
])

pub clause_of : (clauses : List NumberedClause) (path : Path) (s : State) (place : ℕ) → IsState clauses path s → place < length clauses → is_clause path.vars (clause_at_place clauses place).lits ≡ true
clause_of clauses path s place h lt =
    let whole = all_at (λ (c : NumberedClause). not (is_empty c.lits) && is_clause path.vars c.lits) clauses place (record { number = 0; lits = [] }) h.propagation.clauses lt in
    (and_true (not (is_empty (clause_at_place clauses place).lits)) (is_clause path.vars (clause_at_place clauses place).lits) whole).1

pub literal_of_clause : (vars : ℕ) (c : List ℤ) (l : ℤ) → is_clause vars c ≡ true → contains c l ≡ true → is_literal vars l ≡ true
literal_of_clause vars c l h there = passes_each (is_literal vars) c l (literals_of_clause vars c h) there

-- A CLAUSE THAT STANDS IN THE LIST OF A FALSE LITERAL

-- it stands at a place of the list of the literal whose complement is to be passed on
pub record Called (clauses : List NumberedClause) (path : Path) (s : State) (place : ℕ) (l : ℤ) (at : ℕ) : Type 0 where
  pub state : IsState clauses path s
  pub literal : is_literal path.vars l ≡ true
  pub within : at < length (watchers s.lists.lists l)
  pub stands : get_or (watchers s.lists.lists l) at 0 ≡ place
  pub at_head : IsAtHead path.entries s.head l
  pub row : places (row_of s.lists.rows l) ≡ watchers s.lists.lists l

pub stands_there : (clauses : List NumberedClause) (path : Path) (s : State) (place : ℕ) (l : ℤ) (at : ℕ) → Called clauses path s place l at
    → InList path.vars clauses s.watches.items s.lists s.waiting.items l place
stands_there clauses path s place l at c =
    in_list path.vars clauses s.watches.items s.lists s.waiting.items l place c.state.known.linked c.literal
    (subst (λ (p : ℕ). among (watchers s.lists.lists l) p ≡ true) c.stands (among_at (watchers s.lists.lists l) at 0 c.within))

pub other_literal : (clauses : List NumberedClause) (path : Path) (s : State) (place : ℕ) (l : ℤ) (at : ℕ) → Called clauses path s place l at
    → is_literal path.vars (other_of (watch_at s.watches.items place) l) ≡ true
other_literal clauses path s place l at c =
    let i = stands_there clauses path s place l at c in
    literal_of_clause path.vars (clause_at_place clauses place).lits (other_of (watch_at s.watches.items place) l) (clause_of clauses path s place c.state i.within) i.has_other

-- ANOTHER LITERAL WATCHED

pub moves : (clauses : List NumberedClause) (path : Path) (s : State) (place : ℕ) (l r : ℤ) (found at : ℕ) → Called clauses path s place l at
    → IsDemand path.entries (clause_at_place clauses place).lits (other_of (watch_at s.watches.items place) l) (Move r found)
    → IsMove path.vars clauses s.watches.items s.lists s.waiting.items place l r at
moves clauses path s place l r found at c d =
    let i = stands_there clauses path s place l at c in
    let b = other_of (watch_at s.watches.items place) l in
    record {
      linked = c.state.known.linked;
      from = c.literal;
      to = literal_of_clause path.vars (clause_at_place clauses place).lits r (clause_of clauses path s place c.state i.within) d.0;
      within = c.within;
      stands = c.stands;
      has_it = d.0;
      not_it = λ e. (let f : true ≡ false = sym (subst (λ (k : ℤ). false_in path.entries k ≡ true) (sym e) (head_false path.entries s.head l c.at_head)) ∙ not-true _ d.2 in let z : ⊥ = cc in z);
      not_other = false_apart r b (not-true _ d.1);
    }

pub may_move : (clauses : List NumberedClause) (path : Path) (s : State) (place : ℕ) (l r : ℤ) (found at : ℕ) → Called clauses path s place l at
    → IsDemand path.entries (clause_at_place clauses place).lits (other_of (watch_at s.watches.items place) l) (Move r found) → MayMove path.entries s place l r
may_move clauses path s place l r found at c d =
    let i = stands_there clauses path s place l at c in
    record { it = i.it; free = not-true _ d.2 }

-- A LITERAL FORCED

-- a clause that has a literal which is not false, where each other one is
pub record Forces (clauses : List NumberedClause) (path : Path) (place : ℕ) (l : ℤ) : Type 0 where
  pub in_clauses : place < length clauses
  pub has_it : contains (clause_at_place clauses place).lits l ≡ true
  pub free : false_in path.entries l ≡ false
  pub others : all_false_but path.entries (clause_at_place clauses place).lits l ≡ true

forced_literal : (clauses : List NumberedClause) (path : Path) (s : State) (place : ℕ) (l : ℤ) → IsState clauses path s → Forces clauses path place l → is_literal path.vars l ≡ true
forced_literal clauses path s place l h f = literal_of_clause path.vars (clause_at_place clauses place).lits l (clause_of clauses path s place h f.in_clauses) f.has_it

forced_follows : (clauses : List NumberedClause) (path : Path) (s : State) (place : ℕ) (l : ℤ) (number : ℕ) → IsState clauses path s → Forces clauses path place l
    → number ≡ (clause_at_place clauses place).number → true_in path.entries l ≡ false → may_follow path.vars clauses path.entries (forced_entry path.entries l number) ≡ true
forced_follows clauses path s place l number h f is t =
    may_force path.vars clauses path.entries place (forced_entry path.entries l number) h.propagation.numbers f.in_clauses (forced_literal clauses path s place l h f) t f.free f.has_it f.others
    refl (ap Some is)

-- it is one over the variables, and may come if it is not true
pub record MayForce (clauses : List NumberedClause) (path : Path) (l : ℤ) (number : ℕ) : Type 0 where
  pub literal : is_literal path.vars l ≡ true
  pub comes : (true_in path.entries l || may_come path.vars path.entries (forced_entry path.entries l number)) ≡ true

pub may_be_forced : (clauses : List NumberedClause) (path : Path) (s : State) (place : ℕ) (l : ℤ) (number : ℕ) → IsState clauses path s → Forces clauses path place l
    → number ≡ (clause_at_place clauses place).number → MayForce clauses path l number
may_be_forced clauses path s place l number h f is = record {
  literal = forced_literal clauses path s place l h f;
  comes = elim (cases_Bool (true_in path.entries l)) [
    | inl y ↦ or_left (true_in path.entries l) _ y
    | inr y ↦ or_right (true_in path.entries l) _ (may_come_of path.vars clauses path.entries (forced_entry path.entries l number) (forced_follows clauses path s place l number h f is y))
  ];
}

-- what comes of it: the literal is true
pub record IsForced (clauses : List NumberedClause) (path path' : Path) (s : State) (l : ℤ) : Type 0 where
  pub leads : Leads clauses path path' s s
  pub truth : true_in path'.entries l ≡ true

pub forced : (clauses : List NumberedClause) (path path' : Path) (s : State) (place : ℕ) (l : ℤ) (number : ℕ) → IsState clauses path s → Forces clauses path place l
    → number ≡ (clause_at_place clauses place).number → path' ≡ with_forced path l number → IsForced clauses path path' s l
forced clauses path path' s place l number h f is made = elim (cases_Bool (true_in path.entries l)) [
  | inl y ↦ subst (λ (p : Path). IsForced clauses path p s l) (sym (made ∙ ap (λ (b : Bool). cond b path longer) y)) (record { leads = stays_leads clauses path s h; truth = y })
  | inr y ↦ subst (λ (p : Path). IsForced clauses path p s l) (sym (made ∙ ap (λ (b : Bool). cond b path longer) y)) (record {
    leads = forced_leads clauses path longer s (forced_entry path.entries l number) number h (forced_follows clauses path s place l number h f is y) refl refl refl;
    truth = last_true path.entries (forced_entry path.entries l number);
  })
]
  where
    longer : Path
    longer = record path { entries = path.entries ++ forced_entry path.entries l number ∷ [] }
