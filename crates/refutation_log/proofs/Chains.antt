-- Chains over clauses that are read as sets.
use Rattle.std.proofs.Common.{◌≡◌, ℕ, suc, ◌+◌, ◌<◌, ◌≤◌, Bool, true, false, cond, ◌&&◌, nat_le, nat_lt, List, [], ◌∷◌, ◌++◌, refl, sym, ap, subst, arith, ℤ, Option, Some, None, length, map, get_or, drop, drop-cons, add-one, IsSome}
use Rattle.std.specs.List.{list_all}
use Rattle.std.specs.Prelude.{option_and_then}
use Rattle.std.specs.Option.{option_map_or}
use Rattle.std.proofs.lemmas.Bool.{leb-true, le-leb, leb-false, lt-leb}
use Rattle.lk_model.specs.Lists.{among, rises_within}
use Rattle.lk_model.specs.Formulas.Formula.{positions_of}
use Rattle.lk_model.specs.Formulas.Literal.{contains, complement, is_same_set}
use Rattle.lk_model.specs.Chains.Chain.{Premises, crossed_at, clause_named, without, resolvent, after_turns, chain_clause, names_of, states_its_clause}
use Rattle.lk_model.specs.Held.VariableSets.{premises_of}
use Rattle.lk_model.specs.declared.document.Turn.{Turn}
use Rattle.lk_model.specs.declared.document.Step.{Step}
use Rattle.refutation_log.specs.SameClause.{HaveSame, IsSameClause}
use Rattle.refutation_log.specs.Derivation.{Derivation, are_numbered, next_number, clause_of_step, IsDerivation, is_ascending, names_lower, step_of, Extends}
use Rattle.lk_model.specs.declared.crossed.Crossed.{Crossed}
use Rattle.refutation_log.proofs.Steps.{found_within, numbered_more}
use Rattle.lk_model.proofs.Counting.{among-range}
use Rattle.lk_model.proofs.Founds.{up_to_bounds}
use Rattle.lk_model.proofs.Rising.{bounded}
use Rattle.lk_model.proofs.ListTests.{all_more}
use Rattle.refutation_log.proofs.Clauses.{same_set, have_same, HaveSame-refl, HaveSame-trans, HaveSame-without, HaveSame-append}

-- NUMBERS

-- a number up to the number of clauses stands for a position of the part
pub position_named : (from : Premises) (k : ℕ) → k ≤ length from.formula.clauses → IsSome (clause_named from k)
    → (among from.part k ≡ true) × (clause_named from k ≡ Some (crossed_at from k))
position_named from k le h = rw (le-leb k (length from.formula.clauses) le) (at_test (among from.part k) refl (rw (le-leb k (length from.formula.clauses) le) at h))
  where
    at_test : (b : Bool) → among from.part k ≡ b → IsSome {T = List ℤ} (cond b (Some (crossed_at from k)) None)
        → (among from.part k ≡ true) × (cond (among from.part k) (Some (crossed_at from k)) None ≡ Some (crossed_at from k))
    at_test true e h = (e, rw e refl)
    at_test false e h = absurd (let f : ⊥ = cc in f)

pub position_first : (from : Premises) (k : ℕ) → rises_within 0 (length from.formula.clauses) from.part ≡ true → k ≤ length from.formula.clauses
    → IsSome (clause_named from k) → 0 < k
position_first from k r le h = (bounded 0 (length from.formula.clauses) from.part k r (position_named from k le h).0).0

-- where the part has all positions, each number from 1 to the number of clauses stands for one
pub whole_named : (from : Premises) (k : ℕ) → from.part ≡ positions_of from.formula → 0 < k → k ≤ length from.formula.clauses → IsSome (clause_named from k)
whole_named from k whole first le =
    rw (le-leb k (length from.formula.clauses) le, whole, among-range 1 (length from.formula.clauses) k (omega (arith, first)) (omega (arith, le))) refl

pub whole_first : (from : Premises) (k : ℕ) → from.part ≡ positions_of from.formula → k ≤ length from.formula.clauses → IsSome (clause_named from k) → 0 < k
whole_first from k whole le h =
    let named = subst (λ (ps : List ℕ). among ps k ≡ true) whole (position_named from k le h).0 in
    let bounds = up_to_bounds (length from.formula.clauses) k named in omega (arith, bounds.0)

-- and one past it for a step
pub step_named : (from : Premises) (k : ℕ) → length from.formula.clauses < k → clause_named from k ≡ clause_of_step from.earlier k
step_named from k lt = rw (lt-leb k (length from.formula.clauses) lt) refl

-- CLAUSES

pub some_clause : (c : List ℤ) (o : Option (List ℤ)) (d : List ℤ) → o ≡ Some d → is_same_set c d ≡ true → IsSameClause (Some c) o
some_clause c o d e h = rw e h

pub same_clause-trans : (a b c : Option (List ℤ)) → IsSameClause a b → IsSameClause b c → IsSameClause a c
same_clause-trans (Some a) (Some b) (Some c) h j = same_set a c (HaveSame-trans a b c (have_same a b h) (have_same b c j))
same_clause-trans None None None h j = tt
same_clause-trans (Some a) (Some b) None h j = j
same_clause-trans (Some a) None c h j = absurd h
same_clause-trans None (Some b) c h j = absurd h
same_clause-trans None None (Some c) h j = j

pub is_some_clause : (a b : Option (List ℤ)) → IsSameClause a b → IsSome b → IsSome a
is_some_clause (Some a) b h j = refl
is_some_clause None None h j = j
is_some_clause None (Some b) h j = absurd h

pub is_some_also : (a b : Option (List ℤ)) → IsSameClause a b → IsSome a → IsSome b
is_some_also (Some a) (Some b) h j = refl
is_some_also (Some a) None h j = absurd h
is_some_also None b h j = absurd (let f : ⊥ = cc in f)

-- the same clauses have the same resolvents
resolvent_same : (t : ℤ) (c d e : List ℤ) → HaveSame c d → (from : Premises) (turns : List Turn)
    → ((c d : List ℤ) → HaveSame c d → IsSameClause (after_turns from c turns) (after_turns from d turns))
    → (x y : Bool) → contains c t ≡ x → contains d t ≡ x
    → IsSameClause (option_and_then (λ r. after_turns from r turns) (cond (x && y) (Some (without c t ++ without e (complement t))) None))
    (option_and_then (λ r. after_turns from r turns) (cond (x && y) (Some (without d t ++ without e (complement t))) None))
resolvent_same t c d e h from turns more true true f g =
    more (without c t ++ without e (complement t)) (without d t ++ without e (complement t))
    (HaveSame-append (without c t) (without e (complement t)) (without d t) (without e (complement t)) (HaveSame-without c d t h) (HaveSame-refl (without e (complement t))))
resolvent_same t c d e h from turns more true false f g = tt
resolvent_same t c d e h from turns more false y f g = tt

pub after_turns_same : (from : Premises) (turns : List Turn) (c d : List ℤ) → HaveSame c d → IsSameClause (after_turns from c turns) (after_turns from d turns)
after_turns_same from [] c d h = same_set c d h
after_turns_same from (t ∷ turns) c d h = at_clause (after_turns_same from turns) (clause_named from t.with)
  where
    at_clause : ((c d : List ℤ) → HaveSame c d → IsSameClause (after_turns from c turns) (after_turns from d turns)) → (o : Option (List ℤ))
        → IsSameClause (option_and_then (λ e. option_and_then (λ r. after_turns from r turns) (resolvent t.lit c e)) o)
        (option_and_then (λ e. option_and_then (λ r. after_turns from r turns) (resolvent t.lit d e)) o)
    at_clause more None = tt
    at_clause more (Some e) =
        rw (← h.members t.lit) (resolvent_same t.lit c d e h from turns more (contains c t.lit) (contains e (complement t.lit)) refl (sym (h.members t.lit)))

-- A turn that can be made: its number stands for a clause, and the two clauses contain the literal and its complement.
pub record IsTurn (from : Premises) (c : List ℤ) (t : Turn) : Type 0 where
  pub other : List ℤ
  pub named : clause_named from t.with ≡ Some other
  pub held : contains c t.lit ≡ true
  pub against : contains other (complement t.lit) ≡ true

pub is_turn : (from : Premises) (c : List ℤ) (t : Turn) (turns : List Turn) → IsSome (after_turns from c (t ∷ turns)) → IsTurn from c t
is_turn from c t turns h = at_clause (clause_named from t.with) refl h
  where
    at_tests : (e : List ℤ) → clause_named from t.with ≡ Some e → (x y : Bool) → contains c t.lit ≡ x → contains e (complement t.lit) ≡ y
        → IsSome (option_and_then (λ r. after_turns from r turns) (cond (x && y) (Some (without c t.lit ++ without e (complement t.lit))) None)) → IsTurn from c t
    at_tests e n true true f g h = record { other = e; named = n; held = f; against = g }
    at_tests e n true false f g h = absurd (let z : ⊥ = cc in z)
    at_tests e n false y f g h = absurd (let z : ⊥ = cc in z)

    at_clause : (o : Option (List ℤ)) → clause_named from t.with ≡ o
        → IsSome (option_and_then (λ e. option_and_then (λ r. after_turns from r turns) (resolvent t.lit c e)) o) → IsTurn from c t
    at_clause None n h = absurd (let z : ⊥ = cc in z)
    at_clause (Some e) n h = at_tests e n (contains c t.lit) (contains e (complement t.lit)) refl refl h

pub turn_made : (from : Premises) (c : List ℤ) (t : Turn) → contains c t.lit ≡ true → IsSome (clause_named from t.with)
    → option_map_or (λ d. contains d (complement t.lit)) (clause_named from t.with) false ≡ true → IsSome (after_turns from c (t ∷ []))
turn_made from c t held named against = at (clause_named from t.with) named against
  where
    at : (o : Option (List ℤ)) → IsSome o → option_map_or (λ d. contains d (complement t.lit)) o false ≡ true
        → IsSome (option_and_then (λ d. option_and_then (λ r. after_turns from r []) (resolvent t.lit c d)) o)
    at None h e = absurd (let f : ⊥ = cc in f)
    at (Some d) h e = rw (held, e) refl

-- what stands after a turn
pub after_turn : (from : Premises) (c : List ℤ) (t : Turn) (turns : List Turn) (w : IsTurn from c t)
    → after_turns from c (t ∷ turns) ≡ after_turns from (without c t.lit ++ without w.other (complement t.lit)) turns
after_turn from c t turns w = rw (w.named, w.held, w.against) refl

-- a turn that later ones follow can be taken by itself
pub turn_goes : (from : Premises) (c : List ℤ) (t : Turn) (turns : List Turn) → IsSome (after_turns from c (t ∷ turns)) → IsSome (after_turns from c (t ∷ []))
turn_goes from c t turns h = let w = is_turn from c t turns h in rw (after_turn from c t [] w) refl

-- and what follows goes on from its clause
pub turn_taken : (from : Premises) (c next : List ℤ) (t : Turn) (turns : List Turn) (o : Option (List ℤ))
    → IsSameClause (Some next) (after_turns from c (t ∷ [])) → IsSameClause (after_turns from c (t ∷ turns)) o → IsSameClause (after_turns from next turns) o
turn_taken from c next t turns o taken same =
    let w = is_turn from c t [] (is_some_also (Some next) (after_turns from c (t ∷ [])) taken refl) in
    let made = without c t.lit ++ without w.other (complement t.lit) in
    let got : IsSameClause (Some next) (Some made) = subst (λ (x : Option (List ℤ)). IsSameClause (Some next) x) (after_turn from c t [] w) taken in
    same_clause-trans (after_turns from next turns) (after_turns from made turns) o
    (after_turns_same from turns next made (have_same next made got))
    (subst (λ (x : Option (List ℤ)). IsSameClause x o) (after_turn from c t turns w) same)

-- the chain's first clause
pub first_named : (from : Premises) (first : ℕ) (turns : List Turn) → IsSome (chain_clause from first turns) → IsSome (clause_named from first)
first_named from first turns h = at (clause_named from first) h
  where
    at : (o : Option (List ℤ)) → IsSome (option_and_then (λ c. after_turns from c turns) o) → IsSome o
    at None h = h
    at (Some c) h = refl

pub chain_begins : (from : Premises) (first : ℕ) (turns : List Turn) (c : List ℤ) → IsSameClause (Some c) (clause_named from first)
    → IsSameClause (after_turns from c turns) (chain_clause from first turns)
chain_begins from first turns c named = at (clause_named from first) named
  where
    at : (o : Option (List ℤ)) → IsSameClause (Some c) o → IsSameClause (after_turns from c turns) (option_and_then (λ c. after_turns from c turns) o)
    at None h = absurd h
    at (Some d) h = after_turns_same from turns c d (have_same c d h)

pub turn_next : (turns : List Turn) (i : ℕ) (t : Turn) → i < length turns → t ≡ get_or turns i t → drop i turns ≡ t ∷ drop (i + 1) turns
turn_next turns i t lt found = rw (add-one, drop-cons turns i t) (ap (λ (x : Turn). x ∷ drop (suc i) turns) (sym found))

-- THE NEW STEP

pub states_clause : (c d : List ℤ) (o : Option (List ℤ)) → c ≡ d → IsSameClause (Some d) o → option_map_or (is_same_set c) o false ≡ true
states_clause c d (Some e) same h = rw same h
states_clause c d None same h = absurd h

-- a number that stands for a clause is below the next one
pub named_below : (from : Premises) (first k : ℕ) → length from.formula.clauses < first → are_numbered first from.earlier ≡ true
    → IsSome (clause_named from k) → k < first + length from.earlier
named_below from first k past n h = at (nat_le k (length from.formula.clauses)) refl
  where
    at : (b : Bool) → nat_le k (length from.formula.clauses) ≡ b → k < first + length from.earlier
    at true e = let le = leb-true k (length from.formula.clauses) e in omega (arith, le, past)
    at false e = let lt = leb-false k (length from.formula.clauses) e in
        (found_within first from.earlier k n (subst (λ (o : Option (List ℤ)). IsSome o) (step_named from k lt) h)).1

turns_below : (from : Premises) (first : ℕ) (c : List ℤ) (turns : List Turn) → length from.formula.clauses < first → are_numbered first from.earlier ≡ true
    → IsSome (after_turns from c turns) → list_all (λ k. nat_lt k (first + length from.earlier)) (map (λ (t : Turn). t.with) turns) ≡ true
turns_below from first c [] past n h = refl
turns_below from first c (t ∷ turns) past n h =
    let w = is_turn from c t turns h in
    let below = named_below from first t.with past n (rw w.named refl) in
    rw (le-leb (suc t.with) (first + length from.earlier) (omega (arith, below)))
    (turns_below from first (without c t.lit ++ without w.other (complement t.lit)) turns past n (subst (λ (o : Option (List ℤ)). IsSome o) (after_turn from c t turns w) h))

pub names_below : (from : Premises) (first k : ℕ) (turns : List Turn) → length from.formula.clauses < first → are_numbered first from.earlier ≡ true
    → IsSome (chain_clause from k turns) → list_all (λ j. nat_lt j (first + length from.earlier)) (k ∷ map (λ (t : Turn). t.with) turns) ≡ true
names_below from first k turns past n h =
    let below = named_below from first k past n (first_named from k turns h) in
    rw (le-leb (suc k) (first + length from.earlier) (omega (arith, below))) (at (clause_named from k) h)
  where
    at : (o : Option (List ℤ)) → IsSome (option_and_then (λ c. after_turns from c turns) o)
        → list_all (λ j. nat_lt j (first + length from.earlier)) (map (λ (t : Turn). t.with) turns) ≡ true
    at None h = absurd (let z : ⊥ = cc in z)
    at (Some c) h = turns_below from first c turns past n h

pub derivation_more : (first : ℕ) (steps : List Step) (s : Step) → IsDerivation first steps → s.number ≡ first + length steps
    → list_all (λ k. nat_lt k s.number) (names_of s) ≡ true → is_ascending s.clause ≡ true → IsDerivation first (steps ++ s ∷ [])
derivation_more first steps s d n names order = record {
  numbers = numbered_more first steps s d.numbers n;
  names = all_more names_lower steps s d.names names;
  clauses = all_more (λ (s : Step). is_ascending s.clause) steps s d.clauses order;
}

-- what `push_chain` leaves
pub pushed : (over : Crossed) (d : Derivation) (first number : ℕ) (turns copied : List Turn) (clause : List ℤ) (c : List ℤ)
    → length over.formula.now.clauses < d.first → IsDerivation d.first d.steps
    → IsSome (chain_clause (premises_of over d.steps) first turns)
    → number ≡ next_number d → copied ≡ turns → clause ≡ c → is_ascending c ≡ true
    → IsSameClause (Some c) (chain_clause (premises_of over d.steps) first turns)
    → IsDerivation d.first (d.steps ++ step_of number clause first copied ∷ [])
    × Extends over d first turns (record { first = d.first; steps = d.steps ++ step_of number clause first copied ∷ [] })
unfolding states_its_clause
pushed over d first number turns copied clause c past inv chain n ts cl order same = (
  derivation_more d.first d.steps (step_of number clause first copied) inv n
      (rw (ts) (subst (λ (j : ℕ). list_all (λ k. nat_lt k j) (first ∷ map (λ (t : Turn). t.with) turns) ≡ true) (sym n)
      (names_below (premises_of over d.steps) d.first first turns past inv.numbers chain)))
      (rw (cl) order),
  record {
    clause = clause;
    same_first = refl;
    steps = rw (n, ts) refl;
    stated = states_clause clause c (chain_clause (premises_of over d.steps) first turns) cl same;
    ascending = rw (cl) order;
  },
)
