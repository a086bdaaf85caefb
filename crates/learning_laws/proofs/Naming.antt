-- What the numbers of held clauses stand for.
use Rattle.std.proofs.Common.{◌≡◌, ◌∙◌, ℕ, ◌+◌, ◌<◌, ◌==◌, ◌∷◌, [], Bool, true, false, not, cond, ◌||◌, List, ℤ, Option, Some, None, IsSome, option_map, filter, find, map, length, nat_le, nat_lt, refl, sym, ap, subst, arith}
use Rattle.std.specs.Option.{option_or}
use Rattle.std.proofs.lemmas.Bool.{eqb-true, le-leb, lt-ltb, false_from_ne_true}
use Rattle.std.proofs.lemmas.List.Folds.{find-append}
use Rattle.lk_model.specs.Lists.{among, is_empty}
use Rattle.lk_model.specs.Formulas.Formula.{clause_at}
use Rattle.lk_model.specs.Held.VariableSets.{IsCrossed, is_in, premises_of}
use Rattle.lk_model.specs.Formulas.Crossed.{crossed_out}
use Rattle.lk_model.specs.Chains.Chain.{Premises}
use Rattle.lk_model.specs.declared.crossed.Crossed.{Crossed}
use Rattle.lk_model.specs.declared.document.Step.{Step}
use Rattle.lk_model.proofs.Booleans.{or_left, or_right}
use Rattle.lk_model.proofs.Rising.{bounded}
use Rattle.refutation_log.specs.Derivation.{are_numbered, clause_of_step}
use Rattle.refutation_log.proofs.Steps.{found_within}
use Rattle.refutation_log.proofs.Chains.{step_named, named_below}
use Rattle.watch_prop.specs.declared.entry.NumberedClause.{NumberedClause}
use Rattle.watch_prop.specs.Trail.{clause_numbered}
use Rattle.watch_prop.specs.Propagation.{Propagation, numbers_of, crossed_clauses}
use Rattle.learning_laws.specs.Learned.{HoldsAll, held_step}
use Rattle.learning_laws.specs.ChainLaw.{IsHeldName}

-- a clause found among the crossed ones
record IsCrossedAt (over : Crossed) (ps : List ℕ) (k : ℕ) (d : NumberedClause) : Type 0 where
  position : among ps k ≡ true
  clause : d.lits ≡ crossed_out (is_in over.blocked.now) (clause_at over.formula.now k)
  filled : not (is_empty d.lits) ≡ true

-- each that is found by a number stands at this position
crossed_found : (over : Crossed) (ps : List ℕ) (k : ℕ) (d : NumberedClause) → find (λ (c : NumberedClause). c.number == k) (filter (λ (c : NumberedClause). not (is_empty c.lits))
    (map (λ p. record { number = p; lits = crossed_out (is_in over.blocked.now) (clause_at over.formula.now p) }) ps)) ≡ Some d → IsCrossedAt over ps k d
crossed_found over [] k d e = absurd (let f : ⊥ = cc in f)
crossed_found over (p ∷ ps) k d e =
    at_empty (is_empty (crossed_out (is_in over.blocked.now) (clause_at over.formula.now p))) refl e (crossed_found over ps k d)
  where
    here : NumberedClause
    here = record { number = p; lits = crossed_out (is_in over.blocked.now) (clause_at over.formula.now p) }

    rest_of : List NumberedClause
    rest_of = filter (λ (c : NumberedClause). not (is_empty c.lits)) (map (λ p. record { number = p; lits = crossed_out (is_in over.blocked.now) (clause_at over.formula.now p) }) ps)

    later : IsCrossedAt over ps k d → IsCrossedAt over (p ∷ ps) k d
    later x = record { position = or_right (p == k) (among ps k) x.position; clause = x.clause; filled = x.filled }

    at_number : is_empty here.lits ≡ false → (b : Bool) → (p == k) ≡ b → cond b (Some here) (find (λ (c : NumberedClause). c.number == k) rest_of) ≡ Some d
        → (find (λ (c : NumberedClause). c.number == k) rest_of ≡ Some d → IsCrossedAt over ps k d) → IsCrossedAt over (p ∷ ps) k d
    at_number f true g e rest =
        let same : here ≡ d = cc in
        subst (λ (x : NumberedClause). IsCrossedAt over (p ∷ ps) k x) same (record {
          position = or_left (p == k) (among ps k) g;
          clause = ap (λ (n : ℕ). crossed_out (is_in over.blocked.now) (clause_at over.formula.now n)) (eqb-true p k g);
          filled = ap not f;
        })
    at_number f false g e rest = later (rest e)

    at_empty : (b : Bool) → is_empty here.lits ≡ b → find (λ (c : NumberedClause). c.number == k) (cond (not b) (here ∷ rest_of) rest_of) ≡ Some d
        → (find (λ (c : NumberedClause). c.number == k) rest_of ≡ Some d → IsCrossedAt over ps k d) → IsCrossedAt over (p ∷ ps) k d
    at_empty true f e rest = later (rest e)
    at_empty false f e rest = at_number f (p == k) refl e rest

-- a step found by its number, as it is held
step_found : (steps : List Step) (k : ℕ) → find (λ (c : NumberedClause). c.number == k) (map held_step steps) ≡ option_map held_step (find (λ (s : Step). s.number == k) steps)
step_found [] k = refl
step_found (s ∷ steps) k = at_number (s.number == k) (step_found steps k)
  where
    at_number : (b : Bool) → find (λ (c : NumberedClause). c.number == k) (map held_step steps) ≡ option_map held_step (find (λ (s : Step). s.number == k) steps)
        → cond b (Some (held_step s)) (find (λ (c : NumberedClause). c.number == k) (map held_step steps)) ≡ option_map held_step (cond b (Some s) (find (λ (s : Step). s.number == k) steps))
    at_number true e = refl
    at_number false e = e

-- its clause is that of the step
step_clause : (steps : List Step) (k : ℕ) (d : NumberedClause) → find (λ (c : NumberedClause). c.number == k) (map held_step steps) ≡ Some d → clause_of_step steps k ≡ Some d.lits
step_clause steps k d e = at_step (find (λ (s : Step). s.number == k) steps) refl (sym (step_found steps k) ∙ e)
  where
    at_step : (o : Option Step) → find (λ (s : Step). s.number == k) steps ≡ o → option_map held_step o ≡ Some d → clause_of_step steps k ≡ Some d.lits
    at_step None f g = absurd (let z : ⊥ = cc in z)
    at_step (Some s) f g =
        let same : held_step s ≡ d = cc in
        ap (option_map (λ (s : Step). s.clause)) f ∙ ap (λ (x : NumberedClause). Some x.lits) same

-- what the number of a held clause stands for
pub held_named : (over : Crossed) (steps : List Step) (p : Propagation) (first k : ℕ) (c : List ℤ) → IsCrossed over → length over.formula.now.clauses < first
    → are_numbered first steps ≡ true → HoldsAll over steps p → clause_numbered p.clauses k ≡ Some c → IsHeldName over steps k c
held_named over steps p first k c crossed past numbers holds e =
    at_found (find t (crossed_clauses over)) refl (find t (map held_step steps)) refl
    (sym (ap (option_map (λ (c : NumberedClause). c.lits)) (find-append t (crossed_clauses over) (map held_step steps)))
    ∙ sym (ap (λ (cs : List NumberedClause). clause_numbered cs k) holds) ∙ e)
  where
    t : NumberedClause → Bool
    t = λ (c : NumberedClause). c.number == k

    from : Premises
    from = premises_of over steps

    by_step : (d : NumberedClause) → find t (map held_step steps) ≡ Some d → d.lits ≡ c → IsHeldName over steps k c
    by_step d f same =
        let clause = step_clause steps k d f in
        let within = found_within first steps k numbers (subst (λ (o : Option (List ℤ)). IsSome o) (sym clause) refl) in
        let low = within.0 in
        let above : length over.formula.now.clauses < k = omega (arith, past, low) in
        record {
          named = step_named from k above ∙ clause ∙ ap (λ (x : List ℤ). Some x) same;
          filled = or_left (nat_lt (length over.formula.now.clauses) k) _ (lt-ltb (length over.formula.now.clauses) k above);
        }

    by_position : (d : NumberedClause) → find t (crossed_clauses over) ≡ Some d → d.lits ≡ c → IsHeldName over steps k c
    by_position d f same =
        let x = crossed_found over over.part.now k d f in
        let bounds = bounded 0 (length over.formula.now.clauses) over.part.now k crossed.part x.position in
        let le : nat_le k (length over.formula.now.clauses) ≡ true = le-leb k (length over.formula.now.clauses) bounds.1 in
        record {
          named = rw (le, x.position) (ap (λ (y : List ℤ). Some y) (sym x.clause ∙ same));
          filled = or_right (nat_lt (length over.formula.now.clauses) k) _ (subst (λ (y : List ℤ). not (is_empty y) ≡ true) x.clause x.filled);
        }

    at_found : (a : Option NumberedClause) → find t (crossed_clauses over) ≡ a → (b : Option NumberedClause) → find t (map held_step steps) ≡ b
        → option_map (λ (c : NumberedClause). c.lits) (option_or a b) ≡ Some c → IsHeldName over steps k c
    at_found (Some d) f b g h = by_position d f (let same : d.lits ≡ c = cc in same)
    at_found None f (Some d) g h = by_step d g (let same : d.lits ≡ c = cc in same)
    at_found None f None g h = absurd (let z : ⊥ = cc in z)

-- a clause has each number of the list
number_found : (ds : List NumberedClause) (k : ℕ) → among (numbers_of ds) k ≡ true → IsSome (clause_numbered ds k)
number_found [] k e = absurd (let f : ⊥ = cc in f)
number_found (d ∷ ds) k e = at_number (d.number == k) e (number_found ds k)
  where
    at_number : (b : Bool) → (b || among (numbers_of ds) k) ≡ true → (among (numbers_of ds) k ≡ true → IsSome (clause_numbered ds k))
        → IsSome (option_map (λ (c : NumberedClause). c.lits) (cond b (Some d) (find (λ (c : NumberedClause). c.number == k) ds)))
    at_number true e rest = refl
    at_number false e rest = rest e

-- the number of the next step is new
pub next_fresh : (over : Crossed) (steps : List Step) (p : Propagation) (first : ℕ) → IsCrossed over → length over.formula.now.clauses < first
    → are_numbered first steps ≡ true → HoldsAll over steps p → not (among (numbers_of p.clauses) (first + length steps)) ≡ true
next_fresh over steps p first crossed past numbers holds =
    ap not (false_from_ne_true (among (numbers_of p.clauses) (first + length steps))
    (λ e. at_clause (clause_numbered p.clauses (first + length steps)) refl (number_found p.clauses (first + length steps) e)))
  where
    at_clause : (o : Option (List ℤ)) → clause_numbered p.clauses (first + length steps) ≡ o → IsSome o → ⊥
    at_clause None f s = (let z : ⊥ = cc in z)
    at_clause (Some c) f s =
        let x = held_named over steps p first (first + length steps) c crossed past numbers holds f in
        let below = named_below (premises_of over steps) first (first + length steps) past numbers (subst (λ (o : Option (List ℤ)). IsSome o) (sym x.named) refl) in
        omega (arith, below)
