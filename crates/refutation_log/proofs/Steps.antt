-- Steps that are numbered one after another.
use Rattle.std.proofs.Common.{◌≡◌, ℕ, zero, suc, ◌+◌, ◌-◌, ◌<◌, ◌≤◌, Bool, true, false, cond, ◌==◌, List, [], ◌∷◌, ◌++◌, refl, sym, ◌∙◌, ap, subst, arith, ℤ, Some, length, get_or, find, option_map, IsSome}
use Rattle.std.proofs.lemmas.Bool.{eqb-true, eq-eqb, ne_eqb as differ_test}
use Rattle.lk_model.specs.Lists.{is_empty}
use Rattle.lk_model.specs.Chains.Rounds.{is_refutation}
use Rattle.lk_model.specs.declared.document.Step.{Step}
use Rattle.refutation_log.specs.Derivation.{are_numbered, clause_of_step, last_clause_of}
use Rattle.lk_model.proofs.Booleans.{and_true}

pub head_number : (first : ℕ) (s : Step) (steps : List Step) → are_numbered first (s ∷ steps) ≡ true → (s.number ≡ first) × (are_numbered (first + 1) steps ≡ true)
head_number first s steps e = let b = and_true (s.number == first) (are_numbered (first + 1) steps) e in (eqb-true s.number first b.0, b.1)

-- a step is found at its place
pub found_at : (first : ℕ) (steps : List Step) (i : ℕ) (d : Step) → are_numbered first steps ≡ true → i < length steps
    → find (λ (s : Step). s.number == first + i) steps ≡ Some (get_or steps i d)
found_at first [] i d n lt = absurd (omega arith)
found_at first (s ∷ steps) zero d n lt =
    let h = head_number first s steps n in
    let t : (s.number == first + 0) ≡ true = eq-eqb s.number (first + 0) (omega (arith, h.0)) in
    rw t refl
found_at first (s ∷ steps) (suc i) d n lt =
    let h = head_number first s steps n in
    let t : (s.number == first + suc i) ≡ false = differ_test s.number (first + suc i) (λ e. omega (arith, h.0, e)) in
    let more = found_at (first + 1) steps i d h.1 (omega arith) in
    let same : first + suc i ≡ first + 1 + i = omega arith in
    rw t (subst (λ k. find (λ (u : Step). u.number == k) steps ≡ Some (get_or steps i d)) (sym same) more)

-- and only numbers of steps are found
pub found_within : (first : ℕ) (steps : List Step) (k : ℕ) → are_numbered first steps ≡ true
    → IsSome (clause_of_step steps k) → (first ≤ k) × (k < first + length steps)
found_within first [] k n h = absurd (let f : ⊥ = cc in f)
found_within first (s ∷ steps) k n h =
    at_test (found_within (first + 1) steps k (head_number first s steps n).1) (s.number == k) refl h
  where
    at_test : (IsSome (clause_of_step steps k) → (first + 1 ≤ k) × (k < first + 1 + length steps)) → (b : Bool) → (s.number == k) ≡ b
        → IsSome (option_map (λ (u : Step). u.clause) (cond b (Some s) (find (λ (u : Step). u.number == k) steps)))
        → (first ≤ k) × (k < first + suc (length steps))
    at_test more true e h = let same = eqb-true s.number k e in let first' = (head_number first s steps n).0 in (omega (arith, same, first'), omega (arith, same, first'))
    at_test more false e h = let w = more h in (omega (arith, w.0), omega (arith, w.1))

pub last_at : (steps : List Step) (d : Step) → 0 < length steps → last_clause_of steps ≡ Some (get_or steps (length steps - 1) d).clause
last_at [] d lt = absurd (omega arith)
last_at (s ∷ []) d lt = refl
last_at (s ∷ t ∷ later) d lt =
    let e : length (s ∷ t ∷ later) - 1 ≡ suc (length (t ∷ later) - 1) = omega arith in
    rw e (last_at (t ∷ later) d (omega arith))

-- the last clause is empty where it has no literal
pub last_refutes : (steps : List Step) (c : List ℤ) → last_clause_of steps ≡ Some c → is_refutation steps ≡ (length c == 0)
last_refutes [] c e = absurd (let f : ⊥ = cc in f)
last_refutes (s ∷ []) c e = let same : s.clause ≡ c = cc in ap (λ (d : List ℤ). is_empty d) same ∙ at c
  where
    at : (c : List ℤ) → is_empty c ≡ (length c == 0)
    at [] = refl
    at (l ∷ c) = sym (differ_test (length (l ∷ c)) 0 (λ e. omega (arith, e)))
last_refutes (s ∷ t ∷ later) c e = last_refutes (t ∷ later) c e

-- one more step
pub numbered_more : (first : ℕ) (steps : List Step) (s : Step) → are_numbered first steps ≡ true → s.number ≡ first + length steps
    → are_numbered first (steps ++ s ∷ []) ≡ true
numbered_more first [] s n e = rw (eq-eqb s.number first (omega (arith, e))) refl
numbered_more first (t ∷ steps) s n e =
    let h = head_number first t steps n in
    rw (eq-eqb t.number first h.0) (numbered_more (first + 1) steps s h.1 (omega (arith, e)))

-- there is one of each number from the first one on
pub stands_within : (first : ℕ) (steps : List Step) (k : ℕ) → are_numbered first steps ≡ true → first ≤ k → k < first + length steps
    → IsSome (clause_of_step steps k)
stands_within first steps k n le lt =
    let d : Step = record { number = 0; clause = []; first = 0; turns = [] } in
    let same : first + (k - first) ≡ k = omega arith in
    let here = subst (λ j. find (λ (s : Step). s.number == j) steps ≡ Some (get_or steps (k - first) d)) same (found_at first steps (k - first) d n (omega arith)) in
    rw here refl

-- the clause of a step, read at its place
pub clause_at_place : (first : ℕ) (steps : List Step) (k : ℕ) (d : Step) → are_numbered first steps ≡ true → first ≤ k → k < first + length steps
    → d ≡ get_or steps (k - first) d → clause_of_step steps k ≡ Some d.clause
clause_at_place first steps k d n le lt e =
    let here = found_at first steps (k - first) d n (omega arith) in
    let same : first + (k - first) ≡ k = omega arith in
    ap (option_map (λ (s : Step). s.clause)) (subst (λ j. find (λ (s : Step). s.number == j) steps ≡ Some (get_or steps (k - first) d)) same here ∙ ap Some (sym e))

-- the number of the step at a place
pub number_get : (first : ℕ) (steps : List Step) (i : ℕ) (s : Step) → are_numbered first steps ≡ true → i < length steps → s ≡ get_or steps i s
    → s.number ≡ first + i
number_get first [] i s n lt e = absurd (omega arith)
number_get first (t ∷ steps) zero s n lt e =
    let h = head_number first t steps n in ap (λ (u : Step). u.number) e ∙ (omega (arith, h.0))
number_get first (t ∷ steps) (suc i) s n lt e =
    let h = head_number first t steps n in
    let more = number_get (first + 1) steps i s h.1 (omega arith) e in omega (arith, more)
