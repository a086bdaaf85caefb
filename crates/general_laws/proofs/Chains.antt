-- What chains make of fair clauses.
use Rattle.std.proofs.Common.{◌≡◌, ℕ, Bool, true, false, cond, ◌&&◌, List, [], ◌∷◌, ◌++◌, refl, sym, subst, ℤ, Option, Some, None, inl, inr, map, ◌==◌}
use Rattle.std.specs.Prelude.{option_and_then}
use Rattle.std.specs.Option.{option_map_or}
use Rattle.std.specs.List.{list_all}
use Rattle.std.proofs.lemmas.Bool.{both_ways, eqb-true}
use Rattle.lk_model.specs.Lists.{among, is_nonzero}
use Rattle.lk_model.specs.Formulas.Literal.{complement, contains, is_same_set, is_literal}
use Rattle.lk_model.specs.Chains.Chain.{Premises, clause_named, names_of, without, resolvent, after_turns, chain_clause, states_its_clause}
use Rattle.lk_model.specs.Formulas.Assignment.{Assignment, touches, satisfies}
use Rattle.lk_model.specs.declared.document.Turn.{Turn}
use Rattle.lk_model.specs.declared.document.Step.{Step}
use Rattle.lk_model.proofs.Booleans.{and_true, or_true}
use Rattle.lk_model.proofs.ListTests.{real as no_zero, all_weaker, real_literal}
use Rattle.lk_model.specs.Documents.Form.{is_step, is_turn}
use Rattle.kernel_laws.proofs.Assignments.{untouched_unsatisfied}
use Rattle.general_laws.proofs.Touching.{IsFair, unsatisfied_untouched, fair_same, unsatisfied_same, Resolves, satisfied, untouched, resolves, untouched_resolvent}

-- TURNS, TAKEN APART

-- a turn that was made: what it names, and what follows
pub record IsTurned (from : Premises) (c : List ℤ) (t : Turn) (turns : List Turn) (e : List ℤ) : Type 0 where
  pub other : List ℤ
  pub named : clause_named from t.with ≡ Some other
  pub held : contains c t.lit ≡ true
  pub against : contains other (complement t.lit) ≡ true
  pub rest : after_turns from (without c t.lit ++ without other (complement t.lit)) turns ≡ Some e

-- each turn of a chain was made so
pub turned : (from : Premises) (c : List ℤ) (t : Turn) (turns : List Turn) (e : List ℤ) → after_turns from c (t ∷ turns) ≡ Some e → IsTurned from c t turns e
turned from c t turns e h = at_clause (clause_named from t.with) refl h
  where
    at_tests : (d : List ℤ) → clause_named from t.with ≡ Some d → (x y : Bool) → contains c t.lit ≡ x → contains d (complement t.lit) ≡ y
        → option_and_then (λ r. after_turns from r turns) (cond (x && y) (Some (without c t.lit ++ without d (complement t.lit))) None) ≡ Some e → IsTurned from c t turns e
    at_tests d n true true f g h = record { other = d; named = n; held = f; against = g; rest = h }
    at_tests d n true false f g h = absurd (let z : ⊥ = cc in z)
    at_tests d n false y f g h = absurd (let z : ⊥ = cc in z)

    at_clause : (o : Option (List ℤ)) → clause_named from t.with ≡ o
        → option_and_then (λ d. option_and_then (λ r. after_turns from r turns) (resolvent t.lit c d)) o ≡ Some e → IsTurned from c t turns e
    at_clause None n h = absurd (let z : ⊥ = cc in z)
    at_clause (Some d) n h = at_tests d n (contains c t.lit) (contains d (complement t.lit)) refl refl h

-- a chain that was made: its first clause, and the clause after its turns
pub record IsChained (from : Premises) (first : ℕ) (turns : List Turn) (e : List ℤ) : Type 0 where
  pub start : List ℤ
  pub named : clause_named from first ≡ Some start
  pub rest : after_turns from start turns ≡ Some e

-- each chain was made so
pub chained : (from : Premises) (first : ℕ) (turns : List Turn) (e : List ℤ) → chain_clause from first turns ≡ Some e → IsChained from first turns e
chained from first turns e h = at_clause (clause_named from first) refl h
  where
    at_clause : (o : Option (List ℤ)) → clause_named from first ≡ o → option_and_then (λ c. after_turns from c turns) o ≡ Some e → IsChained from first turns e
    at_clause None n h = absurd (let z : ⊥ = cc in z)
    at_clause (Some c) n h = record { start = c; named = n; rest = h }

-- a step that states its chain's clause
pub record IsStated (from : Premises) (s : Step) : Type 0 where
  pub clause : List ℤ
  pub is : chain_clause from s.first s.turns ≡ Some clause
  pub same : is_same_set s.clause clause ≡ true

-- a step that passes the test states its clause
pub stated : (from : Premises) (s : Step) → states_its_clause from s ≡ true → IsStated from s
unfolding states_its_clause
stated from s h = at_clause (chain_clause from s.first s.turns) refl h
  where
    at_clause : (o : Option (List ℤ)) → chain_clause from s.first s.turns ≡ o → option_map_or (is_same_set s.clause) o false ≡ true → IsStated from s
    at_clause None n h = absurd (let z : ⊥ = cc in z)
    at_clause (Some c) n h = record { clause = c; is = n; same = h }

-- WHAT AN ASSIGNMENT MAKES OF THEM

-- each clause that a number stands for is fair
abbrev pub AreFair : Assignment → Premises → Type 0
AreFair φ from = (k : ℕ) (c : List ℤ) → clause_named from k ≡ Some c → IsFair φ c

-- the number stands for a clause that is not touched
pub record IsUntouched (φ : Assignment) (from : Premises) (k : ℕ) : Type 0 where
  pub clause : List ℤ
  pub is : clause_named from k ≡ Some clause
  pub free : touches φ clause ≡ false

-- no turn is on 0
abbrev pub are_real : List Turn → Bool
are_real turns = list_all (λ (t : Turn). is_nonzero t.lit) turns

-- the turns of a step in form are on literals
pub real_step : (n : ℕ) (s : Step) → is_step n s ≡ true → are_real s.turns ≡ true
real_step n s e =
    let turns = (and_true _ (list_all (is_turn n s.number) s.turns) e).1 in
    all_weaker (is_turn n s.number) (λ (t : Turn). is_nonzero t.lit) (λ t h. real_literal n t.lit (and_true (is_literal n t.lit) _ h).0) s.turns turns

-- the clause after turns is fair, and where it is not satisfied nothing that was used is touched
pub record IsFairAfter (φ : Assignment) (from : Premises) (c : List ℤ) (turns : List Turn) (e : List ℤ) : Type 0 where
  pub fair : IsFair φ e
  pub start : satisfies φ e ≡ false → touches φ c ≡ false
  pub named : satisfies φ e ≡ false → (k : ℕ) → among (map (λ (t : Turn). t.with) turns) k ≡ true → IsUntouched φ from k

-- a resolvent of fair clauses is fair
fair_resolvent : (φ : Assignment) (c d : List ℤ) (t u : ℤ) → Resolves φ c d (without c t ++ without d u) → IsFair φ (without c t ++ without d u)
fair_resolvent φ c d t u (satisfied s) touch = s
fair_resolvent φ c d t u (untouched a b) touch = absurd (both_ways (touches φ (without c t ++ without d u)) (untouched_resolvent φ c d t u a b) touch)

-- and where it is not touched both clauses are not
free_parts : (φ : Assignment) (c d r : List ℤ) → Resolves φ c d r → touches φ r ≡ false → (touches φ c ≡ false) × (touches φ d ≡ false)
free_parts φ c d r (satisfied s) free = absurd (both_ways (satisfies φ r) (untouched_unsatisfied φ r free) s)
free_parts φ c d r (untouched a b) free = (a, b)

-- turns make fair clauses of fair ones
pub fair_after : (φ : Assignment) (from : Premises) (turns : List Turn) (c e : List ℤ) → AreFair φ from → are_real turns ≡ true → IsFair φ c
    → after_turns from c turns ≡ Some e → IsFairAfter φ from c turns e
fair_after φ from [] c e fair real f h = let same : c ≡ e = cc in record {
  fair = subst (λ (x : List ℤ). IsFair φ x) same f;
  start = λ n. unsatisfied_untouched φ c f (subst (λ (x : List ℤ). satisfies φ x ≡ false) (sym same) n);
  named = λ n k m. absurd (let g : ⊥ = cc in g);
}
fair_after φ from (t ∷ turns) c e fair real f h =
    let reals = and_true (is_nonzero t.lit) (are_real turns) real in
    let w = turned from c t turns e h in
    let step = resolves φ t.lit c w.other (no_zero t.lit reals.0) w.held w.against f (fair t.with w.other w.named) in
    let more = fair_after φ from turns (without c t.lit ++ without w.other (complement t.lit)) e fair reals.1 (fair_resolvent φ c w.other t.lit (complement t.lit) step) w.rest in
    record {
      fair = more.fair;
      start = λ n. (free_parts φ c w.other (without c t.lit ++ without w.other (complement t.lit)) step (more.start n)).0;
      named = λ n k m. elim (or_true (t.with == k) (among (map (λ (t : Turn). t.with) turns) k) m) [
        | inl here ↦ subst (λ (j : ℕ). IsUntouched φ from j) (eqb-true t.with k here) (record {
          clause = w.other;
          is = w.named;
          free = (free_parts φ c w.other (without c t.lit ++ without w.other (complement t.lit)) step (more.start n)).1;
        })
        | inr later ↦ more.named n k later
      ];
    }

-- a step's clause is fair, and where it is not satisfied nothing that its chain names is touched
pub record IsFairStep (φ : Assignment) (from : Premises) (s : Step) : Type 0 where
  pub fair : IsFair φ s.clause
  pub named : satisfies φ s.clause ≡ false → (k : ℕ) → among (names_of s) k ≡ true → IsUntouched φ from k

-- a step over fair clauses has a fair one
pub fair_step : (φ : Assignment) (from : Premises) (s : Step) → AreFair φ from → are_real s.turns ≡ true → states_its_clause from s ≡ true → IsFairStep φ from s
fair_step φ from s fair real h =
    let w = stated from s h in
    let x = chained from s.first s.turns w.clause w.is in
    let more = fair_after φ from s.turns x.start w.clause fair real (fair s.first x.start x.named) x.rest in
    record {
      fair = fair_same φ s.clause w.clause w.same more.fair;
      named = λ n k m. let free = unsatisfied_same φ s.clause w.clause w.same n in
          elim (or_true (s.first == k) (among (map (λ (t : Turn). t.with) s.turns) k) m) [
            | inl here ↦ subst (λ (j : ℕ). IsUntouched φ from j) (eqb-true s.first k here) (record { clause = x.start; is = x.named; free = more.start free })
            | inr later ↦ more.named free k later
          ];
    }
