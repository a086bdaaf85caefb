-- What the chains of a list of steps name.
use Rattle.std.proofs.Common.{◌≡◌, ℕ, zero, suc, ◌+◌, ◌<◌, ◌≤◌, Bool, true, false, ◌==◌, nat_le, nat_lt, List, [], ◌∷◌, ◌++◌, refl, sym, subst, arith, ℤ, Option, Some, None, length, map, Contains, IsSome, ◌⊎◌, inl, inr}
use Rattle.std.specs.List.{list_all}
use Rattle.std.specs.Option.{option_map_or}
use Rattle.std.specs.Prelude.{option_and_then}
use Rattle.std.proofs.lemmas.Bool.{leb-true, leb-false, eqb-true}
use Rattle.std.proofs.lemmas.List.{length_push, append-nil, append_assoc}
use Rattle.lk_model.specs.Lists.{among, with_earlier}
use Rattle.lk_model.specs.Formulas.Literal.{complement, is_same_set}
use Rattle.lk_model.specs.Chains.Chain.{Premises, clause_named, after_turns, chain_clause, names_of, states_its_clause, without}
use Rattle.lk_model.specs.Held.VariableSets.{premises_of}
use Rattle.lk_model.specs.declared.crossed.Crossed.{Crossed}
use Rattle.lk_model.specs.declared.document.Turn.{Turn}
use Rattle.lk_model.specs.declared.document.Step.{Step}
use Rattle.refutation_log.specs.Derivation.{next_number, are_numbered, names_lower, are_chains, step_of, PushedLaw}
use Rattle.refutation_log.proofs.Steps.{head_number, found_within, numbered_more}
use Rattle.lk_model.proofs.Booleans.{and_true, or_true}
use Rattle.refutation_log.proofs.Chains.{is_turn, after_turn, first_named, step_named, names_below}

turns_named : (from : Premises) (c : List ℤ) (turns : List Turn) (k : ℕ) → IsSome (after_turns from c turns)
    → among (map (λ (t : Turn). t.with) turns) k ≡ true → IsSome (clause_named from k)
turns_named from c [] k h m = absurd (let f : ⊥ = cc in f)
turns_named from c (t ∷ turns) k h m =
    let w = is_turn from c t turns h in
    elim (or_true (t.with == k) (among (map (λ (t : Turn). t.with) turns) k) m) [
      | inl here ↦ subst (λ j. IsSome (clause_named from j)) (eqb-true t.with k here) (rw (w.named) refl)
      | inr more ↦ turns_named from (without c t.lit ++ without w.other (complement t.lit)) turns k (rw (← after_turn from c t turns w) h) more
    ]

pub has_clause : (from : Premises) (s : Step) → states_its_clause from s ≡ true → IsSome (chain_clause from s.first s.turns)
unfolding states_its_clause
has_clause from s e = at (chain_clause from s.first s.turns) e
  where
    at : (o : Option (List ℤ)) → option_map_or (is_same_set s.clause) o false ≡ true → IsSome o
    at None e = absurd (let f : ⊥ = cc in f)
    at (Some c) e = refl

-- each number that a chain names stands for a clause
pub names_stand : (from : Premises) (s : Step) (k : ℕ) → states_its_clause from s ≡ true → among (names_of s) k ≡ true → IsSome (clause_named from k)
names_stand from s k e m =
    let h = has_clause from s e in
    elim (or_true (s.first == k) (among (map (λ (t : Turn). t.with) s.turns) k) m) [
      | inl here ↦ subst (λ j. IsSome (clause_named from j)) (eqb-true s.first k here) (first_named from s.first s.turns h)
      | inr more ↦ at (clause_named from s.first) h more
    ]
  where
    at : (o : Option (List ℤ)) → IsSome (option_and_then (λ c. after_turns from c s.turns) o) → among (map (λ (t : Turn). t.with) s.turns) k ≡ true
        → IsSome (clause_named from k)
    at None h more = absurd (let f : ⊥ = cc in f)
    at (Some c) h more = turns_named from c s.turns k h more

-- a number that stands for a clause is that of a position or of a step
pub stands_at : (from : Premises) (first k : ℕ) → are_numbered first from.earlier ≡ true → IsSome (clause_named from k)
    → (k < suc (length from.formula.clauses)) ⊎ (first ≤ k)
stands_at from first k n h = at (nat_le k (length from.formula.clauses)) refl
  where
    at : (b : Bool) → nat_le k (length from.formula.clauses) ≡ b → (k < suc (length from.formula.clauses)) ⊎ (first ≤ k)
    at true e = inl (let le = leb-true k (length from.formula.clauses) e in omega (arith, le))
    at false e =
        let lt = leb-false k (length from.formula.clauses) e in
        inr (found_within first from.earlier k n (subst (λ (o : Option (List ℤ)). IsSome o) (step_named from k lt) h)).0

-- each step states the clause of its chain, where these steps come before the first
abbrev pub state_clauses : Crossed → List Step → List Step → Bool
state_clauses over before steps = list_all (λ (earlier, s). states_its_clause (premises_of over earlier) s) (with_earlier before steps)

pub from_chains : (over : Crossed) (steps : List Step) → are_chains over steps ≡ true → state_clauses over [] steps ≡ true
unfolding are_chains
from_chains over steps e = e

pub to_chains : (over : Crossed) (steps : List Step) → state_clauses over [] steps ≡ true → are_chains over steps ≡ true
unfolding are_chains
to_chains over steps e = e

pub lower_after : (over : Crossed) (first : ℕ) (before steps : List Step) → length over.formula.now.clauses < first → are_numbered first before ≡ true
    → are_numbered (first + length before) steps ≡ true → state_clauses over before steps ≡ true → list_all names_lower steps ≡ true
lower_after over first before [] past n m e = refl
lower_after over first before (s ∷ steps) past n m e =
    let h = head_number (first + length before) s steps m in
    let both = and_true (states_its_clause (premises_of over before) s) (state_clauses over (before ++ s ∷ []) steps) e in
    let below = names_below (premises_of over before) first s.first s.turns past n (has_clause (premises_of over before) s both.0) in
    let here : names_lower s ≡ true = subst (λ j. list_all (λ k. nat_lt k j) (names_of s) ≡ true) (sym h.0) below in
    let next : first + length before + 1 ≡ first + length (before ++ s ∷ []) = omega (arith, length_push before s) in
    rw (here) (lower_after over first (before ++ s ∷ []) steps past (numbered_more first before s n h.0)
    (subst (λ j. are_numbered j steps ≡ true) next h.1) both.1)

-- chains name lower numbers
pub chains_lower : (over : Crossed) (first : ℕ) (steps : List Step) → length over.formula.now.clauses < first → are_numbered first steps ≡ true
    → are_chains over steps ≡ true → list_all names_lower steps ≡ true
chains_lower over first steps past n e =
    let none : first ≡ first + 0 = omega arith in
    lower_after over first [] steps past refl (subst (λ j. are_numbered j steps ≡ true) none n) (from_chains over steps e)

pub sides_after : (over : Crossed) (first : ℕ) (before steps : List Step) → are_numbered first before ≡ true
    → are_numbered (first + length before) steps ≡ true → state_clauses over before steps ≡ true
    → (s : Step) → Contains steps s → (k : ℕ) → among (names_of s) k ≡ true → (k < suc (length over.formula.now.clauses)) ⊎ (first ≤ k)
sides_after over first before [] n m e s (i, lt, same) k name = absurd (omega (arith, lt))
sides_after over first before (u ∷ steps) n m e s (zero, lt, same) k name =
    let both = and_true (states_its_clause (premises_of over before) u) (state_clauses over (before ++ u ∷ []) steps) e in
    stands_at (premises_of over before) first k n
    (names_stand (premises_of over before) u k both.0 (subst (λ (v : Step). among (names_of v) k ≡ true) (sym same) name))
sides_after over first before (u ∷ steps) n m e s (suc i, lt, same) k name =
    let h = head_number (first + length before) u steps m in
    let both = and_true (states_its_clause (premises_of over before) u) (state_clauses over (before ++ u ∷ []) steps) e in
    let next : first + length before + 1 ≡ first + length (before ++ u ∷ []) = omega (arith, length_push before u) in
    sides_after over first (before ++ u ∷ []) steps (numbered_more first before u n h.0) (subst (λ j. are_numbered j steps ≡ true) next h.1) both.1
    s (i, omega (arith, lt), same) k name

-- each name is that of a position or of a step
pub chain_sides : (over : Crossed) (first : ℕ) (steps : List Step) → are_numbered first steps ≡ true → are_chains over steps ≡ true
    → (s : Step) → Contains steps s → (k : ℕ) → among (names_of s) k ≡ true → (k < suc (length over.formula.now.clauses)) ⊎ (first ≤ k)
chain_sides over first steps n e =
    let none : first ≡ first + 0 = omega arith in
    sides_after over first [] steps refl (subst (λ j. are_numbered j steps ≡ true) none n) (from_chains over steps e)

-- one more step that states its clause
pub state_push : (over : Crossed) (before steps : List Step) (s : Step) → state_clauses over before steps ≡ true
    → states_its_clause (premises_of over (before ++ steps)) s ≡ true → state_clauses over before (steps ++ s ∷ []) ≡ true
state_push over before [] s e here =
    rw (subst (λ (earlier : List Step). states_its_clause (premises_of over earlier) s ≡ true) (append-nil before) here) refl
state_push over before (u ∷ steps) s e here =
    let both = and_true (states_its_clause (premises_of over before) u) (state_clauses over (before ++ u ∷ []) steps) e in
    rw (both.0) (state_push over (before ++ u ∷ []) steps s both.1
    (subst (λ (earlier : List Step). states_its_clause (premises_of over earlier) s ≡ true) (sym (append_assoc before (u ∷ []) steps)) here))

pub pushed_law : PushedLaw
pushed_law = record {
  none = λ over. to_chains over [] refl;
  more = λ over before after first turns e h.
      subst (λ (steps : List Step). are_chains over steps ≡ true) (sym h.steps)
      (to_chains over (before.steps ++ step_of (next_number before) h.clause first turns ∷ [])
      (state_push over [] before.steps (step_of (next_number before) h.clause first turns) (from_chains over before.steps e) h.stated));
}
