-- Chains over other clauses.
use Rattle.std.proofs.Common.{◌≡◌, ℕ, Bool, true, false, cond, not, ◌==◌, nat_le, List, [], ◌∷◌, ◌++◌, refl, sym, ◌∙◌, ap, subst, ℤ, Option, Some, None, IsSome, length, map, append_assoc}
use Rattle.std.proofs.lemmas.Bool.{eq-eqb}
use Rattle.std.proofs.lemmas.List.{map-id}
use Rattle.lk_model.specs.Lists.{among}
use Rattle.lk_model.specs.Formulas.Literal.{variable, mentions}
use Rattle.lk_model.specs.Formulas.Formula.{Cnf, clause_at}
use Rattle.lk_model.specs.Formulas.Crossed.{Variables, crossed_out}
use Rattle.lk_model.specs.Held.VariableSets.{is_in, premises_of}
use Rattle.lk_model.specs.Chains.Chain.{Premises, clause_named, chain_clause, names_of, states_its_clause}
use Rattle.lk_model.specs.declared.crossed.Crossed.{Crossed}
use Rattle.lk_model.specs.declared.document.Step.{Step}
use Rattle.lk_model.specs.declared.document.Turn.{Turn}
use Rattle.lk_model.proofs.Booleans.{and_true, or_left, or_right}
use Rattle.refutation_log.specs.Numbers.{is_named}
use Rattle.refutation_log.specs.OtherPremises.{HasNamed, OtherPremisesLaw}
use Rattle.refutation_log.proofs.ChainNames.{state_clauses, from_chains, to_chains, names_stand}
use Rattle.refutation_log.proofs.TrimmedLaws.{chain_new}

-- the same numbers
chain_same : (from to : Premises) (first : ℕ) (turns : List Turn)
    → ((k : ℕ) → among (first ∷ map (λ (t : Turn). t.with) turns) k ≡ true → clause_named to k ≡ clause_named from k)
    → chain_clause to first turns ≡ chain_clause from first turns
chain_same from to first turns same =
    ap (chain_clause to first) (sym (map-id turns)) ∙ chain_new from to (λ k. k) first turns same

stated_same : (from to : Premises) (s : Step) → ((k : ℕ) → among (names_of s) k ≡ true → clause_named to k ≡ clause_named from k)
    → states_its_clause to s ≡ states_its_clause from s
unfolding states_its_clause
stated_same from to s same = rw (chain_same from to s.first s.turns same) refl

-- a clause is crossed out the same by sets that have the same of its variables
crossed_same : (P Q : Variables) (c : List ℤ) → ((v : ℕ) → mentions c v ≡ true → Q v ≡ P v) → crossed_out Q c ≡ crossed_out P c
crossed_same P Q [] same = refl
crossed_same P Q (l ∷ c) same =
    rw (same (variable l) (or_left (variable l == variable l) (mentions c (variable l)) (eq-eqb (variable l) (variable l) refl)))
    (ap (λ (d : List ℤ). cond (not (P (variable l))) (l ∷ d) d) (crossed_same P Q c (λ v m. same v (or_right (variable l == v) (mentions c v) m))))

none_some : (o : Option (List ℤ)) → o ≡ None → IsSome o → ⊥
none_some None e some = (let z : ⊥ = cc in z)
none_some (Some c) e some = (let z : ⊥ = cc in z)

-- what a named number stands for is the same over the other clauses
named_same : (over other : Crossed) (steps earlier : List Step) (k : ℕ) → HasNamed steps over other → is_named steps k ≡ true
    → IsSome (clause_named (premises_of over earlier) k) → clause_named (premises_of other earlier) k ≡ clause_named (premises_of over earlier) k
named_same over other steps earlier k h named some =
    subst (λ (F : Cnf). clause_named (record { formula = F; part = other.part.now; blocked = is_in other.blocked.now; earlier = earlier }) k ≡ clause_named (premises_of over earlier) k)
    (sym h.formula) (at (nat_le k (length over.formula.now.clauses)) refl (among over.part.now k) refl some)
  where
    over_same : Premises
    over_same = record { formula = over.formula.now; part = other.part.now; blocked = is_in other.blocked.now; earlier = earlier }

    at : (low : Bool) → nat_le k (length over.formula.now.clauses) ≡ low → (there : Bool) → among over.part.now k ≡ there
        → IsSome (clause_named (premises_of over earlier) k)
        → clause_named over_same k ≡ clause_named (premises_of over earlier) k
    at true e true m some =
        rw (e, m, h.positions k named m)
        (ap Some (crossed_same (is_in over.blocked.now) (is_in other.blocked.now) (clause_at over.formula.now k) (λ v there. h.blocked k v named m there)))
    at true e false m some =
        let none : clause_named (premises_of over earlier) k ≡ None = rw (e, m) refl in
        absurd (none_some (clause_named (premises_of over earlier) k) none some)
    at false e there m some = rw (e) refl

-- what one of the steps names is named
named_in : (steps : List Step) (s : Step) (later : List Step) (before : List Step) (k : ℕ) → steps ≡ before ++ s ∷ later → among (names_of s) k ≡ true → is_named steps k ≡ true
named_in steps s later before k e m = subst (λ (ss : List Step). is_named ss k ≡ true) (sym e) (at before)
  where
    at : (before : List Step) → is_named (before ++ s ∷ later) k ≡ true
    at [] = or_left (among (names_of s) k) (is_named later k) m
    at (u ∷ before) = or_right (among (names_of u) k) (is_named (before ++ s ∷ later) k) (at before)

chains_same : (over other : Crossed) (steps before later : List Step) → HasNamed steps over other → steps ≡ before ++ later
    → state_clauses over before later ≡ true → state_clauses other before later ≡ true
chains_same over other steps before [] h e stated = refl
chains_same over other steps before (s ∷ later) h e stated =
    let both = and_true (states_its_clause (premises_of over before) s) (state_clauses over (before ++ s ∷ []) later) stated in
    let here : states_its_clause (premises_of other before) s ≡ true =
    stated_same (premises_of over before) (premises_of other before) s
    (λ k m. named_same over other steps before k h (named_in steps s later before k e m) (names_stand (premises_of over before) s k both.0 m)) ∙ both.0 in
    rw (here) (chains_same over other steps (before ++ s ∷ []) later h (e ∙ sym (append_assoc before (s ∷ []) later)) both.1)

pub other_premises_law : OtherPremisesLaw
other_premises_law = record {
  clause = chain_same;
  stated = stated_same;
  chains = λ over other steps h stated. to_chains other steps (chains_same over other steps [] steps h refl (from_chains over steps stated));
}
