-- Chains over a formula have a document's form.
use Rattle.std.proofs.Common.{◌≡◌, ℕ, suc, ◌+◌, ◌-◌, ◌*◌, ◌^◌, ◌<◌, ◌≤◌, Bool, true, false, cond, not, ◌==◌, nat_le, nat_lt, List, [], ◌∷◌, ◌++◌, refl, sym, ◌∙◌, subst, arith, ℤ, Option, Some, None, length, map, find, option_map, IsSome}
use Rattle.std.specs.List.{list_all}
use Rattle.std.specs.Prelude.{option_and_then}
use Rattle.std.specs.Option.{option_map_or}
use Rattle.std.proofs.lemmas.Bool.{leb-true, leb-false, le-leb}
use Rattle.std.proofs.lemmas.List.{length_push}
use Rattle.lk_model.specs.Lists.{among, is_between, rises_within}
use Rattle.lk_model.specs.Formulas.Literal.{complement, contains, is_literal, is_same_set, is_within, rank_of, variable}
use Rattle.lk_model.specs.Formulas.Formula.{clause_at, is_formula}
use Rattle.lk_model.specs.Held.VariableSets.{IsCrossed, is_in}
use Rattle.lk_model.specs.Documents.Form.{is_turn, is_step}
use Rattle.lk_model.specs.Chains.Chain.{Premises, crossed_at, clause_named, after_turns, names_of, states_its_clause, without}
use Rattle.lk_model.specs.Held.VariableSets.{premises_of}
use Rattle.lk_model.specs.declared.crossed.Crossed.{Crossed}
use Rattle.lk_model.specs.declared.document.Turn.{Turn}
use Rattle.lk_model.specs.declared.document.Step.{Step}
use Rattle.lk_model.proofs.Booleans.{and_true}
use Rattle.lk_model.proofs.Clauses.{literals_of}
use Rattle.lk_model.proofs.ListTests.{passes_each, all_left, all_more}
use Rattle.lk_model.proofs.Founds.{all_literals}
use Rattle.lk_model.proofs.Lists.{among_later, among_here, name_lower}
use Rattle.lk_model.proofs.Ranks.{rank_bounds}
use Rattle.refutation_log.specs.Derivation.{are_numbered, names_lower, is_ascending}
use Rattle.refutation_log.specs.InForm.{FormLaw}
use Rattle.refutation_log.proofs.Steps.{head_number, found_within, numbered_more}
use Rattle.refutation_log.proofs.Chains.{is_turn as turn_of, after_turn, position_first, step_named}
use Rattle.refutation_log.proofs.ChainNames.{state_clauses, from_chains, names_stand}
use Rattle.refutation_log.proofs.Joining.{append_all}

-- LITERALS

found_passes : (p t : Step → Bool) (steps : List Step) (s : Step) → list_all p steps ≡ true → find t steps ≡ Some s → p s ≡ true
found_passes p t [] s h e = absurd (let f : ⊥ = cc in f)
found_passes p t (u ∷ steps) s h e =
    let both = and_true (p u) (list_all p steps) h in at (t u) both.0 (found_passes p t steps s both.1) e
  where
    at : (b : Bool) → p u ≡ true → (find t steps ≡ Some s → p s ≡ true) → cond b (Some u) (find t steps) ≡ Some s → p s ≡ true
    at true here more e = let same : u ≡ s = cc in subst (λ (v : Step). p v ≡ true) same here
    at false here more e = more e

-- the clause that a number stands for has literals of the formula's variables
named_literals : (over : Crossed) (earlier : List Step) (k : ℕ) (c : List ℤ) → is_formula over.formula.now ≡ true
    → list_all (λ (s : Step). list_all (is_literal over.formula.now.vars) s.clause) earlier ≡ true
    → clause_named (premises_of over earlier) k ≡ Some c → list_all (is_literal over.formula.now.vars) c ≡ true
named_literals over earlier k c form steps e = at (nat_le k (length over.formula.now.clauses)) (among over.part.now k) e
  where
    at_step : (o : Option Step) → find (λ (s : Step). s.number == k) earlier ≡ o → option_map (λ (s : Step). s.clause) o ≡ Some c
        → list_all (is_literal over.formula.now.vars) c ≡ true
    at_step None f e = absurd (let g : ⊥ = cc in g)
    at_step (Some s) f e =
        let same : s.clause ≡ c = cc in
        subst (λ (d : List ℤ). list_all (is_literal over.formula.now.vars) d ≡ true) same
        (found_passes (λ (s : Step). list_all (is_literal over.formula.now.vars) s.clause) (λ (s : Step). s.number == k) earlier s steps f)

    at : (x y : Bool)
        → cond x (cond y (Some (crossed_at (premises_of over earlier) k)) None) (option_map (λ (s : Step). s.clause) (find (λ (s : Step). s.number == k) earlier)) ≡ Some c
        → list_all (is_literal over.formula.now.vars) c ≡ true
    at true true e =
        let same : crossed_at (premises_of over earlier) k ≡ c = cc in
        subst (λ (d : List ℤ). list_all (is_literal over.formula.now.vars) d ≡ true) same
        (all_left (is_literal over.formula.now.vars) (λ l. not (is_in over.blocked.now (variable l))) (clause_at over.formula.now k) (literals_of over.formula.now k form))
    at true false e = absurd (let g : ⊥ = cc in g)
    at false y e = at_step (find (λ (s : Step). s.number == k) earlier) refl e

-- turns are on such literals, and leave such clauses
record HasLiterals (n : ℕ) (turns : List Turn) (o : Option (List ℤ)) : Type 0 where
  lits : list_all (λ (t : Turn). is_literal n t.lit) turns ≡ true
  clause : (d : List ℤ) → o ≡ Some d → list_all (is_literal n) d ≡ true

turns_literals : (n : ℕ) (from : Premises) (c : List ℤ) (turns : List Turn) → list_all (is_literal n) c ≡ true
    → ((k : ℕ) (d : List ℤ) → clause_named from k ≡ Some d → list_all (is_literal n) d ≡ true)
    → IsSome (after_turns from c turns) → HasLiterals n turns (after_turns from c turns)
turns_literals n from c [] h named some = record { lits = refl; clause = λ d e. (let same : c ≡ d = cc in subst (λ (x : List ℤ). list_all (is_literal n) x ≡ true) same h) }
turns_literals n from c (t ∷ turns) h named some =
    let w = turn_of from c t turns some in
    let made = without c t.lit ++ without w.other (complement t.lit) in
    let e = after_turn from c t turns w in
    let literals : list_all (is_literal n) made ≡ true =
    append_all (is_literal n) (without c t.lit) (without w.other (complement t.lit)) (all_left (is_literal n) _ c h) (all_left (is_literal n) _ w.other (named t.with w.other w.named)) in
    let more = turns_literals n from made turns literals named (subst (λ (o : Option (List ℤ)). IsSome o) e some) in
    record {
      lits = rw (passes_each (is_literal n) c t.lit h w.held) more.lits;
      clause = λ d f. more.clause d (sym e ∙ f);
    }

chain_literals : (n : ℕ) (from : Premises) (s : Step) → states_its_clause from s ≡ true
    → ((k : ℕ) (d : List ℤ) → clause_named from k ≡ Some d → list_all (is_literal n) d ≡ true)
    → (list_all (λ (t : Turn). is_literal n t.lit) s.turns ≡ true) × (list_all (is_literal n) s.clause ≡ true)
unfolding states_its_clause
chain_literals n from s e named = at_first (clause_named from s.first) refl e
  where
    at_clause : (c : List ℤ) (o : Option (List ℤ)) → HasLiterals n s.turns o → option_map_or (is_same_set s.clause) o false ≡ true
        → (list_all (λ (t : Turn). is_literal n t.lit) s.turns ≡ true) × (list_all (is_literal n) s.clause ≡ true)
    at_clause c None h e = absurd (let g : ⊥ = cc in g)
    at_clause c (Some d) h e =
        let inside = (and_true (is_within s.clause d) (is_within d s.clause) e).0 in
        (h.lits, all_literals (is_literal n) s.clause (λ l m. passes_each (is_literal n) d l (h.clause d refl) (passes_each (contains d) s.clause l inside m)))

    some_of : (o : Option (List ℤ)) → option_map_or (is_same_set s.clause) o false ≡ true → IsSome o
    some_of None e = absurd (let g : ⊥ = cc in g)
    some_of (Some d) e = refl

    at_first : (o : Option (List ℤ)) → clause_named from s.first ≡ o
        → option_map_or (is_same_set s.clause) (option_and_then (λ c. after_turns from c s.turns) o) false ≡ true
        → (list_all (λ (t : Turn). is_literal n t.lit) s.turns ≡ true) × (list_all (is_literal n) s.clause ≡ true)
    at_first None f e = absurd (let g : ⊥ = cc in g)
    at_first (Some c) f e =
        at_clause c (after_turns from c s.turns) (turns_literals n from c s.turns (named s.first c f) named (some_of (after_turns from c s.turns) e)) e

-- ORDER

ranks_rise : (n low : ℕ) (c : List ℤ) → list_all (λ k. nat_lt low (rank_of k)) c ≡ true → list_all (is_literal n) c ≡ true → is_ascending c ≡ true
    → rises_within low (2 * n + 1) (map rank_of c) ≡ true
ranks_rise n low [] above lit order = refl
ranks_rise n low (l ∷ c) above lit order =
    let a = and_true (nat_lt low (rank_of l)) (list_all (λ k. nat_lt low (rank_of k)) c) above in
    let b = and_true (is_literal n l) (list_all (is_literal n) c) lit in
    let o = and_true (list_all (λ k. nat_lt (rank_of l) (rank_of k)) c) (is_ascending c) order in
    rw (a.0, le-leb (rank_of l) (2 * n + 1) (rank_bounds n l b.0).1) (ranks_rise n (rank_of l) c o.0 b.1 o.1)

above_one : (n : ℕ) (c : List ℤ) → list_all (is_literal n) c ≡ true → list_all (λ k. nat_lt 1 (rank_of k)) c ≡ true
above_one n [] lit = refl
above_one n (l ∷ c) lit =
    let b = and_true (is_literal n l) (list_all (is_literal n) c) lit in
    rw (le-leb 2 (rank_of l) (rank_bounds n l b.0).0) (above_one n c b.1)

-- NAMES

named_least : (over : Crossed) (first : ℕ) (earlier : List Step) (k : ℕ) → IsCrossed over → length over.formula.now.clauses < first → are_numbered first earlier ≡ true
    → IsSome (clause_named (premises_of over earlier) k) → 0 < k
named_least over first earlier k crossed past n h = at (nat_le k (length over.formula.now.clauses)) refl
  where
    at : (b : Bool) → nat_le k (length over.formula.now.clauses) ≡ b → 0 < k
    at true e = position_first (premises_of over earlier) k crossed.part (leb-true k (length over.formula.now.clauses) e) h
    at false e =
        let lt = leb-false k (length over.formula.now.clauses) e in
        let within = found_within first earlier k n (subst (λ (o : Option (List ℤ)). IsSome o) (step_named (premises_of over earlier) k lt) h) in
        omega (arith, within.0, past)

between : (number k : ℕ) → 0 < k → k < number → is_between 1 (number - 1) k ≡ true
between number k least most = rw (le-leb 1 k least, le-leb k (number - 1) (omega arith)) refl

turns_fit : (n number : ℕ) (turns : List Turn) → list_all (λ (t : Turn). is_literal n t.lit) turns ≡ true
    → ((k : ℕ) → among (map (λ (t : Turn). t.with) turns) k ≡ true → is_between 1 (number - 1) k ≡ true) → list_all (is_turn n number) turns ≡ true
turns_fit n number [] lit name = refl
turns_fit n number (t ∷ turns) lit name =
    let b = and_true (is_literal n t.lit) (list_all (λ (t : Turn). is_literal n t.lit) turns) lit in
    rw (b.0, name t.with (among_here t.with (map (λ (t : Turn). t.with) turns)))
    (turns_fit n number turns b.1 (λ k m. name k (among_later t.with k (map (λ (t : Turn). t.with) turns) m)))

-- THE LAW

steps_fit : (over : Crossed) (first : ℕ) (earlier steps : List Step) → IsCrossed over → is_formula over.formula.now ≡ true
    → length over.formula.now.clauses < first → first + length earlier + length steps ≤ 2 ^ 64
    → are_numbered first earlier ≡ true → are_numbered (first + length earlier) steps ≡ true → list_all names_lower steps ≡ true
    → list_all (λ (s : Step). is_ascending s.clause) steps ≡ true
    → list_all (λ (s : Step). list_all (is_literal over.formula.now.vars) s.clause) earlier ≡ true
    → state_clauses over earlier steps ≡ true → list_all (is_step over.formula.now.vars) steps ≡ true
steps_fit over first earlier [] crossed form past fits n m lower order lits e = refl
steps_fit over first earlier (s ∷ steps) crossed form past fits n m lower order lits e =
    let vars = over.formula.now.vars in
    let from = premises_of over earlier in
    let h = head_number (first + length earlier) s steps m in
    let low = and_true (names_lower s) (list_all names_lower steps) lower in
    let up = and_true (is_ascending s.clause) (list_all (λ (s : Step). is_ascending s.clause) steps) order in
    let both = and_true (states_its_clause from s) (state_clauses over (earlier ++ s ∷ []) steps) e in
    let literal = chain_literals vars from s both.0 (λ k d f. named_literals over earlier k d form lits f) in
    let name : (k : ℕ) → among (names_of s) k ≡ true → is_between 1 (s.number - 1) k ≡ true =
    λ k m. between s.number k (named_least over first earlier k crossed past n (names_stand from s k both.0 m)) (name_lower s.number (names_of s) k low.0 m) in
    let next : first + length earlier + 1 ≡ first + length (earlier ++ s ∷ []) = omega (arith, length_push earlier s) in
    rw (
      le-leb (suc s.number) (2 ^ 64) (omega (arith, h.0)),
      ranks_rise vars 1 s.clause (above_one vars s.clause literal.1) literal.1 up.0,
      name s.first (among_here s.first (map (λ (t : Turn). t.with) s.turns)),
      turns_fit vars s.number s.turns literal.0 (λ k m. name k (among_later s.first k (map (λ (t : Turn). t.with) s.turns) m)),
    )
    (steps_fit over first (earlier ++ s ∷ []) steps crossed form past (omega (arith, length_push earlier s)) (numbered_more first earlier s n h.0)
    (subst (λ j. are_numbered j steps ≡ true) next h.1) low.1 up.1
    (all_more (λ (s : Step). list_all (is_literal vars) s.clause) earlier s lits literal.1) both.1)

pub form_law : FormLaw
form_law over first steps crossed form past fits d chains =
    let none : first ≡ first + 0 = omega arith in
    steps_fit over first [] steps crossed form past (omega arith) refl (subst (λ j. are_numbered j steps ≡ true) none d.numbers) d.names d.clauses refl
    (from_chains over steps chains)
