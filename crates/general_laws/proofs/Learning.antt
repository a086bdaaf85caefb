-- A round learns fewer than 3^n clauses, and none where all variables are blocked.
use Rattle.std.proofs.Common.{◌≡◌, ℕ, ◌<◌, ◌≤◌, ◌^◌, Bool, true, false, cond, not, ◌&&◌, ◌||◌, nat_le, List, [], ◌∷◌, ◌++◌, refl, sym, ◌∙◌, ap, subst, ℤ, length, arith, map, filter}
use Rattle.std.specs.List.{list_all, list_any}
use Rattle.std.specs.Ordering.{int_eq}
use Rattle.std.proofs.lemmas.Bool.{both_ways, not-true, and_from, leb-true, not_from_true}
use Rattle.std.proofs.lemmas.List.{length-map}
use Rattle.std.proofs.lemmas.List.Folds.{list_any-append}
use Rattle.lk_model.specs.Lists.{is_empty}
use Rattle.lk_model.specs.Formulas.Literal.{variable, contains, is_literal, is_within, is_tautology}
use Rattle.lk_model.specs.Formulas.Formula.{Cnf, clause_at, is_formula}
use Rattle.lk_model.specs.Formulas.Crossed.{Variables, crossed_out}
use Rattle.lk_model.specs.Chains.Chain.{states_its_clause, is_learned}
use Rattle.lk_model.specs.Chains.Rounds.{StepAt}
use Rattle.lk_model.specs.declared.document.Step.{Step}
use Rattle.lk_model.proofs.Booleans.{and_true, or_false, or_left}
use Rattle.lk_model.proofs.Founds.{all_literals}
use Rattle.lk_model.proofs.ListTests.{literal_within}
use Rattle.lk_model.proofs.Literals.{int_self}
use Rattle.kernel_laws.proofs.Clauses.{from_filtered}
use Rattle.kernel_laws.proofs.Tests.{second_passes}
use Rattle.general_laws.specs.CountLaw.{is_proper, none_contains_earlier, are_stated, are_learned}
use Rattle.general_laws.proofs.Numbering.{premises_in, named_first}
use Rattle.general_laws.proofs.Stated.{step_at, NoneOf, none_of_all}
use Rattle.general_laws.proofs.Reaching.{is_misstated}
use Rattle.general_laws.proofs.Passing.{Passes, AllPass, StepsPass, steps_pass}
use Rattle.general_laws.proofs.Codes.{few_clauses}

-- the step has a clause that is not learned
abbrev pub is_unlearned : StepAt → Bool
is_unlearned s = not (is_empty s.step.clause) && not (is_learned s.premises s.step.clause)

-- the steps of a round whose clause is not empty
abbrev pub filled_steps : List Step → List Step
filled_steps steps = filter (λ (s : Step). not (is_empty s.clause)) steps

-- and their clauses
abbrev filled_clauses : List Step → List (List ℤ)
filled_clauses steps = map (λ (s : Step). s.clause) (filled_steps steps)

-- what is said of a learned clause
record IsLearnedAt (F : Cnf) (part : List ℕ) (blocked : Variables) (earlier : List Step) (c : List ℤ) : Type 0 where
  filled : not (is_empty c) ≡ true
  apart : not (is_tautology c) ≡ true
  new : list_any (λ (u : Step). is_within u.clause c) earlier ≡ false

-- it is known of each learned clause
learned_at : (F : Cnf) (part : List ℕ) (blocked : Variables) (earlier : List Step) (c : List ℤ) → is_learned (premises_in F part blocked earlier) c ≡ true
    → IsLearnedAt F part blocked earlier c
unfolding is_learned
learned_at F part blocked earlier c e =
    let a = and_true _ (not (list_any (λ (u : Step). is_within u.clause c) earlier)) e in
    let b = and_true (not (is_empty c) && not (is_tautology c)) _ a.0 in
    let f = and_true (not (is_empty c)) (not (is_tautology c)) b.0 in
    record { filled = f.0; apart = f.1; new = not-true (list_any (λ (u : Step). is_within u.clause c) earlier) a.1 }

-- a filled clause that is not unlearned is learned
filled_learned : (F : Cnf) (part : List ℕ) (blocked : Variables) (earlier : List Step) (s : Step) → is_unlearned (step_at F part blocked earlier s) ≡ false
    → not (is_empty s.clause) ≡ true → IsLearnedAt F part blocked earlier s.clause
filled_learned F part blocked earlier s e f =
    learned_at F part blocked earlier s.clause
    (second_passes (not (is_empty s.clause)) (is_learned (premises_in F part blocked earlier) s.clause) f e)

-- what contains no clause of earlier steps does not contain this one
abbrev IsCovered : List Step → List ℤ → Type 0
IsCovered earlier c = (d : List ℤ) → list_any (λ (u : Step). is_within u.clause d) earlier ≡ false → is_within c d ≡ false

-- a clause stays so with one more step
covered_more : (earlier : List Step) (s : Step) (c : List ℤ) → IsCovered earlier c → IsCovered (earlier ++ s ∷ []) c
covered_more earlier s c h d e =
    h d (or_false (list_any (λ (u : Step). is_within u.clause d) earlier) _ (sym (list_any-append (λ (u : Step). is_within u.clause d) earlier (s ∷ [])) ∙ e)).0

-- and the step's own clause is so from then on
covered_itself : (earlier : List Step) (s : Step) → IsCovered (earlier ++ s ∷ []) s.clause
covered_itself earlier s d e =
    (or_false (is_within s.clause d) false (or_false (list_any (λ (u : Step). is_within u.clause d) earlier) _
    (sym (list_any-append (λ (u : Step). is_within u.clause d) earlier (s ∷ [])) ∙ e)).1).0

-- so no later learned clause contains it
none_contain : (F : Cnf) (part : List ℕ) (blocked : Variables) (earlier steps : List Step) (c : List ℤ) → NoneOf is_unlearned F part blocked earlier steps
    → IsCovered earlier c → list_all (λ d. not (is_within c d)) (filled_clauses steps) ≡ true
none_contain F part blocked earlier [] c none h = refl
none_contain F part blocked earlier (s ∷ steps) c none h =
    at_test (not (is_empty s.clause)) refl (none_contain F part blocked (earlier ++ s ∷ []) steps c none.1 (covered_more earlier s c h))
  where
    at_test : (b : Bool) → not (is_empty s.clause) ≡ b → list_all (λ d. not (is_within c d)) (filled_clauses steps) ≡ true
        → list_all (λ d. not (is_within c d)) (map (λ (s : Step). s.clause) (cond b (s ∷ filled_steps steps) (filled_steps steps))) ≡ true
    at_test false f rest = rest
    at_test true f rest = let l = filled_learned F part blocked earlier s none.0 f in rw (h s.clause l.new, rest) refl

-- and so none contains an earlier one
clauses_apart : (F : Cnf) (part : List ℕ) (blocked : Variables) (earlier steps : List Step) → NoneOf is_unlearned F part blocked earlier steps
    → none_contains_earlier (filled_clauses steps) ≡ true
clauses_apart F part blocked earlier [] none = refl
clauses_apart F part blocked earlier (s ∷ steps) none =
    at_test (not (is_empty s.clause)) (clauses_apart F part blocked (earlier ++ s ∷ []) steps none.1)
  where
    at_test : (b : Bool) → none_contains_earlier (filled_clauses steps) ≡ true
        → none_contains_earlier (map (λ (s : Step). s.clause) (cond b (s ∷ filled_steps steps) (filled_steps steps))) ≡ true
    at_test false rest = rest
    at_test true rest = and_from _ _ (none_contain F part blocked (earlier ++ s ∷ []) steps s.clause none.1 (covered_itself earlier s)) rest

-- WHAT THE LITERALS ARE

-- a literal over n variables of which none is blocked
abbrev pub is_open_literal : ℕ → Variables → ℤ → Bool
is_open_literal n blocked l = is_literal n l && not (blocked (variable l))

-- each clause that a round begins with has such literals alone
pub first_pass : (F : Cnf) (part : List ℕ) (blocked : Variables) → is_formula F ≡ true → AllPass (is_open_literal F.vars blocked) (premises_in F part blocked [])
first_pass F part blocked form k c e l m =
    let w = named_first F part blocked k c e in
    let there : contains (crossed_out blocked (clause_at F k)) l ≡ true = subst (λ (x : List ℤ). contains x l ≡ true) (sym w.1) m in
    let both = from_filtered (λ l. not (blocked (variable l))) (clause_at F k) l there in
    and_from _ _ (literal_within F k l form both.1) both.0

-- so the learned clauses are proper
clauses_proper : (F : Cnf) (part : List ℕ) (blocked : Variables) (earlier steps : List Step) → NoneOf is_unlearned F part blocked earlier steps
    → StepsPass (is_open_literal F.vars blocked) steps → list_all (is_proper F.vars) (filled_clauses steps) ≡ true
clauses_proper F part blocked earlier [] none pass = refl
clauses_proper F part blocked earlier (s ∷ steps) none pass =
    at_test (not (is_empty s.clause)) refl (clauses_proper F part blocked (earlier ++ s ∷ []) steps none.1 pass.1)
  where
    at_test : (b : Bool) → not (is_empty s.clause) ≡ b → list_all (is_proper F.vars) (filled_clauses steps) ≡ true
        → list_all (is_proper F.vars) (map (λ (s : Step). s.clause) (cond b (s ∷ filled_steps steps) (filled_steps steps))) ≡ true
    at_test false f rest = rest
    at_test true f rest =
        let l = filled_learned F part blocked earlier s none.0 f in
        let over = all_literals (is_literal F.vars) s.clause (λ k m. (and_true (is_literal F.vars k) _ (pass.0 k m)).0) in
        and_from _ _ (and_from _ _ (and_from _ _ over l.filled) l.apart) rest

-- a round learns fewer than 3^n clauses
pub round_learns : (F : Cnf) (part : List ℕ) (blocked : Variables) (steps : List Step) → is_formula F ≡ true → NoneOf is_misstated F part blocked [] steps
    → NoneOf is_unlearned F part blocked [] steps → length (filled_steps steps) < 3 ^ F.vars
round_learns F part blocked steps form stated none =
    let few = few_clauses F.vars (filled_clauses steps)
    (clauses_proper F part blocked [] steps none (steps_pass (is_open_literal F.vars blocked) F part blocked [] steps (first_pass F part blocked form) stated))
    (clauses_apart F part blocked [] steps none) in
    let same : length (filled_clauses steps) ≡ length (filled_steps steps) = length-map (filled_steps steps) (λ (s : Step). s.clause) in
    omega (arith, few, same)

-- where all variables are blocked there is no filled clause
none_filled : (n : ℕ) (blocked : Variables) (steps : List Step) → ((v : ℕ) → 0 < v → v ≤ n → blocked v ≡ true) → StepsPass (is_open_literal n blocked) steps
    → filled_steps steps ≡ []
none_filled n blocked [] all pass = refl
none_filled n blocked (s ∷ steps) all pass = at_clause (none_filled n blocked steps all pass.1) s.clause pass.0
  where
    at_clause : filled_steps steps ≡ [] → (c : List ℤ) → Passes (is_open_literal n blocked) c → cond (not (is_empty c)) (s ∷ filled_steps steps) (filled_steps steps) ≡ []
    at_clause rest [] p = rest
    at_clause rest (l ∷ c) p =
        let both = and_true (is_literal n l) (not (blocked (variable l))) (p l (or_left (int_eq l l) (contains c l) (int_self l))) in
        let range = and_true (nat_le 1 (variable l)) (nat_le (variable l) n) both.0 in
        absurd (both_ways (blocked (variable l)) (not-true (blocked (variable l)) both.1)
        (all (variable l) (leb-true 1 (variable l) range.0) (leb-true (variable l) n range.1)))

-- so a round learns none there
pub round_learns_none : (F : Cnf) (part : List ℕ) (blocked : Variables) (steps : List Step) → is_formula F ≡ true → NoneOf is_misstated F part blocked [] steps
    → ((v : ℕ) → 0 < v → v ≤ F.vars → blocked v ≡ true) → length (filled_steps steps) ≡ 0
round_learns_none F part blocked steps form stated all =
    ap length (none_filled F.vars blocked steps all (steps_pass (is_open_literal F.vars blocked) F part blocked [] steps (first_pass F part blocked form) stated))

-- ROUNDS BY TESTS OF ALL STEPS

-- where the test passes no step is misstated
pub none_misstated : (F : Cnf) (part : List ℕ) (blocked : Variables) (steps : List Step) → are_stated F part blocked steps ≡ true
    → NoneOf is_misstated F part blocked [] steps
none_misstated F part blocked steps e =
    none_of_all is_misstated (λ (entry : List Step × Step). states_its_clause (premises_in F part blocked entry.0) entry.1) F part blocked [] steps
    (λ before s h. not_from_true _ h) e

-- and none is unlearned
pub none_unlearned : (F : Cnf) (part : List ℕ) (blocked : Variables) (steps : List Step) → are_learned F part blocked steps ≡ true
    → NoneOf is_unlearned F part blocked [] steps
none_unlearned F part blocked steps e =
    none_of_all is_unlearned (λ (entry : List Step × Step). is_empty entry.1.clause || is_learned (premises_in F part blocked entry.0) entry.1.clause) F part blocked [] steps
    (λ before s h. by_tests (is_empty s.clause) (is_learned (premises_in F part blocked before) s.clause) h) e
  where
    by_tests : (a b : Bool) → (a || b) ≡ true → (not a && not b) ≡ false
    by_tests true b e = refl
    by_tests false true e = refl
    by_tests false false e = absurd (let f : ⊥ = cc in f)

-- so steps that state their clauses and learn them are fewer than 3^n
pub few_steps : (F : Cnf) (part : List ℕ) (blocked : Variables) (steps : List Step) → is_formula F ≡ true → are_stated F part blocked steps ≡ true
    → are_learned F part blocked steps ≡ true → length (filled_steps steps) < 3 ^ F.vars
few_steps F part blocked steps form stated learned =
    round_learns F part blocked steps form (none_misstated F part blocked steps stated) (none_unlearned F part blocked steps learned)
