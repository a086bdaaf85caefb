-- Rounds that begin with P blocked, and the same rounds over the formula without P.
use Rattle.std.proofs.Common.{◌≡◌, ℕ, Bool, true, false, not, ◌&&◌, ◌||◌, ◌==◌, nat_le, cond, List, [], ◌∷◌, ◌++◌, map, filter, find, refl, sym, ◌∙◌, ap, inl, inr, ℤ, Option, Some, None, option_map}
use Rattle.std.specs.Prelude.{option_and_then}
use Rattle.std.specs.List.{list_any, flat_map}
use Rattle.std.specs.Option.{option_map_or}
use Rattle.std.proofs.lemmas.Bool.{cases_Bool}
use Rattle.lk_model.specs.Lists.{among, is_empty, with_earlier}
use Rattle.lk_model.specs.Formulas.Literal.{variable, is_within, is_same_set, is_tautology}
use Rattle.lk_model.specs.Formulas.Formula.{Cnf, clause_at, variables_to, variable_occurs}
use Rattle.lk_model.specs.Formulas.Crossed.{Variables, crossed_out, no_variable, formula_without}
use Rattle.lk_model.specs.Chains.Chain.{Premises, crossed_at, clause_named, resolvent, after_turns, chain_clause, states_its_clause, is_learned}
use Rattle.lk_model.specs.Chains.Rounds.{reached, is_refutation, used_positions, variables_used, blocked_after_round, blocked_after, StepAt, steps_in_rounds, has_progress}
use Rattle.lk_model.specs.Checks.Check.{fails}
use Rattle.lk_model.specs.Checks.RoundChecks.{bad_step, not_blocked, not_learned}
use Rattle.lk_model.specs.declared.document.Turn.{Turn}
use Rattle.lk_model.specs.declared.document.Step.{Step}
use Rattle.lk_model.specs.declared.document.Round.{Round}
use Rattle.lk_model.specs.declared.document.DoneDocument.{DoneDocument}
use Rattle.lk_model.specs.declared.verdict.Kind.TheVariants.{BadStep, NotBlocked, NotLearned}
use Rattle.lk_model.specs.Formulas.PureRun.{occurs_outside}
use Rattle.kernel_laws.proofs.Crossing.{same_count, same_positions, clause_without, occurs_without}
use Rattle.general_laws.proofs.Numbering.{premises_in}
use Rattle.general_laws.proofs.Stated.{step_at}
use Rattle.document_laws.specs.Without.{document_without}

-- CROSSED TWICE

-- some blocked variables, and those of P
abbrev pub together : Variables → Variables → Variables
together P blocked v = blocked v || P v

-- crossing out P first changes nothing
crossed_twice : (P blocked : Variables) (c : List ℤ) → crossed_out blocked (crossed_out P c) ≡ crossed_out (together P blocked) c
crossed_twice P blocked [] = refl
crossed_twice P blocked (l ∷ c) = elim (cases_Bool (P (variable l))) [
  | inl y ↦ elim (cases_Bool (blocked (variable l))) [
    | inl b ↦ rw (y, b) (crossed_twice P blocked c)
    | inr m ↦ rw (y, m) (crossed_twice P blocked c)
  ]
  | inr n ↦ elim (cases_Bool (blocked (variable l))) [
    | inl b ↦ rw (n, b) (crossed_twice P blocked c)
    | inr m ↦ rw (n, m) (ap (λ (d : List ℤ). l ∷ d) (crossed_twice P blocked c))
  ]
]

-- so the crossed clauses at a position are the same
pub crossed_same : (F : Cnf) (P blocked : Variables) (p : ℕ)
    → crossed_out (together P blocked) (clause_at F p) ≡ crossed_out blocked (clause_at (formula_without F P) p)
crossed_same F P blocked p = sym (ap (crossed_out blocked) (clause_without F P p) ∙ crossed_twice P blocked (clause_at F p))

-- BLOCKED VARIABLES

-- a round uses the same positions
used_same : (F : Cnf) (P : Variables) (r : Round) → used_positions F r ≡ used_positions (formula_without F P) r
used_same F P r = ap (filter (among (reached r.steps))) (sym (same_positions F P))

-- and the clauses there contain the same variables uncrossed
variables_same : (F : Cnf) (P blocked : Variables) (r : Round) → variables_used F (together P blocked) r ≡ variables_used (formula_without F P) blocked r
variables_same F P blocked r = λ i. flat_map (λ p. map variable (crossed_same F P blocked p i)) (used_same F P r i)

-- so after it the same variables are blocked, and those of P
round_same : (F : Cnf) (P blocked : Variables) (r : Round)
    → blocked_after_round F (together P blocked) r ≡ together P (blocked_after_round (formula_without F P) blocked r)
round_same F P blocked r = λ i v. at_variable v i
  where
    at_tests : (b p x : Bool) → ((b || p) || x) ≡ ((b || x) || p)
    at_tests true p x = refl
    at_tests false true true = refl
    at_tests false true false = refl
    at_tests false false true = refl
    at_tests false false false = refl

    at_variable : (v : ℕ) → ((blocked v || P v) || (is_refutation r.steps && among (variables_used F (together P blocked) r) v))
        ≡ ((blocked v || (is_refutation r.steps && among (variables_used (formula_without F P) blocked r) v)) || P v)
    at_variable v =
        ap (λ (used : List ℕ). (blocked v || P v) || (is_refutation r.steps && among used v)) (variables_same F P blocked r)
        ∙ at_tests (blocked v) (P v) (is_refutation r.steps && among (variables_used (formula_without F P) blocked r) v)

-- and so after all rounds
rounds_same : (F : Cnf) (P blocked : Variables) (rounds : List Round)
    → blocked_after F (together P blocked) rounds ≡ together P (blocked_after (formula_without F P) blocked rounds)
unfolding blocked_after
rounds_same F P blocked [] = refl
rounds_same F P blocked (r ∷ rounds) =
    ap (λ (b : Variables). blocked_after F b rounds) (round_same F P blocked r) ∙ rounds_same F P (blocked_after_round (formula_without F P) blocked r) rounds

-- from the beginning on, where P is blocked here and nothing there
pub blocked_same : (F : Cnf) (P : Variables) (rounds : List Round) → blocked_after F P rounds ≡ together P (blocked_after (formula_without F P) no_variable rounds)
blocked_same F P rounds = rounds_same F P no_variable rounds

-- the same rounds block a new variable
progress_from : (F : Cnf) (P blocked : Variables) (rounds : List Round) → has_progress F (together P blocked) rounds ≡ has_progress (formula_without F P) blocked rounds
unfolding has_progress
progress_from F P blocked [] = refl
progress_from F P blocked (r ∷ rounds) =
    let rest = ap (λ (b : Variables). has_progress F b rounds) (round_same F P blocked r) ∙ progress_from F P (blocked_after_round (formula_without F P) blocked r) rounds in
    λ i. (not (is_refutation r.steps) || not (is_empty (variables_same F P blocked r i))) && rest i

pub progress_same : (F : Cnf) (P : Variables) (rounds : List Round) → has_progress F P rounds ≡ has_progress (formula_without F P) no_variable rounds
progress_same F P rounds = progress_from F P no_variable rounds

-- CHAINS

-- premises in which each number stands for the same clause
record AreAlike (from other : Premises) : Type 0 where
  named : (k : ℕ) → clause_named from k ≡ clause_named other k
  crossed : (p : ℕ) → crossed_at from p ≡ crossed_at other p
  part : from.part ≡ other.part
  earlier : from.earlier ≡ other.earlier

-- the same clause comes after the turns
turns_same : (from other : Premises) → AreAlike from other → (c : List ℤ) (turns : List Turn) → after_turns from c turns ≡ after_turns other c turns
turns_same from other a c [] = refl
turns_same from other a c (t ∷ turns) =
    ap (λ (o : Option (List ℤ)). option_and_then (λ d. option_and_then (λ r. after_turns from r turns) (resolvent t.lit c d)) o) (a.named t.with)
    ∙ (λ i. option_and_then (λ d. option_and_then (λ r. turns_same from other a r turns i) (resolvent t.lit c d)) (clause_named other t.with))

-- so a step states its clause in both
stated_same : (from other : Premises) → AreAlike from other → (s : Step) → states_its_clause from s ≡ states_its_clause other s
unfolding states_its_clause
stated_same from other a s =
    let chain : chain_clause from s.first s.turns ≡ chain_clause other s.first s.turns =
    ap (λ (o : Option (List ℤ)). option_and_then (λ c. after_turns from c s.turns) o) (a.named s.first)
    ∙ (λ i. option_and_then (λ c. turns_same from other a c s.turns i) (clause_named other s.first)) in
    ap (λ (o : Option (List ℤ)). option_map_or (is_same_set s.clause) o false) chain

-- and its clause is learned in both
learned_same : (from other : Premises) → AreAlike from other → (c : List ℤ) → is_learned from c ≡ is_learned other c
unfolding is_learned
learned_same from other a c = λ i. not (is_empty c) && not (is_tautology c)
    && not (list_any (λ p. not (is_empty (a.crossed p i)) && is_within (a.crossed p i) c) (a.part i))
    && not (list_any (λ (s : Step). is_within s.clause c) (a.earlier i))

-- the premises of a round are alike
alike_without : (F : Cnf) (P : Variables) (part : List ℕ) (blocked : Variables) (earlier : List Step)
    → AreAlike (premises_in F part (together P blocked) earlier) (premises_in (formula_without F P) part blocked earlier)
alike_without F P part blocked earlier = record {
  named = λ k. λ i. cond (nat_le k (sym (same_count F P) i))
      (cond (among part k) (Some (crossed_same F P blocked k i)) None)
      (option_map (λ (s : Step). s.clause) (find (λ (s : Step). s.number == k) earlier));
  crossed = crossed_same F P blocked;
  part = refl;
  earlier = refl;
}

-- STEPS

-- the number of the first step that a test finds
abbrev number_found : (StepAt → Bool) → List StepAt → Option ℕ
number_found t steps = option_map (λ (s : StepAt). s.step.number) (find t steps)

-- tests that say the same of alike steps find the same
abbrev SaysTheSame : (StepAt → Bool) → Type 0
SaysTheSame t = (from other : Premises) → AreAlike from other → (s : Step)
    → t (record { step = s; premises = from }) ≡ t (record { step = s; premises = other })

-- in a round, with what is found after it
found_in_round : (t : StepAt → Bool) → SaysTheSame t → (F : Cnf) (P : Variables) (part : List ℕ) (blocked : Variables) (earlier steps : List Step) (rest more : List StepAt)
    → number_found t rest ≡ number_found t more
    → number_found t (map (λ (entry : List Step × Step). step_at F part (together P blocked) entry.0 entry.1) (with_earlier earlier steps) ++ rest)
    ≡ number_found t (map (λ (entry : List Step × Step). step_at (formula_without F P) part blocked entry.0 entry.1) (with_earlier earlier steps) ++ more)
found_in_round t same F P part blocked earlier [] rest more e = e
found_in_round t same F P part blocked earlier (s ∷ steps) rest more e =
    at_test (map (λ (entry : List Step × Step). step_at F part (together P blocked) entry.0 entry.1) (with_earlier (earlier ++ s ∷ []) steps) ++ rest)
    (map (λ (entry : List Step × Step). step_at (formula_without F P) part blocked entry.0 entry.1) (with_earlier (earlier ++ s ∷ []) steps) ++ more)
    (t (step_at F part (together P blocked) earlier s)) (t (step_at (formula_without F P) part blocked earlier s))
    (same (premises_in F part (together P blocked) earlier) (premises_in (formula_without F P) part blocked earlier) (alike_without F P part blocked earlier) s)
    (found_in_round t same F P part blocked (earlier ++ s ∷ []) steps rest more e)
  where
    at_test : (xs ys : List StepAt) (a b : Bool) → a ≡ b → number_found t xs ≡ number_found t ys
        → option_map (λ (s : StepAt). s.step.number) (cond a (Some (step_at F part (together P blocked) earlier s)) (find t xs))
        ≡ option_map (λ (s : StepAt). s.step.number) (cond b (Some (step_at (formula_without F P) part blocked earlier s)) (find t ys))
    at_test xs ys true true e f = refl
    at_test xs ys true false e f = absurd (let g : ⊥ = cc in g)
    at_test xs ys false true e f = absurd (let g : ⊥ = cc in g)
    at_test xs ys false false e f = f

-- and in all rounds
found_in_rounds : (t : StepAt → Bool) → SaysTheSame t → (F : Cnf) (P : Variables) (part : List ℕ) (blocked : Variables) (rounds : List Round)
    → number_found t (steps_in_rounds F part (together P blocked) rounds) ≡ number_found t (steps_in_rounds (formula_without F P) part blocked rounds)
unfolding steps_in_rounds
found_in_rounds t same F P part blocked [] = refl
found_in_rounds t same F P part blocked (r ∷ rounds) =
    found_in_round t same F P part blocked [] r.steps (steps_in_rounds F part (blocked_after_round F (together P blocked) r) rounds)
    (steps_in_rounds (formula_without F P) part (blocked_after_round (formula_without F P) blocked r) rounds)
    (ap (λ (b : Variables). number_found t (steps_in_rounds F part b rounds)) (round_same F P blocked r)
    ∙ found_in_rounds t same F P part (blocked_after_round (formula_without F P) blocked r) rounds)

-- THE CHECKS

pub bad_step_same : (F : Cnf) (P : Variables) (part : List ℕ) (rounds : List Round) → bad_step P F part rounds ≡ bad_step no_variable (formula_without F P) part rounds
unfolding bad_step
bad_step_same F P part rounds =
    let same = found_in_rounds (λ s. not (states_its_clause s.premises s.step)) (λ from other a s. ap not (stated_same from other a s)) F P part no_variable rounds in
    λ i. record { kind = BadStep; place = same i }

pub not_learned_same : (F : Cnf) (P : Variables) (part : List ℕ) (rounds : List Round) → not_learned P F part rounds ≡ not_learned no_variable (formula_without F P) part rounds
unfolding not_learned
not_learned_same F P part rounds =
    let same = found_in_rounds (λ s. not (is_empty s.step.clause) && not (is_learned s.premises s.step.clause))
    (λ from other a s. ap (λ (b : Bool). not (is_empty s.clause) && not b) (learned_same from other a s.clause)) F P part no_variable rounds in
    λ i. record { kind = NotLearned; place = same i }

pub not_blocked_same : (F : Cnf) (P : Variables) (d : DoneDocument) (rounds : List Round) → not_blocked P F d rounds ≡ not_blocked no_variable (formula_without F P) (document_without d P) rounds
unfolding not_blocked
not_blocked_same F P d rounds = λ i. fails NotBlocked (variables_to F.vars) (λ v. at_variable v i)
  where
    at_tests : (p o b : Bool) → ((not p && o) && not (b || p)) ≡ ((not p && o) && not b)
    at_tests true o b = refl
    at_tests false o true = refl
    at_tests false o false = refl

    at_variable : (v : ℕ) → (occurs_outside P F d.kept v && not (blocked_after F P rounds v))
        ≡ (variable_occurs (formula_without F P) d.kept v && not (blocked_after (formula_without F P) no_variable rounds v))
    at_variable v =
        ap (λ (b : Variables). occurs_outside P F d.kept v && not (b v)) (blocked_same F P rounds)
        ∙ at_tests (P v) (variable_occurs F d.kept v) (blocked_after (formula_without F P) no_variable rounds v)
        ∙ ap (λ (b : Bool). b && not (blocked_after (formula_without F P) no_variable rounds v)) (sym (occurs_without F P d.kept v))
