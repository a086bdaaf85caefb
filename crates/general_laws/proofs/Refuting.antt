-- Where all clauses that a refutation begins with are satisfied, all its clauses would be, and the empty one is not.
use Rattle.std.proofs.Common.{◌≡◌, ℕ, ◌+◌, true, not, List, [], ◌∷◌, ◌++◌, refl, subst, ℤ, Some, inl, inr, map, length}
use Rattle.std.specs.List.{list_all}
use Rattle.std.proofs.lemmas.Bool.{both_ways, cases_Bool, not-false}
use Rattle.lk_model.specs.Lists.{among, is_nonzero, is_empty}
use Rattle.lk_model.specs.Formulas.Literal.{variable, complement}
use Rattle.lk_model.specs.Formulas.Formula.{Cnf, clause_at}
use Rattle.lk_model.specs.Formulas.Crossed.{Variables, no_variable, crossed_out}
use Rattle.lk_model.specs.Formulas.Assignment.{Assignment, satisfies, IsModel}
use Rattle.lk_model.specs.Chains.Chain.{Premises, clause_named, without, after_turns, states_its_clause}
use Rattle.lk_model.specs.Chains.Rounds.{is_refutation}
use Rattle.lk_model.specs.Checks.RoundChecks.{bad_step, IsRefutation}
use Rattle.lk_model.specs.Documents.Form.{is_step, counts_from}
use Rattle.lk_model.specs.declared.document.Turn.{Turn}
use Rattle.lk_model.specs.declared.document.Step.{Step}
use Rattle.lk_model.specs.declared.document.Round.{Round}
use Rattle.lk_model.proofs.Booleans.{and_true}
use Rattle.lk_model.proofs.ListTests.{all_weaker, real}
use Rattle.lk_model.proofs.Founds.{option_map-none}
use Rattle.lk_model.proofs.Rounds.{whole_refutes}
use Rattle.kernel_laws.proofs.Assignments.{satisfying, satisfied_at, untouched_unsatisfied}
use Rattle.kernel_laws.proofs.Clauses.{in_filtered}
use Rattle.general_laws.proofs.Touching.{unsatisfied_same, Resolves, satisfied, untouched, resolves}
use Rattle.general_laws.proofs.Chains.{turned, chained, stated, are_real, real_step}
use Rattle.general_laws.proofs.Numbering.{premises_in, named_either, named_first}
use Rattle.general_laws.proofs.Stated.{NoneOf, none_in}
use Rattle.general_laws.proofs.Reaching.{is_misstated, are_real_steps}
use Rattle.lk_model.specs.Formulas.Minimal.{IsUnsatisfiable}
use Rattle.general_laws.specs.RefutationLaw.{RefutationLaw}

-- each clause that a number stands for is satisfied
abbrev pub AreSatisfied : Assignment → Premises → Type 0
AreSatisfied φ from = (k : ℕ) (c : List ℤ) → clause_named from k ≡ Some c → satisfies φ c ≡ true

-- TURNS AND STEPS

resolvent_satisfied : (φ : Assignment) (c d r : List ℤ) → Resolves φ c d r → satisfies φ c ≡ true → satisfies φ r ≡ true
resolvent_satisfied φ c d r (satisfied s) h = s
resolvent_satisfied φ c d r (untouched a b) h = absurd (both_ways (satisfies φ c) (untouched_unsatisfied φ c a) h)

after_satisfied : (φ : Assignment) (from : Premises) (turns : List Turn) (c e : List ℤ) → AreSatisfied φ from
    → are_real turns ≡ true → satisfies φ c ≡ true
    → after_turns from c turns ≡ Some e → satisfies φ e ≡ true
after_satisfied φ from [] c e all reals h is = let same : c ≡ e = cc in subst (λ (x : List ℤ). satisfies φ x ≡ true) same h
after_satisfied φ from (t ∷ turns) c e all reals h is =
    let both = and_true (is_nonzero t.lit) (are_real turns) reals in
    let w = turned from c t turns e is in
    let other = all t.with w.other w.named in
    let step = resolves φ t.lit c w.other (real t.lit both.0) w.held w.against (λ _. h) (λ _. other) in
    after_satisfied φ from turns (without c t.lit ++ without w.other (complement t.lit)) e all both.1 (resolvent_satisfied φ c w.other _ step h) w.rest

step_satisfied : (φ : Assignment) (from : Premises) (s : Step) → AreSatisfied φ from → are_real s.turns ≡ true
    → states_its_clause from s ≡ true → satisfies φ s.clause ≡ true
step_satisfied φ from s all reals h =
    let w = stated from s h in
    let x = chained from s.first s.turns w.clause w.is in
    let after = after_satisfied φ from s.turns x.start w.clause all reals (all s.first x.start x.named) x.rest in
    elim (cases_Bool (satisfies φ s.clause)) [
      | inl y ↦ y
      | inr n ↦ absurd (both_ways (satisfies φ w.clause) (unsatisfied_same φ s.clause w.clause w.same n) after)
    ]

-- ROUNDS

empty_unsatisfied : (φ : Assignment) (c : List ℤ) → is_empty c ≡ true → satisfies φ c ≡ true → ⊥
empty_unsatisfied φ [] e h = let f : ⊥ = cc in f
empty_unsatisfied φ (l ∷ c) e h = let f : ⊥ = cc in f

none_satisfied : (φ : Assignment) (F : Cnf) (part : List ℕ) (blocked : Variables) (earlier steps : List Step)
    → AreSatisfied φ (premises_in F part blocked earlier)
    → are_real_steps steps ≡ true → NoneOf is_misstated F part blocked earlier steps → is_refutation steps ≡ true → ⊥
none_satisfied φ F part blocked earlier [] all reals none whole = let f : ⊥ = cc in f
none_satisfied φ F part blocked earlier (s ∷ []) all reals none whole =
    empty_unsatisfied φ s.clause whole
    (step_satisfied φ (premises_in F part blocked earlier) s all (and_true (are_real s.turns) true reals).0
    (not-false (states_its_clause (premises_in F part blocked earlier) s) none.0))
none_satisfied φ F part blocked earlier (s ∷ t ∷ later) all reals none whole =
    let both = and_true (are_real s.turns) (are_real_steps (t ∷ later)) reals in
    let here = step_satisfied φ (premises_in F part blocked earlier) s all both.0 (not-false (states_its_clause (premises_in F part blocked earlier) s) none.0) in
    none_satisfied φ F part blocked (earlier ++ s ∷ []) (t ∷ later)
    (λ k c e. elim (named_either F part blocked earlier s k c e) [
      | inl before ↦ all k c before
      | inr same ↦ subst (λ (x : List ℤ). satisfies φ x ≡ true) same here
    ])
    both.1 none.1 whole

-- a model of the positions satisfies what numbers stand for where nothing is blocked
first_satisfied : (φ : Assignment) (F : Cnf) (part : List ℕ) → IsModel F (among part) φ
    → AreSatisfied φ (premises_in F part no_variable [])
first_satisfied φ F part model k c e =
    let w = named_first F part no_variable k c e in
    let x = satisfying φ (clause_at F k) (model k w.0) in
    subst (λ (d : List ℤ). satisfies φ d ≡ true) w.1
    (satisfied_at φ (crossed_out no_variable (clause_at F k)) x.0 (in_filtered (λ l. not (no_variable (variable l))) (clause_at F k) x.0 refl x.1) x.2)

-- STEPS IN FORM

pub refuted : (F : Cnf) (part : List ℕ) (r : Round) → IsRefutation F part r → IsUnsatisfiable F (among part)
unfolding bad_step
refuted F part r h φ model =
    let both = and_true (counts_from (length F.clauses + 1) (map (λ (s : Step). s.number) r.steps)) (list_all (is_step F.vars) r.steps) h.steps in
    none_satisfied φ F part no_variable [] r.steps (first_satisfied φ F part model)
    (all_weaker (is_step F.vars) (λ (s : Step). are_real s.turns) (real_step F.vars) r.steps both.1)
    (none_in is_misstated F part no_variable (r ∷ []) (option_map-none _ _ h.stated)).0
    (whole_refutes r.steps h.whole)

pub refutation_law : RefutationLaw
refutation_law = record { no_model = refuted }
