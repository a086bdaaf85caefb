-- How many variables are left unblocked.
use Rattle.std.proofs.Common.{◌≡◌, ℕ, ◌<◌, ◌≤◌, ◌+◌, true, false, not, List, [], ◌∷◌, refl, sym, subst, inl, inr, length, arith, filter, ◌==◌}
use Rattle.std.proofs.lemmas.Bool.{both_ways, cases_Bool, not-true, not_from_false, and_from, eq-eqb}
use Rattle.std.proofs.lemmas.List.FromFn.{length-range_with_len}
use Rattle.lk_model.specs.Lists.{among, is_empty, up_to}
use Rattle.lk_model.specs.Formulas.Literal.{variable, mentions}
use Rattle.lk_model.specs.Formulas.Formula.{Cnf, clause_at, is_formula}
use Rattle.lk_model.specs.Formulas.Crossed.{Variables}
use Rattle.lk_model.specs.Chains.Rounds.{is_refutation, variables_used, blocked_after_round}
use Rattle.lk_model.specs.declared.document.Round.{Round}
use Rattle.lk_model.proofs.Booleans.{or_left, or_right}
use Rattle.lk_model.proofs.Counting.{Differ-filter, Differ-range, no_more, fewer, in_filter, from_filter}
use Rattle.lk_model.proofs.Variables.{in_variables, variable_bound}
use Rattle.lk_model.proofs.ListTests.{passes_one}
use Rattle.kernel_laws.proofs.Clauses.{from_filtered}
use Rattle.general_laws.proofs.Blocking.{used_at}

-- the variables from 1 to n that are not blocked
abbrev pub unblocked : ℕ → Variables → List ℕ
unblocked n blocked = filter (λ v. not (blocked v)) (up_to n)

-- there are no more than n
pub few_unblocked : (n : ℕ) (blocked : Variables) → length (unblocked n blocked) ≤ n
few_unblocked n blocked =
    let few = no_more (λ v. v) (unblocked n blocked) (up_to n) (Differ-filter (λ v. not (blocked v)) (up_to n) (Differ-range 1 n))
    (record { into = λ v m. (from_filter (λ v. not (blocked v)) (up_to n) v m).1; one = λ v w m k e. e }) in
    let all : length (up_to n) ≡ n = length-range_with_len 1 n in
    omega (arith, few, all)

-- where none is left all are blocked
pub all_blocked : (n : ℕ) (blocked : Variables) → length (unblocked n blocked) ≡ 0 → (v : ℕ) → 0 < v → v ≤ n → blocked v ≡ true
all_blocked n blocked e v least most = elim (cases_Bool (blocked v)) [
  | inl b ↦ b
  | inr u ↦ absurd (none_there (unblocked n blocked) e (in_filter (λ v. not (blocked v)) (up_to n) v (not_from_false (blocked v) u) (in_variables n v (least, most))))
]
  where
    none_there : (vs : List ℕ) → length vs ≡ 0 → among vs v ≡ true → ⊥
    none_there [] e m = let f : ⊥ = cc in f
    none_there (w ∷ vs) e m = omega (arith, e)

-- what a whole round uses is a variable of the formula that was not blocked
used_open : (F : Cnf) (blocked : Variables) (r : Round) (v : ℕ) → is_formula F ≡ true → among (variables_used F blocked r) v ≡ true
    → among (unblocked F.vars blocked) v ≡ true
used_open F blocked r v form m =
    let at = used_at F blocked r v m in
    let both = from_filtered (λ l. not (blocked (variable l))) (clause_at F at.position) at.literal at.held in
    let there : mentions (clause_at F at.position) (variable at.literal) ≡ true =
    passes_one (λ l. variable l == variable at.literal) (clause_at F at.position) at.literal both.1 (eq-eqb (variable at.literal) (variable at.literal) refl) in
    subst (λ (w : ℕ). among (unblocked F.vars blocked) w ≡ true) at.on
    (in_filter (λ v. not (blocked v)) (up_to F.vars) (variable at.literal) both.0 (in_variables F.vars (variable at.literal) (variable_bound F at.position (variable at.literal) form there)))

-- after a whole round that uses a variable there is one less at least
pub round_blocks_one : (F : Cnf) (blocked : Variables) (r : Round) → is_formula F ≡ true → is_refutation r.steps ≡ true
    → is_empty (variables_used F blocked r) ≡ false → length (unblocked F.vars (blocked_after_round F blocked r)) + 1 ≤ length (unblocked F.vars blocked)
round_blocks_one F blocked r form whole some =
    let w = member (variables_used F blocked r) some in
    fewer (λ v. v) (unblocked F.vars (blocked_after_round F blocked r)) (unblocked F.vars blocked) w.0 (Differ-filter (λ v. not (blocked_after_round F blocked r v)) (up_to F.vars) (Differ-range 1 F.vars))
    (record { into = stays; one = λ v u m k e. e }) (used_open F blocked r w.0 form w.1) (λ v m e. gone v m (subst (λ (x : ℕ). among (variables_used F blocked r) x ≡ true) (sym e) w.1))
  where
    member : (vs : List ℕ) → is_empty vs ≡ false → (v : ℕ) × (among vs v ≡ true)
    member [] e = absurd (let f : ⊥ = cc in f)
    member (v ∷ vs) e = (v, or_left (v == v) (among vs v) (eq-eqb v v refl))

    still : (v : ℕ) → among (unblocked F.vars (blocked_after_round F blocked r)) v ≡ true → blocked_after_round F blocked r v ≡ false
    still v m = not-true (blocked_after_round F blocked r v) (from_filter (λ v. not (blocked_after_round F blocked r v)) (up_to F.vars) v m).0

    stays : (v : ℕ) → among (unblocked F.vars (blocked_after_round F blocked r)) v ≡ true → among (unblocked F.vars blocked) v ≡ true
    stays v m = elim (cases_Bool (blocked v)) [
      | inl b ↦ absurd (both_ways (blocked_after_round F blocked r v) (still v m) (or_left (blocked v) _ b))
      | inr u ↦ in_filter (λ v. not (blocked v)) (up_to F.vars) v (not_from_false (blocked v) u) (from_filter (λ v. not (blocked_after_round F blocked r v)) (up_to F.vars) v m).1
    ]

    gone : (v : ℕ) → among (unblocked F.vars (blocked_after_round F blocked r)) v ≡ true → among (variables_used F blocked r) v ≡ true → ⊥
    gone v m used = both_ways (blocked_after_round F blocked r v) (still v m) (or_right (blocked v) _ (and_from _ _ whole used))
