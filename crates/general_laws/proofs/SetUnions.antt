-- The literals of two set lines together.
use Rattle.std.proofs.Common.{◌≡◌, ℕ, suc, Bool, true, false, cond, not, ◌||◌, ◌==◌, List, refl, sym, ◌∙◌, subst, ℤ, pos, negsuc, neg_ℤ, Some, None, is_some, unwrap_or, ◌⊎◌, inl, inr}
use Rattle.std.proofs.lemmas.Bool.{both_ways, false_from_ne_true}
use Rattle.lk_model.specs.Formulas.Literal.{variable, contains, mentions}
use Rattle.lk_model.specs.Formulas.Assignment.{assignment_of, makes_true, satisfies}
use Rattle.lk_model.proofs.Booleans.{or_true}
use Rattle.lk_model.proofs.Variables.{literal_passing}
use Rattle.lk_model.proofs.ListTests.{passes_one}
use Rattle.lk_model.proofs.Literals.{variable_complement}
use Rattle.kernel_laws.proofs.Clauses.{mentions_of}
use Rattle.kernel_laws.proofs.Assignments.{satisfied_at, satisfying}

-- a variable that is set is mentioned
pub set_mentioned : (ls : List ℤ) (v : ℕ) → is_some (assignment_of ls v) ≡ true → mentions ls v ≡ true
set_mentioned ls v e = at_tests (contains ls (pos v)) refl (contains ls (neg_ℤ (pos v))) refl e
  where
    at_tests : (a : Bool) → contains ls (pos v) ≡ a → (b : Bool) → contains ls (neg_ℤ (pos v)) ≡ b
        → is_some (cond a (Some true) (cond b (Some false) None)) ≡ true → mentions ls v ≡ true
    at_tests true m b n e = mentions_of ls (pos v) m
    at_tests false m true n e = subst (λ (u : ℕ). mentions ls u ≡ true) (variable_complement (pos v)) (mentions_of ls (neg_ℤ (pos v)) n)
    at_tests false m false n e = absurd (let f : ⊥ = cc in f)

-- what makes a literal true: the literal, and for a negative one no positive one
plain_true : (a b : Bool) → unwrap_or (cond a (Some true) (cond b (Some false) None)) false ≡ true → a ≡ true
plain_true true b e = refl
plain_true false true e = absurd (let f : ⊥ = cc in f)
plain_true false false e = absurd (let f : ⊥ = cc in f)

-- a negative literal is true where it stands in the list and its complement does not
negated_true : (a b : Bool) → not (unwrap_or (cond a (Some true) (cond b (Some false) None)) true) ≡ true → (a ≡ false) × (b ≡ true)
negated_true true b e = absurd (let f : ⊥ = cc in f)
negated_true false true e = (refl, refl)
negated_true false false e = absurd (let f : ⊥ = cc in f)

-- a literal that some literals make true, others make true that are the same on its variable
true_where_same : (ls ns : List ℤ) (l : ℤ) → ((k : ℤ) → mentions ls (variable k) ≡ true → contains ns k ≡ contains ls k)
    → makes_true (assignment_of ls) l ≡ true → makes_true (assignment_of ns) l ≡ true
true_where_same ls ns (pos v) same e =
    let held = plain_true (contains ls (pos v)) (contains ls (neg_ℤ (pos v))) e in
    let there : contains ns (pos v) ≡ true = same (pos v) (mentions_of ls (pos v) held) ∙ held in
    rw there refl
true_where_same ls ns (negsuc k) same e =
    let held = negated_true (contains ls (pos (suc k))) (contains ls (negsuc k)) e in
    let on : mentions ls (suc k) ≡ true = mentions_of ls (negsuc k) held.1 in
    let out : contains ns (pos (suc k)) ≡ false = same (pos (suc k)) on ∙ held.0 in
    let there : contains ns (negsuc k) ≡ true = same (negsuc k) on ∙ held.1 in
    rw (out, there) refl

-- so they satisfy the clauses that the first satisfy
pub satisfied_where_same : (ls ns c : List ℤ) → ((k : ℤ) → mentions ls (variable k) ≡ true → contains ns k ≡ contains ls k)
    → satisfies (assignment_of ls) c ≡ true → satisfies (assignment_of ns) c ≡ true
satisfied_where_same ls ns c same e =
    let w = satisfying (assignment_of ls) c e in
    satisfied_at (assignment_of ns) c w.0 w.1 (true_where_same ls ns w.0 same w.2)

-- literals of which none is on a variable of the first change nothing there
pub satisfied_by_more : (ls ms ns c : List ℤ) → ((k : ℤ) → contains ns k ≡ (contains ls k || contains ms k))
    → ((v : ℕ) → mentions ls v ≡ true → mentions ms v ≡ false) → satisfies (assignment_of ls) c ≡ true → satisfies (assignment_of ns) c ≡ true
satisfied_by_more ls ms ns c union apart = satisfied_where_same ls ns c
    (λ k on. union k ∙ or_none (contains ls k) (contains ms k) (false_from_ne_true _ (λ m. both_ways (mentions ms (variable k)) (apart (variable k) on) (mentions_of ms k m))))
  where
    or_none : (a b : Bool) → b ≡ false → (a || b) ≡ a
    or_none true b e = refl
    or_none false b e = e

-- a variable that both together mention one of them mentions
pub mentioned_either : (ls ms ns : List ℤ) (v : ℕ) → ((k : ℤ) → contains ns k ≡ (contains ls k || contains ms k)) → mentions ns v ≡ true
    → (mentions ls v ≡ true) ⊎ (mentions ms v ≡ true)
mentioned_either ls ms ns v union e =
    let w = literal_passing (λ l. variable l == v) ns e in
    elim (or_true (contains ls w.0) (contains ms w.0) (sym (union w.0) ∙ w.1)) [
      | inl m ↦ inl (passes_one (λ l. variable l == v) ls w.0 m w.2)
      | inr m ↦ inr (passes_one (λ l. variable l == v) ms w.0 m w.2)
    ]
