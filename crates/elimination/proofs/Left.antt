-- Positions that are collected one after another.
use Rattle.std.proofs.Common.{◌≡◌, ℕ, ◌+◌, ◌≤◌, true, List, [], ◌∷◌, ◌++◌, refl, sym, subst, arith, Bool}
use Rattle.std.specs.List.{list_all}
use Rattle.std.proofs.lemmas.Bool.{le-leb, lt-ltb}
use Rattle.lk_model.specs.Lists.{rises_within}
use Rattle.lk_model.proofs.ListTests.{all_more}
use Rattle.lk_model.proofs.Rising.{rises, rises_to}

-- the next number behind those up to a number
pub one_more : (low k : ℕ) (ps : List ℕ) → rises_within low k ps ≡ true → low ≤ k → rises_within low (k + 1) (ps ++ (k + 1) ∷ []) ≡ true
one_more low k [] h le = rw (lt-ltb low (k + 1) (omega (arith, le)), le-leb (k + 1) (k + 1) (omega arith)) refl
one_more low k (p ∷ ps) h le =
    let r = rises low k p ps h in
    rw (lt-ltb low p r.above, le-leb p (k + 1) (omega (arith, r.within))) (one_more p k ps r.more r.within)

pub taken : (t : ℕ → Bool) (k : ℕ) (before after : List ℕ) → (rises_within 0 k before ≡ true) × (list_all t before ≡ true) → after ≡ before ++ (k + 1) ∷ []
    → t (k + 1) ≡ true → (rises_within 0 (k + 1) after ≡ true) × (list_all t after ≡ true)
taken t k before after h is e = subst (λ (ps : List ℕ). (rises_within 0 (k + 1) ps ≡ true) × (list_all t ps ≡ true)) (sym is)
    (one_more 0 k before h.0 (omega arith), all_more t before (k + 1) h.1 e)

pub passed_over : (t : ℕ → Bool) (k : ℕ) (before after : List ℕ) → (rises_within 0 k before ≡ true) × (list_all t before ≡ true) → after ≡ before
    → (rises_within 0 (k + 1) after ≡ true) × (list_all t after ≡ true)
passed_over t k before after h is = subst (λ (ps : List ℕ). (rises_within 0 (k + 1) ps ≡ true) × (list_all t ps ≡ true)) (sym is)
    (rises_to 0 k (k + 1) before (omega arith) h.0, h.1)
