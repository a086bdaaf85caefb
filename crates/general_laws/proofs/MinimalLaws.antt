-- What makes clauses minimally unsatisfiable, and that they are lean then.
use Rattle.std.proofs.Common.{◌≡◌, ℕ, Bool, true, false, not, ◌==◌, List, [], ◌∷◌, refl, sym, ◌∙◌, subst, ℤ, None, inl, inr}
use Rattle.std.proofs.lemmas.Bool.{both_ways, cases_Bool, eqb-true, eq-eqb, false_from_ne_true, not_from_false, and_from}
use Rattle.lk_model.specs.declared.class.Class.TheVariants as class
use Rattle.lk_model.specs.Lists.{among}
use Rattle.lk_model.specs.Formulas.Formula.{Cnf, clause_at}
use Rattle.lk_model.specs.Formulas.Assignment.{touches, satisfies, composed}
use Rattle.lk_model.specs.Formulas.Autarky.{Positions, Within}
use Rattle.lk_model.specs.Formulas.Lean.{Kernel, all_of, IsLean}
use Rattle.lk_model.proofs.Booleans.{and_true, or_true}
use Rattle.lk_model.proofs.Lists.{among_here}
use Rattle.lk_model.specs.Formulas.Minimal.{IsSatisfiable, IsUnsatisfiable, IsMinimallyUnsatisfiable, all_but}
use Rattle.kernel_laws.proofs.Autarkies.{untouched_in}
use Rattle.general_laws.specs.MinimalLaw.{MinimalLaw}
use Rattle.general_laws.proofs.Flips.{satisfied_first, satisfied_second}

-- a set within S that lacks p lies in S without p
lacks : (S T : Positions) (p : ℕ) → Within T S → T p ≡ false → Within T (all_but S p)
lacks S T p within none q there =
    and_from (S q) (not (q == p)) (within q there)
    (not_from_false (q == p) (false_from_ne_true (q == p) (λ same. both_ways (T p) none (subst (λ (k : ℕ). T k ≡ true) (eqb-true q p same) there))))

pub minimal : (F : Cnf) (S : Positions) → IsUnsatisfiable F S → ((p : ℕ) → S p ≡ true → IsSatisfiable F (all_but S p))
    → IsMinimallyUnsatisfiable F S
minimal F S none each = record {
  unsatisfiable = none;
  proper = λ T within p there lack. let w = each p there in (w.0, λ q m. w.1 q (lacks S T p within lack q m));
}

lean : (F : Cnf) (S : Positions) → IsMinimallyUnsatisfiable F S → IsLean class.General F S
unfolding untouched_in
lean F S m φ autarky p there touch =
    let rest = m.proper (untouched_in F S φ) (λ q h. (and_true (S q) (not (touches φ (clause_at F q))) h).0) p there
    (false_from_ne_true (untouched_in F S φ p) (λ h. both_ways (touches φ (clause_at F p)) (free p h) touch)) in
    m.unsatisfiable (composed φ rest.0) (λ q h. elim (cases_Bool (touches φ (clause_at F q))) [
      | inl y ↦ satisfied_first φ rest.0 (clause_at F q) (autarky q h y)
      | inr n ↦ satisfied_second φ rest.0 (clause_at F q) n (rest.1 q (and_from (S q) (not (touches φ (clause_at F q))) h (not_from_false (touches φ (clause_at F q)) n)))
    ])
  where
    not_free : (b : Bool) → not b ≡ true → b ≡ false
    not_free true e = absurd (let f : ⊥ = cc in f)
    not_free false e = refl

    free : (q : ℕ) → untouched_in F S φ q ≡ true → touches φ (clause_at F q) ≡ false
    free q h = not_free (touches φ (clause_at F q)) (and_true (S q) (not (touches φ (clause_at F q))) h).1

kernel : (F : Cnf) (S : Positions) (kept : List ℕ) → Within S (all_of F) → IsMinimallyUnsatisfiable F S
    → Kernel class.General F kept → Within S (among kept)
kernel F S kept within m k = k.largest S within (lean F S m)

-- an empty clause by itself
one_only : (p q : ℕ) → among (p ∷ []) q ≡ true → p ≡ q
one_only p q e = elim (or_true (p == q) false e) [
  | inl same ↦ eqb-true p q same
  | inr none ↦ absurd (let f : ⊥ = cc in f)
]

empty : (F : Cnf) (p : ℕ) → clause_at F p ≡ [] → IsMinimallyUnsatisfiable F (among (p ∷ []))
empty F p is = minimal F (among (p ∷ []))
    (λ φ model. let h : satisfies φ [] ≡ true = subst (λ (c : List ℤ). satisfies φ c ≡ true) is (model p (among_here p [])) in let f : ⊥ = cc in f)
    (λ k there. (
      λ _. None,
      λ q m.
          let both = and_true (among (p ∷ []) q) (not (q == k)) m in
          let same : q ≡ k = sym (one_only p q both.0) ∙ one_only p k there in
          absurd (let e = eq-eqb q k same in let n = both.1 in no_both (q == k) e n),
    ))
  where
    no_both : (b : Bool) → b ≡ true → not b ≡ true → ⊥
    no_both true e n = let f : ⊥ = cc in f
    no_both false e n = let f : ⊥ = cc in f

pub minimal_law : MinimalLaw
minimal_law = record { minimal = minimal; lean = lean; kernel = kernel; empty = empty }
