-- A class has one kernel at most, and an autarky with a lean rest shows which it is.
use Rattle.std.proofs.Common.{◌≡◌, ℕ, ◌<◌, ◌≤◌, Bool, true, false, List, [], ◌∷◌, length, refl, sym, ◌∙◌, ap, not, subst, IsTrue, arith, ◌==◌, inl, inr}
use Rattle.std.proofs.lemmas.Bool.{le-leb, eqb-true}
use Rattle.lk_model.specs.declared.class.Class.{Class}
use Rattle.lk_model.specs.Formulas.Formula.{Cnf, clause_at}
use Rattle.lk_model.specs.Formulas.Assignment.{Assignment, touches}
use Rattle.lk_model.specs.Formulas.Autarky.{Positions, Within, IsClassAutarky}
use Rattle.lk_model.specs.Lists.{among, rises_within}
use Rattle.lk_model.specs.Formulas.Lean.{IsLean, Kernel, are_positions, all_of}
use Rattle.lk_model.proofs.Booleans.{or_true}
use Rattle.lk_model.proofs.Rising.{rises, bounded}
use Rattle.lk_model.proofs.Lists.{among_here, among_later}
use Rattle.kernel_laws.proofs.Autarkies.{untouched_by}

Includes : ℕ → ℕ → List ℕ → List ℕ → Type 0
Includes low high ps qs = (p : ℕ) → low < p → p ≤ high → among ps p ≡ true → among qs p ≡ true

-- the head of one list is no less than that of a list with the same elements
head_le : (low high p q : ℕ) (ps qs : List ℕ) → rises_within low high (p ∷ ps) ≡ true → rises_within low high (q ∷ qs) ≡ true
    → Includes low high (p ∷ ps) (q ∷ qs) → q ≤ p
unfolding Includes
head_le low high p q ps qs r s i =
    let a = rises low high p ps r in
    let b = rises low high q qs s in
    elim (or_true (q == p) (among qs p) (i p a.above a.within (among_here p ps))) [
      | inl same ↦ (let e = eqb-true q p same in omega (arith, e))
      | inr more ↦ (let c = bounded q high qs p b.more more in omega (arith, c.0))
    ]

tail_includes : (low high p : ℕ) (ps qs : List ℕ) → low < p → Includes low high (p ∷ ps) (p ∷ qs) → Includes p high ps qs
unfolding Includes
tail_includes low high p ps qs above i k more within e =
    elim (or_true (p == k) (among qs k) (i k (omega (arith, above, more)) within (among_later p k ps e))) [
      | inl same ↦ (let f = eqb-true p k same in absurd (omega (arith, f, more)))
      | inr there ↦ there
    ]

same_list : (low high : ℕ) (ps qs : List ℕ) → rises_within low high ps ≡ true → rises_within low high qs ≡ true
    → Includes low high ps qs → Includes low high qs ps → ps ≡ qs
unfolding Includes
same_list low high [] [] r s i j = refl
same_list low high [] (q ∷ qs) r s i j = absurd (let b = rises low high q qs s in let e = j q b.above b.within (among_here q qs) in let f : ⊥ = cc in f)
same_list low high (p ∷ ps) [] r s i j = absurd (let b = rises low high p ps r in let e = i p b.above b.within (among_here p ps) in let f : ⊥ = cc in f)
same_list low high (p ∷ ps) (q ∷ qs) r s i j =
    let le = head_le low high p q ps qs r s i in
    let ge = head_le low high q p qs ps s r j in
    let same : q ≡ p = omega (arith, le, ge) in
    let a = rises low high p ps r in
    let s' : rises_within low high (p ∷ qs) ≡ true = subst (λ x. rises_within low high (x ∷ qs) ≡ true) same s in
    let i' : Includes low high (p ∷ ps) (p ∷ qs) = subst (λ x. Includes low high (p ∷ ps) (x ∷ qs)) same i in
    let j' : Includes low high (p ∷ qs) (p ∷ ps) = subst (λ x. Includes low high (x ∷ qs) (p ∷ ps)) same j in
    let rest : ps ≡ qs = same_list p high ps qs a.more ((rises low high p qs s').more) (tail_includes low high p ps qs a.above i') (tail_includes low high p qs ps a.above j') in
    λ k. sym same k ∷ rest k

pub one_kernel : (class : Class) (F : Cnf) (ps qs : List ℕ) → Kernel class F ps → Kernel class F qs → ps ≡ qs
unfolding Includes
one_kernel class F ps qs k l =
    same_list 0 (length F.clauses) ps qs k.positions l.positions
    (λ p above within e. l.largest (among ps) (positions ps k.positions) k.lean p e)
    (λ p above within e. k.largest (among qs) (positions qs l.positions) l.lean p e)
  where
    inside : (p : ℕ) → 0 < p → p ≤ length F.clauses → all_of F p ≡ true
    inside p above within = rw (le-leb 1 p above, le-leb p (length F.clauses) within) refl

    positions : (rs : List ℕ) → rises_within 0 (length F.clauses) rs ≡ true → Within (among rs) (all_of F)
    positions rs r p e = let b = bounded 0 (length F.clauses) rs p r e in inside p b.0 b.1

-- An autarky on all clauses that touches exactly those that are not kept leaves no lean set beyond the kept ones.
pub kernel_by : (class : Class) (F : Cnf) (kept : List ℕ) (φ : Assignment) → IsTrue (are_positions F kept) → IsLean class F (among kept)
    → IsClassAutarky class F (all_of F) φ → ((p : ℕ) → IsTrue (all_of F p) → touches φ (clause_at F p) ≡ not (among kept p)) → Kernel class F kept
kernel_by class F kept φ positions lean a touched = record {
  positions = positions;
  lean = lean;
  largest = λ S within l p s. at_test S within l p s (among kept p) refl;
}
  where
    at_test : (S : Positions) → Within S (all_of F) → IsLean class F S → (p : ℕ) → IsTrue (S p) → (b : Bool) → among kept p ≡ b → b ≡ true
    at_test S within l p s true e = refl
    at_test S within l p s false e = let t : touches φ (clause_at F p) ≡ true = touched p (within p s) ∙ ap not e in
        absurd (untouched_by class F (all_of F) S φ within a l p s t)
