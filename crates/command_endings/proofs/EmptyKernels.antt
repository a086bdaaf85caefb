-- Where the matching kernel is empty, there is nothing to search.
use Rattle.std.proofs.Common.{◌≡◌, ◌∙◌, ℕ, ℤ, ◌==◌, true, List, [], ◌∷◌, ◌++◌, Option, Some, None, map, length, arith, refl, subst, sym, ap}
use Rattle.std.specs.List.{AllByRecursion}
use Rattle.std.proofs.lemmas.Bool.{and_from, eq-eqb, eqb-true, le-leb}
use Rattle.lk_model.specs.Lists.{among, is_empty}
use Rattle.lk_model.specs.Formulas.Formula.{Cnf, clause_at, clauses_at, positions_of, first_empty}
use Rattle.lk_model.specs.Formulas.Lean.{Kernel, all_of}
use Rattle.lk_model.specs.Formulas.Parts.{IsPart}
use Rattle.lk_model.specs.declared.class.Class.TheVariants.{Matching}
use Rattle.lk_model.proofs.Founds.{up_to_bounds}
use Rattle.lk_model.proofs.Lists.{among_here}
use Rattle.lk_model.proofs.Literals.{empty_is}
use Rattle.lk_model.proofs.Rising.{bounded}
use Rattle.kernel_laws.proofs.Kernels.{one_kernel}
use Rattle.kernel_laws.proofs.Lines.{found_any, found_passes}
use Rattle.kernel_solve.specs.KernelParts.{told, AreMatchingParts}

-- no clause is empty: each kernel has the empty ones, since nothing touches them
pub no_empty : (F : Cnf) → Kernel Matching F [] → (o : Option ℕ) → first_empty F ≡ o → o ≡ None
no_empty F k None is = refl
no_empty F k (Some p) found =
    let there : among (positions_of F) p ≡ true = found_any (λ q. is_empty (clause_at F q)) (λ q. q == p) (positions_of F) p found (eq-eqb p p refl) in
    let empty : clause_at F p ≡ [] = empty_is (clause_at F p) (found_passes (λ q. is_empty (clause_at F q)) (positions_of F) p found) in
    let b = up_to_bounds (length F.clauses) p there in
    let kept : among [] p ≡ true = k.largest (λ q. q == p)
    (λ q same. subst (λ (j : ℕ). all_of F j ≡ true) (sym (eqb-true q p same)) (and_from _ _ (le-leb 1 p b.0) (le-leb p (length F.clauses) b.1)))
    (λ φ autarky q same touched. let is : clause_at F q ≡ [] = ap (clause_at F) (eqb-true q p same) ∙ empty in cc (is, touched))
    p (eq-eqb p p refl) in
    absurd (let f : ⊥ = cc kept in f)

-- a formula without clauses has no part
no_part : (F : Cnf) (part : List ℕ) → F.clauses ≡ [] → IsPart F part → ⊥
no_part F [] none h = h
no_part F (p ∷ ps) none h =
    let b = bounded 0 (length F.clauses) (p ∷ ps) p h.0 (among_here p ps) in
    let low = b.0 in let high = b.1 in
    let count : length F.clauses ≡ 0 = ap (λ (cs : List (List ℤ)). length cs) none in
    omega (arith, low, high, count)

-- and so no part of the kernel is anywhere in a list of them
pub no_kernel_part : (F : Cnf) (before behind : List (List ℕ)) (part : List ℕ) → Kernel Matching F [] → AreMatchingParts F (before ++ part ∷ behind) → ⊥
no_kernel_part F before behind part k m = listed before (at m.are.parts m.are.are.each m.are.told_are)
  where
    none : (clauses_at F m.kept).clauses ≡ []
    none = ap (map (clause_at F)) (one_kernel Matching F m.kept [] m.kernel k)

    at : (parts : List (List ℕ)) → AllByRecursion (IsPart (clauses_at F m.kept)) parts → before ++ part ∷ behind ≡ map (told m.kept) parts → before ++ part ∷ behind ≡ []
    at [] each is = is
    at (q ∷ qs) each is = absurd (no_part (clauses_at F m.kept) q none each.0)

    listed : (ps : List (List ℕ)) → ps ++ part ∷ behind ≡ [] → ⊥
    listed [] e = cc e
    listed (q ∷ ps) e = cc e
