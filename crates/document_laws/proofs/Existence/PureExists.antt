-- A formula has a pure run, and so a pure kernel.
use Rattle.std.proofs.Common.{◌≡◌, ℕ, zero, suc, ◌≤◌, ◌+◌, true, false, not, ◌==◌, List, [], ◌∷◌, ◌++◌, length, refl, sym, ◌∙◌, subst, arith, ℤ, Option, Some, None}
use Rattle.std.proofs.lemmas.Bool.{both_ways, not-true, not_from_false, false_from_ne_true, eq-eqb}
use Rattle.lk_model.specs.declared.class.Class.TheVariants as class
use Rattle.lk_model.specs.Lists.{among}
use Rattle.lk_model.specs.Formulas.Literal.{variable, complement, contains, mentions}
use Rattle.lk_model.specs.Formulas.Formula.{Cnf, clause_at, is_formula, positions_of, literal_occurs}
use Rattle.lk_model.specs.Formulas.Crossed.{Variables, no_variable, formula_without}
use Rattle.lk_model.specs.Formulas.Assignment.{assignment_of, touches}
use Rattle.lk_model.specs.Formulas.PureRun.{untouched, least_pure, RunsOn}
use Rattle.lk_model.proofs.Booleans.{and_true, or_left, or_right}
use Rattle.lk_model.proofs.Crossings.{formula_form}
use Rattle.lk_model.proofs.Counting.{Differ-filter, Differ-range, fewer, in_filter, from_filter}
use Rattle.lk_model.proofs.ListTests.{passing, passes_one}
use Rattle.kernel_laws.specs.KernelLaw.{HasKernel}
use Rattle.pure_laws.proofs.PureLiterals.{least_is_pure, touches_more}
use Rattle.pure_laws.proofs.PureLaws.{pure_law}
use Rattle.document_laws.proofs.Existence.Searching.{kernel_under}

-- the next literal leaves fewer positions untouched
next_fewer : (F : Cnf) (done : List ℤ) (l : ℤ) → least_pure F (untouched F done) ≡ Some l
    → length (untouched F (done ++ l ∷ [])) + 1 ≤ length (untouched F done)
next_fewer F done l e =
    let some = and_true (literal_occurs F (untouched F done) l) (not (literal_occurs F (untouched F done) (complement l))) (least_is_pure F (untouched F done) l e) in
    let w = passing (λ p. contains (clause_at F p) l) (untouched F done) some.0 in
    fewer (λ p. p) (untouched F (done ++ l ∷ [])) (untouched F done) w.0 (Differ-filter (λ p. not (touches (assignment_of (done ++ l ∷ [])) (clause_at F p))) (positions_of F) (Differ-range 1 (length F.clauses)))
    (record { into = still; one = λ p q m k s. s }) w.1
    (λ p m s. both_ways (touches (assignment_of (done ++ l ∷ [])) (clause_at F p)) (free (done ++ l ∷ []) p m)
    (touches_more done (clause_at F p) l ∙ or_right (touches (assignment_of done) (clause_at F p)) _ (subst (λ (q : ℕ). mentions (clause_at F q) (variable l) ≡ true) (sym s)
    (passes_one (λ k. variable k == variable l) (clause_at F w.0) l w.2 (eq-eqb (variable l) (variable l) refl)))))
  where
    free : (order : List ℤ) (p : ℕ) → among (untouched F order) p ≡ true → touches (assignment_of order) (clause_at F p) ≡ false
    free order p m = not-true _ (from_filter (λ q. not (touches (assignment_of order) (clause_at F q))) (positions_of F) p m).0

    still : (p : ℕ) → among (untouched F (done ++ l ∷ [])) p ≡ true → among (untouched F done) p ≡ true
    still p m =
        in_filter (λ q. not (touches (assignment_of done) (clause_at F q))) (positions_of F) p
        (not_from_false (touches (assignment_of done) (clause_at F p)) (false_from_ne_true _ (λ t.
        both_ways (touches (assignment_of (done ++ l ∷ [])) (clause_at F p)) (free (done ++ l ∷ []) p m)
        (touches_more done (clause_at F p) l ∙ or_left (touches (assignment_of done) (clause_at F p)) _ t))))
        (from_filter (λ q. not (touches (assignment_of (done ++ l ∷ [])) (clause_at F q))) (positions_of F) p m).1

-- so the run goes on to its end
runs_on : (F : Cnf) (n : ℕ) (done : List ℤ) → length (untouched F done) ≤ n → (order : List ℤ) × RunsOn F done order
runs_on F zero done few = at_next (least_pure F (untouched F done)) refl
  where
    at_next : (o : Option ℤ) → least_pure F (untouched F done) ≡ o → (order : List ℤ) × RunsOn F done order
    at_next None e = ([], e)
    at_next (Some l) e = let less = next_fewer F done l e in absurd (omega (arith, less, few))
runs_on F (suc n) done few = at_next (least_pure F (untouched F done)) refl (λ l. runs_on F n (done ++ l ∷ []))
  where
    at_next : (o : Option ℤ) → least_pure F (untouched F done) ≡ o
        → ((l : ℤ) → length (untouched F (done ++ l ∷ [])) ≤ n → (order : List ℤ) × RunsOn F (done ++ l ∷ []) order)
        → (order : List ℤ) × RunsOn F done order
    at_next None e rest = ([], e)
    at_next (Some l) e rest = let less = next_fewer F done l e in let w = rest l (omega (arith, less, few)) in (l ∷ w.0, (e, w.1))

-- and leaves the kernel
plain_pure : (F : Cnf) → is_formula F ≡ true → HasKernel no_variable class.Pure F
plain_pure F form = let w = runs_on F (length (untouched F [])) [] (omega arith) in (untouched F w.0, (pure_law.run F w.0 form w.1).kernel)

pub pure_exists : (P : Variables) (F : Cnf) → is_formula F ≡ true → HasKernel P class.Pure F
pure_exists P F form = kernel_under P class.Pure F (plain_pure (formula_without F P) (formula_form P F form))
