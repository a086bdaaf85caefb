-- Kernels of worked formulas, class by class.
use Rattle.std.specs.Prelude.{◌≡◌, ◌↔◌, ◌||◌, ◌&&◌, is_some, ◌==◌, ◌≤ℤ◌, ℕ, zero, suc, Bool, true, false, Option, Some, None, IfSome, List, [], ◌∷◌, ℤ, pos, negsuc, IsTrue, refl}
use Rattle.std.specs.List.{list_any}
use Rattle.std.specs.Ordering.{int_eq}
use Rattle.std.proofs.Common.{arith, sym, subst, ◌∙◌}
use Rattle.lk_model.proofs.Literals.{same_int}
use Rattle.lk_model.specs.declared.class.Class.{Class}
use Rattle.lk_model.specs.declared.class.Class.TheVariants.{Pure, Matching, Linear, General}
use Rattle.lk_model.specs.Lists.{among}
use Rattle.lk_model.specs.Formulas.Literal.{variable, complement, contains}
use Rattle.lk_model.specs.Formulas.Formula.{Cnf, clause_at}
use Rattle.lk_model.specs.Formulas.Assignment.{Assignment, makes_true, touches, satisfies}
use Rattle.lk_model.specs.Formulas.Balance.{Weighting}
use Rattle.lk_model.specs.Formulas.Autarky.{Positions, Within, IsAutarky, IsClassAutarky, IsPureAutarky, HasEarlier, first_sign, first_balance}
use Rattle.lk_model.specs.Formulas.Lean.{Kernel, all_of, IsLean}
use Rattle.kernel_laws.proofs.Autarkies.{autarky-within}
use Rattle.kernel_laws.proofs.Reductions.{class_satisfies}
use Rattle.test_definitions.proofs.WorkedDocuments.{clash}
use Rattle.test_definitions.proofs.WorkedClasses.{tautology, one_true, general_of_tautology, matching_of_tautology, linear_of_tautology}

-- NO CLAUSE, OVER ANY NUMBER OF VARIABLES

no_clause : ℕ → Cnf
no_clause n = record { vars = n; clauses = [] }

kernel_of_none : (class : Class) (n : ℕ) → Kernel class (no_clause n) []
unfolding no_clause
kernel_of_none class n = record {
  positions = refl;
  lean = λ φ a p s t. (let f : ⊥ = cc in f);
  largest = λ S within lean p s. within_none p (within p s);
}
  where
    within_none : (p : ℕ) → IsTrue (all_of (no_clause n) p) → IsTrue (among [] p)
    within_none zero h = cc
    within_none (suc p) h = absurd (let f : ⊥ = grind (arith, h) in f)

-- {1}, {-1} AND {2}: FOR EACH CLASS THE FIRST TWO ARE KEPT, AND THE THIRD GOES

abbrev units : List ℕ
units = 1 ∷ 2 ∷ []

-- the value of 1 in an assignment that satisfies the units that it touches
not_set : (v : Option Bool) → (IsTrue (touches (λ _. v) (pos 1 ∷ [])) → IsTrue (satisfies (λ _. v) (pos 1 ∷ [])))
    → (IsTrue (touches (λ _. v) (negsuc 0 ∷ [])) → IsTrue (satisfies (λ _. v) (negsuc 0 ∷ []))) → IsTrue (touches (λ _. v) (pos 1 ∷ [])) → ⊥
not_set None e f t = cc
not_set (Some true) e f t = (let g = f refl in let h : ⊥ = cc in h)
not_set (Some false) e f t = (let g = e refl in let h : ⊥ = cc in h)

-- an autarky that set 1 would have to satisfy both units
neither : (φ : Assignment) → IsAutarky clash (among units) φ → (p : ℕ) → IsTrue (among units p) → IsTrue (touches φ (clause_at clash p)) → ⊥
neither φ a zero s t = cc
neither φ a (suc zero) s t = not_set (φ 1) (a 1 refl) (a 2 refl) t
neither φ a (suc (suc zero)) s t = not_set (φ 1) (a 1 refl) (a 2 refl) t
neither φ a (suc (suc (suc p))) s t = absurd (let f : ⊥ = grind (arith, s) in f)

-- 2 is true, and nothing else is set
abbrev two_true : Assignment
two_true zero = None
two_true (suc zero) = None
two_true (suc (suc zero)) = Some true
two_true (suc (suc (suc v))) = None

abbrev one_on_second : Weighting
one_on_second zero = pos 0
one_on_second (suc zero) = pos 0
one_on_second (suc (suc zero)) = pos 1
one_on_second (suc (suc (suc v))) = pos 0

-- an autarky of each class
removes : (class : Class) → IsClassAutarky class clash (all_of clash) two_true
removes Pure = record { order = pos 2 ∷ []; once = refl; true_literals = same; earlier = (at, tt) }
  where
    same : (l : ℤ) → IsTrue (contains (pos 2 ∷ []) l) ↔ IsTrue (makes_true two_true l)
    same (pos zero) = (λ h. h, λ h. h)
    same (pos (suc zero)) = (λ h. h, λ h. h)
    same (pos (suc (suc zero))) = (λ h. h, λ h. h)
    same (pos (suc (suc (suc v)))) = (λ h. absurd (let f : ⊥ = grind (arith, h) in f), λ h. absurd (let f : ⊥ = cc in f))
    same (negsuc zero) = (λ h. h, λ h. h)
    same (negsuc (suc zero)) = (λ h. h, λ h. h)
    same (negsuc (suc (suc k))) = (λ h. h, λ h. h)

    at : (p : ℕ) → IsTrue (all_of clash p) → IsTrue (contains (clause_at clash p) (negsuc 1)) → false ≡ true
    at zero s c = absurd (let f : ⊥ = cc in f)
    at (suc zero) s c = absurd (let f : ⊥ = cc in f)
    at (suc (suc zero)) s c = absurd (let f : ⊥ = cc in f)
    at (suc (suc (suc zero))) s c = absurd (let f : ⊥ = cc in f)
    at (suc (suc (suc (suc p)))) s c = absurd (let f : ⊥ = grind (arith, s) in f)
removes Matching = record { own = λ _. 2; is_true = at; differ = λ p q s u t v _. third p s t ∙ sym (third q u v) }
  where
    third : (p : ℕ) → IsTrue (all_of clash p) → IsTrue (touches two_true (clause_at clash p)) → p ≡ 3
    third zero s t = absurd (let f : ⊥ = cc in f)
    third (suc zero) s t = absurd (let f : ⊥ = cc in f)
    third (suc (suc zero)) s t = absurd (let f : ⊥ = cc in f)
    third (suc (suc (suc zero))) s t = refl
    third (suc (suc (suc (suc p)))) s t = absurd (let f : ⊥ = grind (arith, s) in f)

    at : (p : ℕ) → IsTrue (all_of clash p) → IsTrue (touches two_true (clause_at clash p))
        → IsTrue (list_any (λ l. makes_true two_true l && (variable l == 2)) (clause_at clash p))
    at zero s t = absurd (let f : ⊥ = cc in f)
    at (suc zero) s t = absurd (let f : ⊥ = cc in f)
    at (suc (suc zero)) s t = absurd (let f : ⊥ = cc in f)
    at (suc (suc (suc zero))) s t = refl
    at (suc (suc (suc (suc p)))) s t = absurd (let f : ⊥ = grind (arith, s) in f)
removes Linear = record { weightings = one_on_second ∷ []; signs = sign; balances = at }
  where
    sign : (v : ℕ) → two_true v ≡ first_sign (one_on_second ∷ []) v
    sign zero = refl
    sign (suc zero) = refl
    sign (suc (suc zero)) = refl
    sign (suc (suc (suc v))) = refl

    at : (p : ℕ) → IsTrue (all_of clash p) → IfSome (first_balance (one_on_second ∷ []) (clause_at clash p)) (λ b. pos 0 ≤ℤ b)
    at zero s = tt
    at (suc zero) s = tt
    at (suc (suc zero)) s = tt
    at (suc (suc (suc zero))) s = omega arith
    at (suc (suc (suc (suc p)))) s = absurd (let f : ⊥ = grind (arith, s) in f)
removes General = at
  where
    at : IsAutarky clash (all_of clash) two_true
    at zero s t = absurd (let f : ⊥ = cc in f)
    at (suc zero) s t = absurd (let f : ⊥ = cc in f)
    at (suc (suc zero)) s t = absurd (let f : ⊥ = cc in f)
    at (suc (suc (suc zero))) s t = refl
    at (suc (suc (suc (suc p)))) s t = absurd (let f : ⊥ = grind (arith, s) in f)

kernel_of_clash : (class : Class) → Kernel class clash units
kernel_of_clash class = record {
  positions = refl;
  lean = λ φ a. neither φ (class_satisfies class clash (among units) φ refl a);
  largest = λ S within lean p s. in_units S within lean p s (within p s);
}
  where
    in_units : (S : Positions) → Within S (all_of clash) → IsLean class clash S → (p : ℕ) → IsTrue (S p) → IsTrue (all_of clash p) → IsTrue (among units p)
    in_units S within lean zero s h = absurd (let f : ⊥ = cc in f)
    in_units S within lean (suc zero) s h = refl
    in_units S within lean (suc (suc zero)) s h = refl
    in_units S within lean (suc (suc (suc zero))) s h = absurd (lean two_true (autarky-within class clash (all_of clash) S two_true within (removes class)) 3 s refl)
    in_units S within lean (suc (suc (suc (suc p)))) s h = absurd (let f : ⊥ = grind (arith, h) in f)

-- {1,-1}: KEPT BY THE CLASS PURE ALONE

only_one : (p : ℕ) → IsTrue (all_of tautology p) → IsTrue (among (1 ∷ []) p)
only_one zero h = cc
only_one (suc zero) h = refl
only_one (suc (suc p)) h = absurd (let f : ⊥ = grind (arith, h) in f)

goes : (class : Class) → IsClassAutarky class tautology (all_of tautology) one_true → Kernel class tautology []
goes class a = record {
  positions = refl;
  lean = λ φ b p s t. (let f : ⊥ = cc in f);
  largest = λ S within lean p s. none S within lean p s (within p s);
}
  where
    none : (S : Positions) → Within S (all_of tautology) → IsLean class tautology S → (p : ℕ) → IsTrue (S p) → IsTrue (all_of tautology p) → IsTrue (among [] p)
    none S within lean zero s h = absurd (let f : ⊥ = cc in f)
    none S within lean (suc zero) s h = absurd (lean one_true (autarky-within class tautology (all_of tautology) S one_true within a) 1 s refl)
    none S within lean (suc (suc p)) s h = absurd (let f : ⊥ = grind (arith, h) in f)

matching_kernel : Kernel Matching tautology []
matching_kernel = goes Matching matching_of_tautology

linear_kernel : Kernel Linear tautology []
linear_kernel = goes Linear linear_of_tautology

general_kernel : Kernel General tautology []
general_kernel = goes General general_of_tautology

-- In an order of an assignment that sets 1, its literal has no earlier one in the clause.
abbrev taut : List ℤ
taut = pos 1 ∷ negsuc 0 ∷ []

both_signs : (h : ℤ) → contains taut h ≡ true → contains taut (complement h) ≡ true
both_signs (pos zero) i = cc
both_signs (pos (suc zero)) i = refl
both_signs (pos (suc (suc v))) i = absurd (let f : ⊥ = grind (arith, i) in f)
both_signs (negsuc zero) i = refl
both_signs (negsuc (suc k)) i = absurd (let f : ⊥ = grind (arith, i) in f)

step : (earlier : List ℤ) (h : ℤ) (order : List ℤ) (l : ℤ) → contains taut l ≡ true → list_any (contains taut) earlier ≡ false
    → IsTrue (contains (h ∷ order) l) → HasEarlier tautology (among (1 ∷ [])) earlier (h ∷ order)
    → (list_any (contains taut) (h ∷ earlier) ≡ false → IsTrue (contains order l) → HasEarlier tautology (among (1 ∷ [])) (h ∷ earlier) order → ⊥) → ⊥
step earlier h order l inside none there e later = at (contains taut h) refl (int_eq l h) refl
  where
    at : (b : Bool) → contains taut h ≡ b → (is : Bool) → int_eq l h ≡ is → ⊥
    at true y is m = (let g : list_any (contains taut) earlier ≡ true = e.0 1 refl (both_signs h y) in let f : ⊥ = cc in f)
    at false n true m = (let g : contains taut h ≡ true = subst (λ k. contains taut k ≡ true) (same_int l h m) inside in let f : ⊥ = cc in f)
    at false n false m = later (rw (n, none) refl) (subst (λ b. IsTrue (b || contains order l)) m there) e.1

not_before : (earlier order : List ℤ) (l : ℤ) → contains taut l ≡ true → list_any (contains taut) earlier ≡ false → IsTrue (contains order l)
    → HasEarlier tautology (among (1 ∷ [])) earlier order → ⊥
not_before earlier [] l inside none there e = cc
not_before earlier (h ∷ order) l inside none there e = step earlier h order l inside none there e (not_before (h ∷ earlier) order l inside)

pure_kernel : Kernel Pure tautology (1 ∷ [])
pure_kernel = record { positions = refl; lean = lean; largest = λ S within lean p s. only_one p (within p s) }
  where
    by_value : (φ : Assignment) → IsPureAutarky tautology (among (1 ∷ [])) φ → (v : Option Bool) → φ 1 ≡ v → IsTrue (is_some v) → ⊥
    by_value φ a None e t = cc
    by_value φ a (Some true) e t = not_before [] a.order (pos 1) refl refl ((a.true_literals (pos 1)).1 (rw (e) refl)) a.earlier
    by_value φ a (Some false) e t = not_before [] a.order (negsuc 0) refl refl ((a.true_literals (negsuc 0)).1 (rw (e) refl)) a.earlier

    lean : IsLean Pure tautology (among (1 ∷ []))
    lean φ a zero s t = cc
    lean φ a (suc zero) s t = by_value φ a (φ 1) refl (set (is_some (φ 1)) t)
      where
        set : (b : Bool) → IsTrue (b || (b || false)) → IsTrue b
        set true h = refl
        set false h = h
    lean φ a (suc (suc p)) s t = absurd (let f : ⊥ = grind (arith, s) in f)

-- {1} AND {-1} OVER TWO VARIABLES: 2 OCCURS IN NO CLAUSE, AND BOTH CLAUSES ARE KEPT WHATEVER VALUE IT HAS

abbrev spare : Cnf
spare = record { vars = 2; clauses = (pos 1 ∷ []) ∷ (negsuc 0 ∷ []) ∷ [] }

untouched_by_two : (touches two_true (clause_at spare 1) ≡ false) × (touches two_true (clause_at spare 2) ≡ false)
untouched_by_two = (refl, refl)

kernel_of_spare : (class : Class) → Kernel class spare units
kernel_of_spare class = record {
  positions = refl;
  lean = λ φ a. lean φ (class_satisfies class spare (among units) φ refl a);
  largest = λ S within lean p s. whole p (within p s);
}
  where
    lean : (φ : Assignment) → IsAutarky spare (among units) φ → (p : ℕ) → IsTrue (among units p) → IsTrue (touches φ (clause_at spare p)) → ⊥
    lean φ a zero s t = cc
    lean φ a (suc zero) s t = not_set (φ 1) (a 1 refl) (a 2 refl) t
    lean φ a (suc (suc zero)) s t = not_set (φ 1) (a 1 refl) (a 2 refl) t
    lean φ a (suc (suc (suc p))) s t = absurd (let f : ⊥ = grind (arith, s) in f)

    whole : (p : ℕ) → IsTrue (all_of spare p) → IsTrue (among units p)
    whole zero h = absurd (let f : ⊥ = cc in f)
    whole (suc zero) h = refl
    whole (suc (suc zero)) h = refl
    whole (suc (suc (suc p))) h = absurd (let f : ⊥ = grind (arith, h) in f)
