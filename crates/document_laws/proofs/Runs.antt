-- The pure run and its pairs under P and on the formula without P.
use Rattle.std.proofs.Common.{◌≡◌, ℕ, Bool, true, false, not, ◌&&◌, ◌||◌, List, [], ◌∷◌, ◌++◌, map, filter, find, refl, sym, ◌∙◌, ap, inl, inr, ℤ, pos, neg_ℤ, Some, unwrap_or}
use Rattle.std.specs.List.{list_all}
use Rattle.std.proofs.lemmas.Bool.{cases_Bool, both_ways, not-true, and_from}
use Rattle.std.proofs.lemmas.List.Folds.{list_all-append}
use Rattle.std.proofs.Math.Bool.{and-or_distrib_left, and-false}
use Rattle.lk_model.specs.Lists.{up_to}
use Rattle.lk_model.specs.Formulas.Literal.{variable, complement, contains}
use Rattle.lk_model.specs.Formulas.Formula.{Cnf, clause_at, variables_to, literal_occurs, variable_occurs}
use Rattle.lk_model.specs.Formulas.Crossed.{Variables, formula_without}
use Rattle.lk_model.specs.Formulas.Assignment.{assignment_of}
use Rattle.lk_model.specs.Formulas.PureRun.{untouched, is_pure_at, literals_to, least_pure, RunsOn, IsPureRun, least_with, least_pairs, occurs_outside, least_pure_under, RunsOnUnder, IsPureRunUnder, least_pairs_under}
use Rattle.lk_model.specs.Formulas.Protected.{SetsNone}
use Rattle.lk_model.proofs.Booleans.{and_true}
use Rattle.lk_model.proofs.ListTests.{passes_each}
use Rattle.lk_model.proofs.Crossings.{contains_crossed}
use Rattle.lk_model.proofs.Literals.{variable_complement}
use Rattle.kernel_laws.proofs.Lines.{found_passes}
use Rattle.kernel_laws.proofs.Crossing.{same_count, clause_without, occurs_without}
use Rattle.pure_laws.proofs.Pairs.{pair_at}
use Rattle.document_laws.proofs.Autarkies.{touched_without}

-- tests that agree everywhere find the same
pub find_same : {X : Type 0} (t u : X → Bool) (xs : List X) → ((x : X) → t x ≡ u x) → find t xs ≡ find u xs
find_same t u [] h = refl
find_same t u (x ∷ xs) h = rw (h x, find_same t u xs h) refl

-- all these literals are outside P
abbrev pub are_outside : Variables → List ℤ → Bool
are_outside P ls = list_all (λ l. not (P (variable l))) ls

-- so none of them is on a variable of P
not_held : (P : Variables) (ls : List ℤ) (l : ℤ) → are_outside P ls ≡ true → P (variable l) ≡ true → contains ls l ≡ false
not_held P ls l out y = elim (cases_Bool (contains ls l)) [
  | inl c ↦ absurd (both_ways (P (variable l)) (not-true (P (variable l)) (passes_each (λ k. not (P (variable k))) ls l out c)) y)
  | inr n ↦ n
]

-- and the assignment that makes them true sets none of P
pub outside_unset : (P : Variables) (ls : List ℤ) → are_outside P ls ≡ true → SetsNone P (assignment_of ls)
outside_unset P ls out v y =
    let variable_is : variable (complement (pos v)) ≡ v = variable_complement (pos v) in
    rw (not_held P ls (pos v) out y, not_held P ls (neg_ℤ (pos v)) out (ap P variable_is ∙ y)) refl

-- the positions that such literals leave untouched are the same
untouched_without : (P : Variables) (F : Cnf) (done : List ℤ) → are_outside P done ≡ true → untouched (formula_without F P) done ≡ untouched F done
untouched_without P F done out =
    let none = outside_unset P done out in
    λ i. filter (λ p. not (touched_without P F (assignment_of done) p none i)) (up_to (same_count F P i))

-- a literal occurs there where it is one outside P that occurs
literal_without : (F : Cnf) (P : Variables) (ps : List ℕ) (l : ℤ) → literal_occurs (formula_without F P) ps l ≡ (not (P (variable l)) && literal_occurs F ps l)
literal_without F P [] l = sym (and-false (not (P (variable l))))
literal_without F P (p ∷ ps) l =
    ap (λ (c : List ℤ). contains c l || literal_occurs (formula_without F P) ps l) (clause_without F P p)
    ∙ ap (λ (b : Bool). b || literal_occurs (formula_without F P) ps l) (contains_crossed P (clause_at F p) l)
    ∙ ap (λ (b : Bool). (not (P (variable l)) && contains (clause_at F p) l) || b) (literal_without F P ps l)
    ∙ sym (and-or_distrib_left (not (P (variable l))) (contains (clause_at F p) l) (literal_occurs F ps l))

-- the pure literals there are those outside P
pure_without : (F : Cnf) (P : Variables) (ps : List ℕ) (l : ℤ) → is_pure_at (formula_without F P) ps l ≡ (not (P (variable l)) && is_pure_at F ps l)
pure_without F P ps l =
    let other : literal_occurs (formula_without F P) ps (complement l) ≡ (not (P (variable l)) && literal_occurs F ps (complement l)) =
    literal_without F P ps (complement l) ∙ ap (λ v. not (P v) && literal_occurs F ps (complement l)) (variable_complement l) in
    ap (λ (b : Bool). b && not (literal_occurs (formula_without F P) ps (complement l))) (literal_without F P ps l)
    ∙ ap (λ (b : Bool). (not (P (variable l)) && literal_occurs F ps l) && not b) other
    ∙ at_tests (P (variable l)) (literal_occurs F ps l) (literal_occurs F ps (complement l))
  where
    at_tests : (b x y : Bool) → ((not b && x) && not (not b && y)) ≡ (not b && (x && not y))
    at_tests true x y = refl
    at_tests false x y = refl

-- so is the least one
least_without : (F : Cnf) (P : Variables) (ps : List ℕ) → least_pure (formula_without F P) ps ≡ least_pure_under P F ps
least_without F P ps = find_same (is_pure_at (formula_without F P) ps) (λ l. not (P (variable l)) && is_pure_at F ps l) (literals_to F.vars) (pure_without F P ps)

-- after literals outside P the next one is the same
next_same : (F : Cnf) (P : Variables) (done : List ℤ) → are_outside P done ≡ true
    → least_pure_under P F (untouched F done) ≡ least_pure (formula_without F P) (untouched (formula_without F P) done)
next_same F P done out =
    sym (least_without F P (untouched F done)) ∙ ap (least_pure (formula_without F P)) (sym (untouched_without P F done out))

-- and it is outside P
next_outside : (F : Cnf) (P : Variables) (done : List ℤ) (l : ℤ) → are_outside P done ≡ true → least_pure_under P F (untouched F done) ≡ Some l
    → are_outside P (done ++ l ∷ []) ≡ true
next_outside F P done l out e =
    let b = and_true (not (P (variable l))) (is_pure_at F (untouched F done) l)
    (found_passes (λ k. not (P (variable k)) && is_pure_at F (untouched F done) k) (literals_to F.vars) l e) in
    list_all-append (λ k. not (P (variable k))) done (l ∷ []) ∙ and_from (are_outside P done) (not (P (variable l)) && true) out (rw b.0 refl)

-- so the runs are the same
run_to : (F : Cnf) (P : Variables) (done order : List ℤ) → are_outside P done ≡ true → RunsOnUnder P F done order → RunsOn (formula_without F P) done order
run_to F P done [] out h = sym (next_same F P done out) ∙ h
run_to F P done (l ∷ order) out h = (sym (next_same F P done out) ∙ h.0, run_to F P (done ++ l ∷ []) order (next_outside F P done l out h.0) h.1)

run_from : (F : Cnf) (P : Variables) (done order : List ℤ) → are_outside P done ≡ true → RunsOn (formula_without F P) done order → RunsOnUnder P F done order
run_from F P done [] out h = next_same F P done out ∙ h
run_from F P done (l ∷ order) out h =
    let is = next_same F P done out ∙ h.0 in
    (is, run_from F P (done ++ l ∷ []) order (next_outside F P done l out is) h.1)

-- and all literals of a run are outside P
run_outside : (F : Cnf) (P : Variables) (done order : List ℤ) → are_outside P done ≡ true → RunsOnUnder P F done order → are_outside P order ≡ true
run_outside F P done [] out h = refl
run_outside F P done (l ∷ order) out h =
    let b = and_true (not (P (variable l))) (is_pure_at F (untouched F done) l)
    (found_passes (λ k. not (P (variable k)) && is_pure_at F (untouched F done) k) (literals_to F.vars) l h.0) in
    and_from (not (P (variable l))) (are_outside P order) b.0 (run_outside F P (done ++ l ∷ []) order (next_outside F P done l out h.0) h.1)

pub pure_run_to : (P : Variables) (F : Cnf) (order : List ℤ) → IsPureRunUnder P F order → IsPureRun (formula_without F P) order
pure_run_to P F order h = run_to F P [] order refl h

pub pure_run_from : (P : Variables) (F : Cnf) (order : List ℤ) → IsPureRun (formula_without F P) order → IsPureRunUnder P F order
pure_run_from P F order h = run_from F P [] order refl h

pub pure_run_outside : (P : Variables) (F : Cnf) (order : List ℤ) → IsPureRunUnder P F order → are_outside P order ≡ true
pure_run_outside P F order h = run_outside F P [] order refl h

-- PAIRS

-- maps of filtered lists agree where the tests do, and the functions on what passes
mapped_same : {X Y : Type 0} (f g : X → Y) (t u : X → Bool) (xs : List X) → ((x : X) → t x ≡ u x) → ((x : X) → u x ≡ true → f x ≡ g x)
    → map f (filter t xs) ≡ map g (filter u xs)
mapped_same f g t u [] h k = refl
mapped_same f g t u (x ∷ xs) h k = elim (cases_Bool (u x)) [
  | inl y ↦ rw (h x, y) (λ i. k x y i ∷ mapped_same f g t u xs h k i)
  | inr n ↦ rw (h x, n) (mapped_same f g t u xs h k)
]

-- the least position with a literal outside P is the same
least_with_without : (F : Cnf) (P : Variables) (ps : List ℕ) (l : ℤ) → P (variable l) ≡ false → least_with (formula_without F P) ps l ≡ least_with F ps l
least_with_without F P ps l n = find_same (λ p. contains (clause_at (formula_without F P) p) l) (λ p. contains (clause_at F p) l) ps (λ p.
    ap (λ (c : List ℤ). contains c l) (clause_without F P p) ∙ contains_crossed P (clause_at F p) l ∙ ap (λ (b : Bool). not b && contains (clause_at F p) l) n)

-- so the pair is the same for a variable outside P
pair_same : (F : Cnf) (P : Variables) (ps : List ℕ) (v : ℕ) → P v ≡ false → pair_at F ps v ≡ pair_at (formula_without F P) ps v
pair_same F P ps v n =
    let variable_is : variable (neg_ℤ (pos v)) ≡ v = variable_complement (pos v) in
    let one = sym (least_with_without F P ps (pos v) n) in
    let other = sym (least_with_without F P ps (neg_ℤ (pos v)) (ap P variable_is ∙ n)) in
    λ i. record { var = v; with = unwrap_or (one i) 0; against = unwrap_or (other i) 0 }

-- so are all
pub pairs_same : (P : Variables) (F : Cnf) (kept : List ℕ) → least_pairs_under P F kept ≡ least_pairs (formula_without F P) kept
pairs_same P F kept =
    sym (mapped_same (pair_at (formula_without F P) kept) (pair_at F kept) (variable_occurs (formula_without F P) kept) (occurs_outside P F kept) (variables_to F.vars)
    (occurs_without F P kept)
    (λ v e. sym (pair_same F P kept v (not-true (P v) (and_true (not (P v)) (variable_occurs F kept v) e).0))))
