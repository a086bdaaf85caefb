-- The check of an order passes exactly where the order is one of the set line, which then is a pure autarky.
use Rattle.std.proofs.Common.{◌≡◌, ℕ, zero, suc, ◌+◌, ◌-◌, ◌<◌, ◌∙◌, Bool, true, false, not, cond, ◌||◌, ◌&&◌, List, [], ◌∷◌, length, take, get_or, map, refl, sym, ap, subst, arith, ℤ, pos, None, IsTrue, inl, inr}
use Rattle.std.specs.Prelude.{◌==◌, nat_le}
use Rattle.std.specs.List.{list_any, list_all}
use Rattle.std.specs.Ordering.{int_eq}
use Rattle.std.proofs.lemmas.Bool.{cases_Bool, cases_eq, eq-eqb, ne_eqb, cond-true, cond-false, not-false, and_from, le-leb}
use Rattle.std.proofs.lemmas.List.Folds.{list_any_at}
use Rattle.lk_model.specs.Lists.{up_to, rises_within}
use Rattle.lk_model.specs.Formulas.Literal.{variable, complement, contains, is_distinct}
use Rattle.lk_model.specs.Formulas.Formula.{Cnf, clause_at}
use Rattle.lk_model.specs.Formulas.Assignment.{assignment_of}
use Rattle.lk_model.specs.Formulas.Autarky.{HasEarlier, IsPureAutarky}
use Rattle.lk_model.specs.Formulas.Lean.{all_of}
use Rattle.lk_model.specs.Checks.PureChecks.{breaks_order, bad_order}
use Rattle.lk_model.specs.declared.document.DoneDocument.{DoneDocument}
use Rattle.lk_model.proofs.Booleans.{or_true, or_false, same_tests}
use Rattle.lk_model.proofs.Literals.{int_eq-same, new_at, same_int, int_self}
use Rattle.lk_model.proofs.Founds.{none_found, none_to, none_clause, no_clause, up_to_bounds, all_literals}
use Rattle.lk_model.proofs.ListTests.{passes_each}
use Rattle.kernel_laws.proofs.ApartLiterals.{rising_apart, true_is}
use Rattle.kernel_laws.proofs.Tests.{second_passes}
use Rattle.pure_laws.specs.PureLaw.{IsOrderOf}

-- the check says so of a place, of which the last is after the order
abbrev pub is_bad_place : Cnf → List ℤ → List ℤ → ℕ → Bool
is_bad_place F set order i = cond (i == length order + 1) (not (list_all (contains order) set)) (breaks_order F set (take (i - 1) order) (get_or order (i - 1) (pos 0)))

-- WHERE THE CHECK PASSES

-- the place of a literal of the order, with what the check says of it
record IsInPlace (F : Cnf) (set order : List ℤ) (i : ℕ) : Type 0 where
  new : contains (take i order) (get_or order i (pos 0)) ≡ false
  listed : contains set (get_or order i (pos 0)) ≡ true
  earlier : (p : ℕ) → IsTrue (all_of F p) → contains (clause_at F p) (complement (get_or order i (pos 0))) ≡ true → list_any (contains (clause_at F p)) (take i order) ≡ true

-- what keeps the order is in its place
in_place : (F : Cnf) (set order : List ℤ) (i : ℕ) → breaks_order F set (take i order) (get_or order i (pos 0)) ≡ false → IsInPlace F set order i
in_place F set order i keeps =
    let l : ℤ = get_or order i (pos 0) in
    let outer = or_false (contains (take i order) l || not (contains set l)) _ keeps in
    let inner = or_false (contains (take i order) l) (not (contains set l)) outer.0 in
    record {
      new = inner.0;
      listed = not-false (contains set l) inner.1;
      earlier = λ p within other.
          second_passes (contains (clause_at F p) (complement l)) (list_any (contains (clause_at F p)) (take i order)) other
          (none_clause (λ c. contains c (complement l) && not (list_any (contains c) (take i order))) F p outer.1 within);
    }

-- so is each literal
places : (F : Cnf) (d : DoneDocument) (order : List ℤ) → (bad_order F d order).place ≡ None → (i : ℕ) → i < length order → IsInPlace F d.set order i
unfolding bad_order
places F d order none i lt =
    let here = none_to (is_bad_place F d.set order) (length order + 1) (i + 1) none (omega arith) (omega (arith, lt)) in
    let before : (i + 1 == length order + 1) ≡ false = ne_eqb (i + 1) (length order + 1) (λ e. omega (arith, e, lt)) in
    let index : i + 1 - 1 ≡ i = omega arith in
    in_place F d.set order i (subst (λ (k : ℕ). breaks_order F d.set (take k order) (get_or order k (pos 0)) ≡ false) index (sym (cond-false (i + 1 == length order + 1) _ _ before) ∙ here))

-- and the order has each literal of the set line
has_all : (F : Cnf) (d : DoneDocument) (order : List ℤ) → (bad_order F d order).place ≡ None → list_all (contains order) d.set ≡ true
unfolding bad_order
has_all F d order none =
    let last = none_to (is_bad_place F d.set order) (length order + 1) (length order + 1) none (omega arith) (omega arith) in
    let behind : (length order + 1 == length order + 1) ≡ true = eq-eqb (length order + 1) (length order + 1) refl in
    not-false (list_all (contains order) d.set) (sym (cond-true (length order + 1 == length order + 1) _ _ behind) ∙ last)

-- a literal is new where it is none of the others
new_literal : (l : ℤ) (order : List ℤ) → ((i : ℕ) → i < length order → int_eq (get_or order i (pos 0)) l ≡ false) → contains order l ≡ false
new_literal l [] h = refl
new_literal l (k ∷ order) h = elim (cases_Bool (int_eq l k)) [
  | inl y ↦ absurd (let f : ⊥ = cc (int_eq-same l k y, h 0 (omega arith)) in f)
  | inr y ↦ rw (y, new_literal l order (λ i lt. h (suc i) (omega (arith, lt)))) refl
]

-- no literal stands twice where each is none of the earlier ones
distinct_by : (order : List ℤ) → ((i : ℕ) → i < length order → contains (take i order) (get_or order i (pos 0)) ≡ false) → is_distinct order ≡ true
distinct_by [] h = refl
distinct_by (l ∷ order) h =
    let parts = λ (i : ℕ) (lt : i < length order). or_false (int_eq (get_or order i (pos 0)) l) (contains (take i order) (get_or order i (pos 0))) (h (suc i) (omega (arith, lt))) in
    rw (new_literal l order (λ i lt. (parts i lt).0), distinct_by order (λ i lt. (parts i lt).1)) refl

-- each literal of the order stands in the set line
listed_each : (set order : List ℤ) → ((i : ℕ) → i < length order → contains set (get_or order i (pos 0)) ≡ true) → (l : ℤ) → contains order l ≡ true → contains set l ≡ true
listed_each set [] h l there = absurd (let f : ⊥ = cc in f)
listed_each set (k ∷ order) h l there = elim (or_true (int_eq l k) (contains order l) there) [
  | inl here ↦ ap (contains set) (same_int l k here) ∙ h 0 (omega arith)
  | inr later ↦ listed_each set order (λ i lt. h (suc i) (omega (arith, lt))) l later
]

-- each clause with the complement of a literal of the order contains an earlier one
has_earlier : (F : Cnf) (earlier order : List ℤ)
    → ((i : ℕ) → i < length order → (p : ℕ) → IsTrue (all_of F p) → contains (clause_at F p) (complement (get_or order i (pos 0))) ≡ true
    → (list_any (contains (clause_at F p)) earlier || list_any (contains (clause_at F p)) (take i order)) ≡ true)
    → HasEarlier F (all_of F) earlier order
has_earlier F earlier [] h = tt
has_earlier F earlier (l ∷ order) h = (
  λ p within other. by_none (list_any (contains (clause_at F p)) earlier) (h 0 (omega arith) p within other),
  has_earlier F (l ∷ earlier) order (λ i lt p within other.
      by_one (list_any (contains (clause_at F p)) earlier) (contains (clause_at F p) l) (list_any (contains (clause_at F p)) (take i order)) (h (suc i) (omega (arith, lt)) p within other)),
)
  where
    by_none : (a : Bool) → (a || false) ≡ true → a ≡ true
    by_none true e = refl
    by_none false e = e

    by_one : (a b c : Bool) → (a || (b || c)) ≡ true → ((b || a) || c) ≡ true
    by_one a true c e = refl
    by_one true false c e = refl
    by_one false false c e = e

pub order_by_check : (F : Cnf) (d : DoneDocument) (order : List ℤ) → (bad_order F d order).place ≡ None → IsOrderOf F d.set order
order_by_check F d order none =
    let at = places F d order none in
    let all = has_all F d order none in
    record {
      once = distinct_by order (λ i lt. (at i lt).new);
      literals = λ l. same_tests (contains order l) (contains d.set l) (listed_each d.set order (λ i lt. (at i lt).listed) l) (passes_each (contains order) d.set l all);
      earlier = has_earlier F [] order (λ i lt. (at i lt).earlier);
    }

-- WHERE THE ORDER IS ONE OF THE SET LINE

-- a clause with the complement of a literal of the order contains an earlier one, at each place
earlier_at : (F : Cnf) (earlier order : List ℤ) → HasEarlier F (all_of F) earlier order → (i : ℕ) → i < length order → (p : ℕ) → IsTrue (all_of F p)
    → contains (clause_at F p) (complement (get_or order i (pos 0))) ≡ true → (list_any (contains (clause_at F p)) earlier || list_any (contains (clause_at F p)) (take i order)) ≡ true
earlier_at F earlier [] h i lt p within other = absurd (omega (arith, lt))
earlier_at F earlier (l ∷ order) h zero lt p within other = by_none (list_any (contains (clause_at F p)) earlier) (h.0 p within other)
  where
    by_none : (a : Bool) → a ≡ true → (a || false) ≡ true
    by_none true e = refl
    by_none false e = e
earlier_at F earlier (l ∷ order) h (suc i) lt p within other =
    by_one (list_any (contains (clause_at F p)) earlier) (contains (clause_at F p) l) (list_any (contains (clause_at F p)) (take i order)) (earlier_at F (l ∷ earlier) order h.1 i (omega (arith, lt)) p within other)
  where
    by_one : (a b c : Bool) → ((b || a) || c) ≡ true → (a || (b || c)) ≡ true
    by_one true b c e = refl
    by_one false true c e = refl
    by_one false false c e = e

-- so no clause breaks it
none_breaks : (F : Cnf) (order : List ℤ) (i : ℕ) → HasEarlier F (all_of F) [] order → i < length order
    → list_any (λ c. contains c (complement (get_or order i (pos 0))) && not (list_any (contains c) (take i order))) F.clauses ≡ false
none_breaks F order i h lt = no_clause (λ c. contains c (complement (get_or order i (pos 0))) && not (list_any (contains c) (take i order))) F.clauses (λ k inside.
    let within : all_of F (suc k) ≡ true = and_from (nat_le 1 (suc k)) (nat_le (suc k) (length F.clauses)) (le-leb 1 (suc k) (omega arith)) (le-leb (suc k) (length F.clauses) (omega (arith, inside))) in
    elim (cases_Bool (contains (get_or F.clauses k []) (complement (get_or order i (pos 0))))) [
      | inl y ↦ rw (y, earlier_at F [] order h i lt (suc k) within y) refl
      | inr n ↦ rw n refl
    ])

-- and each literal stands in its place
keeps_order : (F : Cnf) (set order : List ℤ) (i : ℕ) → IsOrderOf F set order → i < length order → breaks_order F set (take i order) (get_or order i (pos 0)) ≡ false
keeps_order F set order i h lt =
    let l : ℤ = get_or order i (pos 0) in
    let there : contains set l ≡ true = sym (h.literals l) ∙ list_any_at (int_eq l) order i (pos 0) lt (int_self l) in
    rw (new_at order i (pos 0) h.once lt, there, none_breaks F order i h.earlier lt) refl

pub order_passes : (F : Cnf) (d : DoneDocument) (order : List ℤ) → IsOrderOf F d.set order → (bad_order F d order).place ≡ None
unfolding bad_order
order_passes F d order h =
    none_found _ (up_to (length order + 1)) (λ i there.
    let b = up_to_bounds (length order + 1) i there in
    elim (cases_eq i (length order + 1)) [
      | inl e ↦ cond-true (i == length order + 1) _ _ (eq-eqb i (length order + 1) e) ∙ ap not (all_literals (contains order) d.set (λ l m. h.literals l ∙ m))
      | inr e ↦ cond-false (i == length order + 1) _ _ (ne_eqb i (length order + 1) e) ∙ keeps_order F d.set order (i - 1) h (omega (arith, b.0, b.1, e))
    ])

-- THE AUTARKY

pub order_autarky : (F : Cnf) (n : ℕ) (set order : List ℤ) → rises_within 0 n (map variable set) ≡ true → IsOrderOf F set order → IsPureAutarky F (all_of F) (assignment_of set)
order_autarky F n set order up h =
    let true_in = λ (l : ℤ). true_is set l (rising_apart 0 n set up) in
    record {
      order = order;
      once = h.once;
      true_literals = λ l. (λ e. true_in l ∙ sym (h.literals l) ∙ e, λ e. h.literals l ∙ sym (true_in l) ∙ e);
      earlier = h.earlier;
    }
