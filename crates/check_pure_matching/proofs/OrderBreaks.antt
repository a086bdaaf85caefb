-- The first place at which an order is bad, by the places of its literals.
use Rattle.std.proofs.Common.{◌≡◌, ◌∙◌, ℕ, ◌+◌, ◌-◌, ◌<◌, ◌≤◌, Bool, true, false, not, ◌&&◌, List, [], ◌∷◌, length, get_or, take, map, refl, sym, ap, subst, arith, ℤ, pos, inl, inr}
use Rattle.std.specs.Prelude.{nat_le}
use Rattle.std.specs.Ordering.{int_eq}
use Rattle.std.specs.List.{list_any}
use Rattle.std.proofs.lemmas.Bool.{cases_Bool, cond-true, cond-false, leb-true, le-leb, not-true}
use Rattle.std.proofs.lemmas.Bool.Decides.{Decides-int_eq}
use Rattle.lk_model.specs.Formulas.Literal.{complement, contains}
use Rattle.lk_model.proofs.Booleans.{and_true, or_true, or_left, or_right, same_tests}
use Rattle.check_pure_matching.specs.Order.{place_in, least_place, broken_place, first_broken}
use Rattle.check_pure_matching.proofs.OrderPlaces.{place_bounds, place_early, early_place, place_at, read_place, least_below, least_held}
use Rattle.lk_model.proofs.ListTests.{passes_one}
use Rattle.lk_model.proofs.Literals.{complement_twice}

-- the clause holds the complement of the literal, and none of these
abbrev pub breaks : List ℤ → ℤ → List ℤ → Bool
breaks earlier l c = contains c (complement l) && not (list_any (contains c) earlier)

-- a literal is among the complements where its complement is among the literals
contains_complement : (c : List ℤ) (l : ℤ) → contains (map complement c) l ≡ contains c (complement l)
contains_complement [] l = refl
contains_complement (k ∷ c) l =
    let here : int_eq l (complement k) ≡ int_eq (complement l) k = same_tests (int_eq l (complement k)) (int_eq (complement l) k)
    (λ e. (Decides-int_eq (complement l) k).1 (ap complement ((Decides-int_eq l (complement k)).0 e) ∙ complement_twice k))
    (λ e. (Decides-int_eq l (complement k)).1 (sym (complement_twice l) ∙ ap complement ((Decides-int_eq (complement l) k).0 e))) in
    rw (here, contains_complement c l) refl

-- one of the earlier literals that a clause holds
holds_one : (c earlier : List ℤ) → list_any (contains c) earlier ≡ true → (l : ℤ) × (contains earlier l ≡ true) × (contains c l ≡ true)
holds_one c [] e = absurd (let f : ⊥ = cc in f)
holds_one c (k ∷ earlier) e = elim (or_true (contains c k) (list_any (contains c) earlier) e) [
  | inl here ↦ (k, or_left (int_eq k k) (contains earlier k) ((Decides-int_eq k k).1 refl), here)
  | inr later ↦ (let w = holds_one c earlier later in (w.0, or_right (int_eq w.0 k) (contains earlier w.0) w.1, w.2))
]

-- a clause that breaks the order at a place has its first break there or before
broken_before : (order c : List ℤ) (j : ℕ) → j < length order → breaks (take j order) (get_or order j (pos 0)) c ≡ true → broken_place order c ≤ j + 1
broken_before order c j lt h =
    let l : ℤ = get_or order j (pos 0) in
    let both = and_true (contains c (complement l)) (not (list_any (contains c) (take j order))) h in
    let a : ℕ = least_place order c in
    let b : ℕ = least_place order (map complement c) in
    let against : b ≤ j + 1 = omega (arith, least_below order (map complement c) l (contains_complement c l ∙ both.0), place_at order j (pos 0) lt) in
    let with_it : j + 1 ≤ a = elim (cases_Bool (nat_le (j + 1) a)) [
      | inl y ↦ leb-true (j + 1) a y
      | inr n ↦
          let less : a ≤ j = grind (arith, le-leb (j + 1) a) in
          let w = least_held order c (omega (arith, less, lt)) in
          let early : contains (take j order) w.literal ≡ true = early_place order j w.literal (omega (arith, w.least, less)) (omega (arith, lt)) in
          absurd (let e : list_any (contains c) (take j order) ≡ true = passes_one (contains c) (take j order) w.literal early w.held in let n = not-true _ both.1 in let f : ⊥ = cc in f)
    ] in
    let is = cond-true (nat_le b a) b (length order + 1) (le-leb b a (omega (arith, against, with_it))) in
    omega (arith, is, against)

-- a break of a clause at a place
pub record Breaks (order c : List ℤ) (r : ℕ) : Type 0 where
  pub first : 1 ≤ r
  pub here : breaks (take (r - 1) order) (get_or order (r - 1) (pos 0)) c ≡ true

-- the clause breaks the order at its first break
breaks_there : (order c : List ℤ) → broken_place order c ≤ length order → Breaks order c (broken_place order c)
breaks_there order c h = elim (cases_Bool (nat_le (least_place order (map complement c)) (least_place order c))) [
  | inr n ↦ (let is = cond-false (nat_le (least_place order (map complement c)) (least_place order c)) (least_place order (map complement c)) (length order + 1) n in absurd (omega (arith, is, h)))
  | inl y ↦
      let a : ℕ = least_place order c in
      let b : ℕ = least_place order (map complement c) in
      let is : broken_place order c ≡ b = cond-true (nat_le b a) b (length order + 1) y in
      let le : b ≤ a = leb-true b a y in
      let w = least_held order (map complement c) (omega (arith, is, h)) in
      let low = place_bounds order w.literal in
      let read : get_or order (place_in order w.literal - 1) (pos 0) ≡ w.literal = read_place order w.literal (pos 0) (omega (arith, w.least, is, h)) in
      let at : get_or order (b - 1) (pos 0) ≡ w.literal = ap (λ (n : ℕ). get_or order (n - 1) (pos 0)) (sym w.least) ∙ read in
      let holds : contains c (complement w.literal) ≡ true = sym (contains_complement c w.literal) ∙ w.held in
      let none : list_any (contains c) (take (b - 1) order) ≡ false = elim (cases_Bool (list_any (contains c) (take (b - 1) order))) [
        | inr n ↦ n
        | inl some ↦
            let v = holds_one c (take (b - 1) order) some in
            absurd (omega (arith, place_early order (b - 1) v.0 v.1, least_below order c v.0 v.2, le, low.0, w.least))
      ] in
      subst (λ (r : ℕ). Breaks order c r) (sym is) (record {
        first = omega (arith, low.0, w.least);
        here = rw (at, holds, none) refl;
      })
]

-- so of some clauses
pub first_before : (order : List ℤ) (cs : List (List ℤ)) (j : ℕ) → j < length order → list_any (breaks (take j order) (get_or order j (pos 0))) cs ≡ true → first_broken order cs ≤ j + 1
first_before order [] j lt h = absurd (let f : ⊥ = cc in f)
first_before order (c ∷ cs) j lt h = elim (or_true (breaks (take j order) (get_or order j (pos 0)) c) (list_any (breaks (take j order) (get_or order j (pos 0))) cs) h) [
  | inl here ↦ omega (arith, broken_before order c j lt here)
  | inr later ↦ omega (arith, first_before order cs j lt later)
]

-- a break of one of the clauses at a place
pub record SomeBreaks (order : List ℤ) (cs : List (List ℤ)) (r : ℕ) : Type 0 where
  pub first : 1 ≤ r
  pub here : list_any (breaks (take (r - 1) order) (get_or order (r - 1) (pos 0))) cs ≡ true

pub first_breaks : (order : List ℤ) (cs : List (List ℤ)) → first_broken order cs ≤ length order → SomeBreaks order cs (first_broken order cs)
first_breaks order [] h = absurd (omega (arith, h))
first_breaks order (c ∷ cs) h = elim (cases_Bool (nat_le (broken_place order c) (first_broken order cs))) [
  | inl y ↦
      let le = leb-true (broken_place order c) (first_broken order cs) y in
      let is : broken_place order c ≡ first_broken order (c ∷ cs) = omega (arith, le) in
      let w = breaks_there order c (omega (arith, is, h)) in
      subst (λ (r : ℕ). SomeBreaks order (c ∷ cs) r) is (record { first = w.first; here = or_left _ _ w.here })
  | inr n ↦
      let less : first_broken order cs < broken_place order c = grind (arith, le-leb (broken_place order c) (first_broken order cs)) in
      let is : first_broken order cs ≡ first_broken order (c ∷ cs) = omega (arith, less) in
      let w = first_breaks order cs (omega (arith, is, h)) in
      subst (λ (r : ℕ). SomeBreaks order (c ∷ cs) r) is (record { first = w.first; here = or_right _ _ w.here })
]
