-- Lists of literals that are chosen for variables, one at most for each.
use Rattle.std.proofs.Common.{◌≡◌, ℕ, zero, suc, ◌+◌, ◌<◌, ◌≤◌, ◌∙◌, Bool, true, ◌||◌, List, [], ◌∷◌, map, refl, sym, ap, arith, ℤ, Option, Some, None, inl, inr}
use Rattle.std.specs.Prelude.{◌==◌, nat_lt, nat_le}
use Rattle.std.specs.List.{cons_option, filter_map, range_with_len}
use Rattle.std.specs.Ordering.{int_eq}
use Rattle.std.proofs.lemmas.Bool.{cases_Bool, eqb-true, lt-ltb, le-leb}
use Rattle.std.proofs.lemmas.Bool.Decides.{Decides-int_eq}
use Rattle.lk_model.specs.Lists.{among, rises_within}
use Rattle.lk_model.specs.Formulas.Literal.{variable, contains}
use Rattle.lk_model.proofs.Booleans.{or_true, or_left, or_right}

-- a literal of a list of chosen ones was chosen
pub from_chosen : (h : ℕ → Option ℤ) (vs : List ℕ) (l : ℤ) → contains (filter_map h vs) l ≡ true → (v : ℕ) × (h v ≡ Some l)
from_chosen h [] l e = absurd (let f : ⊥ = cc in f)
from_chosen h (v ∷ vs) l e = at_choice (h v) refl e (from_chosen h vs l)
  where
    at_choice : (o : Option ℤ) → h v ≡ o → contains (cons_option o (filter_map h vs)) l ≡ true
        → (contains (filter_map h vs) l ≡ true → (w : ℕ) × (h w ≡ Some l)) → (w : ℕ) × (h w ≡ Some l)
    at_choice None is e rest = rest e
    at_choice (Some k) is e rest = elim (or_true (int_eq l k) (contains (filter_map h vs) l) e) [
      | inl here ↦ (v, is ∙ ap Some (sym ((Decides-int_eq l k).0 here)))
      | inr later ↦ rest later
    ]

pub in_chosen : (h : ℕ → Option ℤ) (vs : List ℕ) (v : ℕ) (l : ℤ) → among vs v ≡ true → h v ≡ Some l → contains (filter_map h vs) l ≡ true
in_chosen h [] v l m e = absurd (let f : ⊥ = cc in f)
in_chosen h (w ∷ vs) v l m e = elim (cases_Bool (w == v)) [
  | inl y ↦ rw (ap h (eqb-true w v y) ∙ e) (or_left (int_eq l l) _ ((Decides-int_eq l l).1 refl))
  | inr y ↦ at_choice (h w) (in_chosen h vs v l (sym (ap (λ (b : Bool). b || among vs v) y) ∙ m) e)
]
  where
    at_choice : (o : Option ℤ) → contains (filter_map h vs) l ≡ true → contains (cons_option o (filter_map h vs)) l ≡ true
    at_choice None there = there
    at_choice (Some k) there = or_right (int_eq l k) _ there

-- chosen literals on the numbers of a range rise
pub chosen_rise : (h : ℕ → Option ℤ) (low a n high : ℕ) → ((v : ℕ) (l : ℤ) → h v ≡ Some l → variable l ≡ v) → low < a → a + n ≤ high + 1
    → rises_within low high (map variable (filter_map h (range_with_len a n))) ≡ true
chosen_rise h low a zero high on above within = refl
chosen_rise h low a (suc n) high on above within = at_choice (h a) refl
    (λ low l. chosen_rise h low (a + 1) n high on l (omega (arith, within)))
  where
    later : List ℤ
    later = filter_map h (range_with_len (a + 1) n)

    at_choice : (o : Option ℤ) → h a ≡ o → ((low : ℕ) → low < a + 1 → rises_within low high (map variable later) ≡ true)
        → rises_within low high (map variable (cons_option o later)) ≡ true
    at_choice None is rest = rest low (omega (arith, above))
    at_choice (Some k) is rest =
        let e = on a k is in
        let more : rises_within (variable k) high (map variable later) ≡ true = rest (variable k) (omega (arith, e)) in
        let first : nat_lt low (variable k) ≡ true = lt-ltb low (variable k) (omega (arith, e, above)) in
        let most : nat_le (variable k) high ≡ true = le-leb (variable k) high (omega (arith, e, within)) in
        rw (first, most, more) refl
