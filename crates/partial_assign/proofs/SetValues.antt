-- The assignment that a set line gives, as its literals are put one by one.
use Rattle.std.proofs.Common.{◌≡◌, ◌≢◌, ◌∙◌, ℕ, zero, suc, ◌+◌, ◌<◌, Bool, true, false, ◌||◌, List, [], ◌∷◌, ◌++◌, length, get_or, take, map, refl, sym, ap, arith, ℤ, pos, negsuc, Option, Some, None, inl, inr}
use Rattle.std.specs.Prelude.{neg_ℤ}
use Rattle.std.specs.Ordering.{int_eq}
use Rattle.std.proofs.lemmas.Bool.{cases_Bool, cases_eq, le-leb}
use Rattle.std.proofs.lemmas.Bool.Decides.{Decides-int_eq}
use Rattle.std.proofs.lemmas.List.{take_more, get_or-map, length-map}
use Rattle.lk_model.specs.Lists.{rises_within}
use Rattle.lk_model.specs.Formulas.Literal.{variable, contains, is_literal, is_positive}
use Rattle.lk_model.specs.Held.PartialValues.{assignment_by}
use Rattle.lk_model.specs.Formulas.Assignment.{assignment_of}
use Rattle.lk_model.proofs.Booleans.{or_true}
use Rattle.lk_model.proofs.Rising.{rises, rising_bounds}
use Rattle.lk_model.proofs.Flags.{contains-push, or_no, or_yes, push_other}
use Rattle.lk_model.proofs.Literals.{variable_negative}
use Rattle.partial_assign.proofs.Extensions.{same_values}

-- earlier literals of a rising line have lesser variables
below : (low n : ℕ) (ls : List ℤ) (i : ℕ) (k d : ℤ) → rises_within low n (map variable ls) ≡ true → i < length ls → contains (take i ls) k ≡ true → variable k < variable (get_or ls i d)
below low n [] i k d up lt there = absurd (omega (arith, lt))
below low n (j ∷ ls) zero k d up lt there = absurd (let f : ⊥ = cc in f)
below low n (j ∷ ls) (suc i) k d up lt there =
    let r = rises low n (variable j) (map variable ls) up in
    let inside : i < length ls = omega (arith, lt) in
    elim (or_true (int_eq k j) (contains (take i ls) k) there) [
      | inl here ↦
          let same : variable k ≡ variable j = ap variable ((Decides-int_eq k j).0 here) in
          let b = rising_bounds (variable j) n (map variable ls) i r.more (omega (arith, inside, length-map ls variable)) in
          omega (arith, same, b.0, get_or-map variable ls i d 0 inside)
      | inr later ↦ below (variable j) n ls i k d r.more inside later
    ]

-- a literal of such a line is one over the variables
pub rising_literal : (n : ℕ) (ls : List ℤ) (i : ℕ) (l : ℤ) → rises_within 0 n (map variable ls) ≡ true → i < length ls → l ≡ get_or ls i l → is_literal n l ≡ true
rising_literal n ls i l up lt is =
    let b = rising_bounds 0 n (map variable ls) i up (omega (arith, lt, length-map ls variable)) in
    let at : get_or (map variable ls) i 0 ≡ variable l = get_or-map variable ls i l 0 lt ∙ ap variable (sym is) in
    rw (le-leb 1 (variable l) (omega (arith, b.0, at)), le-leb (variable l) n (omega (arith, b.1, at))) refl

-- neither literal of its variable stands earlier
new_variable : (n : ℕ) (ls : List ℤ) (i : ℕ) (l k : ℤ) → rises_within 0 n (map variable ls) ≡ true → i < length ls → l ≡ get_or ls i l → variable k ≡ variable l → contains (take i ls) k ≡ false
new_variable n ls i l k up lt is same = elim (cases_Bool (contains (take i ls) k)) [
  | inl there ↦ (let less : variable k < variable l = rw is (below 0 n ls i k l up lt there) in absurd (omega (arith, less, same)))
  | inr not_there ↦ not_there
]

-- so its variable is unset
pub still_unset : (n : ℕ) (ls : List ℤ) (i : ℕ) (l : ℤ) → rises_within 0 n (map variable ls) ≡ true → i < length ls → l ≡ get_or ls i l → assignment_of (take i ls) (variable l) ≡ None
still_unset n ls i l up lt is =
    rw (new_variable n ls i l (pos (variable l)) up lt is refl, new_variable n ls i l (neg_ℤ (pos (variable l))) up lt is (variable_negative (variable l))) refl

-- a literal that is put leaves the other variables as they were
pub assigned_other : (ls : List ℤ) (l : ℤ) (v : ℕ) → v ≢ variable l → assignment_of (ls ++ l ∷ []) v ≡ assignment_of ls v
assigned_other ls l v other =
    let a = push_other ls l (pos v) other in
    let b = push_other ls l (neg_ℤ (pos v)) (λ e. other (sym (variable_negative v) ∙ e)) in
    rw (a, b) refl

-- and makes its own variable have its sign
assigned_own : (ls : List ℤ) (l : ℤ) → contains ls (pos (variable l)) ≡ false → assignment_of (ls ++ l ∷ []) (variable l) ≡ Some (is_positive l)
assigned_own ls (pos v) out =
    let there : contains (ls ++ pos v ∷ []) (pos v) ≡ true = contains-push ls (pos v) (pos v) ∙ ap (λ (b : Bool). contains ls (pos v) || (b || false)) ((Decides-int_eq (pos v) (pos v)).1 refl) ∙ or_yes (contains ls (pos v)) in
    rw there refl
assigned_own ls (negsuc k) out =
    let absent : contains (ls ++ negsuc k ∷ []) (pos (suc k)) ≡ false = contains-push ls (negsuc k) (pos (suc k)) ∙ or_no (contains ls (pos (suc k))) ∙ out in
    let there : contains (ls ++ negsuc k ∷ []) (negsuc k) ≡ true = contains-push ls (negsuc k) (negsuc k) ∙ ap (λ (b : Bool). contains ls (negsuc k) || (b || false)) ((Decides-int_eq (negsuc k) (negsuc k)).1 refl) ∙ or_yes (contains ls (negsuc k)) in
    rw (absent, there) refl

-- one literal more is put
pub values_more : (n : ℕ) (ls : List ℤ) (i : ℕ) (l : ℤ) (before after : List (Option Bool)) → rises_within 0 n (map variable ls) ≡ true → i < length ls → l ≡ get_or ls i l
    → assignment_by before ≡ assignment_of (take i ls) → assignment_by after (variable l) ≡ Some (is_positive l) → ((v : ℕ) → v ≢ variable l → assignment_by after v ≡ assignment_by before v)
    → assignment_by after ≡ assignment_of (take (i + 1) ls)
values_more n ls i l before after up lt is values own others =
    let more : take i ls ++ l ∷ [] ≡ take (i + 1) ls = ap (λ (k : ℤ). take i ls ++ k ∷ []) is ∙ sym (take_more ls i l lt) in
    same_values (assignment_by after) (assignment_of (take i ls ++ l ∷ [])) (λ v. elim (cases_eq v (variable l)) [
      | inl same ↦ ap (assignment_by after) same ∙ own ∙ sym (assigned_own (take i ls) l (new_variable n ls i l (pos (variable l)) up lt is refl)) ∙ ap (assignment_of (take i ls ++ l ∷ [])) (sym same)
      | inr other ↦ others v other ∙ ap (λ (φ : ℕ → Option Bool). φ v) values ∙ sym (assigned_other (take i ls) l v other)
    ])
    ∙ ap (λ (ks : List ℤ). assignment_of ks) more
