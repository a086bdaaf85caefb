-- Clauses as sets of literals.
use Rattle.std.proofs.Common.{◌≡◌, ℕ, Bool, true, false, not, ◌||◌, ◌==◌, List, [], ◌∷◌, ◌++◌, map, refl, sym, ◌∙◌, ap, ℤ, pos, negsuc, ◌⊎◌, inl, inr, filter, neg_ℤ}
use Rattle.std.specs.Ordering.{int_eq}
use Rattle.std.specs.Cmp.{signed_Decides}
use Rattle.std.proofs.lemmas.Bool.{not_from_false, eq-eqb}
use Rattle.std.proofs.lemmas.Bool.Decides.{Decides-eqb, same_from_decides}
use Rattle.std.proofs.lemmas.List.Folds.{list_any-append}
use Rattle.lk_model.specs.Lists.{among}
use Rattle.lk_model.specs.Formulas.Literal.{variable, contains, mentions, is_within, is_same_set}
use Rattle.lk_model.specs.Chains.Chain.{without}
use Rattle.lk_model.proofs.Booleans.{and_true, or_true, or_left, or_right}
use Rattle.lk_model.proofs.ListTests.{passes_each, passes_one}
use Rattle.lk_model.proofs.Literals.{same_int, contains_filter, variable_complement}
use Rattle.kernel_laws.proofs.Tests.{any_same, any_or}

-- what passes and stands in the clause stands in the filtered one
pub in_filtered : (t : ℤ → Bool) (c : List ℤ) (l : ℤ) → t l ≡ true → contains c l ≡ true → contains (filter t c) l ≡ true
in_filtered t c l e f = rw (contains_filter t c l, e, f) refl

-- and the other way round
pub from_filtered : (t : ℤ → Bool) (c : List ℤ) (l : ℤ) → contains (filter t c) l ≡ true → (t l ≡ true) × (contains c l ≡ true)
from_filtered t c l e = and_true (t l) (contains c l) (sym (contains_filter t c l) ∙ e)

-- a literal other than the one taken out
pub in_without : (c : List ℤ) (t l : ℤ) → contains c l ≡ true → int_eq l t ≡ false → contains (without c t) l ≡ true
in_without c t l e n = in_filtered (λ k. not (int_eq k t)) c l (not_from_false (int_eq l t) n) e

-- or of the other one
pub in_right : (c d : List ℤ) (l : ℤ) → contains d l ≡ true → contains (c ++ d) l ≡ true
in_right c d l e = list_any-append (int_eq l) c d ∙ or_right (contains c l) (contains d l) e

-- a literal of two clauses together is one of either
pub in_either : (c d : List ℤ) (l : ℤ) → contains (c ++ d) l ≡ true → (contains c l ≡ true) ⊎ (contains d l ≡ true)
in_either c d l e = or_true (contains c l) (contains d l) (sym (list_any-append (int_eq l) c d) ∙ e)

-- the literals of a resolvent are those of the two clauses
pub of_resolvent : (c d : List ℤ) (t u l : ℤ) → contains (without c t ++ without d u) l ≡ true → (contains c l ≡ true) ⊎ (contains d l ≡ true)
of_resolvent c d t u l e = elim (in_either (without c t) (without d u) l e) [
  | inl this ↦ inl (from_filtered (λ k. not (int_eq k t)) c l this).1
  | inr that ↦ inr (from_filtered (λ k. not (int_eq k u)) d l that).1
]

-- a literal that stands in one of two equal sets stands in the other
pub of_same : (c d : List ℤ) (l : ℤ) → is_same_set c d ≡ true → contains c l ≡ true → contains d l ≡ true
of_same c d l e h = passes_each (contains d) c l ((and_true (is_within c d) (is_within d c) e).0) h

-- and the other way round
pub same_of : (c d : List ℤ) (l : ℤ) → is_same_set c d ≡ true → contains d l ≡ true → contains c l ≡ true
same_of c d l e h = passes_each (contains c) d l ((and_true (is_within c d) (is_within d c) e).1) h

-- a literal of the list is on a variable that the list mentions
pub mentions_of : (ls : List ℤ) (l : ℤ) → contains ls l ≡ true → mentions ls (variable l) ≡ true
mentions_of ls l m = passes_one (λ k. variable k == variable l) ls l m (eq-eqb (variable l) (variable l) refl)

-- so that it is among the variables of the list
pub mentioned_among : (ls : List ℤ) (v : ℕ) → mentions ls v ≡ true → among (map variable ls) v ≡ true
mentioned_among [] v m = m
mentioned_among (l ∷ ls) v m = elim (or_true (variable l == v) (mentions ls v) m) [
  | inl here ↦ or_left (variable l == v) _ here
  | inr later ↦ or_right (variable l == v) _ (mentioned_among ls v later)
]

pub variables_among : (ls : List ℤ) (l : ℤ) → contains ls l ≡ true → among (map variable ls) (variable l) ≡ true
variables_among ls l m = mentioned_among ls (variable l) (mentions_of ls l m)

-- the variables of a list are those of its literals and of their complements
pub mentions_or : (c : List ℤ) (v : ℕ) → mentions c v ≡ (contains c (pos v) || contains c (neg_ℤ (pos v)))
mentions_or c v = any_same (λ k. variable k == v) (λ k. int_eq (pos v) k || int_eq (neg_ℤ (pos v)) k) c (either_sign v) ∙ any_or (int_eq (pos v)) (int_eq (neg_ℤ (pos v))) c
  where
    of_either : (v : ℕ) (k : ℤ) → (int_eq (pos v) k || int_eq (neg_ℤ (pos v)) k) ≡ true → variable k ≡ v
    of_either v k h = elim (or_true (int_eq (pos v) k) (int_eq (neg_ℤ (pos v)) k) h) [
      | inl e ↦ ap variable (sym (same_int (pos v) k e))
      | inr e ↦ ap variable (sym (same_int (neg_ℤ (pos v)) k e)) ∙ variable_complement (pos v)
    ]

    by_either : (v : ℕ) (k : ℤ) → variable k ≡ v → (int_eq (pos v) k || int_eq (neg_ℤ (pos v)) k) ≡ true
    by_either v (pos m) e = or_left (int_eq (pos v) (pos m)) (int_eq (neg_ℤ (pos v)) (pos m)) ((signed_Decides (pos v) (pos m)).1 (ap pos (sym e)))
    by_either v (negsuc m) e = or_right (int_eq (pos v) (negsuc m)) (int_eq (neg_ℤ (pos v)) (negsuc m)) ((signed_Decides (neg_ℤ (pos v)) (negsuc m)).1 (ap (λ (n : ℕ). neg_ℤ (pos n)) (sym e)))

    either_sign : (v : ℕ) (k : ℤ) → (variable k == v) ≡ (int_eq (pos v) k || int_eq (neg_ℤ (pos v)) k)
    either_sign v k = same_from_decides _ _ (Decides-eqb (variable k) v) (of_either v k, by_either v k)
