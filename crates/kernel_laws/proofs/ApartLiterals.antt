-- Lists of literals of which no two are on one variable.
use Rattle.std.proofs.Common.{◌≡◌, ℕ, suc, ◌∙◌, Bool, true, false, not, cond, List, [], ◌∷◌, map, refl, sym, ap, subst, arith, ℤ, pos, negsuc, inl, inr, Option, Some, None, unwrap_or}
use Rattle.std.specs.Prelude.{⊤}
use Rattle.std.specs.Ordering.{int_eq}
use Rattle.std.proofs.lemmas.Bool.{both_ways, cases_Bool, false_from_ne_true}
use Rattle.lk_model.specs.Lists.{rises_within}
use Rattle.lk_model.specs.Formulas.Literal.{variable, complement, contains, mentions, is_distinct}
use Rattle.lk_model.specs.Formulas.Assignment.{assignment_of, makes_true}
use Rattle.lk_model.proofs.Booleans.{or_true}
use Rattle.lk_model.proofs.Rising.{rises, bounded}
use Rattle.lk_model.proofs.Literals.{same_int}
use Rattle.kernel_laws.proofs.Clauses.{mentions_of, mentioned_among}

-- the variable of each literal is not that of a later one
abbrev pub AreApart : List ℤ → Type 0
AreApart [] = ⊤
AreApart (l ∷ ls) = (mentions ls (variable l) ≡ false) × AreApart ls

-- so no literal stands twice
pub distinct : (ls : List ℤ) → AreApart ls → is_distinct ls ≡ true
distinct [] a = refl
distinct (l ∷ ls) a = elim (cases_Bool (contains ls l)) [
  | inl y ↦ absurd (both_ways (mentions ls (variable l)) a.0 (mentions_of ls l y))
  | inr n ↦ rw (n, distinct ls a.1) refl
]

-- and two literals on one variable are one
pub one_literal : (ls : List ℤ) (l k : ℤ) → AreApart ls → contains ls l ≡ true → contains ls k ≡ true → variable l ≡ variable k → l ≡ k
one_literal [] l k a p q same = absurd (let f : ⊥ = cc in f)
one_literal (j ∷ ls) l k a p q same = elim (or_true (int_eq l j) (contains ls l) p) [
  | inl x ↦ elim (or_true (int_eq k j) (contains ls k) q) [
    | inl y ↦ same_int l j x ∙ sym (same_int k j y)
    | inr y ↦ absurd (later l k (same_int l j x) same y)
  ]
  | inr x ↦ elim (or_true (int_eq k j) (contains ls k) q) [
    | inl y ↦ absurd (later k l (same_int k j y) (sym same) x)
    | inr y ↦ one_literal ls l k a.1 x y same
  ]
]
  where
    later : (h i : ℤ) → h ≡ j → variable h ≡ variable i → contains ls i ≡ true → ⊥
    later h i is on there =
        both_ways (mentions ls (variable j)) a.0 (subst (λ (v : ℕ). mentions ls v ≡ true) (sym on ∙ ap variable is) (mentions_of ls i there))

-- so the literals of the list are the true ones
pub true_is : (ls : List ℤ) (l : ℤ) → AreApart ls → makes_true (assignment_of ls) l ≡ contains ls l
true_is ls (pos v) a = by_tests (contains ls (pos v)) (contains ls (complement (pos v)))
  where
    by_tests : (a b : Bool) → unwrap_or (let o : Option Bool = cond a (Some true) (cond b (Some false) None) in o) false ≡ a
    by_tests true b = refl
    by_tests false true = refl
    by_tests false false = refl
true_is ls (negsuc k) a = by_tests (contains ls (pos (suc k))) (contains ls (negsuc k)) (λ p q.
    let e : pos (suc k) ≡ negsuc k = one_literal ls (pos (suc k)) (negsuc k) a p q refl in
    let f : ⊥ = cc in f)
  where
    by_tests : (a b : Bool) → (a ≡ true → b ≡ true → ⊥) → not (unwrap_or (let o : Option Bool = cond a (Some true) (cond b (Some false) None) in o) true) ≡ b
    by_tests true true h = absurd (h refl refl)
    by_tests true false h = refl
    by_tests false true h = refl
    by_tests false false h = refl

-- literals that rise by their variables are such a list
pub rising_apart : (low n : ℕ) (ls : List ℤ) → rises_within low n (map variable ls) ≡ true → AreApart ls
rising_apart low n [] up = tt
rising_apart low n (l ∷ ls) up =
    let r = rises low n (variable l) (map variable ls) up in (
      false_from_ne_true (mentions ls (variable l)) (λ m. let b = bounded (variable l) n (map variable ls) (variable l) r.more (mentioned_among ls (variable l) m) in absurd (omega (arith, b.0))),
      rising_apart (variable l) n ls r.more,
    )
