-- What the assignment along a trail makes true.
use Rattle.std.proofs.Common.{◌≡◌, ◌∙◌, ℕ, suc, ◌<◌, ◌++◌, ◌∷◌, [], true, false, not, List, ℤ, pos, negsuc, Some, None, Option, unwrap_or, option_map, refl, sym, ap, subst, arith, inl, inr}
use Rattle.std.specs.Option.{option_map_or}
use Rattle.std.specs.List.{list_all}
use Rattle.std.specs.Ordering.{int_eq}
use Rattle.lk_model.specs.Formulas.Literal.{variable, complement, is_literal, is_positive}
use Rattle.lk_model.specs.Formulas.Assignment.{makes_true}
use Rattle.lk_model.proofs.Booleans.{and_true, or_true}
use Rattle.lk_model.proofs.Ranks.{literal_bounds}
use Rattle.lk_model.proofs.Flags.{same_false}
use Rattle.lk_model.proofs.Literals.{variable_complement, same_int}
use Rattle.watch_prop.specs.declared.entry.Entry.{Entry}
use Rattle.watch_prop.specs.Trail.{true_in, false_in, entry_of, assignment_along, may_come, is_path}
use Rattle.lk_model.specs.Formulas.Units.{is_false}
use Rattle.watch_prop.proofs.Truths.{ComeAfter, true_by_entry, same_true}
use Rattle.watch_prop.proofs.Trails.{entry_there}

-- TRUE LITERALS

pub makes_true_along : (vars : ℕ) (trail : List Entry) (l : ℤ) → is_path vars trail ≡ true → 0 < variable l → makes_true (assignment_along trail) l ≡ true_in trail l
makes_true_along vars trail l h low = same l low ∙ true_by_entry vars trail l h low
  where
    at_pos : (v : ℕ) (o : Option Entry) → entry_of trail v ≡ o → unwrap_or (option_map (λ (e : Entry). is_positive e.lit) o) false ≡ option_map_or (λ (e : Entry). int_eq e.lit (pos v)) o false
    at_pos v None f = refl
    at_pos v (Some e) f = sign e.lit (entry_there trail v e f).on
      where
        sign : (k : ℤ) → variable k ≡ v → is_positive k ≡ int_eq k (pos v)
        sign (pos a) s = sym (same_true (pos a) (pos v) (ap pos s))
        sign (negsuc a) s = sym (same_false (negsuc a) (pos v) (λ t. (let f : ⊥ = cc in f)))

    at_neg : (k : ℕ) (o : Option Entry) → entry_of trail (suc k) ≡ o → not (unwrap_or (option_map (λ (e : Entry). is_positive e.lit) o) true) ≡ option_map_or (λ (e : Entry). int_eq e.lit (negsuc k)) o false
    at_neg k None f = refl
    at_neg k (Some e) f = sign e.lit (entry_there trail (suc k) e f).on
      where
        sign : (x : ℤ) → variable x ≡ suc k → not (is_positive x) ≡ int_eq x (negsuc k)
        sign (pos a) s = sym (same_false (pos a) (negsuc k) (λ t. (let f : ⊥ = cc in f)))
        sign (negsuc a) s = sym (same_true (negsuc a) (negsuc k) (ap negsuc (let n : a ≡ k = omega (arith, s) in n)))

    same : (l : ℤ) → 0 < variable l → makes_true (assignment_along trail) l ≡ option_map_or (λ (e : Entry). int_eq e.lit l) (entry_of trail (variable l)) false
    same (pos v) low = at_pos v (entry_of trail v) refl
    same (negsuc k) low = at_neg k (entry_of trail (suc k)) refl

pub false_along : (vars : ℕ) (trail : List Entry) (c : List ℤ) → is_path vars trail ≡ true → list_all (is_literal vars) c ≡ true → list_all (false_in trail) c ≡ true
    → is_false (assignment_along trail) c ≡ true
false_along vars trail [] h lits all = refl
false_along vars trail (l ∷ c) h lits all =
    let lit = and_true (is_literal vars l) (list_all (is_literal vars) c) lits in
    let here = and_true (false_in trail l) (list_all (false_in trail) c) all in
    let bounds = literal_bounds vars l lit.0 in
    let low : 0 < variable (complement l) = omega (arith, bounds.0, variable_complement l) in
    rw (makes_true_along vars trail (complement l) h low, here.0) (false_along vars trail c h lit.1 here.1)

-- LITERALS OF A PATH

literals_come : (vars : ℕ) (earlier rest : List Entry) (k : ℤ) → ComeAfter vars earlier rest → true_in rest k ≡ true → is_literal vars k ≡ true
literals_come vars earlier [] k h there = absurd (let f : ⊥ = cc in f)
literals_come vars earlier (e ∷ rest) k h there =
    let both = and_true (may_come vars earlier e) _ h in
    elim (or_true (int_eq k e.lit) (true_in rest k) there) [
      | inl y ↦ (let c = and_true _ _ both.0 in subst (λ (x : ℤ). is_literal vars x ≡ true) (sym (same_int k e.lit y)) (and_true (is_literal vars e.lit) _ c.0).0)
      | inr y ↦ literals_come vars (earlier ++ e ∷ []) rest k both.1 y
    ]

pub literal_on_path : (vars : ℕ) (trail : List Entry) (k : ℤ) → is_path vars trail ≡ true → true_in trail k ≡ true → is_literal vars k ≡ true
unfolding is_path
literal_on_path vars trail k h there = literals_come vars [] trail k h there
