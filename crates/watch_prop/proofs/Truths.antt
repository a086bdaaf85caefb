-- What is true along a path, by its literals and by the entry of a variable.
use Rattle.std.proofs.Common.{◌≡◌, ◌≢◌, ℕ, zero, suc, ◌<◌, Bool, true, false, cond, ◌==◌, List, [], ◌∷◌, ◌++◌, refl, sym, ◌∙◌, ap, subst, arith, ℤ, pos, negsuc, Option, Some, None, inl, inr}
use Rattle.std.specs.Option.{option_or, option_map_or}
use Rattle.std.specs.List.{list_all}
use Rattle.std.specs.Ordering.{int_eq}
use Rattle.std.proofs.lemmas.Bool.{eqb-true, eq-eqb, cases_Bool, false_from_ne_true}
use Rattle.std.proofs.lemmas.Bool.Decides.{Decides-int_eq}
use Rattle.lk_model.specs.Lists.{with_earlier}
use Rattle.lk_model.specs.Formulas.Literal.{variable, complement, contains}
use Rattle.lk_model.proofs.Booleans.{and_true, or_true}
use Rattle.lk_model.proofs.Flags.{same_false}
use Rattle.lk_model.proofs.Literals.{variable_complement, same_int, one_variable}
use Rattle.watch_prop.specs.declared.entry.Entry.{Entry}
use Rattle.watch_prop.specs.Trail.{literals_of, true_in, false_in, entry_of, may_come, is_path}
use Rattle.watch_prop.proofs.Paths.{comes, entry_more}

-- LITERALS OF ONE VARIABLE

pub apart_complement : (l : ℤ) → 0 < variable l → complement l ≢ l
apart_complement (pos zero) lt e = absurd (omega arith)
apart_complement (pos (suc k)) lt e = (let f : ⊥ = cc in f)
apart_complement (negsuc k) lt e = (let f : ⊥ = cc in f)

pub same_true : (k l : ℤ) → k ≡ l → int_eq k l ≡ true
same_true k l e = (Decides-int_eq k l).1 e

pub false_apart : (k l : ℤ) → int_eq k l ≡ false → k ≢ l
false_apart k l e s = let t : true ≡ false = sym (same_true k l s) ∙ e in let f : ⊥ = cc in f

-- ONE ENTRY FOR A VARIABLE

abbrev pub ComeAfter : ℕ → List Entry → List Entry → Type 0
ComeAfter vars earlier rest = list_all (λ (earlier, e). may_come vars earlier e) (with_earlier earlier rest) ≡ true

absent_or : (o : Option Entry) (p : Option Entry) → option_or o p ≡ None → o ≡ None
absent_or None p e = refl
absent_or (Some d) p e = absurd (let f : ⊥ = cc in f)

-- a literal that comes later has a variable that is unset before
pub absent_before : (vars : ℕ) (earlier rest : List Entry) (l : ℤ) → ComeAfter vars earlier rest → contains (literals_of rest) l ≡ true → entry_of earlier (variable l) ≡ None
absent_before vars earlier [] l h there = absurd (let f : ⊥ = cc in f)
absent_before vars earlier (e ∷ rest) l h there =
    let both = and_true (may_come vars earlier e) _ h in
    elim (or_true (int_eq l e.lit) (contains (literals_of rest) l) there) [
      | inl y ↦ subst (λ (k : ℤ). entry_of earlier (variable k) ≡ None) (sym (same_int l e.lit y)) (comes vars earlier e both.0).absent
      | inr y ↦ absent_or (entry_of earlier (variable l)) _ (sym (entry_more earlier e (variable l)) ∙ absent_before vars (earlier ++ e ∷ []) rest l both.1 y)
    ]

here_not_none : (earlier : List Entry) (e : Entry) (v : ℕ) → (variable e.lit == v) ≡ true → entry_of (earlier ++ e ∷ []) v ≡ None → ⊥
here_not_none earlier e v s n = at (entry_of earlier v) (sym (entry_more earlier e v) ∙ n)
  where
    at : (o : Option Entry) → option_or o (cond (variable e.lit == v) (Some e) None) ≡ None → ⊥
    at None m = let f : Some e ≡ None = sym (ap (λ (b : Bool). cond b (Some e) None) s) ∙ m in let g : ⊥ = cc in g
    at (Some d) m = let g : ⊥ = cc in g

-- no later literal is on the variable of an entry
pub none_later : (vars : ℕ) (earlier rest : List Entry) (e : Entry) (l : ℤ) → ComeAfter vars (earlier ++ e ∷ []) rest → (variable e.lit == variable l) ≡ true → contains (literals_of rest) l ≡ false
none_later vars earlier rest e l h s =
    false_from_ne_true (contains (literals_of rest) l) (λ t. here_not_none earlier e (variable l) s (absent_before vars (earlier ++ e ∷ []) rest l h t))

truth_from : (vars : ℕ) (earlier rest : List Entry) (l : ℤ) → ComeAfter vars earlier rest → 0 < variable l
    → option_map_or (λ (e : Entry). int_eq e.lit l) (entry_of rest (variable l)) false ≡ true_in rest l
truth_from vars earlier [] l h low = refl
truth_from vars earlier (e ∷ rest) l h low =
    let both = and_true (may_come vars earlier e) _ h in
    elim (cases_Bool (variable e.lit == variable l)) [
      | inl y ↦
          let none = none_later vars earlier rest e l both.1 y in
          let found : entry_of (e ∷ rest) (variable l) ≡ Some e = ap (λ (b : Bool). cond b (Some e) (entry_of rest (variable l))) y in
          elim (one_variable e.lit l (eqb-true (variable e.lit) (variable l) y)) [
            | inl s ↦ rw (found, same_true e.lit l s, same_true l e.lit (sym s)) refl
            | inr s ↦
                let n1 : int_eq e.lit l ≡ false = same_false e.lit l (λ t. apart_complement l low (sym s ∙ t)) in
                let n2 : int_eq l e.lit ≡ false = same_false l e.lit (λ t. apart_complement l low (sym s ∙ sym t)) in
                rw (found, n1, n2, none) refl
          ]
      | inr y ↦
          let apart : int_eq l e.lit ≡ false = same_false l e.lit (λ t. (let b : (variable e.lit == variable l) ≡ true = eq-eqb (variable e.lit) (variable l) (ap variable (sym t)) in let c : true ≡ false = sym b ∙ y in let f : ⊥ = cc in f)) in
          let skip : entry_of (e ∷ rest) (variable l) ≡ entry_of rest (variable l) = ap (λ (b : Bool). cond b (Some e) (entry_of rest (variable l))) y in
          rw (skip, apart) (truth_from vars (earlier ++ e ∷ []) rest l both.1 low)
    ]

-- whether a literal is true, by the entry of its variable
pub true_by_entry : (vars : ℕ) (trail : List Entry) (l : ℤ) → is_path vars trail ≡ true → 0 < variable l
    → option_map_or (λ (e : Entry). int_eq e.lit l) (entry_of trail (variable l)) false ≡ true_in trail l
unfolding is_path
true_by_entry vars trail l h low = truth_from vars [] trail l h low

-- NO LITERAL AND ITS COMPLEMENT

signs_apart : (vars : ℕ) (earlier rest : List Entry) (l : ℤ) → ComeAfter vars earlier rest → 0 < variable l → contains (literals_of rest) l ≡ true
    → contains (literals_of rest) (complement l) ≡ true → ⊥
signs_apart vars earlier [] l h low a b = (let f : ⊥ = cc in f)
signs_apart vars earlier (e ∷ rest) l h low a b =
    let both = and_true (may_come vars earlier e) _ h in
    let on : (k : ℤ) → int_eq k e.lit ≡ true → variable k ≡ variable l → (variable e.lit == variable l) ≡ true =
    λ k s v. eq-eqb (variable e.lit) (variable l) (ap variable (sym (same_int k e.lit s)) ∙ v) in
    elim (or_true (int_eq l e.lit) (contains (literals_of rest) l) a) [
      | inl x ↦
          let no = none_later vars earlier rest e (complement l) both.1 (subst (λ (v : ℕ). (variable e.lit == v) ≡ true) (sym (variable_complement l)) (on l x refl)) in
          elim (or_true (int_eq (complement l) e.lit) (contains (literals_of rest) (complement l)) b) [
            | inl y ↦ apart_complement l low (same_int (complement l) e.lit y ∙ sym (same_int l e.lit x))
            | inr y ↦ (let z : true ≡ false = sym y ∙ no in let f : ⊥ = cc in f)
          ]
      | inr x ↦
          elim (or_true (int_eq (complement l) e.lit) (contains (literals_of rest) (complement l)) b) [
            | inl y ↦
                let no = none_later vars earlier rest e l both.1 (on (complement l) y (variable_complement l)) in
                let z : true ≡ false = sym x ∙ no in let f : ⊥ = cc in f
            | inr y ↦ signs_apart vars (earlier ++ e ∷ []) rest l both.1 low x y
          ]
    ]

-- what is false is not true
pub no_sign_twice : (vars : ℕ) (trail : List Entry) (l : ℤ) → is_path vars trail ≡ true → 0 < variable l → false_in trail l ≡ true → true_in trail l ≡ false
unfolding is_path
no_sign_twice vars trail l h low f = false_from_ne_true (true_in trail l) (λ t. signs_apart vars [] trail l h low t f)
