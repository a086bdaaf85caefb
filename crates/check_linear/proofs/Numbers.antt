-- The numbers that clauses give their variables, and balances.
use Rattle.std.proofs.Common.{◌≡◌, ◌≢◌, ◌∙◌, ℕ, zero, suc, ◌+◌, ◌-◌, ◌<◌, ◌≤◌, Bool, true, false, not, ◌&&◌, List, [], ◌∷◌, ◌++◌, length, get_or, take, append_assoc, refl, sym, ap, subst, arith, ℤ, pos, negsuc, neg_ℤ, ◌+ℤ◌, ◌*ℤ◌, inl, inr, get_or-set_same, get_or-set_other}
use Rattle.std.specs.Prelude.{find, slice_set, ◌==◌, nat_le}
use Rattle.std.specs.List.{list_all}
use Rattle.std.specs.Ordering.{int_eq}
use Rattle.std.proofs.lemmas.Bool.{cases_Bool, cases_eq, cond-true, cond-false, eq-eqb, ne_eqb, and_from, not-true, leb-true}
use Rattle.std.proofs.lemmas.Bool.Decides.{Decides-int_eq}
use Rattle.std.proofs.lemmas.Int.{ints}
use Rattle.std.proofs.lemmas.List.{length-set, take_more, append-nil}
use Rattle.std.proofs.Math.IntN.{*ℤ-zero}
use Rattle.lk_model.specs.Lists.{is_nonzero, sum_of}
use Rattle.lk_model.specs.Formulas.Literal.{variable, contains, is_literal, is_distinct, is_clause}
use Rattle.lk_model.specs.Formulas.Formula.{Cnf, clause_at, is_formula, variable_occurs, variables_to}
use Rattle.lk_model.specs.Formulas.Crossed.{no_variable}
use Rattle.lk_model.specs.Formulas.Balance.{incidence, balance_in}
use Rattle.lk_model.specs.Documents.Documents.{duals_at}
use Rattle.lk_model.specs.Checks.LinearChecks.{bad_balance}
use Rattle.lk_model.specs.declared.document.Dual.{Dual}
use Rattle.lk_model.specs.declared.document.DoneDocument.{DoneDocument}
use Rattle.lk_model.proofs.Booleans.{and_true}
use Rattle.lk_model.proofs.Clauses.{form_at}
use Rattle.lk_model.proofs.Products.{mul_add}
use Rattle.linear_laws.proofs.Balances.{incidence_more, incidence_other}
use Rattle.check_tables.specs.Occurring.{AreOccurring}
use Rattle.check_linear.specs.Linear.{signed, numbers_in, numbers_at, numbers_of, AreNumbers, AddsNumbers, is_unbalanced}
use Rattle.check_tables.proofs.KeptFlags.{find_to}

-- SUMS

pub sum_append : (xs ys : List ℤ) → sum_of (xs ++ ys) ≡ sum_of xs +ℤ sum_of ys
sum_append [] ys = add_nothing (sum_of ys)
  where
    add_nothing : (y : ℤ) → y ≡ pos 0 +ℤ y
    add_nothing y = omega (arith, ints)
sum_append (x ∷ xs) ys = ap (λ (z : ℤ). x +ℤ z) (sum_append xs ys) ∙ regroup x (sum_of xs) (sum_of ys)
  where
    regroup : (a b c : ℤ) → a +ℤ (b +ℤ c) ≡ (a +ℤ b) +ℤ c
    regroup a b c = omega (arith, ints)

-- the number of one literal
one_literal : (l y : ℤ) → variable l ≢ 0 → y *ℤ incidence (l ∷ []) (variable l) ≡ signed l y
one_literal (pos zero) y n = absurd (n refl)
one_literal (pos (suc k)) y n =
    let here : int_eq (pos (suc k)) (pos (suc k)) ≡ true = (Decides-int_eq (pos (suc k)) (pos (suc k))).1 refl in
    rw here (times_one y)
  where
    times_one : (y : ℤ) → y *ℤ pos 1 ≡ y
    times_one y = omega (arith, ints)
one_literal (negsuc k) y n =
    let here : int_eq (negsuc k) (negsuc k) ≡ true = (Decides-int_eq (negsuc k) (negsuc k)).1 refl in
    rw here (times_less y)
  where
    times_less : (y : ℤ) → y *ℤ negsuc 0 ≡ neg_ℤ y
    times_less y = omega (arith, ints)

-- those of a clause have the sum that its incidence says
clause_sum : (n : ℕ) (y : ℤ) (c : List ℤ) (v : ℕ) → is_clause n c ≡ true → sum_of (numbers_in y c v) ≡ y *ℤ incidence c v
clause_sum n y [] v e = sym (*ℤ-zero y)
clause_sum n y (l ∷ c) v e =
    let parts = and_true (list_all (is_literal n) (l ∷ c)) (is_distinct (l ∷ c)) e in
    let literals = and_true (is_literal n l) (list_all (is_literal n) c) parts.0 in
    let distinct = and_true (not (contains c l)) (is_distinct c) parts.1 in
    let least = leb-true 1 (variable l) (and_true (nat_le 1 (variable l)) (nat_le (variable l) n) literals.0).0 in
    let rest = clause_sum n y c v (and_from (list_all (is_literal n) c) (is_distinct c) literals.1 distinct.1) in
    let split : y *ℤ incidence (l ∷ c) v ≡ y *ℤ incidence (l ∷ []) v +ℤ y *ℤ incidence c v =
    ap (λ (z : ℤ). y *ℤ z) (incidence_more l c v (not-true (contains c l) distinct.0)) ∙ mul_add y (incidence (l ∷ []) v) (incidence c v) in
    elim (cases_eq (variable l) v) [
      | inl same ↦
          let here : y *ℤ incidence (l ∷ []) v ≡ signed l y = ap (λ (w : ℕ). y *ℤ incidence (l ∷ []) w) (sym same) ∙ one_literal l y (λ z. absurd (omega (arith, z, least))) in
          ap sum_of (cond-true (variable l == v) (signed l y ∷ numbers_in y c v) (numbers_in y c v) (eq-eqb (variable l) v same))
          ∙ (λ j. sym here j +ℤ rest j) ∙ sym split
      | inr other ↦
          let none : y *ℤ incidence (l ∷ []) v ≡ pos 0 = ap (λ (z : ℤ). y *ℤ z) (incidence_other l v (λ e. other (sym e))) ∙ *ℤ-zero y in
          ap sum_of (cond-false (variable l == v) (signed l y ∷ numbers_in y c v) (numbers_in y c v) (ne_eqb (variable l) v other))
          ∙ rest ∙ add_nothing (y *ℤ incidence c v) ∙ (λ j. sym none j +ℤ y *ℤ incidence c v) ∙ sym split
    ]
  where
    add_nothing : (z : ℤ) → z ≡ pos 0 +ℤ z
    add_nothing z = omega (arith, ints)

-- and so all of them together have the balance in the variable
pub balance_sum : (F : Cnf) (ys : List (ℕ × ℤ)) (v : ℕ) → is_formula F ≡ true → sum_of (numbers_at F ys v) ≡ balance_in F ys v
balance_sum F [] v form = refl
balance_sum F ((p, y) ∷ ys) v form =
    sum_append (numbers_in y (clause_at F p) v) (numbers_at F ys v)
    ∙ (λ j. clause_sum F.vars y (clause_at F p) v (form_at F p form) j +ℤ balance_sum F ys v form j)

-- ONE MORE

-- the numbers of two clauses together, and of two lists of positions
numbers_in_both : (y : ℤ) (c d : List ℤ) (v : ℕ) → numbers_in y (c ++ d) v ≡ numbers_in y c v ++ numbers_in y d v
numbers_in_both y [] d v = refl
numbers_in_both y (l ∷ c) d v = elim (cases_Bool (variable l == v)) [
  | inl here ↦ rw here (ap (λ (xs : List ℤ). signed l y ∷ xs) (numbers_in_both y c d v))
  | inr gone ↦ rw gone (numbers_in_both y c d v)
]

pub numbers_at_both : (F : Cnf) (xs ys : List (ℕ × ℤ)) (v : ℕ) → numbers_at F (xs ++ ys) v ≡ numbers_at F xs v ++ numbers_at F ys v
numbers_at_both F [] ys v = refl
numbers_at_both F ((p, y) ∷ xs) ys v =
    ap (λ (zs : List ℤ). numbers_in y (clause_at F p) v ++ zs) (numbers_at_both F xs ys v) ∙ sym (append_assoc (numbers_in y (clause_at F p) v) (numbers_at F xs v) (numbers_at F ys v))

-- a literal more of a clause
pub literal_added : (n : ℕ) (y : ℤ) (clause : List ℤ) (i : ℕ) (l : ℤ) (before mid : List (List ℤ)) (v : ℕ) (more : List ℤ) → i < length clause → l ≡ get_or clause i l → v ≡ variable l → 1 ≤ v → v ≤ length mid
    → more ≡ numbers_of mid v ++ signed l y ∷ [] → AddsNumbers n y (take i clause) before mid → AddsNumbers n y (take (i + 1) clause) before (slice_set mid (v - 1) more)
literal_added n y clause i l before mid v more lt is var low high pushed h =
    let together : take i clause ++ l ∷ [] ≡ take (i + 1) clause = ap (λ (k : ℤ). take i clause ++ k ∷ []) is ∙ sym (take_more clause i l lt) in
    subst (λ (c : List ℤ). AddsNumbers n y c before (slice_set mid (v - 1) more)) together (record {
      size = length-set mid (v - 1) more ∙ h.size;
      added = λ k first last. elim (cases_eq v k) [
        | inl same ↦
            let at : k - 1 ≡ v - 1 = omega (arith, same) in
            let here : (variable l == k) ≡ true = eq-eqb (variable l) k (sym var ∙ same) in
            ap (λ (j : ℕ). get_or (slice_set mid (v - 1) more) j []) at
            ∙ get_or-set_same mid (v - 1) more [] (omega (arith, low, high))
            ∙ pushed ∙ ap (λ (w : ℕ). numbers_of mid w ++ signed l y ∷ []) same
            ∙ ap (λ (xs : List ℤ). xs ++ signed l y ∷ []) (h.added k first last)
            ∙ append_assoc (numbers_of before k) (numbers_in y (take i clause) k) (signed l y ∷ [])
            ∙ sym (ap (λ (xs : List ℤ). numbers_of before k ++ xs) (numbers_in_both y (take i clause) (l ∷ []) k ∙ ap (λ (xs : List ℤ). numbers_in y (take i clause) k ++ xs) (cond-true (variable l == k) (signed l y ∷ []) [] here)))
        | inr other ↦
            let apart : k - 1 ≢ v - 1 = λ e. other (omega (arith, e, low, first)) in
            let gone : (variable l == k) ≡ false = ne_eqb (variable l) k (λ e. other (var ∙ e)) in
            get_or-set_other mid (v - 1) (k - 1) more [] apart ∙ h.added k first last
            ∙ sym (ap (λ (xs : List ℤ). numbers_of before k ++ xs) (numbers_in_both y (take i clause) (l ∷ []) k ∙ ap (λ (xs : List ℤ). numbers_in y (take i clause) k ++ xs) (cond-false (variable l == k) (signed l y ∷ []) [] gone) ∙ append-nil (numbers_in y (take i clause) k)))
      ];
    })

-- a dual more
pub dual_added : (F : Cnf) (dual : List Dual) (i : ℕ) (d : Dual) (before after : List (List ℤ)) (clause : List ℤ) → i < length dual → clause ≡ clause_at F (get_or dual i d).pos
    → AddsNumbers F.vars (get_or dual i d).y clause before after → AreNumbers F (duals_at (take i dual)) before → AreNumbers F (duals_at (take (i + 1) dual)) after
dual_added F dual i d before after clause lt is a h =
    let line : Dual = get_or dual i d in
    let more : duals_at (take (i + 1) dual) ≡ duals_at (take i dual) ++ (line.pos, line.y) ∷ [] = ap duals_at (take_more dual i d lt) ∙ duals_both (take i dual) (line ∷ []) in
    record {
      size = a.size ∙ h.size;
      told = λ v low high.
          a.added v low high
          ∙ (λ j. h.told v low high j ++ numbers_in line.y (is j) v)
          ∙ ap (λ (xs : List ℤ). numbers_at F (duals_at (take i dual)) v ++ xs) (sym (append-nil (numbers_in line.y (clause_at F line.pos) v)))
          ∙ sym (numbers_at_both F (duals_at (take i dual)) ((line.pos, line.y) ∷ []) v)
          ∙ sym (ap (λ (ys : List (ℕ × ℤ)). numbers_at F ys v) more);
    }
  where
    duals_both : (xs ys : List Dual) → duals_at (xs ++ ys) ≡ duals_at xs ++ duals_at ys
    duals_both [] ys = refl
    duals_both (x ∷ xs) ys = ap (λ (zs : List (ℕ × ℤ)). (x.pos, x.y) ∷ zs) (duals_both xs ys)

-- so by the numbers the first variable out of balance is found
pub balance_found : (F : Cnf) (d : DoneDocument) (dual : List Dual) (occurring : List Bool) (table : List (List ℤ)) → is_formula F ≡ true → AreOccurring F d.kept occurring → AreNumbers F (duals_at dual) table
    → find (is_unbalanced occurring table) (variables_to F.vars) ≡ (bad_balance no_variable F d dual).place
unfolding bad_balance
balance_found F d dual occurring table form o t =
    find_to F.vars (is_unbalanced occurring table) (λ v. variable_occurs F d.kept v && is_nonzero (balance_in F (duals_at dual) v)) (λ v low high.
    let sum : sum_of (numbers_of table v) ≡ balance_in F (duals_at dual) v = ap sum_of (t.told v low high) ∙ balance_sum F (duals_at dual) v form in
    (λ j. o.told v low high j && is_nonzero (sum j)))
