-- Clauses with one unset literal, and how many literals of a clause pass a test.
use Rattle.std.proofs.Common.{◌≡◌, ◌≢◌, ◌∙◌, ℕ, suc, ◌<◌, ◌==◌, ◌∷◌, [], Bool, true, false, not, cond, ◌||◌, List, ℤ, pos, negsuc, Some, None, Option, is_some, unwrap_or, option_map, find, length, filter, refl, sym, ap, subst, arith, inl, inr}
use Rattle.std.specs.List.{list_all}
use Rattle.std.specs.Ordering.{int_eq}
use Rattle.std.proofs.lemmas.Bool.{cases_Bool, eq-eqb, false_from_ne_true, not-true}
use Rattle.lk_model.specs.Formulas.Literal.{variable, complement, contains, is_literal, is_clause, is_distinct, is_positive}
use Rattle.lk_model.specs.Formulas.Assignment.{Assignment, makes_true, satisfies}
use Rattle.lk_model.proofs.Booleans.{and_true, or_true, or_left, or_right}
use Rattle.lk_model.proofs.ListTests.{passes_each}
use Rattle.lk_model.proofs.Ranks.{literal_bounds}
use Rattle.lk_model.proofs.Literals.{variable_complement, same_int}
use Rattle.watch_prop.specs.declared.entry.Entry.{Entry}
use Rattle.watch_prop.specs.declared.entry.NumberedClause.{NumberedClause}
use Rattle.watch_prop.specs.Trail.{literals_of, false_in, entry_of, assignment_along, clause_numbered, forces, is_path}
use Rattle.lk_model.specs.Formulas.Units.{is_unit_under, is_unset}
use Rattle.watch_prop.proofs.Truths.{same_true, no_sign_twice}
use Rattle.watch_prop.proofs.Along.{makes_true_along}

-- LITERALS THAT PASS

pub none_pass : (p : ℤ → Bool) (c : List ℤ) → ((k : ℤ) → contains c k ≡ true → p k ≡ false) → length (filter p c) ≡ 0
none_pass p [] h = refl
none_pass p (l ∷ c) h =
    rw (h l (or_left (int_eq l l) (contains c l) (same_true l l refl))) (none_pass p c (λ k there. h k (or_right (int_eq k l) (contains c k) there)))

-- just one literal of a clause passes
pub one_passes : (p : ℤ → Bool) (c : List ℤ) (l : ℤ) → is_distinct c ≡ true → contains c l ≡ true → p l ≡ true → ((k : ℤ) → contains c k ≡ true → k ≢ l → p k ≡ false)
    → length (filter p c) ≡ 1
one_passes p [] l d there pl h = absurd (let f : ⊥ = cc in f)
one_passes p (m ∷ c) l d there pl h =
    let both = and_true (not (contains c m)) (is_distinct c) d in
    elim (cases_Bool (int_eq l m)) [
      | inl y ↦
          let same = same_int l m y in
          let pm : p m ≡ true = subst (λ (k : ℤ). p k ≡ true) same pl in
          let rest : length (filter p c) ≡ 0 = none_pass p c (λ k in_c. h k (or_right (int_eq k m) (contains c k) in_c)
          (λ e. (let f : true ≡ false = sym (subst (λ (x : ℤ). contains c x ≡ true) (e ∙ same) in_c) ∙ not-true (contains c m) both.0 in let z : ⊥ = cc in z))) in
          rw pm (omega (arith, rest))
      | inr y ↦
          let in_c : contains c l ≡ true = elim (or_true (int_eq l m) (contains c l) there) [
            | inl z ↦ absurd (let f : true ≡ false = sym z ∙ y in let q : ⊥ = cc in q)
            | inr z ↦ z
          ] in
          let pm : p m ≡ false = h m (or_left (int_eq m m) (contains c m) (same_true m m refl))
          (λ e. (let f : true ≡ false = sym (same_true l m (sym e)) ∙ y in let z : ⊥ = cc in z)) in
          rw pm (one_passes p c l both.1 in_c pl (λ k there. h k (or_right (int_eq k m) (contains c k) there)))
    ]

pub some_pass : (p : ℤ → Bool) (c : List ℤ) (a : ℤ) → contains c a ≡ true → p a ≡ true → 0 < length (filter p c)
some_pass p [] a there h = absurd (let f : ⊥ = cc in f)
some_pass p (l ∷ c) a there h = elim (cases_Bool (p l)) [
  | inl y ↦ rw y (omega arith)
  | inr y ↦ elim (or_true (int_eq a l) (contains c a) there) [
    | inl z ↦ absurd (let f : true ≡ false = sym (subst (λ (k : ℤ). p k ≡ true) (same_int a l z) h) ∙ y in let q : ⊥ = cc in q)
    | inr z ↦ rw y (some_pass p c a z h)
  ]
]

-- two different ones that pass are more than one
pub two_pass : (p : ℤ → Bool) (c : List ℤ) (a b : ℤ) → contains c a ≡ true → contains c b ≡ true → a ≢ b → p a ≡ true → p b ≡ true → 1 < length (filter p c)
two_pass p [] a b in_a in_b n pa pb = absurd (let f : ⊥ = cc in f)
two_pass p (l ∷ c) a b in_a in_b n pa pb = elim (cases_Bool (p l)) [
  | inl y ↦
      let some : 0 < length (filter p c) = elim (or_true (int_eq a l) (contains c a) in_a) [
        | inl z ↦ elim (or_true (int_eq b l) (contains c b) in_b) [
          | inl x ↦ absurd (n (same_int a l z ∙ sym (same_int b l x)))
          | inr x ↦ some_pass p c b x pb
        ]
        | inr z ↦ some_pass p c a z pa
      ] in
      rw y (omega (arith, some))
  | inr y ↦
      let later : (k : ℤ) → p k ≡ true → contains (l ∷ c) k ≡ true → contains c k ≡ true = λ k pk there. elim (or_true (int_eq k l) (contains c k) there) [
        | inl z ↦ absurd (let f : true ≡ false = sym (subst (λ (x : ℤ). p x ≡ true) (same_int k l z) pk) ∙ y in let q : ⊥ = cc in q)
        | inr z ↦ z
      ] in
      rw y (two_pass p c a b (later a pa in_a) (later b pb in_b) n pa pb)
]

-- UNSET LITERALS

pub unset_false : (φ : Assignment) (k : ℤ) → makes_true φ k ≡ true → is_unset φ k ≡ false
unset_false φ (pos v) h = at (φ v) h
  where
    at : (o : Option Bool) → unwrap_or o false ≡ true → not (is_some o) ≡ false
    at None h = absurd (let f : ⊥ = cc in f)
    at (Some b) h = refl
unset_false φ (negsuc k) h = at (φ (suc k)) h
  where
    at : (o : Option Bool) → not (unwrap_or o true) ≡ true → not (is_some o) ≡ false
    at None h = absurd (let f : ⊥ = cc in f)
    at (Some b) h = refl

pub none_true : (φ : Assignment) (c : List ℤ) → ((k : ℤ) → contains c k ≡ true → makes_true φ k ≡ false) → satisfies φ c ≡ false
none_true φ [] h = refl
none_true φ (l ∷ c) h = rw (h l (or_left (int_eq l l) (contains c l) (same_true l l refl))) (none_true φ c (λ k there. h k (or_right (int_eq k l) (contains c k) there)))

pub unset_by_entry : (trail : List Entry) (v : ℕ) → entry_of trail v ≡ None → not (is_some (assignment_along trail v)) ≡ true
unset_by_entry trail v e = ap (λ (o : Option Entry). not (is_some (option_map (λ (e : Entry). is_positive e.lit) o))) e

pub not_true_unset : (φ : Assignment) (k : ℤ) → is_unset φ k ≡ true → makes_true φ k ≡ false
not_true_unset φ k h = false_from_ne_true (makes_true φ k) (λ t. (let f : true ≡ false = sym h ∙ unset_false φ k t in let z : ⊥ = cc in z))

-- UNITS

-- a clause that forces an unset literal has one unset literal and no true one
pub forces_unit : (vars : ℕ) (trail : List Entry) (c : List ℤ) (l : ℤ) → is_path vars trail ≡ true → is_clause vars c ≡ true → forces c trail l ≡ true → entry_of trail (variable l) ≡ None
    → is_unit_under (assignment_along trail) c ≡ true
forces_unit vars trail c l path is_clause f absent =
    let φ = assignment_along trail in
    let both = and_true (contains c l) (list_all (λ k. int_eq k l || contains (literals_of trail) (complement k)) c) f in
    let clause = and_true (list_all (is_literal vars) c) (is_distinct c) is_clause in
    let unset : is_unset φ l ≡ true = unset_by_entry trail (variable l) absent in
    let literal : (k : ℤ) → contains c k ≡ true → is_literal vars k ≡ true = λ k there. passes_each (is_literal vars) c k clause.0 there in
    let other : (k : ℤ) → contains c k ≡ true → k ≢ l → false_in trail k ≡ true = λ k there n. elim (or_true (int_eq k l) (false_in trail k) (passes_each (λ k. int_eq k l || contains (literals_of trail) (complement k)) c k both.1 there)) [
      | inl y ↦ absurd (n (same_int k l y))
      | inr y ↦ y
    ] in
    let low : (k : ℤ) → contains c k ≡ true → 0 < variable k = λ k there. (let b = literal_bounds vars k (literal k there) in omega (arith, b.0)) in
    let set_is : (k : ℤ) → contains c k ≡ true → k ≢ l → is_unset φ k ≡ false = λ k there n.
    (let low_k = low k there in
    let t : makes_true φ (complement k) ≡ true = makes_true_along vars trail (complement k) path (omega (arith, low_k, variable_complement k)) ∙ other k there n in
    subst (λ (v : ℕ). not (is_some (φ v)) ≡ false) (variable_complement k) (unset_false φ (complement k) t)) in
    let none : (k : ℤ) → contains c k ≡ true → makes_true φ k ≡ false = λ k there. elim (cases_Bool (int_eq k l)) [
      | inl y ↦ subst (λ (x : ℤ). makes_true φ x ≡ false) (sym (same_int k l y)) (not_true_unset φ l unset)
      | inr y ↦
          let n : k ≢ l = λ e. (let g : true ≡ false = sym (same_true k l e) ∙ y in let z : ⊥ = cc in z) in
          makes_true_along vars trail k path (low k there) ∙ no_sign_twice vars trail k path (low k there) (other k there n)
    ] in
    let one : length (filter (is_unset φ) c) ≡ 1 = one_passes (is_unset φ) c l clause.1 both.0 unset set_is in
    rw (none_true φ c none, eq-eqb (length (filter (is_unset φ) c)) 1 one) refl

-- what holds of each clause holds of the one of a number
pub each_numbered : (q : List ℤ → Bool) (clauses : List NumberedClause) (k : ℕ) (c : List ℤ) → list_all (λ (h : NumberedClause). q h.lits) clauses ≡ true → clause_numbered clauses k ≡ Some c → q c ≡ true
each_numbered q [] k c h found = absurd (let f : ⊥ = cc in f)
each_numbered q (d ∷ clauses) k c h found =
    let both = and_true (q d.lits) (list_all (λ (h : NumberedClause). q h.lits) clauses) h in
    elim (cases_Bool (d.number == k)) [
      | inl y ↦
          let same : Some d.lits ≡ Some c = sym (ap (λ (b : Bool). option_map (λ (c : NumberedClause). c.lits) (cond b (Some d) (find (λ (c : NumberedClause). c.number == k) clauses))) y) ∙ found in
          let lits : d.lits ≡ c = cc same in subst (λ (x : List ℤ). q x ≡ true) lits both.0
      | inr y ↦ each_numbered q clauses k c both.1
          (sym (ap (λ (b : Bool). option_map (λ (c : NumberedClause). c.lits) (cond b (Some d) (find (λ (c : NumberedClause). c.number == k) clauses))) y) ∙ found)
    ]
