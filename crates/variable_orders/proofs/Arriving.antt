-- One variable after another comes.
use Rattle.std.proofs.Common.{◌≡◌, ◌≢◌, ◌∙◌, ℕ, zero, suc, ◌+◌, ◌<◌, ◌≤◌, ◌==◌, ◌++◌, ◌∷◌, [], Bool, true, false, cond, filter, not, ◌&&◌, List, length, refl, sym, ap, subst, arith, inl, inr, IsPermutation}
use Rattle.std.specs.List.{range_with_len}
use Rattle.std.proofs.lemmas.Bool.{cases_Bool, eqb-true, eq-eqb}
use Rattle.std.proofs.lemmas.List.{append-nil, append_assoc}
use Rattle.std.proofs.lemmas.List.Elements.{filter_agree}
use Rattle.std.proofs.lemmas.List.Sorted.{IsPermutation-refl, IsPermutation-trans, IsPermutation-cons, IsPermutation-middle, IsPermutation-append_right}
use Rattle.lk_model.specs.Lists.{up_to}
use Rattle.lk_model.specs.Held.VariableSets.{is_in}
use Rattle.lk_model.specs.declared.crossed.Crossed.{Crossed}
use Rattle.variable_orders.specs.declared.coming.Coming.{Coming}
use Rattle.variable_orders.specs.VariableOrders.{occurs_over, variables_over, IsOrderOver}
use Rattle.variable_orders.specs.Arrivals.{those_in, IsComing}

-- the tests differ at one number alone
abbrev LeavesOut : (ℕ → Bool) → (ℕ → Bool) → ℕ → Type 0
LeavesOut t t' v = (u : ℕ) → t' u ≡ (t u && not (u == v))

apart : (t t' : ℕ → Bool) (v u : ℕ) → LeavesOut t t' v → u ≢ v → t' u ≡ t u
apart t t' v u h n = h u ∙ (elim (cases_Bool (u == v)) [
  | inl y ↦ absurd (n (eqb-true u v y))
  | inr y ↦ ap (λ (b : Bool). t u && not b) y ∙ alone (t u)
])
  where
    alone : (b : Bool) → (b && true) ≡ b
    alone true = refl
    alone false = refl

here : (t t' : ℕ → Bool) (v : ℕ) → LeavesOut t t' v → t' v ≡ false
here t t' v h = h v ∙ ap (λ (b : Bool). t v && not b) (eq-eqb v v refl) ∙ neither (t v)
  where
    neither : (b : Bool) → (b && false) ≡ false
    neither true = refl
    neither false = refl

-- above that number they keep the same
same_above : (t t' : ℕ → Bool) (v a n : ℕ) → LeavesOut t t' v → v < a → filter t' (range_with_len a n) ≡ filter t (range_with_len a n)
same_above t t' v a zero h lt = refl
same_above t t' v a (suc n) h lt =
    let rest = same_above t t' v (a + 1) n h (omega (arith, lt)) in
    let same : t' a ≡ t a = apart t t' v a h (omega (arith, lt)) in
    rw (same, rest) refl

-- and in a range with that number the one has it besides
taken_out : (t t' : ℕ → Bool) (v a n : ℕ) → LeavesOut t t' v → t v ≡ true → a ≤ v → v < a + n
    → IsPermutation (filter t (range_with_len a n)) (v ∷ filter t' (range_with_len a n))
taken_out t t' v a zero h is low high = absurd (omega (arith, low, high))
taken_out t t' v a (suc n) h is low high = elim (cases_Bool (a == v)) [
  | inl y ↦
      let same = eqb-true a v y in
      let first : t a ≡ true = ap t same ∙ is in
      let none : t' a ≡ false = ap t' same ∙ here t t' v h in
      let rest : filter t' (range_with_len (a + 1) n) ≡ filter t (range_with_len (a + 1) n) = same_above t t' v (a + 1) n h (omega (arith, same)) in
      subst (λ (k : ℕ). IsPermutation (cond (t a) (a ∷ filter t (range_with_len (a + 1) n)) (filter t (range_with_len (a + 1) n))) (k ∷ cond (t' a) (a ∷ filter t' (range_with_len (a + 1) n)) (filter t' (range_with_len (a + 1) n)))) same
      (rw (first, none, rest) (IsPermutation-refl (a ∷ filter t (range_with_len (a + 1) n))))
  | inr y ↦
      let other : a ≢ v = (λ e. let f : ⊥ = (let g : true ≡ false = sym (eq-eqb a v e) ∙ y in cc) in f) in
      let more = taken_out t t' v (a + 1) n h is (omega (arith, low, other)) (omega (arith, high)) in
      let same : t' a ≡ t a = apart t t' v a h other in
      subst (λ (b : Bool). IsPermutation (cond (t a) (a ∷ filter t (range_with_len (a + 1) n)) (filter t (range_with_len (a + 1) n))) (v ∷ cond b (a ∷ filter t' (range_with_len (a + 1) n)) (filter t' (range_with_len (a + 1) n)))) (sym same)
      (at_test (t a) (filter t (range_with_len (a + 1) n)) (filter t' (range_with_len (a + 1) n)) more)
]
  where
    at_test : (b : Bool) (xs ys : List ℕ) → IsPermutation xs (v ∷ ys) → IsPermutation (cond b (a ∷ xs) xs) (v ∷ cond b (a ∷ ys) ys)
    at_test false xs ys p = p
    at_test true xs ys p =
        IsPermutation-trans (a ∷ xs) (a ∷ v ∷ ys) (v ∷ a ∷ ys) (IsPermutation-cons a xs (v ∷ ys) p) (IsPermutation-middle (a ∷ []) v ys)

-- none has come
pub none_come : (over : Crossed) (c : Coming) → c.vars.items ≡ [] → length c.ahead ≡ over.formula.now.vars
    → ((v : ℕ) → is_in c.ahead v ≡ occurs_over over v) → IsComing over c
none_come over c none size all = record {
  size = size;
  whole = subst (λ (vs : List ℕ). IsPermutation (variables_over over) (vs ++ those_in over c.ahead)) (sym none)
      (subst (λ (vs : List ℕ). IsPermutation (variables_over over) vs) (sym (filter_agree (is_in c.ahead) (occurs_over over) all (up_to over.formula.now.vars)))
      (IsPermutation-refl (variables_over over)));
}

-- one comes
pub one_comes : (over : Crossed) (c c' : Coming) (v : ℕ) → IsComing over c → 0 < v → v ≤ over.formula.now.vars → is_in c.ahead v ≡ true
    → c'.vars.items ≡ c.vars.items ++ v ∷ [] → length c'.ahead ≡ length c.ahead → LeavesOut (is_in c.ahead) (is_in c'.ahead) v → IsComing over c'
one_comes over c c' v h first last is next size left = record {
  size = size ∙ h.size;
  whole =
      let out = taken_out (is_in c.ahead) (is_in c'.ahead) v 1 over.formula.now.vars left is (omega (arith, first)) (omega (arith, last)) in
      let moved = IsPermutation-append_right c.vars.items (those_in over c.ahead) (v ∷ those_in over c'.ahead) out in
      let same : c.vars.items ++ v ∷ those_in over c'.ahead ≡ c'.vars.items ++ those_in over c'.ahead =
      sym (append_assoc c.vars.items (v ∷ []) (those_in over c'.ahead)) ∙ ap (λ (vs : List ℕ). vs ++ those_in over c'.ahead) (sym next) in
      IsPermutation-trans (variables_over over) (c.vars.items ++ those_in over c.ahead) (c'.vars.items ++ those_in over c'.ahead) h.whole
      (subst (λ (vs : List ℕ). IsPermutation (c.vars.items ++ those_in over c.ahead) vs) same moved);
}

-- all have come
pub all_come : (over : Crossed) (c : Coming) → IsComing over c → ((v : ℕ) → v < over.formula.now.vars + 1 → is_in c.ahead v ≡ false) → IsOrderOver over c.vars.items
all_come over c h none =
    subst (λ (vs : List ℕ). IsPermutation (variables_over over) vs)
    (ap (λ (vs : List ℕ). c.vars.items ++ vs) (nothing (is_in c.ahead) 1 over.formula.now.vars (λ v lt. none v (omega (arith, lt)))) ∙ append-nil c.vars.items) h.whole
  where
    nothing : (t : ℕ → Bool) (a n : ℕ) → ((v : ℕ) → v < a + n → t v ≡ false) → filter t (range_with_len a n) ≡ []
    nothing t a zero h = refl
    nothing t a (suc n) h =
        let rest = nothing t (a + 1) n (λ v lt. h v (omega (arith, lt))) in
        let first : t a ≡ false = h a (omega arith) in
        rw (first) rest

-- one number more at which the test fails
pub passed_next : (t : ℕ → Bool) (v u : ℕ) → ((w : ℕ) → w < v → t w ≡ false) → t v ≡ false → u < v + 1 → t u ≡ false
passed_next t v u before at lt = elim (cases_Bool (u == v)) [
  | inl y ↦ ap t (eqb-true u v y) ∙ at
  | inr y ↦ before u (let n : u ≢ v = (λ e. let f : ⊥ = (let g : true ≡ false = sym (eq-eqb u v e) ∙ y in cc) in f) in omega (arith, lt, n))
]

-- since it is left out
pub passed_out : (t t' : ℕ → Bool) (v u : ℕ) → LeavesOut t t' v → ((w : ℕ) → w < v → t w ≡ false) → u < v + 1 → t' u ≡ false
passed_out t t' v u h before = passed_next t' v u (λ w lt. h w ∙ ap (λ (b : Bool). b && not (w == v)) (before w lt)) (here t t' v h)
