-- Counts of clauses and literals, and which clauses are live.
use Rattle.std.proofs.Common.{◌≡◌, ◌<◌, ◌≤◌, ◌+◌, ◌-◌, ◌^◌, ◌∙◌, ℕ, zero, suc, ◌≢◌, Bool, true, false, not, ◌&&◌, List, [], ◌∷◌, ◌++◌, length, take, get_or, set, get_or-set_same, get_or-set_other, refl, sym, ap, arith, ℤ, None, inl, inr}
use Rattle.std.specs.Prelude.{sum_by, replicate, min, ◌==◌}
use Rattle.std.proofs.lemmas.Bool.{cases_eq, cases_Bool}
use Rattle.std.proofs.lemmas.List.Sums.{sum_by-cons}
use Rattle.std.proofs.lemmas.Bool.{eq-eqb, eqb-true}
use Rattle.lk_model.specs.Lists.{among, up_to}
use Rattle.lk_model.specs.Formulas.Formula.{Cnf, clause_at}
use Rattle.lk_model.specs.Held.VariableSets.{is_in}
use Rattle.std.proofs.lemmas.List.{length-set, get_or_default}
use Rattle.lk_model.specs.Held.Growing.{Growing}
use Rattle.edit_text.specs.LiveClauses.{LiveClauses}
use Rattle.edit_text.specs.Fed.{Tells, Makes}
use Rattle.edit_text.specs.declared.draft.Draft.{Draft}
use Rattle.edit_text.specs.declared.edit.Edit.{Edit}
use Rattle.edit_text.specs.declared.edit.Edit.TheVariants.{Remove}
use Rattle.lk_model.proofs.Booleans.{same_tests}
use Rattle.lk_model.proofs.Counting.{among-range, among-filter}
use Rattle.lk_model.proofs.Founds.{in_range}

-- LITERALS OF CLAUSES

pub sum_at : (cs : List (List ℤ)) (i : ℕ) → i < length cs → sum_by length (take (i + 1) cs) ≡ sum_by length (take i cs) + length (get_or cs i [])
sum_at [] i lt = absurd (omega (arith, lt))
sum_at (c ∷ cs) zero lt = omega (arith, sum_by-cons length c [])
sum_at (c ∷ cs) (suc i) lt =
    let rest = sum_at cs i (omega (arith, lt)) in
    let place : suc i + 1 ≡ suc (i + 1) = omega arith in
    let longer : sum_by length (take (suc i + 1) (c ∷ cs)) ≡ length c + sum_by length (take (i + 1) cs) =
    ap (λ (k : ℕ). sum_by length (take k (c ∷ cs))) place ∙ sum_by-cons length c (take (i + 1) cs) in
    omega (arith, rest, longer, sum_by-cons length c (take i cs))

-- one clause more
pub clause_more : (F : Cnf) (k literals : ℕ) (clause : List ℤ) → k < length F.clauses → literals ≡ sum_by length (take k F.clauses) → clause ≡ clause_at F (k + 1)
    → literals + length clause ≡ sum_by length (take (k + 1) F.clauses)
clause_more F k literals clause lt so_far is =
    let place : k + 1 ≡ suc k = omega arith in
    let same : clause ≡ get_or F.clauses k [] = is ∙ ap (clause_at F) place in
    omega (arith, so_far, ap length same, sum_at F.clauses k lt)

-- LIVE CLAUSES

-- at first all are live
all_there : (n k : ℕ) → k < n → get_or (replicate n true) k false ≡ true
all_there zero k lt = absurd (omega (arith, lt))
all_there (suc n) zero lt = refl
all_there (suc n) (suc k) lt = all_there n k (omega (arith, lt))

none_past : (n k : ℕ) → get_or (replicate n true) k false ≡ true → k < n
none_past zero zero e = absurd (let f : ⊥ = cc in f)
none_past zero (suc k) e = absurd (let f : ⊥ = cc in f)
none_past (suc n) zero e = omega arith
none_past (suc n) (suc k) e = omega (arith, none_past n k e)

pub all_in : (n k : ℕ) → is_in (replicate n true) k ≡ among (up_to n) k
all_in n zero = same_tests (is_in (replicate n true) zero) (among (up_to n) zero) (λ e. absurd (let f : ⊥ = cc in f)) (λ e. absurd (let low = (in_range 1 n zero e).0 in omega (arith, low)))
all_in n (suc k) = same_tests (is_in (replicate n true) (suc k)) (among (up_to n) (suc k))
    (λ e. among-range 1 n (suc k) (omega arith) (omega (arith, none_past n k e)))
    (λ e. all_there n k (let high = (in_range 1 n (suc k) e).1 in omega (arith, high)))

-- one is taken out
not_same : (a b : ℕ) → a ≢ b → (a == b) ≡ false
not_same a b apart = elim (cases_Bool (a == b)) [ inl e ↦ absurd (apart (eqb-true a b e)) | inr e ↦ e ]

and_no : (a : Bool) → (a && false) ≡ false
and_no true = refl
and_no false = refl

pub taken_out : (flags : List Bool) (number k : ℕ) → 0 < number → number ≤ length flags → is_in (set flags (number - 1) false) k ≡ (not (k == number) && is_in flags k)
taken_out flags number zero first last = sym (and_no (not (zero == number)))
taken_out flags number (suc j) first last = elim (cases_eq (suc j) number) [
  | inl e ↦
      let place : number - 1 ≡ j = omega (arith, e) in
      let lt : j < length flags = omega (arith, e, last) in
      ap (λ i. get_or (set flags i false) j false) place ∙ get_or-set_same flags j false false lt
      ∙ ap (λ (b : Bool). not b && get_or flags j false) (sym (eq-eqb (suc j) number e))
  | inr e ↦
      get_or-set_other flags (number - 1) j false false (λ same. e (omega (arith, same, first)))
      ∙ ap (λ (b : Bool). not b && get_or flags j false) (sym (not_same (suc j) number e))
]

-- what the flag at a number says
pub flag_at : (flags : List Bool) (number : ℕ) (b : Bool) → 0 < number → number ≤ length flags → b ≡ get_or flags (number - 1) b → is_in flags number ≡ b
flag_at flags zero b first last e = absurd (omega (arith, first))
flag_at flags (suc j) b first last e =
    let place : suc j - 1 ≡ j = omega arith in
    get_or_default flags j false b (omega (arith, last)) ∙ ap (λ i. get_or flags i b) (sym place) ∙ sym e

-- a live clause is removed
pub tells_removed : (s : LiveClauses) (edits : List Edit) (draft next : Draft) (k number : ℕ) → Tells s edits draft → 0 < number → number ≤ length draft.live.items → number ≡ min k (2 ^ 127)
    → length draft.live.items ≤ 4000000 → is_in draft.live.items number ≡ true → next.live.items ≡ set draft.live.items (number - 1) false → next.literals ≡ draft.literals
    → next.clause ≡ draft.clause → next.edits ≡ draft.edits ++ Remove number ∷ [] → Makes s edits (Remove k) None next
tells_removed s edits draft next k number t first last is few there live literals clause made =
    let same : k ≡ number = omega (arith, is, last, few) in
    let among_live : among s.live k ≡ true = sym (t.live k) ∙ ap (is_in draft.live.items) same ∙ there in (
      rw among_live refl,
      record {
        vars = ap (λ (c : Growing). c.vars) clause ∙ t.vars;
        numbers = ap length live ∙ length-set draft.live.items (number - 1) false ∙ t.numbers;
        literals = literals ∙ t.literals;
        live = λ j.
            ap (λ fs. is_in fs j) live ∙ taken_out draft.live.items number j first last
            ∙ ap (λ (b : Bool). not (j == number) && b) (t.live j)
            ∙ ap (λ (n : ℕ). not (j == n) && among s.live j) (sym same)
            ∙ sym (among-filter (λ n. not (n == k)) s.live j);
        edits_are = made ∙ ap (λ (es : List Edit). es ++ Remove number ∷ []) t.edits_are ∙ ap (λ (n : ℕ). edits ++ Remove n ∷ []) (sym same);
      },
    )
