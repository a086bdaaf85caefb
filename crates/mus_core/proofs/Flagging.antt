-- Flags of places, set one after another.
use Rattle.std.proofs.Common.{◌≡◌, ℕ, ◌+◌, ◌<◌, Bool, true, false, ◌||◌, ◌==◌, List, [], ◌∷◌, refl, sym, ◌∙◌, ap, subst, inl, inr, length, take, get_or, slice_set}
use Rattle.std.specs.List.{list_all}
use Rattle.std.proofs.lemmas.Bool.{and_from, cases_Bool, eqb-true, eqb-false}
use Rattle.std.proofs.lemmas.List.{get_or-set_same, get_or-set_other, take_more}
use Rattle.std.proofs.lemmas.List.Folds.{list_all_more, list_any-append}
use Rattle.lk_model.specs.Lists.{among}
use Rattle.lk_model.proofs.Booleans.{or_left}
use Rattle.mus_core.specs.Flags.{flag_at}

-- one flag more
pub flag_set : (flags : List Bool) (p k : ℕ) → p < length flags → flag_at (slice_set flags p true) k ≡ (p == k || flag_at flags k)
flag_set flags p k lt = elim (cases_Bool (p == k)) [
  | inl own ↦
      (let same = eqb-true p k own in
      ap (λ (j : ℕ). get_or (slice_set flags p true) j false) (sym same) ∙ get_or-set_same flags p true false lt ∙ sym (or_left (p == k) (flag_at flags k) own))
  | inr other ↦ get_or-set_other flags p k true false (λ same. eqb-false p k other (sym same)) ∙ sym (ap (λ (b : Bool). b || flag_at flags k) other)
]

swap : (a b : Bool) → (a || b) ≡ (b || (a || false))
swap true true = refl
swap true false = refl
swap false true = refl
swap false false = refl

-- and one place more
pub place_more : (flags : List Bool) (ps : List ℕ) (i k : ℕ) → i < length ps → get_or ps i 0 < length flags → flag_at flags k ≡ among (take i ps) k
    → flag_at (slice_set flags (get_or ps i 0) true) k ≡ among (take (i + 1) ps) k
place_more flags ps i k lt inside before =
    flag_set flags (get_or ps i 0) k inside ∙ ap (λ (b : Bool). get_or ps i 0 == k || b) before ∙ swap (get_or ps i 0 == k) (among (take i ps) k)
    ∙ sym (ap (λ (qs : List ℕ). among qs k) (take_more ps i 0 lt) ∙ list_any-append (λ j. j == k) (take i ps) (get_or ps i 0 ∷ []))

-- one more of a list
pub one_more : {X : Type 0} (t : X → Bool) (xs : List X) (i : ℕ) (x : X) → i < length xs → x ≡ get_or xs i x → list_all t (take i xs) ≡ true → t x ≡ true
    → list_all t (take (i + 1) xs) ≡ true
one_more t xs i x lt is before here = list_all_more t xs i x lt ∙ and_from (list_all t (take i xs)) (t (get_or xs i x)) before (subst (λ y. t y ≡ true) is here)
