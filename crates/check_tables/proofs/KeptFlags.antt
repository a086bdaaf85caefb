-- The flags of kept positions, and tests that agree.
use Rattle.std.proofs.Common.{◌≡◌, ◌≢◌, ◌∙◌, ℕ, zero, suc, ◌+◌, ◌-◌, ◌<◌, ◌≤◌, Bool, true, false, ◌||◌, List, [], ◌∷◌, ◌++◌, length, get_or, take, refl, sym, ap, subst, arith, inl, inr, get_or-set_same, get_or-set_other}
use Rattle.std.specs.Prelude.{find, slice_set, ◌==◌, nat_le}
use Rattle.std.specs.List.{range_with_len}
use Rattle.std.proofs.lemmas.Bool.{cases_eq, eq-eqb, ne_eqb, leb-true}
use Rattle.std.proofs.lemmas.List.{length-set, take_more}
use Rattle.std.proofs.lemmas.List.Folds.{list_any-append}
use Rattle.lk_model.specs.Lists.{among, rises_within, up_to}
use Rattle.lk_model.proofs.Booleans.{and_true}
use Rattle.lk_model.proofs.Flags.{or_no, or_yes}
use Rattle.lk_model.proofs.Rising.{rising_bounds}
use Rattle.check_tables.specs.Flags.{AreKeptFlags}

-- a position that rises with the others lies within
pub kept_bounds : (m : ℕ) (kept : List ℕ) (i : ℕ) → rises_within 0 m kept ≡ true → i < length kept → (1 ≤ get_or kept i 0) × (get_or kept i 0 ≤ m)
kept_bounds m kept i up lt = let b = rising_bounds 0 m kept i up lt in (omega (arith, b.0), b.1)

-- one kept position more
flags_more : (m : ℕ) (ks : List ℕ) (p : ℕ) (flags : List Bool) → 1 ≤ p → p ≤ m → AreKeptFlags m ks flags → AreKeptFlags m (ks ++ p ∷ []) (slice_set flags (p - 1) true)
flags_more m ks p flags low high f = record {
  size = length-set flags (p - 1) true ∙ f.size;
  told = λ q within. elim (cases_eq q p) [
    | inl same ↦
        let inside : p - 1 < length flags = omega (arith, f.size, low, high) in
        ap (λ (k : ℕ). get_or (slice_set flags (p - 1) true) (k - 1) false) same ∙ get_or-set_same flags (p - 1) true false inside
        ∙ sym (list_any-append (λ (k : ℕ). k == q) ks (p ∷ []) ∙ ap (λ (b : Bool). among ks q || (b || false)) (eq-eqb p q (sym same)) ∙ or_yes (among ks q))
    | inr other ↦
        let b = and_true (nat_le 1 q) (nat_le q m) within in
        let low_q : 1 ≤ q = leb-true 1 q b.0 in
        let apart : q - 1 ≢ p - 1 = λ e. other (omega (arith, e, low, low_q)) in
        get_or-set_other flags (p - 1) (q - 1) true false apart ∙ f.told q within
        ∙ sym (list_any-append (λ (k : ℕ). k == q) ks (p ∷ []) ∙ ap (λ (b : Bool). among ks q || (b || false)) (ne_eqb p q (λ e. other (sym e))) ∙ or_no (among ks q))
  ];
}

pub flags_next : (m : ℕ) (kept : List ℕ) (i : ℕ) (flags : List Bool) → rises_within 0 m kept ≡ true → i < length kept
    → AreKeptFlags m (take i kept) flags → AreKeptFlags m (take (i + 1) kept) (slice_set flags (get_or kept i 0 - 1) true)
flags_next m kept i flags up lt f =
    let b = kept_bounds m kept i up lt in
    subst (λ (ks : List ℕ). AreKeptFlags m ks (slice_set flags (get_or kept i 0 - 1) true)) (sym (take_more kept i 0 lt)) (flags_more m (take i kept) (get_or kept i 0) flags b.0 b.1 f)

-- tests that agree in a range find the same
find_agree : (s t : ℕ → Bool) (a n : ℕ) → ((p : ℕ) → a ≤ p → p < a + n → s p ≡ t p) → find s (range_with_len a n) ≡ find t (range_with_len a n)
find_agree s t a zero same = refl
find_agree s t a (suc n) same =
    rw (same a (omega arith) (omega arith), find_agree s t (a + 1) n (λ p low high. same p (omega (arith, low)) (omega (arith, high)))) refl

-- tests that agree from 1 to n find the same
pub find_to : (n : ℕ) (s t : ℕ → Bool) → ((p : ℕ) → 1 ≤ p → p ≤ n → s p ≡ t p) → find s (up_to n) ≡ find t (up_to n)
find_to n s t same = find_agree s t 1 n (λ p low high. same p low (omega (arith, high)))
