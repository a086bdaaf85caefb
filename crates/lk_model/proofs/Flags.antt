-- The flags of a clause that grows.
use Rattle.std.proofs.Common.{◌≡◌, ◌≢◌, ℕ, ◌+◌, ◌-◌, ◌<◌, Bool, true, false, ◌||◌, List, [], ◌∷◌, ◌++◌, length, take, drop, get_or, refl, sym, ◌∙◌, ap, arith, ℤ, inl, inr, get_or-set_same, get_or-set_other}
use Rattle.std.proofs.lemmas.List.{get_or_read, length-set, length-append, length-drop, take_all, take_more, take-append-le, take-append-drop}
use Rattle.std.specs.Prelude.{slice_set}
use Rattle.std.specs.Ordering.{int_eq}
use Rattle.std.proofs.lemmas.Bool.Decides.{Decides-int_eq}
use Rattle.std.proofs.lemmas.List.Folds.{list_any-append}
use Rattle.std.proofs.lemmas.Bool.{cases_Bool}
use Rattle.lk_model.specs.Formulas.Literal.{contains, is_literal, variable}
use Rattle.lk_model.specs.Formulas.Literal.{rank_of}
use Rattle.lk_model.specs.Held.Growing.{AreFlagged, IsHeld}
use Rattle.lk_model.proofs.Booleans.{and_true}
use Rattle.lk_model.proofs.Ranks.{rank_apart, rank_small}
use Rattle.lk_model.proofs.Literals.{clause-more, clause-less, clause-last, clause-apart, literal_at, new_at, int_self}

pub contains-push : (xs : List ℤ) (l k : ℤ) → contains (xs ++ l ∷ []) k ≡ (contains xs k || (int_eq k l || false))
contains-push xs l k = list_any-append (int_eq k) xs (l ∷ [])

pub same_false : (k l : ℤ) → k ≢ l → int_eq k l ≡ false
same_false k l ne = elim (cases_Bool (int_eq k l)) [ inl e ↦ absurd (ne ((Decides-int_eq k l).0 e)) | inr e ↦ e ]

pub or_no : (b : Bool) → (b || (false || false)) ≡ b
or_no true = refl
or_no false = refl

pub or_yes : (b : Bool) → (b || (true || false)) ≡ true
or_yes true = refl
or_yes false = refl

-- a literal more says nothing of another variable
pub push_other : (ls : List ℤ) (l k : ℤ) → variable k ≢ variable l → contains (ls ++ l ∷ []) k ≡ contains ls k
push_other ls l k other =
    contains-push ls l k ∙ ap (λ (b : Bool). contains ls k || (b || false)) (same_false k l (λ e. other (ap variable e))) ∙ or_no (contains ls k)

-- the last one stands there
pub contains_here : (xs : List ℤ) (l : ℤ) → contains (xs ++ l ∷ []) l ≡ true
contains_here xs l = contains-push xs l l ∙ ap (λ b. contains xs l || (b || false)) (int_self l) ∙ or_yes (contains xs l)

-- the flag of a literal that is added goes up
pub Flagged-push : (n : ℕ) (xs : List ℤ) (flags : List Bool) (l : ℤ) → AreFlagged n xs flags → is_literal n l ≡ true → contains xs l ≡ false → AreFlagged n (xs ++ l ∷ []) (slice_set flags (rank_of l) true)
Flagged-push n xs flags l f lit out = record {
  small = f.small;
  clause = clause-more n xs l f.clause lit out;
  size = length-set flags (rank_of l) true ∙ f.size;
  told = λ k kit. elim (cases_Bool (int_eq k l)) [
    | inl e ↦
        let same : k ≡ l = (Decides-int_eq k l).0 e in
        let within : rank_of l < length flags = omega (arith, f.size, rank_small n l lit) in
        ap (λ z. get_or (slice_set flags (rank_of l) true) (rank_of z) false) same ∙ get_or-set_same flags (rank_of l) true false within
        ∙ sym (contains-push xs l k ∙ ap (λ b. contains xs k || (b || false)) e ∙ or_yes (contains xs k))
    | inr e ↦
        let other : rank_of k ≢ rank_of l = λ r. absurd (cc (e, (Decides-int_eq k l).1 (rank_apart k l r))) in
        get_or-set_other flags (rank_of l) (rank_of k) true false other ∙ f.told k kit
        ∙ sym (contains-push xs l k ∙ ap (λ b. contains xs k || (b || false)) e ∙ or_no (contains xs k))
  ];
}

-- the flag of a literal that is taken out goes down
pub Flagged-pop : (n : ℕ) (xs : List ℤ) (flags : List Bool) (l : ℤ) → AreFlagged n (xs ++ l ∷ []) flags → AreFlagged n xs (slice_set flags (rank_of l) false)
Flagged-pop n xs flags l f = record {
  small = f.small;
  clause = clause-less n xs l f.clause;
  size = length-set flags (rank_of l) false ∙ f.size;
  told = λ k kit. elim (cases_Bool (int_eq k l)) [
    | inl e ↦
        let same : k ≡ l = (Decides-int_eq k l).0 e in
        let within : rank_of l < length flags = omega (arith, f.size, rank_small n l (clause-last n xs l f.clause)) in
        ap (λ z. get_or (slice_set flags (rank_of l) false) (rank_of z) false) same ∙ get_or-set_same flags (rank_of l) false false within
        ∙ sym (ap (contains xs) same ∙ clause-apart n xs l f.clause)
    | inr e ↦
        let other : rank_of k ≢ rank_of l = λ r. absurd (cc (e, (Decides-int_eq k l).1 (rank_apart k l r))) in
        get_or-set_other flags (rank_of l) (rank_of k) false false other ∙ f.told k kit
        ∙ contains-push xs l k ∙ ap (λ b. contains xs k || (b || false)) e ∙ or_no (contains xs k)
  ];
}

-- HELD CLAUSES

-- the flag of one literal more goes up
pub Held-flag : (n : ℕ) (xs : List ℤ) (k : ℕ) (flags : List Bool) (d : ℤ) → IsHeld n xs k flags → k < length xs
    → IsHeld n xs (k + 1) (slice_set flags (rank_of (get_or xs k d)) true)
Held-flag n xs k flags d held lt = record {
  clause = held.clause;
  few = omega (arith, lt);
  told = rw (take_more xs k d lt) (Flagged-push n (take k xs) flags (get_or xs k d) held.told (literal_at n xs k d (and_true _ _ held.clause).0 lt) (new_at xs k d (and_true _ _ held.clause).1 lt));
}

-- a literal more, whose flag stays down
pub Held-more : (n : ℕ) (xs : List ℤ) (k : ℕ) (flags : List Bool) (l : ℤ) → IsHeld n xs k flags → is_literal n l ≡ true → contains xs l ≡ false
    → IsHeld n (xs ++ l ∷ []) k flags
Held-more n xs k flags l held literal out = record {
  clause = clause-more n xs l held.clause literal out;
  few = omega (arith, held.few, length-append xs (l ∷ []));
  told = rw (take-append-le k xs (l ∷ []) held.few) held.told;
}

-- a literal stands among the first ones or among the others
pub contains-parts : (k : ℕ) (xs : List ℤ) (l : ℤ) → (contains (take k xs) l || contains (drop k xs) l) ≡ contains xs l
contains-parts k xs l = sym (list_any-append (int_eq l) (take k xs) (drop k xs)) ∙ ap (λ (ys : List ℤ). contains ys l) (take-append-drop k xs)

-- a flag that was read tells of the first ones
pub flag_tells : (n : ℕ) (xs : List ℤ) (k : ℕ) (flags : List Bool) (l : ℤ) (b : Bool) → IsHeld n xs k flags → is_literal n l ≡ true → b ≡ get_or flags (rank_of l) b
    → b ≡ contains (take k xs) l
flag_tells n xs k flags l b held literal read =
    get_or_read flags (rank_of l) b (omega (arith, held.told.size, rank_small n l literal)) read false ∙ held.told.told l literal

-- one that is up tells of all
pub flag_up : (n : ℕ) (xs : List ℤ) (k : ℕ) (flags : List Bool) (l : ℤ) (b : Bool) → IsHeld n xs k flags → is_literal n l ≡ true → b ≡ get_or flags (rank_of l) b
    → b ≡ true → b ≡ contains xs l
flag_up n xs k flags l b held literal read up =
    let first : contains (take k xs) l ≡ true = sym (flag_tells n xs k flags l b held literal read) ∙ up in
    up ∙ sym (sym (contains-parts k xs l) ∙ ap (λ (a : Bool). a || contains (drop k xs) l) first)

-- where it is down the others tell
pub flag_down : (n : ℕ) (xs : List ℤ) (k : ℕ) (flags : List Bool) (l : ℤ) (b : Bool) → IsHeld n xs k flags → is_literal n l ≡ true → b ≡ get_or flags (rank_of l) b
    → b ≡ false → contains (take (length xs - k) (drop k xs)) l ≡ contains xs l
flag_down n xs k flags l b held literal read down =
    let first : contains (take k xs) l ≡ false = sym (flag_tells n xs k flags l b held literal read) ∙ down in
    ap (λ (ys : List ℤ). contains ys l) (take_all (length xs - k) (drop k xs) (omega (arith, length-drop k xs)))
    ∙ sym (sym (contains-parts k xs l) ∙ ap (λ (a : Bool). a || contains (drop k xs) l) first)
