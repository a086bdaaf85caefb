-- Sets of literals that grow.
use Rattle.std.proofs.Common.{◌≡◌, ◌≢◌, ℕ, zero, suc, ◌+◌, ◌*◌, ◌<◌, true, false, not, ◌&&◌, ◌||◌, List, [], ◌∷◌, ◌++◌, length, get_or, take, refl, sym, ◌∙◌, ap, subst, arith, ℤ, Bool, inl, inr, get_or-set_same, get_or-set_other}
use Rattle.std.specs.Prelude.{slice_set}
use Rattle.std.specs.List.{list_all, All}
use Rattle.std.specs.Ordering.{int_eq}
use Rattle.std.proofs.lemmas.Bool.{cases_Bool}
use Rattle.std.proofs.lemmas.Bool.Decides.{Decides-int_eq}
use Rattle.std.proofs.lemmas.List.{length-set, take_more}
use Rattle.lk_model.specs.Formulas.Literal.{contains, is_literal, rank_of}
use Rattle.lk_model.proofs.Booleans.{and_true}
use Rattle.lk_model.proofs.Ranks.{rank_apart, rank_small}
use Rattle.lk_model.proofs.Flags.{contains-push, or_no, or_yes}
use Rattle.lk_model.specs.Chains.Chain.{without}
use Rattle.lk_model.proofs.Literals.{literal_at, contains_filter}
use Rattle.check_tables.specs.LiteralSets.{has_literal, with_literal, without_literal, less, IsSetOf}

-- a literal's rank has a place
pub rank_within : (n : ℕ) (l : ℤ) (flags : List Bool) → length flags ≡ 2 * n + 2 → is_literal n l ≡ true → rank_of l < length flags
rank_within n l flags size lit = omega (arith, size, rank_small n l lit)

-- the flag of a literal that is put in goes up, and no other
pub set_more : (n : ℕ) (ls : List ℤ) (flags : List Bool) (l : ℤ) → IsSetOf n ls flags → is_literal n l ≡ true → IsSetOf n (ls ++ l ∷ []) (with_literal flags l)
set_more n ls flags l s lit = record {
  small = s.small;
  size = length-set flags (rank_of l) true ∙ s.size;
  told = λ k kit. elim (cases_Bool (int_eq k l)) [
    | inl e ↦
        let same : k ≡ l = (Decides-int_eq k l).0 e in
        ap (λ (z : ℤ). get_or (slice_set flags (rank_of l) true) (rank_of z) false) same
        ∙ get_or-set_same flags (rank_of l) true false (rank_within n l flags s.size lit)
        ∙ sym (contains-push ls l k ∙ ap (λ (b : Bool). contains ls k || (b || false)) e ∙ or_yes (contains ls k))
    | inr e ↦
        let other : rank_of k ≢ rank_of l = λ r. absurd (cc (e, (Decides-int_eq k l).1 (rank_apart k l r))) in
        get_or-set_other flags (rank_of l) (rank_of k) true false other ∙ s.told k kit
        ∙ sym (contains-push ls l k ∙ ap (λ (b : Bool). contains ls k || (b || false)) e ∙ or_no (contains ls k))
  ];
}

-- the literal at a place of a list is one over the variables
pub item_literal : (n : ℕ) (ls : List ℤ) (i : ℕ) (l : ℤ) → list_all (is_literal n) ls ≡ true → i < length ls → l ≡ get_or ls i l → is_literal n l ≡ true
item_literal n ls i l all lt is = ap (is_literal n) is ∙ literal_at n ls i l all lt

-- the set of one literal more of a list
pub set_next : (n : ℕ) (ls : List ℤ) (i : ℕ) (l : ℤ) (flags : List Bool) → list_all (is_literal n) ls ≡ true → i < length ls → l ≡ get_or ls i l
    → IsSetOf n (take i ls) flags → IsSetOf n (take (i + 1) ls) (with_literal flags l)
set_next n ls i l flags all lt is s =
    let more : take i ls ++ l ∷ [] ≡ take (i + 1) ls = ap (λ (k : ℤ). take i ls ++ k ∷ []) is ∙ sym (take_more ls i l lt) in
    subst (λ (ks : List ℤ). IsSetOf n ks (with_literal flags l)) more (set_more n (take i ls) flags l s (item_literal n ls i l all lt is))

-- each literal of a list has a place
pub all_within : (n : ℕ) (ls : List ℤ) (flags : List Bool) → length flags ≡ 2 * n + 2 → list_all (is_literal n) ls ≡ true → All (λ l. rank_of l < length flags) ls
all_within n ls flags size all = λ i d lt. rank_within n (get_or ls i d) flags size (literal_at n ls i d all lt)

-- the set has each literal of a list where the literals of the set stand there
pub all_told : (n : ℕ) (set ls : List ℤ) (flags : List Bool) → IsSetOf n set flags → list_all (is_literal n) ls ≡ true → list_all (has_literal flags) ls ≡ list_all (contains set) ls
all_told n set [] flags s all = refl
all_told n set (l ∷ ls) flags s all =
    let both = and_true (is_literal n l) (list_all (is_literal n) ls) all in
    rw (s.told l both.0, all_told n set ls flags s both.1) refl

-- what each passes, each of the first ones passes
pub all_front : (t : ℤ → Bool) (k : ℕ) (ls : List ℤ) → list_all t ls ≡ true → list_all t (take k ls) ≡ true
all_front t zero ls all = refl
all_front t (suc k) [] all = refl
all_front t (suc k) (l ∷ ls) all =
    let both = and_true (t l) (list_all t ls) all in
    rw (both.0, all_front t k ls both.1) refl

-- the flag of a literal that is taken out goes down, and no other
pub set_less : (n : ℕ) (c : List ℤ) (l : ℤ) (flags : List Bool) → is_literal n l ≡ true → IsSetOf n c flags → IsSetOf n (without c l) (without_literal flags l)
set_less n c l flags lit s = record {
  small = s.small;
  size = length-set flags (rank_of l) false ∙ s.size;
  told = λ k kit. elim (cases_Bool (int_eq k l)) [
    | inl e ↦
        let same : k ≡ l = (Decides-int_eq k l).0 e in
        ap (λ (z : ℤ). get_or (slice_set flags (rank_of l) false) (rank_of z) false) same
        ∙ get_or-set_same flags (rank_of l) false false (rank_within n l flags s.size lit)
        ∙ sym (contains_filter (λ (z : ℤ). not (int_eq z l)) c k ∙ ap (λ (b : Bool). not b && contains c k) e)
    | inr e ↦
        let other : rank_of k ≢ rank_of l = λ r. absurd (cc (e, (Decides-int_eq k l).1 (rank_apart k l r))) in
        get_or-set_other flags (rank_of l) (rank_of k) false false other ∙ s.told k kit
        ∙ sym (contains_filter (λ (z : ℤ). not (int_eq z l)) c k ∙ ap (λ (b : Bool). not b && contains c k) e)
  ];
}

-- the same literals
set_same : (n : ℕ) (c d : List ℤ) (flags : List Bool) → ((k : ℤ) → contains c k ≡ contains d k) → IsSetOf n c flags → IsSetOf n d flags
set_same n c d flags same s = record { small = s.small; size = s.size; told = λ k kit. s.told k kit ∙ same k }

-- one literal more of some is taken out
pub less_more : (n : ℕ) (c d : List ℤ) (i : ℕ) (l : ℤ) (flags : List Bool) → list_all (is_literal n) d ≡ true → i < length d → l ≡ get_or d i l
    → IsSetOf n (less c (take i d)) flags → IsSetOf n (less c (take (i + 1) d)) (without_literal flags l)
less_more n c d i l flags all lt is s =
    set_same n (without (less c (take i d)) l) (less c (take (i + 1) d)) (without_literal flags l) (λ k.
    let more : contains (take (i + 1) d) k ≡ (contains (take i d) k || (int_eq k l || false)) =
    ap (λ (ls : List ℤ). contains ls k) (take_more d i l lt ∙ ap (λ (z : ℤ). take i d ++ z ∷ []) (sym is)) ∙ contains-push (take i d) l k in
    contains_filter (λ (z : ℤ). not (int_eq z l)) (less c (take i d)) k ∙ ap (λ (b : Bool). not (int_eq k l) && b) (contains_filter (λ (z : ℤ). not (contains (take i d) z)) c k)
    ∙ moved (int_eq k l) (contains (take i d) k) (contains c k)
    ∙ sym (contains_filter (λ (z : ℤ). not (contains (take (i + 1) d) z)) c k ∙ ap (λ (b : Bool). not b && contains c k) more))
    (set_less n (less c (take i d)) l flags (item_literal n d i l all lt is) s)
  where
    moved : (a b x : Bool) → (not a && (not b && x)) ≡ (not (b || (a || false)) && x)
    moved true true x = refl
    moved true false x = refl
    moved false true x = refl
    moved false false x = refl

-- at first none is
pub less_none : (n : ℕ) (c : List ℤ) (flags : List Bool) → IsSetOf n c flags → IsSetOf n (less c []) flags
less_none n c flags s = set_same n c (less c []) flags (λ k. sym (contains_filter (λ (z : ℤ). true) c k)) s

-- a list less itself is empty
pub all_less : (n : ℕ) (c : List ℤ) (flags : List Bool) → IsSetOf n (less c c) flags → IsSetOf n [] flags
all_less n c flags s = set_same n (less c c) [] flags (λ k. contains_filter (λ (z : ℤ). not (contains c z)) c k ∙ gone (contains c k)) s
  where
    gone : (b : Bool) → (not b && b) ≡ false
    gone true = refl
    gone false = refl
