-- What a test chooses from a list, one item after another.
use Rattle.std.proofs.Common.{◌≡◌, ◌≢◌, ℕ, suc, ◌+◌, ◌-◌, ◌<◌, ◌≤◌, Bool, true, false, cond, not, ◌==◌, List, [], ◌∷◌, ◌++◌, drop, length, get_or, refl, sym, ◌∙◌, ap, arith, map, filter, zip}
use Rattle.std.specs.List.{range_with_len}
use Rattle.std.proofs.lemmas.Bool.Decides.{nat_tests}
use Rattle.std.proofs.lemmas.List.{append-nil, append_assoc, drop_all, drop_more}
use Rattle.lk_model.specs.declared.document.Own.{Own}
use Rattle.lk_model.specs.declared.document.MatchRow.{MatchRow}
use Rattle.matching_kernel.specs.Lines.{is_removed, owners_of, row_at}

chosen_first : {X Y : Type 0} (g : X → Bool) (f : X → Y) (x : X) (xs : List X) (b : Bool) → g x ≡ b → map f (filter g (x ∷ xs)) ≡ cond b (f x ∷ map f (filter g xs)) (map f (filter g xs))
chosen_first {X} {Y} g f x xs b e = at_test (g x) ∙ ap (λ c. cond c (f x ∷ map f (filter g xs)) (map f (filter g xs))) e
  where
    at_test : (c : Bool) → map f (cond c (x ∷ filter g xs) (filter g xs)) ≡ cond c (f x ∷ map f (filter g xs)) (map f (filter g xs))
    at_test true = refl
    at_test false = refl

-- one that is chosen comes after those so far
more_chosen : {X Y : Type 0} (g : X → Bool) (f : X → Y) (x : X) (xs from : List X) (ys after all : List Y) → from ≡ x ∷ xs → g x ≡ true → after ≡ ys ++ f x ∷ []
    → ys ++ map f (filter g from) ≡ all → after ++ map f (filter g xs) ≡ all
more_chosen g f x xs from ys after all s t a e =
    let here : map f (filter g from) ≡ f x ∷ map f (filter g xs) = ap (λ zs. map f (filter g zs)) s ∙ chosen_first g f x xs true t in
    ap (λ zs. zs ++ map f (filter g xs)) a ∙ append_assoc ys (f x ∷ []) (map f (filter g xs)) ∙ ap (λ zs. ys ++ zs) (sym here) ∙ e

-- and another one is left out
none_chosen : {X Y : Type 0} (g : X → Bool) (f : X → Y) (x : X) (xs from : List X) (ys after all : List Y) → from ≡ x ∷ xs → g x ≡ false → after ≡ ys
    → ys ++ map f (filter g from) ≡ all → after ++ map f (filter g xs) ≡ all
none_chosen g f x xs from ys after all s t a e =
    let here : map f (filter g from) ≡ map f (filter g xs) = ap (λ zs. map f (filter g zs)) s ∙ chosen_first g f x xs false t in
    ap (λ zs. zs ++ map f (filter g xs)) a ∙ ap (λ zs. ys ++ zs) (sym here) ∙ e

-- OWNERS

abbrev owner : ℕ × ℕ → Own
owner e = record { pos = e.0; var = e.1 }

pub owner_taken : (part cl escape : List ℕ) (own after all : List Own) (i : ℕ) → i < length part → length part ≡ length cl → is_removed escape (get_or cl i 0) ≡ true
    → after ≡ own ++ record { pos = get_or part i 0; var = get_or cl i 0 } ∷ [] → own ++ owners_of (drop i part) (drop i cl) escape ≡ all
    → after ++ owners_of (drop (i + 1) part) (drop (i + 1) cl) escape ≡ all
owner_taken part cl escape own after all i h l t a e =
    let k : i < length cl = omega (arith, h, l) in
    more_chosen (λ (e : ℕ × ℕ). is_removed escape e.1) owner (get_or part i 0, get_or cl i 0) (zip (drop (i + 1) part) (drop (i + 1) cl)) (zip (drop i part) (drop i cl)) own after all
    (λ j. zip (drop_more part i 0 h j) (drop_more cl i 0 k j)) t a e

pub owner_left : (part cl escape : List ℕ) (own after all : List Own) (i : ℕ) → i < length part → length part ≡ length cl → is_removed escape (get_or cl i 0) ≡ false
    → after ≡ own → own ++ owners_of (drop i part) (drop i cl) escape ≡ all → after ++ owners_of (drop (i + 1) part) (drop (i + 1) cl) escape ≡ all
owner_left part cl escape own after all i h l t a e =
    let k : i < length cl = omega (arith, h, l) in
    none_chosen (λ (e : ℕ × ℕ). is_removed escape e.1) owner (get_or part i 0, get_or cl i 0) (zip (drop (i + 1) part) (drop (i + 1) cl)) (zip (drop i part) (drop i cl)) own after all
    (λ j. zip (drop_more part i 0 h j) (drop_more cl i 0 k j)) t a e

pub owners_done : (part cl escape : List ℕ) (own all : List Own) (i : ℕ) → length part ≤ i → own ++ owners_of (drop i part) (drop i cl) escape ≡ all → own ≡ all
owners_done part cl escape own all i h e = sym (append-nil own) ∙ ap (λ ps. own ++ owners_of ps (drop i cl) escape) (sym (drop_all i part h)) ∙ e

-- ROWS

-- those of the variables from v on, before an end
abbrev pub rows_from : ℕ → ℕ → List ℕ → List ℕ → List ℕ → List MatchRow
rows_from v end of_var escape rank = map (row_at of_var escape rank) (filter (λ w. not (get_or escape (w - 1) 0 == 0)) (range_with_len v (end - v)))

pub row_taken : (of_var escape rank : List ℕ) (rows after all : List MatchRow) (v end : ℕ) → v < end → get_or escape (v - 1) 0 ≢ 0 → after ≡ rows ++ row_at of_var escape rank v ∷ []
    → rows ++ rows_from v end of_var escape rank ≡ all → after ++ rows_from (v + 1) end of_var escape rank ≡ all
row_taken of_var escape rank rows after all v end h some a e =
    let count : end - v ≡ suc (end - (v + 1)) = omega (arith, h) in
    let test : not (get_or escape (v - 1) 0 == 0) ≡ true = grind (arith, nat_tests, some) in
    more_chosen (λ w. not (get_or escape (w - 1) 0 == 0)) (row_at of_var escape rank) v (range_with_len (v + 1) (end - (v + 1))) (range_with_len v (end - v)) rows after all
    (ap (range_with_len v) count) test a e

pub row_left : (of_var escape rank : List ℕ) (rows after all : List MatchRow) (v end : ℕ) → v < end → get_or escape (v - 1) 0 ≡ 0 → after ≡ rows
    → rows ++ rows_from v end of_var escape rank ≡ all → after ++ rows_from (v + 1) end of_var escape rank ≡ all
row_left of_var escape rank rows after all v end h none a e =
    let count : end - v ≡ suc (end - (v + 1)) = omega (arith, h) in
    let test : not (get_or escape (v - 1) 0 == 0) ≡ false = grind (arith, nat_tests, none) in
    none_chosen (λ w. not (get_or escape (w - 1) 0 == 0)) (row_at of_var escape rank) v (range_with_len (v + 1) (end - (v + 1))) (range_with_len v (end - v)) rows after all
    (ap (range_with_len v) count) test a e

pub rows_done : (of_var escape rank : List ℕ) (rows all : List MatchRow) (v end : ℕ) → end ≤ v → rows ++ rows_from v end of_var escape rank ≡ all → rows ≡ all
rows_done of_var escape rank rows all v end h e =
    let none : end - v ≡ 0 = omega (arith, h) in
    sym (append-nil rows) ∙ ap (λ n. rows ++ map (row_at of_var escape rank) (filter (λ w. not (get_or escape (w - 1) 0 == 0)) (range_with_len v n))) (sym none) ∙ e
