-- The rows after a pivot, as a list with one row taken out and put back.
use Rattle.std.proofs.Common.{◌≡◌, ℕ, zero, suc, ◌+◌, ◌-◌, ◌<◌, ◌≤◌, Bool, true, false, not, cond, ◌==◌, List, [], ◌∷◌, ◌++◌, map, length, get_or, eq-eqb, subst, refl, sym, ◌∙◌, arith}
use Rattle.std.specs.List.{range_with_len, insert, remove, flat_map, filter}
use Rattle.std.proofs.lemmas.Bool.{ne_eqb}

-- what a function gives along a range, by what another gives
pub map_range : {X : Type 0} (f g : ℕ → X) (a n : ℕ) → ((j : ℕ) → a ≤ j → j < a + n → f j ≡ g j) → map f (range_with_len a n) ≡ map g (range_with_len a n)
map_range f g a zero e = refl
map_range f g a (suc n) e = λ i. e a (omega arith) (omega arith) i ∷ map_range f g (a + 1) n (λ j h k. e j (omega arith) (omega arith)) i

-- the elements of a list, by their places from one on
pub map_places : {X Y : Type 0} (h : X → Y) (xs : List X) (d : X) (a : ℕ) → map (λ j. h (get_or xs (j - a) d)) (range_with_len a (length xs)) ≡ map h xs
map_places h [] d a = refl
map_places h (x ∷ xs) d a =
    let zeroth : a - a ≡ 0 = omega arith in
    let here : h (get_or (x ∷ xs) (a - a) d) ≡ h x = rw zeroth refl in
    let later = map_range (λ j. h (get_or (x ∷ xs) (j - a) d)) (λ j. h (get_or xs (j - (a + 1)) d)) (a + 1) (length xs)
    (λ j g k. (let step : j - a ≡ suc (j - (a + 1)) = omega arith in rw step refl)) ∙ map_places h xs d (a + 1) in
    λ i. here i ∷ later i

-- with one place apart: the others as they are changed, and a value in its place
pub map_apart : {X Y : Type 0} (h : X → Y) (y : Y) (xs : List X) (d : X) (a i : ℕ) → i < length xs
    → map (λ j. cond (j == a + i) y (h (get_or xs (j - a) d))) (range_with_len a (length xs)) ≡ insert (map h (remove xs i)) i y
map_apart h y [] d a i k = absurd (omega arith)
map_apart h y (x ∷ xs) d a zero k =
    let same : (a == a + 0) ≡ true = eq-eqb a (a + 0) (omega arith) in
    let here : cond (a == a + 0) y (h (get_or (x ∷ xs) (a - a) d)) ≡ y = rw same refl in
    let later = map_range (λ j. cond (j == a + 0) y (h (get_or (x ∷ xs) (j - a) d))) (λ j. h (get_or xs (j - (a + 1)) d)) (a + 1) (length xs)
    (λ j g l. (let step : j - a ≡ suc (j - (a + 1)) = omega arith in let other : (j == a + 0) ≡ false = ne_eqb j (a + 0) (λ e. omega arith) in rw (other, step) refl)) ∙ map_places h xs d (a + 1) in
    λ i. here i ∷ later i
map_apart h y (x ∷ xs) d a (suc i) k =
    let zeroth : a - a ≡ 0 = omega arith in
    let other : (a == a + suc i) ≡ false = ne_eqb a (a + suc i) (λ e. omega arith) in
    let here : cond (a == a + suc i) y (h (get_or (x ∷ xs) (a - a) d)) ≡ h x = rw (other, zeroth) refl in
    let later = map_range (λ j. cond (j == a + suc i) y (h (get_or (x ∷ xs) (j - a) d))) (λ j. cond (j == (a + 1) + i) y (h (get_or xs (j - (a + 1)) d))) (a + 1) (length xs)
    (λ j g l. (let step : j - a ≡ suc (j - (a + 1)) = omega arith in let place : a + suc i ≡ (a + 1) + i = omega arith in rw (place, step) refl)) ∙ map_apart h y xs d (a + 1) i (omega arith) in
    λ n. here n ∷ later n

range_apart : (a b n : ℕ) → b < a → filter (λ j. not (j == b)) (range_with_len a n) ≡ range_with_len a n
range_apart a b zero h = refl
range_apart a b (suc n) h =
    let other : (a == b) ≡ false = ne_eqb a b (λ e. omega arith) in
    rw other (λ i. a ∷ range_apart (a + 1) b n (omega arith) i)

cond_flat : {X : Type 0} (f g : ℕ → List X) (a : ℕ) (ns : List ℕ) (b : Bool) → f a ≡ g a → flat_map f ns ≡ flat_map g ns → flat_map f (cond b (a ∷ ns) ns) ≡ flat_map g (cond b (a ∷ ns) ns)
cond_flat f g a ns true e r = λ i. e i ++ r i
cond_flat f g a ns false e r = r

flat_range : {X : Type 0} (f g : ℕ → List X) (p : ℕ → Bool) (a n : ℕ) → ((j : ℕ) → a ≤ j → j < a + n → f j ≡ g j) → flat_map f (filter p (range_with_len a n)) ≡ flat_map g (filter p (range_with_len a n))
flat_range f g p a zero e = refl
flat_range f g p a (suc n) e =
    cond_flat f g a (filter p (range_with_len (a + 1) n)) (p a) (e a (omega arith) (omega arith)) (flat_range f g p (a + 1) n (λ j h k. e j (omega arith) (omega arith)))

plain_range : {X : Type 0} (f g : ℕ → List X) (a n : ℕ) → ((j : ℕ) → a ≤ j → j < a + n → f j ≡ g j) → flat_map f (range_with_len a n) ≡ flat_map g (range_with_len a n)
plain_range f g a zero e = refl
plain_range f g a (suc n) e = λ i. e a (omega arith) (omega arith) i ++ plain_range f g (a + 1) n (λ j h k. e j (omega arith) (omega arith)) i

flat_places : {X Y : Type 0} (h : X → List Y) (xs : List X) (d : X) (a : ℕ) → flat_map (λ j. h (get_or xs (j - a) d)) (range_with_len a (length xs)) ≡ flat_map h xs
flat_places h [] d a = refl
flat_places h (x ∷ xs) d a =
    let zeroth : a - a ≡ 0 = omega arith in
    let here : h (get_or (x ∷ xs) (a - a) d) ≡ h x = rw zeroth refl in
    let later = plain_range (λ j. h (get_or (x ∷ xs) (j - a) d)) (λ j. h (get_or xs (j - (a + 1)) d)) (a + 1) (length xs)
    (λ j g k. (let step : j - a ≡ suc (j - (a + 1)) = omega arith in rw step refl)) ∙ flat_places h xs d (a + 1) in
    λ i. here i ++ later i

-- what is made along the places but one
pub made_apart : {X Y : Type 0} (h : X → List Y) (xs : List X) (d : X) (a i : ℕ) → i < length xs
    → flat_map (λ j. h (get_or xs (j - a) d)) (filter (λ j. not (j == a + i)) (range_with_len a (length xs))) ≡ flat_map h (remove xs i)
made_apart h [] d a i k = absurd (omega arith)
made_apart h (x ∷ xs) d a zero k =
    let same : (a == a + 0) ≡ true = eq-eqb a (a + 0) (omega arith) in
    let rest = range_apart (a + 1) (a + 0) (length xs) (omega arith) in
    let step = plain_range (λ j. h (get_or (x ∷ xs) (j - a) d)) (λ j. h (get_or xs (j - (a + 1)) d)) (a + 1) (length xs)
    (λ j g l. (let next : j - a ≡ suc (j - (a + 1)) = omega arith in rw next refl)) in
    rw (same, rest) (step ∙ flat_places h xs d (a + 1))
made_apart h (x ∷ xs) d a (suc i) k =
    let zeroth : a - a ≡ 0 = omega arith in
    let other : (a == a + suc i) ≡ false = ne_eqb a (a + suc i) (λ e. omega arith) in
    let here : h (get_or (x ∷ xs) (a - a) d) ≡ h x = rw zeroth refl in
    let place : a + suc i ≡ (a + 1) + i = omega arith in
    let step = flat_range (λ j. h (get_or (x ∷ xs) (j - a) d)) (λ j. h (get_or xs (j - (a + 1)) d)) (λ j. not (j == a + suc i)) (a + 1) (length xs)
    (λ j g l. (let next : j - a ≡ suc (j - (a + 1)) = omega arith in rw next refl)) in
    let rest = subst (λ n. flat_map (λ j. h (get_or xs (j - (a + 1)) d)) (filter (λ j. not (j == n)) (range_with_len (a + 1) (length xs))) ≡ flat_map h (remove xs i)) (sym place) (made_apart h xs d (a + 1) i (omega arith)) in
    let later = step ∙ rest in
    rw other (λ n. here n ++ later n)
