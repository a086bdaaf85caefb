-- Finite sums of whole numbers, and products.
use Rattle.std.proofs.Common.{◌≡◌, ◌≢◌, ℕ, zero, suc, ◌+◌, ◌*◌, Bool, true, false, ◌||◌, ◌==◌, List, [], ◌∷◌, map, ℤ, pos, negsuc, ◌+ℤ◌, ◌*ℤ◌, ◌≤ℤ◌, refl, sym, ap, ◌∙◌, subst, arith, Contains}
use Rattle.std.proofs.lemmas.Int.{ints}
use Rattle.std.proofs.lemmas.Bool.{eqb-true, eq-eqb}
use Rattle.std.proofs.Math.IntN.{*ℤ_comm, *ℤ-zero}
use Rattle.lk_model.specs.Lists.{sum_of, among}
use Rattle.lk_model.proofs.Booleans.{or_false, or_right}
use Rattle.lk_model.proofs.Counting.{Differ, more}
use Rattle.lk_model.proofs.Keys.{first_in, later_in}
use Rattle.lk_model.proofs.Lists.{among_here}
use Rattle.lk_model.proofs.Products.{mul_add}

-- PRODUCTS

-- a sum with a product
pub add_mul : (a b c : ℤ) → (a +ℤ b) *ℤ c ≡ a *ℤ c +ℤ b *ℤ c
add_mul a b c = *ℤ_comm (a +ℤ b) c ∙ mul_add c a b ∙ ap (λ z. z +ℤ c *ℤ b) (*ℤ_comm c a) ∙ ap (λ z. a *ℤ c +ℤ z) (*ℤ_comm c b)

-- a product of numbers above 0 is not 0
some_product : (c x : ℕ) → suc c * suc x ≡ 0 → ⊥
some_product c x e = let f : suc c * suc x ≡ suc c * x + suc c = omega arith in omega (arith, e, f)

-- where a product is 0 and one factor is not, the other one is
pub cancel_zero : (c x : ℤ) → c ≢ pos 0 → c *ℤ x ≡ pos 0 → x ≡ pos 0
cancel_zero c (pos zero) n e = refl
cancel_zero (pos zero) (pos (suc x)) n e = absurd (n refl)
cancel_zero (pos zero) (negsuc x) n e = absurd (n refl)
cancel_zero (pos (suc c)) (pos (suc x)) n e = absurd (some_product c x (omega (arith, ints, e)))
cancel_zero (pos (suc c)) (negsuc x) n e = absurd (some_product c x (omega (arith, ints, e)))
cancel_zero (negsuc c) (pos (suc x)) n e = absurd (some_product c x (omega (arith, ints, e)))
cancel_zero (negsuc c) (negsuc x) n e = absurd (some_product c x (omega (arith, ints, e)))

-- SUMS

-- sums of the same terms
pub sum_same : {X : Type 0} (f g : X → ℤ) (xs : List X) → ((x : X) → Contains xs x → f x ≡ g x) → sum_of (map f xs) ≡ sum_of (map g xs)
sum_same f g [] e = refl
sum_same f g (x ∷ xs) e = λ i. e x (first_in x xs) i +ℤ sum_same f g xs (λ y c. e y (later_in x xs y c)) i

-- a sum of zeros
pub sum_zero : {X : Type 0} (f : X → ℤ) (xs : List X) → ((x : X) → Contains xs x → f x ≡ pos 0) → sum_of (map f xs) ≡ pos 0
sum_zero f [] e = refl
sum_zero f (x ∷ xs) e = rw (e x (first_in x xs), sum_zero f xs (λ y c. e y (later_in x xs y c))) refl

-- two sums of two, added by their terms
regroup : (a b c d : ℤ) → a +ℤ b +ℤ (c +ℤ d) ≡ a +ℤ c +ℤ (b +ℤ d)
regroup a b c d = omega (arith, ints)

-- a sum of sums of two
pub sum_plus : {X : Type 0} (f g : X → ℤ) (xs : List X) → sum_of (map (λ x. f x +ℤ g x) xs) ≡ sum_of (map f xs) +ℤ sum_of (map g xs)
sum_plus f g [] = refl
sum_plus f g (x ∷ xs) = ap (λ z. f x +ℤ g x +ℤ z) (sum_plus f g xs) ∙ regroup (f x) (g x) (sum_of (map f xs)) (sum_of (map g xs))

-- a common factor
pub sum_times : {X : Type 0} (c : ℤ) (f : X → ℤ) (xs : List X) → sum_of (map (λ x. c *ℤ f x) xs) ≡ c *ℤ sum_of (map f xs)
sum_times c f [] = sym (*ℤ-zero c)
sum_times c f (x ∷ xs) = ap (λ z. c *ℤ f x +ℤ z) (sum_times c f xs) ∙ sym (mul_add c (f x) (sum_of (map f xs)))

-- THE EXCHANGE: a table may be summed by its rows or by its columns
pub sum_exchange : {X Y : Type 0} (f : X → Y → ℤ) (xs : List X) (ys : List Y)
    → sum_of (map (λ x. sum_of (map (f x) ys)) xs) ≡ sum_of (map (λ y. sum_of (map (λ x. f x y) xs)) ys)
sum_exchange f [] ys = sym (sum_zero (λ y. pos 0) ys (λ y c. refl))
sum_exchange f (x ∷ xs) ys =
    ap (λ z. sum_of (map (f x) ys) +ℤ z) (sum_exchange f xs ys) ∙ sym (sum_plus (f x) (λ y. sum_of (map (λ w. f w y) xs)) ys)

-- a sum of numbers that are not negative is not
pub sum_least : {X : Type 0} (f : X → ℤ) (xs : List X) → ((x : X) → Contains xs x → pos 0 ≤ℤ f x) → pos 0 ≤ℤ sum_of (map f xs)
sum_least f [] e = omega (arith, ints)
sum_least f (x ∷ xs) e = plus (f x) (sum_of (map f xs)) (e x (first_in x xs)) (sum_least f xs (λ y c. e y (later_in x xs y c)))
  where
    plus : (x y : ℤ) → pos 0 ≤ℤ x → pos 0 ≤ℤ y → pos 0 ≤ℤ (x +ℤ y)
    plus x y h k = omega (arith, ints, h, k)

-- where it is 0, each of them is
pub sum_none : {X : Type 0} (f : X → ℤ) (xs : List X) → ((x : X) → Contains xs x → pos 0 ≤ℤ f x) → sum_of (map f xs) ≡ pos 0
    → (x : X) → Contains xs x → f x ≡ pos 0
sum_none f [] e s x (k, lt, is) = absurd (omega (arith, lt))
sum_none f (y ∷ xs) e s x (zero, lt, is) =
    let least = sum_least f xs (λ z c. e z (later_in y xs z c)) in
    subst (λ z. f z ≡ pos 0) is (first (f y) (sum_of (map f xs)) (e y (first_in y xs)) least s)
  where
    first : (a b : ℤ) → pos 0 ≤ℤ a → pos 0 ≤ℤ b → a +ℤ b ≡ pos 0 → a ≡ pos 0
    first a b h k s = omega (arith, ints, h, k, s)
sum_none f (y ∷ xs) e s x (suc k, lt, is) =
    let least = sum_least f xs (λ z c. e z (later_in y xs z c)) in
    sum_none f xs (λ z c. e z (later_in y xs z c)) (second (f y) (sum_of (map f xs)) (e y (first_in y xs)) least s) x (k, omega (arith, lt), is)
  where
    second : (a b : ℤ) → pos 0 ≤ℤ a → pos 0 ≤ℤ b → a +ℤ b ≡ pos 0 → b ≡ pos 0
    second a b h k s = omega (arith, ints, h, k, s)

-- ONE TERM

-- where all terms but one are 0, and the one is not there
pub sum_absent : (f : ℕ → ℤ) (xs : List ℕ) (u : ℕ) → among xs u ≡ false → ((v : ℕ) → among xs v ≡ true → v ≢ u → f v ≡ pos 0) → sum_of (map f xs) ≡ pos 0
sum_absent f [] u out e = refl
sum_absent f (x ∷ xs) u out e =
    let both = or_false (x == u) (among xs u) out in
    let other : x ≢ u = λ s. let g : true ≡ false = sym (eq-eqb x u s) ∙ both.0 in let h : ⊥ = cc in h in
    rw (e x (among_here x xs) other, sum_absent f xs u both.1 (λ v i. e v (or_right (x == v) (among xs v) i))) refl

-- and where it is there, once
pub sum_one : (f : ℕ → ℤ) (xs : List ℕ) (u : ℕ) → Differ xs → among xs u ≡ true → ((v : ℕ) → among xs v ≡ true → v ≢ u → f v ≡ pos 0) → sum_of (map f xs) ≡ f u
sum_one f [] u d there e = absurd (let g : ⊥ = cc in g)
sum_one f (x ∷ xs) u (more _ _ a d) there e =
    at_test (x == u) refl there (λ l. sum_one f xs u d l (λ v i. e v (or_right (x == v) (among xs v) i)))
  where
    plus_none : (x : ℤ) → x +ℤ pos 0 ≡ x
    plus_none x = omega (arith, ints)

    none_plus : (x : ℤ) → pos 0 +ℤ x ≡ x
    none_plus x = omega (arith, ints)

    at_test : (b : Bool) → (x == u) ≡ b → (b || among xs u) ≡ true → (among xs u ≡ true → sum_of (map f xs) ≡ f u) → f x +ℤ sum_of (map f xs) ≡ f u
    at_test true s l rest =
        let same : x ≡ u = eqb-true x u s in
        let others : sum_of (map f xs) ≡ pos 0 = sum_absent f xs x a (λ v i n. e v (or_right (x == v) (among xs v) i) (λ o. n (o ∙ sym same))) in
        ap (λ z. f x +ℤ z) others ∙ plus_none (f x) ∙ ap f same
    at_test false s l rest =
        let other : x ≢ u = λ o. let g : true ≡ false = sym (eq-eqb x u o) ∙ s in let h : ⊥ = cc in h in
        ap (λ z. z +ℤ sum_of (map f xs)) (e x (among_here x xs) other) ∙ none_plus (sum_of (map f xs)) ∙ rest l
