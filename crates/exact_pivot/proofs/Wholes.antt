-- Products of whole numbers, and sums of them.
use Rattle.std.proofs.Common.{◌≡◌, zero, suc, ◌+◌, ◌*◌, List, [], ◌∷◌, map, ℤ, pos, negsuc, ◌+ℤ◌, ◌-ℤ◌, ◌*ℤ◌, ◌<ℤ◌, ◌≤ℤ◌, refl, sym, ap, ◌∙◌, subst, arith}
use Rattle.std.proofs.lemmas.Int.{ints}
use Rattle.std.proofs.Math.IntN.{*ℤ_comm, *ℤ-zero}
use borrow.Author.Differences.{up, down}
use Rattle.lk_model.specs.Lists.{sum_of}
use Rattle.lk_model.proofs.Products.{mul_add, mul_assoc}

-- PRODUCTS

pub mul_sub : (a b c : ℤ) → a *ℤ (b -ℤ c) ≡ a *ℤ b -ℤ a *ℤ c
mul_sub a b c =
    let e : up (b -ℤ c) + (down b + up c) ≡ down (b -ℤ c) + (up b + down c) = omega (arith, ints) in
    let f = ap (λ n. up a * n) e in
    let g = ap (λ n. down a * n) e in
    omega (arith, ints, f, g)

pub sub_mul : (a b c : ℤ) → (a -ℤ b) *ℤ c ≡ a *ℤ c -ℤ b *ℤ c
sub_mul a b c = *ℤ_comm (a -ℤ b) c ∙ mul_sub c a b ∙ ap (λ z. z -ℤ c *ℤ b) (*ℤ_comm c a) ∙ ap (λ z. a *ℤ c -ℤ z) (*ℤ_comm c b)

pub one_mul : (x : ℤ) → pos 1 *ℤ x ≡ x
one_mul x = omega (arith, ints)

-- SIGNS OF PRODUCTS

pub times_some : (c x : ℤ) → pos 0 <ℤ c → pos 0 <ℤ x → pos 0 <ℤ (c *ℤ x)
times_some (pos (suc c)) (pos (suc x)) h k = grind (arith, ints)
times_some (pos zero) x h k = absurd (omega (arith, ints, h))
times_some (negsuc c) x h k = absurd (omega (arith, ints, h))
times_some (pos (suc c)) (pos zero) h k = absurd (omega (arith, ints, k))
times_some (pos (suc c)) (negsuc x) h k = absurd (omega (arith, ints, k))

pub cancel_some : (c x : ℤ) → pos 0 <ℤ c → pos 0 <ℤ (c *ℤ x) → pos 0 <ℤ x
cancel_some (pos (suc c)) (pos (suc x)) h k = omega (arith, ints)
cancel_some (pos (suc c)) (pos zero) h k = absurd (let z : suc c * zero ≡ zero = omega arith in omega (arith, ints, k, z))
cancel_some (pos (suc c)) (negsuc x) h k = absurd (omega (arith, ints, k))
cancel_some (pos zero) x h k = absurd (omega (arith, ints, h))
cancel_some (negsuc c) x h k = absurd (omega (arith, ints, h))

pub cancel_least : (c x : ℤ) → pos 0 <ℤ c → pos 0 ≤ℤ (c *ℤ x) → pos 0 ≤ℤ x
cancel_least (pos (suc c)) (pos x) h k = omega (arith, ints)
cancel_least (pos (suc c)) (negsuc x) h k = absurd (omega (arith, ints, k))
cancel_least (pos zero) x h k = absurd (omega (arith, ints, h))
cancel_least (negsuc c) x h k = absurd (omega (arith, ints, h))

pub cancel_zero : (c x : ℤ) → pos 0 <ℤ c → c *ℤ x ≡ pos 0 → x ≡ pos 0
cancel_zero (pos (suc c)) (pos zero) h e = refl
cancel_zero (pos (suc c)) (pos (suc x)) h e = absurd (let some = times_some (pos (suc c)) (pos (suc x)) h (omega (arith, ints)) in omega (arith, ints, some, e))
cancel_zero (pos (suc c)) (negsuc x) h e = absurd (omega (arith, ints, e))
cancel_zero (pos zero) x h e = absurd (omega (arith, ints, h))
cancel_zero (negsuc c) x h e = absurd (omega (arith, ints, h))

same_of : (x y : ℤ) → x -ℤ y ≡ pos 0 → x ≡ y
same_of x y e = omega (arith, ints, e)

pub none_of : (x y : ℤ) → x ≡ y → x -ℤ y ≡ pos 0
none_of x y e = omega (arith, ints, e)

pub cancel : (c x y : ℤ) → pos 0 <ℤ c → c *ℤ x ≡ c *ℤ y → x ≡ y
cancel c x y h e = same_of x y (cancel_zero c (x -ℤ y) h (mul_sub c x y ∙ none_of (c *ℤ x) (c *ℤ y) e))

-- MULTIPLES OF A NUMBER THAT ARE MIXED FROM TWO OTHERS

pub mixed_zero : (c a b x y z : ℤ) → pos 0 <ℤ c → c *ℤ x ≡ a *ℤ y -ℤ b *ℤ z → y ≡ pos 0 → z ≡ pos 0 → x ≡ pos 0
mixed_zero c a b x y z h e f g = cancel_zero c x h (e ∙ rw (f, g, *ℤ-zero a, *ℤ-zero b) refl)

less_zero : (x : ℤ) → x -ℤ pos 0 ≡ x
less_zero x = omega (arith, ints)

-- where the second of them is 0
pub mixed_first : (c a b x y z : ℤ) → c *ℤ x ≡ a *ℤ y -ℤ b *ℤ z → z ≡ pos 0 → c *ℤ x ≡ a *ℤ y
mixed_first c a b x y z e g = e ∙ rw (g, *ℤ-zero b) (less_zero (a *ℤ y))

pub mixed_some : (c a b x y z : ℤ) → pos 0 <ℤ c → pos 0 <ℤ a → c *ℤ x ≡ a *ℤ y -ℤ b *ℤ z → pos 0 <ℤ y → z ≡ pos 0 → pos 0 <ℤ x
mixed_some c a b x y z h k e f g = cancel_some c x h (subst (λ w. pos 0 <ℤ w) (sym (mixed_first c a b x y z e g)) (times_some a y k f))

pub mixed_back : (c a b x y z : ℤ) → pos 0 <ℤ a → c *ℤ x ≡ a *ℤ y -ℤ b *ℤ z → x ≡ pos 0 → z ≡ pos 0 → y ≡ pos 0
mixed_back c a b x y z h e f g = cancel_zero a y h (sym (mixed_first c a b x y z e g) ∙ rw f (*ℤ-zero c))

gather : (whole part rest left right left_more right_more first second : ℤ) → whole ≡ part +ℤ rest → part ≡ left -ℤ right → rest ≡ left_more -ℤ right_more
    → first ≡ left +ℤ left_more → second ≡ right +ℤ right_more → whole ≡ first -ℤ second
gather whole part rest left right left_more right_more first second e f g h k = omega (arith, ints)

mix_step : (c a b f g h s F G H : ℤ) → c *ℤ f ≡ a *ℤ g -ℤ b *ℤ h → c *ℤ F ≡ a *ℤ G -ℤ b *ℤ H
    → c *ℤ (f *ℤ s +ℤ F) ≡ a *ℤ (g *ℤ s +ℤ G) -ℤ b *ℤ (h *ℤ s +ℤ H)
mix_step c a b f g h s F G H e k =
    let part : c *ℤ (f *ℤ s) ≡ a *ℤ (g *ℤ s) -ℤ b *ℤ (h *ℤ s) =
    sym (mul_assoc c f s) ∙ ap (λ z. z *ℤ s) e ∙ sub_mul (a *ℤ g) (b *ℤ h) s ∙ ap (λ z. z -ℤ b *ℤ h *ℤ s) (mul_assoc a g s) ∙ ap (λ z. a *ℤ (g *ℤ s) -ℤ z) (mul_assoc b h s) in
    gather _ _ _ (a *ℤ (g *ℤ s)) (b *ℤ (h *ℤ s)) (a *ℤ G) (b *ℤ H) _ _ (mul_add c (f *ℤ s) F) part k (mul_add a (g *ℤ s) G) (mul_add b (h *ℤ s) H)

-- a sum of products, with first factors that are mixed
pub mixed_sum : {X : Type 0} (c a b : ℤ) (f g h s : X → ℤ) (xs : List X) → ((x : X) → c *ℤ f x ≡ a *ℤ g x -ℤ b *ℤ h x)
    → c *ℤ sum_of (map (λ x. f x *ℤ s x) xs) ≡ a *ℤ sum_of (map (λ x. g x *ℤ s x) xs) -ℤ b *ℤ sum_of (map (λ x. h x *ℤ s x) xs)
mixed_sum c a b f g h s [] e = rw (*ℤ-zero c, *ℤ-zero a, *ℤ-zero b) refl
mixed_sum c a b f g h s (x ∷ xs) e = mix_step c a b (f x) (g x) (h x) (s x) _ _ _ (e x) (mixed_sum c a b f g h s xs e)
