-- Products of whole numbers.
use borrow.Author.Differences.{up, down}
use Rattle.std.proofs.Common.{◌≡◌, ◌+◌, ◌*◌, ℤ, pos, negsuc, ◌+ℤ◌, ◌*ℤ◌, ◌≤ℤ◌, sym, ap, ◌∙◌, arith}
use Rattle.std.proofs.lemmas.Int.{ints}
use Rattle.std.proofs.Math.IntN.{*ℤ_comm}

-- a product with a sum
pub mul_add : (a b c : ℤ) → a *ℤ (b +ℤ c) ≡ a *ℤ b +ℤ a *ℤ c
mul_add a b c =
    let e : up (b +ℤ c) + (down b + down c) ≡ down (b +ℤ c) + (up b + up c) = omega (arith, ints) in
    let f = ap (λ n. up a * n) e in
    let g = ap (λ n. down a * n) e in
    omega (arith, ints, f, g)

-- a product of three
pub mul_assoc : (a b c : ℤ) → a *ℤ b *ℤ c ≡ a *ℤ (b *ℤ c)
mul_assoc a b c =
    let e : up (a *ℤ b) + (up a * down b + down a * up b) ≡ down (a *ℤ b) + (up a * up b + down a * down b) = omega (arith, ints) in
    let f : up (b *ℤ c) + (up b * down c + down b * up c) ≡ down (b *ℤ c) + (up b * up c + down b * down c) = omega (arith, ints) in
    let e1 = ap (λ n. up c * n) e in
    let e2 = ap (λ n. down c * n) e in
    let f1 = ap (λ n. up a * n) f in
    let f2 = ap (λ n. down a * n) f in
    omega (arith, ints, e1, e2, f1, f2)

-- a factor moves past another one
pub mul_swap : (a b c : ℤ) → a *ℤ (b *ℤ c) ≡ b *ℤ (a *ℤ c)
mul_swap a b c = sym (mul_assoc a b c) ∙ ap (λ z. z *ℤ c) (*ℤ_comm a b) ∙ mul_assoc b a c

-- a product of numbers that are not negative is not
pub times_least : (c x : ℤ) → pos 0 ≤ℤ c → pos 0 ≤ℤ x → pos 0 ≤ℤ (c *ℤ x)
times_least (pos c) (pos x) h k = omega (arith, ints)
times_least (negsuc c) x h k = absurd (omega (arith, ints, h))
times_least (pos c) (negsuc x) h k = absurd (omega (arith, ints, k))
