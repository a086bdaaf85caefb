-- Tests and numbers that cannot hold together.
use Rattle.std.proofs.Common.{◌≡◌, ℕ, zero, suc, ◌<◌, ◌==◌, Bool, true, false, not, ◌&&◌, refl, sym, ◌∙◌, arith}
use Rattle.std.proofs.lemmas.Bool.{eqb-true, eq-eqb}

-- a test is not both true and false
pub never_both : (b : Bool) → b ≡ true → b ≡ false → ⊥
never_both true t f = (let z : ⊥ = cc in z)
never_both false t f = (let z : ⊥ = cc in z)

-- nor true with its negation
pub not_both : (b : Bool) → not b ≡ true → b ≡ true → ⊥
not_both true n t = (let z : ⊥ = cc in z)
not_both false n t = (let z : ⊥ = cc in z)

-- a test beside one that passes
pub and_right : (b : Bool) → (b && true) ≡ b
and_right true = refl
and_right false = refl

-- a number other than 0 is above it
pub above_zero : (n : ℕ) → (n == 0) ≡ false → 0 < n
above_zero zero f = absurd (let z : ⊥ = cc in z)
above_zero (suc n) f = omega arith

-- numbers apart are apart either way round
pub test_apart : (a b : ℕ) → (a == b) ≡ false → (b == a) ≡ false
test_apart a b e = at (b == a) refl
  where
    at : (t : Bool) → (b == a) ≡ t → t ≡ false
    at true f = let g : true ≡ false = sym (eq-eqb a b (sym (eqb-true b a f))) ∙ e in absurd (let z : ⊥ = cc in z)
    at false f = refl
