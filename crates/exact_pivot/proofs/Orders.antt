-- The order of rows by quotient and basic column.
use Rattle.std.proofs.Common.{◌≡◌, ℕ, ◌*◌, ◌<◌, ◌≤◌, ◌⊎◌, inl, inr, sym, ap, arith}
use Rattle.std.proofs.Math.Nat.{mul-lt-mul_of_pos_right, le_of_mul-le-mul_right, lt_of_mul-lt-mul_right}

-- the second of two fractions is less, or they are equal and its mark is less
abbrev pub Before : ℕ → ℕ → ℕ → ℕ → ℕ → ℕ → Type 0
Before h a b i c d = (i * a < h * c) ⊎ ((i * a ≡ h * c) × (d < b))

-- neither is it, nor are they equal with its mark less
abbrev pub NotBefore : ℕ → ℕ → ℕ → ℕ → ℕ → ℕ → Type 0
NotBefore h a b i c d = (h * c < i * a) ⊎ ((i * a ≡ h * c) × (b ≤ d))

module _ (h a b i c d j e f : ℕ) (pa : 0 < a) (pc : 0 < c) (pe : 0 < e) where
  -- i/c comes before h/a, and j/e does not: so i/c comes before j/e
  pub before_chain : Before h a b i c d → NotBefore h a b j e f → Before j e f i c d
  before_chain (inl x) (inl y) =
      let one : (i * a) * e < (h * c) * e = mul-lt-mul_of_pos_right x pe in
      let two : (h * e) * c < (j * a) * c = mul-lt-mul_of_pos_right y pc in
      inl (lt_of_mul-lt-mul_right a (let all : (i * e) * a < (j * c) * a = omega arith in all))
  before_chain (inl x) (inr (y, z)) =
      let one : (i * a) * e < (h * c) * e = mul-lt-mul_of_pos_right x pe in
      let two : (j * a) * c ≡ (h * e) * c = ap (λ n. n * c) y in
      inl (lt_of_mul-lt-mul_right a (let all : (i * e) * a < (j * c) * a = omega arith in all))
  before_chain (inr (x, w)) (inl y) =
      let one : (i * a) * e ≡ (h * c) * e = ap (λ n. n * e) x in
      let two : (h * e) * c < (j * a) * c = mul-lt-mul_of_pos_right y pc in
      inl (lt_of_mul-lt-mul_right a (let all : (i * e) * a < (j * c) * a = omega arith in all))
  before_chain (inr (x, w)) (inr (y, z)) =
      let one : (i * a) * e ≡ (h * c) * e = ap (λ n. n * e) x in
      let two : (j * a) * c ≡ (h * e) * c = ap (λ n. n * c) y in
      let low : i * e ≤ j * c = le_of_mul-le-mul_right (let k : (i * e) * a ≤ (j * c) * a = omega arith in k) pa in
      let high : j * c ≤ i * e = le_of_mul-le-mul_right (let k : (j * c) * a ≤ (i * e) * a = omega arith in k) pa in
      inr (omega arith, omega arith)

pub before_asym : (h a b i c d : ℕ) → Before h a b i c d → NotBefore i c d h a b
before_asym h a b i c d (inl x) = inl x
before_asym h a b i c d (inr (x, y)) = inr (sym x, omega arith)
