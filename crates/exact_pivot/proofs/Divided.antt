-- Rows that are divided by their content.
use Rattle.std.proofs.Common.{◌≡◌, ℕ, zero, suc, ◌*◌, ◌/◌, List, [], ◌∷◌, map, get_or, ℤ, pos, negsuc, neg_ℤ, ◌*ℤ◌, ◌<ℤ◌, int_div, unsigned_abs, refl, sym, ap, ◌∙◌, subst, arith}
use Rattle.std.proofs.Math.Nat.{zero-div, mul-div_cancel', eq-zero_of_zero-dvd}
use Rattle.std.proofs.lemmas.Int.{ints}
use Rattle.std.proofs.lemmas.Nat.Gcd.{dvd_trans, IsGcd-from_zero}
use Rattle.std.specs.Int.{◌∣◌}
use Rattle.lk_model.specs.Linear.Arithmetic.{gcd, content, primitive}
use Rattle.lk_model.proofs.GcdLaws.{gcd_is_gcd}
use Rattle.exact_pivot.proofs.Wholes.{one_mul}
use Rattle.exact_rows.proofs.Quotients.{none-abs}

-- a number times the quotient by it, where it divides
pub quotient_back : (g : ℕ) (x : ℤ) → g ∣ unsigned_abs x → pos g *ℤ int_div x (pos g) ≡ x
quotient_back g (pos n) d = ap pos (mul-div_cancel' g d)
quotient_back g (negsuc n) d = negative g (suc n / g) n (mul-div_cancel' g d)
  where
    negative : (g q n : ℕ) → g * q ≡ suc n → pos g *ℤ neg_ℤ (pos q) ≡ negsuc n
    negative g zero n e = absurd (let z : g * zero ≡ zero = omega arith in omega (arith, z, e))
    negative g (suc q) n e = omega (arith, ints, e)

divided_zero : (g : ℤ) → int_div (pos 0) g ≡ pos 0
divided_zero (pos g) = ap pos (zero-div g)
divided_zero (negsuc g) = rw (zero-div (suc g)) refl

divided_at : (g : ℤ) (xs : List ℤ) (i : ℕ) → get_or (map (λ x. int_div x g) xs) i (pos 0) ≡ int_div (get_or xs i (pos 0)) g
divided_at g [] i = sym (divided_zero g)
divided_at g (x ∷ xs) zero = refl
divided_at g (x ∷ xs) (suc i) = divided_at g xs i

-- the content divides each entry
content_divides : (xs : List ℤ) (i : ℕ) → unsigned_abs (content xs) ∣ unsigned_abs (get_or xs i (pos 0))
content_divides [] i = (IsGcd-from_zero 0 0 refl).0
content_divides (x ∷ xs) zero = (gcd_is_gcd (unsigned_abs x) (unsigned_abs (content xs))).0
content_divides (x ∷ xs) (suc i) = dvd_trans _ (gcd_is_gcd (unsigned_abs x) (unsigned_abs (content xs))).1 (content_divides xs i)

-- a positive number, by which the entries of a primitive row are those of the row
pub record IsDivided (c : ℤ) (new row : List ℤ) : Type 0 where
  pub some : pos 0 <ℤ c
  pub at : (i : ℕ) → c *ℤ get_or new i (pos 0) ≡ get_or row i (pos 0)

content_natural : (xs : List ℤ) → (n : ℕ) × (content xs ≡ pos n)
content_natural [] = (0, refl)
content_natural (x ∷ xs) = (gcd (unsigned_abs x) (unsigned_abs (content xs)), refl)

pub primitive_divided : (xs : List ℤ) → (c : ℤ) × IsDivided c (primitive xs) xs
primitive_divided xs = let natural = content_natural xs in by_content natural.0 natural.1
  where
    divides : (n i : ℕ) → content xs ≡ pos n → n ∣ unsigned_abs (get_or xs i (pos 0))
    divides n i e = subst (λ g. unsigned_abs g ∣ unsigned_abs (get_or xs i (pos 0))) e (content_divides xs i)

    divided : (n i : ℕ) → content xs ≡ pos n → get_or (primitive xs) i (pos 0) ≡ int_div (get_or xs i (pos 0)) (pos n)
    divided n i e = ap (λ g. get_or (map (λ x. int_div x g) xs) i (pos 0)) e ∙ divided_at (pos n) xs i

    of_zeros : (i : ℕ) → content xs ≡ pos 0 → get_or (primitive xs) i (pos 0) ≡ get_or xs i (pos 0)
    of_zeros i e =
        let none : get_or xs i (pos 0) ≡ pos 0 = none-abs (get_or xs i (pos 0)) (eq-zero_of_zero-dvd (divides 0 i e)) in
        divided 0 i e ∙ ap (λ x. int_div x (pos 0)) none ∙ divided_zero (pos 0) ∙ sym none

    by_content : (n : ℕ) → content xs ≡ pos n → (c : ℤ) × IsDivided c (primitive xs) xs
    by_content (suc n) e = (
      pos (suc n),
      record { some = omega (arith, ints); at = λ i. ap (λ x. pos (suc n) *ℤ x) (divided (suc n) i e) ∙ quotient_back (suc n) (get_or xs i (pos 0)) (divides (suc n) i e) },
    )
    by_content zero e = (pos 1, record { some = omega (arith, ints); at = λ i. one_mul (get_or (primitive xs) i (pos 0)) ∙ of_zeros i e })
