-- A row without its entry in a column: positive multiples of it and of the row before differ by a multiple of the row by
-- which it is cleared.
use Rattle.std.proofs.Common.{◌≡◌, ℕ, zero, suc, ◌-◌, Bool, true, false, cond, List, [], ◌∷◌, map, length, get_or, ℤ, pos, negsuc, neg_ℤ, ◌-ℤ◌, ◌*ℤ◌, ◌<ℤ◌, unsigned_abs, refl, sym, ap, ◌∙◌, subst, arith}
use Rattle.std.proofs.Math.IntN.{*ℤ_comm, *ℤ-zero}
use Rattle.std.proofs.Math.ListN.{get_or-map}
use Rattle.std.proofs.lemmas.Int.{ints}
use Rattle.std.proofs.lemmas.List.{length-map}
use Rattle.lk_model.specs.Lists.{is_zero}
use Rattle.lk_model.specs.Linear.Arithmetic.{gcd, gcd_of, reduced, primitive}
use Rattle.lk_model.specs.Linear.Rows.{entry}
use Rattle.lk_model.specs.Linear.Pivot.{cleared, combined}
use Rattle.lk_model.proofs.GcdLaws.{gcd_is_gcd}
use Rattle.lk_model.proofs.Products.{mul_assoc}
use Rattle.exact_rows.specs.Made.{mixed}
use Rattle.exact_rows.proofs.Divisors.{gcd_of_some, gcd_of_comm}
use Rattle.exact_rows.proofs.Wides.{length-mixed}
use Rattle.exact_pivot.specs.Reached.{Columns}
use Rattle.exact_pivot.proofs.Wholes.{one_mul, cancel, cancel_zero, cancel_some, none_of}
use Rattle.exact_pivot.proofs.Divided.{quotient_back, primitive_divided}

-- c times the new row is a times the old one less b times another
pub record IsMixed (by row new : Columns) : Type 0 where
  pub c : ℤ
  pub a : ℤ
  pub b : ℤ
  pub c_some : pos 0 <ℤ c
  pub a_some : pos 0 <ℤ a
  pub at : (x : ℕ) → c *ℤ new x ≡ a *ℤ row x -ℤ b *ℤ by x

mixed_entry : (scale share : ℤ) (xs ys : List ℤ) (i : ℕ) → length xs ≡ length ys
    → get_or (mixed scale share xs ys) i (pos 0) ≡ scale *ℤ get_or xs i (pos 0) -ℤ share *ℤ get_or ys i (pos 0)
mixed_entry scale share [] [] i e = rw (*ℤ-zero scale, *ℤ-zero share) refl
mixed_entry scale share [] (y ∷ ys) i e = absurd (omega (arith, e))
mixed_entry scale share (x ∷ xs) [] i e = absurd (omega (arith, e))
mixed_entry scale share (x ∷ xs) (y ∷ ys) zero e = refl
mixed_entry scale share (x ∷ xs) (y ∷ ys) (suc i) e = mixed_entry scale share xs ys i (omega (arith, e))

-- the gcd times a reduced number, from the left operand and from the right one
pub reduced_back : (p f : ℤ) → gcd_of p f *ℤ reduced p f ≡ p
reduced_back p f = quotient_back (gcd (unsigned_abs p) (unsigned_abs f)) p (gcd_is_gcd (unsigned_abs p) (unsigned_abs f)).0

pub reduced_other : (p f : ℤ) → gcd_of p f *ℤ reduced f p ≡ f
reduced_other p f = ap (λ g. g *ℤ reduced f p) (gcd_of_comm p f) ∙ reduced_back f p

-- the multiples in which a row and the other are combined meet in the column
reduced_meet : (p f : ℤ) → pos 0 <ℤ p → reduced p f *ℤ f ≡ reduced f p *ℤ p
reduced_meet p f h = cancel (gcd_of p f) (reduced p f *ℤ f) (reduced f p *ℤ p) (gcd_of_some p f h)
    (sym (mul_assoc (gcd_of p f) (reduced p f) f) ∙ ap (λ z. z *ℤ f) (reduced_back p f) ∙ *ℤ_comm p f
    ∙ ap (λ z. z *ℤ p) (sym (reduced_other p f)) ∙ mul_assoc (gcd_of p f) (reduced f p) p)

pub reduced_some : (p f : ℤ) → pos 0 <ℤ p → pos 0 <ℤ reduced p f
reduced_some p f h = cancel_some (gcd_of p f) (reduced p f) (gcd_of_some p f h) (subst (λ z. pos 0 <ℤ z) (sym (reduced_back p f)) h)

pub record IsCleared (by : List ℤ) (k : ℕ) (row new : List ℤ) : Type 0 where
  pub mixed : IsMixed (entry by) (entry row) (entry new)
  pub none : entry new k ≡ pos 0
  pub width : length new ≡ length row

no_less : (x y : ℤ) → pos 1 *ℤ x ≡ pos 1 *ℤ x -ℤ pos 0 *ℤ y
no_less x y = omega (arith, ints)

zero_is : (x : ℤ) → is_zero x ≡ true → x ≡ pos 0
zero_is x e = grind (arith, ints)

combined_clears : (by : List ℤ) (k : ℕ) (row : List ℤ) → length row ≡ length by → pos 0 <ℤ entry by k → IsCleared by k row (combined (entry by k) (entry row k) row by)
unfolding combined
combined_clears by k row l h =
    let p = entry by k in
    let f = entry row k in
    let divided = primitive_divided (mixed (reduced p f) (reduced f p) row by) in
    let at : (x : ℕ) → divided.0 *ℤ entry (primitive (mixed (reduced p f) (reduced f p) row by)) x ≡ reduced p f *ℤ entry row x -ℤ reduced f p *ℤ entry by x =
    λ x. divided.1.at (x - 1) ∙ mixed_entry (reduced p f) (reduced f p) row by (x - 1) l in
    record {
      mixed = record { c = divided.0; a = reduced p f; b = reduced f p; c_some = divided.1.some; a_some = reduced_some p f h; at = at };
      none = cancel_zero divided.0 _ divided.1.some (at k ∙ none_of (reduced p f *ℤ f) (reduced f p *ℤ p) (reduced_meet p f h));
      width = length-map (mixed (reduced p f) (reduced f p) row by) _ ∙ length-mixed (reduced p f) (reduced f p) row by l;
    }

pub cleared_clears : (by : List ℤ) (k : ℕ) (row : List ℤ) → length row ≡ length by → pos 0 <ℤ entry by k → IsCleared by k row (cleared by k row)
cleared_clears by k row l h = by_test (is_zero (entry row k)) refl
  where
    by_test : (b : Bool) → is_zero (entry row k) ≡ b → IsCleared by k row (cond b row (combined (entry by k) (entry row k) row by))
    by_test true e = record {
      mixed = record { c = pos 1; a = pos 1; b = pos 0; c_some = omega (arith, ints); a_some = omega (arith, ints); at = λ x. no_less (entry row x) (entry by x) };
      none = zero_is (entry row k) e;
      width = refl;
    }
    by_test false e = combined_clears by k row l h

-- a row and the row turned are 1 or -1 times each other
pub record IsTurned (by row : Columns) : Type 0 where
  pub sign : ℤ
  pub at : (x : ℕ) → by x ≡ sign *ℤ row x
  pub back : (x : ℕ) → row x ≡ sign *ℤ by x

turned_once : (x : ℤ) → neg_ℤ x ≡ negsuc 0 *ℤ x
turned_once x = omega (arith, ints)

turned_twice : (x : ℤ) → x ≡ negsuc 0 *ℤ neg_ℤ x
turned_twice x = omega (arith, ints)

pub turned_turns : (b : Bool) (row : List ℤ) → IsTurned (entry (cond b (map neg_ℤ row) row)) (entry row)
turned_turns true row =
    let each : (x : ℕ) → entry (map neg_ℤ row) x ≡ neg_ℤ (entry row x) = λ x. get_or-map neg_ℤ row (x - 1) (pos 0) in
    record {
      sign = negsuc 0;
      at = λ x. each x ∙ turned_once (entry row x);
      back = λ x. turned_twice (entry row x) ∙ ap (λ z. negsuc 0 *ℤ z) (sym (each x));
    }
turned_turns false row = record { sign = pos 1; at = λ x. sym (one_mul (entry row x)); back = λ x. sym (one_mul (entry row x)) }

pub turned_width : (b : Bool) (row : List ℤ) → length (cond b (map neg_ℤ row) row) ≡ length row
turned_width true row = length-map row neg_ℤ
turned_width false row = refl
