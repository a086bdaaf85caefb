-- Joining number after number gives the least common multiple.
use Rattle.std.proofs.Common.{◌≡◌, ℕ, zero, suc, ◌+◌, ◌*◌, ◌/◌, ◌%◌, List, [], ◌∷◌, map, pos, refl, sym, ap, subst, arith, All}
use Rattle.std.proofs.Math.Nat.{one-dvd, dvd-mul_left, dvd-mul_right_of_dvd, dvd-add_iff_left, mul-dvd-mul_left, mul-dvd-mul_right, dvd_of_mul-dvd-mul_right, eq-zero_of_zero-dvd, mod-add-div, div-mul_cancel}
use Rattle.std.proofs.lemmas.Nat.Gcd.{dvd_refl, dvd-zero, dvd_trans}
use Rattle.std.proofs.lemmas.List.Elements.{All-nil, All-cons, All-head, All-tail}
use Rattle.std.specs.Int.{◌∣◌}
use Rattle.lk_model.specs.Linear.Arithmetic.{gcd, gcd_within}
use Rattle.lk_model.specs.Linear.Ends.{lcm_from}
use Rattle.lk_model.specs.Laws.{IsLcm, LcmIsLcm}
use Rattle.lk_model.proofs.GcdLaws.{gcd_is_gcd}

-- what divides k times each of two numbers divides k times their gcd
times_within : (d k steps a b : ℕ) → d ∣ k * a → d ∣ k * b → d ∣ k * gcd_within steps a b
times_within d k zero a b p q = p
times_within d k (suc steps) a zero p q = p
times_within d k (suc steps) a (suc b) p q = times_within d k steps (suc b) (a % suc b) q rest
  where
    whole : k * (a % suc b) + k * suc b * (a / suc b) ≡ k * a
    whole = let e = ap (λ n. k * n) (mod-add-div a (suc b)) in omega (arith, e)

    rest : d ∣ k * (a % suc b)
    rest = (dvd-add_iff_left d (dvd-mul_right_of_dvd d q (a / suc b))).1 (subst (λ n. d ∣ n) (sym whole) p)

times_gcd : (d k a b : ℕ) → d ∣ k * a → d ∣ k * b → d ∣ k * gcd a b
unfolding gcd
times_gcd d k a b p q = times_within d k (suc b) a b p q

-- a step gives a multiple of the first number (of the second it is one plainly)
step_first : (l q : ℕ) → l ∣ l / gcd l q * q
step_first l q =
    let both = gcd_is_gcd l q in
    subst (λ n. n ∣ l / gcd l q * q) (div-mul_cancel (gcd l q) both.0) (mul-dvd-mul_left (gcd l q) (l / gcd l q) both.1)

-- and it divides each multiple of both
step_least : (l q m : ℕ) → l ∣ m → q ∣ m → l / gcd l q * q ∣ m
step_least l q m p r = by_gcd (gcd l q) (gcd_is_gcd l q).0 (times_gcd (l * q) m l q crossed (mul-dvd-mul_right l p q))
  where
    crossed : l * q ∣ m * l
    crossed = let e : q * l ≡ l * q = omega arith in subst (λ n. n ∣ m * l) e (mul-dvd-mul_right q r l)

    by_gcd : (g : ℕ) → g ∣ l → l * q ∣ m * g → l / g * q ∣ m
    by_gcd zero d e = subst (λ n. l / zero * q ∣ n) (sym (eq-zero_of_zero-dvd (dvd_trans zero d p))) (dvd-zero (l / zero * q))
    by_gcd (suc g) d e =
        let back = ap (λ n. n * q) (div-mul_cancel (suc g) d) in
        let whole : l * q ≡ l / suc g * q * suc g = omega (arith, back) in
        dvd_of_mul-dvd-mul_right (l / suc g * q) (omega arith) (subst (λ n. n ∣ m * suc g) whole e)

-- all steps, from any number on
lcm_from_on : (l : ℕ) (qs : List ℕ) → (k : ℕ) × (lcm_from (pos l) (map pos qs) ≡ pos k) × IsLcm (l ∷ qs) k
lcm_from_on l [] = (l, refl, record { multiple = All-cons (λ q. q ∣ l) l [] (dvd_refl l) (All-nil (λ q. q ∣ l)); least = λ m h. All-head (λ q. q ∣ m) l [] h })
lcm_from_on l (q ∷ qs) =
    let step = l / gcd l q * q in
    let (k, e, is) = lcm_from_on step qs in
    let some : step ∣ k = All-head (λ n. n ∣ k) step qs is.multiple in
    let later = All-tail (λ n. n ∣ k) step qs is.multiple in
    let both = All-cons (λ n. n ∣ k) q qs (dvd_trans q (dvd-mul_left q (l / gcd l q)) some) later in
    (k, e, record { multiple = All-cons (λ n. n ∣ k) l (q ∷ qs) (dvd_trans l (step_first l q) some) both; least = λ m h. is.least m (stepped m h) })
  where
    stepped : (m : ℕ) → All (λ n. n ∣ m) (l ∷ q ∷ qs) → All (λ n. n ∣ m) (l / gcd l q * q ∷ qs)
    stepped m h =
        let rest = All-tail (λ n. n ∣ m) l (q ∷ qs) h in
        All-cons (λ n. n ∣ m) (l / gcd l q * q) qs (step_least l q m (All-head (λ n. n ∣ m) l (q ∷ qs) h) (All-head (λ n. n ∣ m) q qs rest)) (All-tail (λ n. n ∣ m) q qs rest)

pub lcm_is_lcm : LcmIsLcm
lcm_is_lcm qs =
    let (l, e, is) = lcm_from_on 1 qs in
    (l, e, record { multiple = All-tail (λ q. q ∣ l) 1 qs is.multiple; least = λ m h. is.least m (All-cons (λ q. q ∣ m) 1 qs (one-dvd m) h) })
