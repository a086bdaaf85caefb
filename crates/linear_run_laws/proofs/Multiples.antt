-- The common denominator of a column, and the rows' multiples.
use Rattle.std.proofs.Common.{◌≡◌, ℕ, suc, List, [], ◌∷◌, map, ℤ, pos, negsuc, ◌*ℤ◌, ◌<ℤ◌, int_div, unsigned_abs, refl, sym, ap, ◌∙◌, subst, arith, Contains}
use Rattle.std.proofs.Math.IntN.{*ℤ_comm}
use Rattle.std.proofs.lemmas.Int.{ints}
use Rattle.std.proofs.lemmas.List.Elements.{All-contains}
use Rattle.std.specs.Int.{◌∣◌}
use Rattle.lk_model.specs.Linear.Arithmetic.{gcd_of, reduced}
use Rattle.lk_model.specs.Linear.Rows.{Row, TableauRows, entry}
use Rattle.lk_model.specs.Linear.Ends.{numerator, denominator, lcm_from, common, factor, multiple}
use Rattle.lk_model.proofs.LcmLaws.{lcm_is_lcm}
use Rattle.lk_model.proofs.Products.{mul_assoc, mul_swap}
use Rattle.exact_pivot.proofs.Wholes.{times_some}
use Rattle.exact_pivot.proofs.Divided.{quotient_back}
use Rattle.exact_pivot.proofs.Clearing.{reduced_some, reduced_back, reduced_other}
use Rattle.kernel_laws.proofs.Lines.{in_map, map_in}

-- all positive
abbrev AreSome : List ℤ → Type 0
AreSome qs = (q : ℤ) → Contains qs q → pos 0 <ℤ q

-- all but the first are positive
later : (q : ℤ) (qs : List ℤ) → AreSome (q ∷ qs) → AreSome qs
later q qs h x (k, lt, e) = h x (suc k, omega (arith, lt), e)

-- the first is positive
head : (q : ℤ) (qs : List ℤ) → AreSome (q ∷ qs) → pos 0 <ℤ q
head q qs h = h q (0, omega arith, refl)

-- the least common multiple of positive numbers is positive
pub lcm_some : (l : ℤ) (qs : List ℤ) → pos 0 <ℤ l → AreSome qs → pos 0 <ℤ lcm_from l qs
lcm_some l [] h a = h
lcm_some l (q ∷ qs) h a = lcm_some (reduced l q *ℤ q) qs (times_some (reduced l q) q (reduced_some l q h) (head q qs a)) (later q qs a)

-- positive numbers are their absolute values
absolute : (qs : List ℤ) → AreSome qs → map pos (map unsigned_abs qs) ≡ qs
absolute [] a = refl
absolute (pos q ∷ qs) a = ap (λ xs. pos q ∷ xs) (absolute qs (later (pos q) qs a))
absolute (negsuc q ∷ qs) a = absurd (let some = head (negsuc q) qs a in omega (arith, ints, some))

-- each of them divides their least common multiple
lcm_each : (qs : List ℤ) (q : ℤ) → AreSome qs → Contains qs q → unsigned_abs q ∣ unsigned_abs (lcm_from (pos 1) qs)
lcm_each qs q a i =
    let (l, e, is) = lcm_is_lcm (map unsigned_abs qs) in
    let same : unsigned_abs (lcm_from (pos 1) qs) ≡ l = ap (λ xs. unsigned_abs (lcm_from (pos 1) xs)) (sym (absolute qs a)) ∙ ap unsigned_abs e in
    subst (λ n. unsigned_abs q ∣ n) (sym same) (All-contains (λ n. n ∣ l) (map unsigned_abs qs) (unsigned_abs q) is.multiple (map_in unsigned_abs qs q i))

-- a positive number times the quotient by it, of a multiple
quotient_of : (q l : ℤ) → pos 0 <ℤ q → unsigned_abs q ∣ unsigned_abs l → q *ℤ int_div l q ≡ l
quotient_of (pos a) l h d = quotient_back a l d
quotient_of (negsuc a) l h d = absurd (omega (arith, ints, h))

-- THE COLUMN k OF ROWS THAT ARE POSITIVE IN THEIR BASIC COLUMNS

-- each row is positive in its basic column
abbrev pub AreBasic : List Row → Type 0
AreBasic rows = (row : Row) → Contains rows row → pos 0 <ℤ entry row.entries row.basic

-- then the denominators are positive
denominators_some : (rows : List Row) (k : ℕ) → AreBasic rows → AreSome (map (denominator k) rows)
denominators_some rows k h q i =
    let w = in_map (denominator k) rows q i in
    subst (λ z. pos 0 <ℤ z) w.2 (reduced_some (entry w.0.entries w.0.basic) (entry w.0.entries k) (h w.0 w.1))

-- and so is the common one
pub common_some : (t : TableauRows) (k : ℕ) → AreBasic t.rows → pos 0 <ℤ common t k
common_some t k h = lcm_some (pos 1) (map (denominator k) t.rows) (omega (arith, ints)) (denominators_some t.rows k h)

-- a row's multiple times its basic entry is the common denominator times its entry in the column
pub multiple_is : (t : TableauRows) (k : ℕ) (row : Row) → AreBasic t.rows → Contains t.rows row
    → entry row.entries row.basic *ℤ multiple t k row ≡ common t k *ℤ entry row.entries k
multiple_is t k row h i =
    let p = entry row.entries row.basic in
    let w = entry row.entries k in
    let q = denominator k row in
    let some : pos 0 <ℤ q = reduced_some p w (h row i) in
    let whole : q *ℤ factor t k row ≡ common t k = quotient_of q (common t k) some (lcm_each (map (denominator k) t.rows) q (denominators_some t.rows k h) (map_in (denominator k) t.rows row i)) in
    ap (λ z. z *ℤ (factor t k row *ℤ numerator k row)) (sym (reduced_back p w))
    ∙ ap (λ z. z *ℤ (factor t k row *ℤ numerator k row)) (*ℤ_comm (gcd_of p w) q)
    ∙ mul_assoc q (gcd_of p w) (factor t k row *ℤ numerator k row)
    ∙ ap (λ z. q *ℤ z) (mul_swap (gcd_of p w) (factor t k row) (numerator k row))
    ∙ sym (mul_assoc q (factor t k row) (gcd_of p w *ℤ numerator k row))
    ∙ ap (λ z. z *ℤ (gcd_of p w *ℤ numerator k row)) whole
    ∙ ap (λ z. common t k *ℤ z) (reduced_other p w)
