-- Quotients in lowest terms, and the least common multiple of a column's denominators, row after row.
use Rattle.std.proofs.Common.{◌≡◌, ℕ, suc, ◌+◌, ◌<◌, ◌≤◌, List, ◌∷◌, map, drop, length, get_or, Option, Some, None, Result, Ok, Err, IfOk, ℤ, pos, ◌*ℤ◌, ◌<ℤ◌, refl, sym, ap, ◌∙◌, arith, drop-cons, subst}
use Rattle.std.proofs.lemmas.List.{drop_all}
use Rattle.lk_model.specs.Linear.Arithmetic.{first_wide, gcd_of, reduced}
use Rattle.lk_model.specs.Linear.Rows.{Row}
use Rattle.lk_model.specs.Linear.Ends.{denominator, lcm_from, made_in_lcm}
use Rattle.lk_model.specs.declared.wide.Op.TheVariants.{Product}
use Rattle.lk_model.specs.declared.wide.Wide.{Wide}
use Rattle.exact_rows.specs.Made.{IsMade}
use Rattle.exact_rows.proofs.Divisors.{gcd_of_some, gcd_of_comm}
use Rattle.exact_pivot.proofs.Firsts.{made-err, made-ok}
use Rattle.exact_pivot.proofs.Wholes.{times_some}

-- the gcd is positive where one of the numbers is
pub gcd_of_some_second : (x y : ℤ) → pos 0 <ℤ y → pos 0 <ℤ gcd_of x y
gcd_of_some_second x y h = subst (λ g. pos 0 <ℤ g) (gcd_of_comm y x) (gcd_of_some y x h)

-- a product of numbers above 0
pub made_some : (a b : ℤ) (r : Result ℤ Wide) → IsMade Product a b r → pos 0 <ℤ a → pos 0 <ℤ b → IfOk r (λ x. pos 0 <ℤ x)
made_some a b (Ok x) m h k = subst (λ z. pos 0 <ℤ z) (sym m.1) (times_some a b h k)
made_some a b (Err w) m h k = tt

-- a row's denominator is joined: what the least common multiple is from it on
pub join_value : (k : ℕ) (rows : List Row) (i : ℕ) (d : Row) (l q z all : ℤ) → i < length rows → d ≡ get_or rows i d → q ≡ denominator k d
    → IsMade Product (reduced l q) q (Ok z) → lcm_from l (map (denominator k) (drop i rows)) ≡ all → lcm_from z (map (denominator k) (drop (i + 1) rows)) ≡ all
join_value k rows i d l q z all h at g m e =
    let f : q ≡ denominator k (get_or rows i d) = g ∙ ap (denominator k) at in
    let step : i + 1 ≡ suc i = omega arith in
    let start : map (denominator k) (drop i rows) ≡ denominator k (get_or rows i d) ∷ map (denominator k) (drop (suc i) rows) = ap (map (denominator k)) (drop-cons rows i d h) in
    let here : lcm_from l (denominator k (get_or rows i d) ∷ map (denominator k) (drop (suc i) rows)) ≡ lcm_from z (map (denominator k) (drop (suc i) rows)) = rw (← f, m.1) refl in
    rw step (sym here ∙ ap (lcm_from l) (sym start) ∙ e)

-- and what is made from it on
pub join_made : (k : ℕ) (rows : List Row) (i : ℕ) (d : Row) (l q z : ℤ) (all : Option Wide) → i < length rows → d ≡ get_or rows i d → q ≡ denominator k d
    → IsMade Product (reduced l q) q (Ok z) → first_wide (made_in_lcm l (map (denominator k) (drop i rows))) ≡ all
    → first_wide (made_in_lcm z (map (denominator k) (drop (i + 1) rows))) ≡ all
join_made k rows i d l q z all h at g m e =
    let f : q ≡ denominator k (get_or rows i d) = g ∙ ap (denominator k) at in
    let step : i + 1 ≡ suc i = omega arith in
    let start : map (denominator k) (drop i rows) ≡ q ∷ map (denominator k) (drop (suc i) rows) = ap (map (denominator k)) (drop-cons rows i d h) ∙ ap (λ x. x ∷ map (denominator k) (drop (suc i) rows)) (sym f) in
    let later = made-ok Product (reduced l q) q (made_in_lcm (reduced l q *ℤ q) (map (denominator k) (drop (suc i) rows))) z m in
    let same : first_wide (made_in_lcm z (map (denominator k) (drop (suc i) rows))) ≡ first_wide (made_in_lcm (reduced l q *ℤ q) (map (denominator k) (drop (suc i) rows))) = ap (λ x. first_wide (made_in_lcm x (map (denominator k) (drop (suc i) rows)))) m.1 in
    rw step (same ∙ sym later ∙ ap (λ qs. first_wide (made_in_lcm l qs)) (sym start) ∙ e)

-- the operands where joining it is too wide
pub join_wide : (k : ℕ) (rows : List Row) (i : ℕ) (d : Row) (l q : ℤ) (w : Wide) (all : Option Wide) → i < length rows → d ≡ get_or rows i d → q ≡ denominator k d
    → IsMade Product (reduced l q) q (Err w) → first_wide (made_in_lcm l (map (denominator k) (drop i rows))) ≡ all → Some w ≡ all
join_wide k rows i d l q w all h at g m e =
    let f : q ≡ denominator k (get_or rows i d) = g ∙ ap (denominator k) at in
    let start : map (denominator k) (drop i rows) ≡ q ∷ map (denominator k) (drop (suc i) rows) = ap (map (denominator k)) (drop-cons rows i d h) ∙ ap (λ x. x ∷ map (denominator k) (drop (suc i) rows)) (sym f) in
    made-err Product (reduced l q) q (made_in_lcm (reduced l q *ℤ q) (map (denominator k) (drop (suc i) rows))) w m ∙ ap (λ qs. first_wide (made_in_lcm l qs)) (sym start) ∙ e

-- what is made behind the last row
pub join_made_end : (k : ℕ) (rows : List Row) (i : ℕ) (l : ℤ) (all : Option Wide) → length rows ≤ i → first_wide (made_in_lcm l (map (denominator k) (drop i rows))) ≡ all → None ≡ all
unfolding first_wide
join_made_end k rows i l all h e =
    let last : first_wide (made_in_lcm l (map (denominator k) (drop i rows))) ≡ None = ap (λ rs. first_wide (made_in_lcm l (map (denominator k) rs))) (drop_all i rows h) in
    sym last ∙ e
