-- Literals of which there is one on each variable.
use Rattle.std.proofs.Common.{◌≡◌, ◌↔◌, ℕ, zero, suc, ◌+◌, ◌<◌, ◌≤◌, true, ◌==◌, List, [], ◌∷◌, refl, sym, ◌∙◌, ap, arith, ℤ, pos, length, map}
use Rattle.std.specs.List.{range_with_len}
use Rattle.std.proofs.lemmas.Bool.{and_from, eqb-true, eq-eqb, lt-ltb, le-leb}
use Rattle.std.proofs.lemmas.List.{length-map}
use Rattle.std.proofs.lemmas.List.FromFn.{length-range_with_len as range_size}
use Rattle.lk_model.specs.Lists.{rises_within}
use Rattle.lk_model.specs.Formulas.Literal.{variable}
use Rattle.lk_model.specs.Formulas.Formula.{variables_to}
use Rattle.lk_model.specs.Documents.Form.{counts_from}
use Rattle.lk_model.proofs.Booleans.{and_true}
use Rattle.lk_model.proofs.Rising.{rises, rising_count}
use Rattle.lk_model.specs.Documents.Answers.{is_total}

-- numbers without a gap rise
counted_rise : (low next high : ℕ) (ns : List ℕ) → low < next → next + length ns ≤ high + 1 → counts_from next ns ≡ true → rises_within low high ns ≡ true
counted_rise low next high [] lt le e = refl
counted_rise low next high (n ∷ ns) lt le e =
    let both = and_true (n == next) (counts_from (next + 1) ns) e in
    let same = eqb-true n next both.0 in
    and_from _ _ (and_from _ _ (lt-ltb low n (omega (arith, lt, same))) (le-leb n high (omega (arith, le, same))))
    (counted_rise n (next + 1) high ns (omega (arith, same)) (omega (arith, le)) both.1)

-- so do the variables of such literals
pub total_rises : (n : ℕ) (lits : List ℤ) → is_total n lits ≡ true → rises_within 0 n (map variable lits) ≡ true
total_rises n lits e =
    let both = and_true (counts_from 1 (map variable lits)) (length lits == n) e in
    let long = eqb-true (length lits) n both.1 in
    let same : length (map variable lits) ≡ length lits = length-map {B = ℕ} lits variable in
    counted_rise 0 1 n (map variable lits) (omega arith) (omega (arith, same, long)) both.0

-- numbers that rise, and are as many as lie between, have no gap
rising_counts : (low high : ℕ) (ns : List ℕ) → rises_within low high ns ≡ true → length ns + low ≡ high → counts_from (low + 1) ns ≡ true
rising_counts low high [] r e = refl
rising_counts low high (n ∷ ns) r e =
    let p = rises low high n ns r in
    let most = rising_count n high ns p.more p.within in
    let same : n ≡ low + 1 = omega (arith, p.above, most, e) in
    and_from (n == low + 1) (counts_from (low + 1 + 1) ns) (eq-eqb n (low + 1) same)
    (ap (λ (k : ℕ). counts_from (k + 1) ns) (sym same) ∙ rising_counts n high ns p.more (omega (arith, same, e)))

-- so literals that rise, as many as there are variables, are on each
pub rising_total : (n : ℕ) (lits : List ℤ) → rises_within 0 n (map variable lits) ≡ true → length lits ≡ n → is_total n lits ≡ true
rising_total n lits r e =
    let same : length (map variable lits) ≡ length lits = length-map {B = ℕ} lits variable in
    and_from (counts_from 1 (map variable lits)) (length lits == n) (rising_counts 0 n (map variable lits) r (omega (arith, same, e))) (eq-eqb (length lits) n e)

-- THE VARIABLES IN A ROW

counted_range : (next : ℕ) (ns : List ℕ) → counts_from next ns ≡ true → ns ≡ range_with_len next (length ns)
counted_range next [] e = refl
counted_range next (n ∷ ns) e =
    let both = and_true (n == next) (counts_from (next + 1) ns) e in
    ap (λ (k : ℕ). k ∷ ns) (eqb-true n next both.0) ∙ ap (λ (ms : List ℕ). next ∷ ms) (counted_range (next + 1) ns both.1)

range_counted : (next size : ℕ) → counts_from next (range_with_len next size) ≡ true
range_counted next zero = refl
range_counted next (suc size) = and_from (next == next) (counts_from (next + 1) (range_with_len (next + 1) size)) (eq-eqb next next refl) (range_counted (next + 1) size)

-- there is a literal on each variable exactly where the variables are those from 1 to n
pub total_variables : (n : ℕ) (lits : List ℤ) → (is_total n lits ≡ true) ↔ (map variable lits ≡ variables_to n)
total_variables n lits = (forth, back)
  where
    same : length (map variable lits) ≡ length lits
    same = length-map {B = ℕ} lits variable

    forth : is_total n lits ≡ true → map variable lits ≡ variables_to n
    forth e =
        let both = and_true (counts_from 1 (map variable lits)) (length lits == n) e in
        counted_range 1 (map variable lits) both.0 ∙ ap (range_with_len 1) (same ∙ eqb-true (length lits) n both.1)

    back : map variable lits ≡ variables_to n → is_total n lits ≡ true
    back e = and_from (counts_from 1 (map variable lits)) (length lits == n)
        (ap (counts_from 1) e ∙ range_counted 1 n)
        (eq-eqb (length lits) n (sym same ∙ ap (λ (ns : List ℕ). length ns) e ∙ range_size 1 n))

-- the positive literals of all variables
abbrev pub positives : ℕ → List ℤ
positives n = map pos (variables_to n)

positive_variables : (ns : List ℕ) → map variable (map pos ns) ≡ ns
positive_variables [] = refl
positive_variables (n ∷ ns) = ap (λ (ms : List ℕ). n ∷ ms) (positive_variables ns)

pub positives_total : (n : ℕ) → is_total n (positives n) ≡ true
positives_total n = (total_variables n (positives n)).1 (positive_variables (variables_to n))
