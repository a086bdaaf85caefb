-- Ranks of literals.
use Rattle.std.proofs.Common.{◌≡◌, ℕ, ◌+◌, ◌*◌, ◌<◌, ◌≤◌, true, ap, arith, ℤ, pos, negsuc, suc, nat_le, refl, List, [], ◌∷◌, map}
use Rattle.std.proofs.lemmas.Bool.{leb-true, and_from, lt-ltb, le-leb}
use Rattle.std.specs.List.{list_all}
use Rattle.lk_model.specs.Formulas.Literal.{variable, rank_of, is_literal}
use Rattle.lk_model.proofs.Booleans.{and_true}
use Rattle.lk_model.proofs.Rising.{rises}
use Rattle.lk_model.specs.Lists.{rises_within}

-- the variable of a literal lies between 1 and n
pub literal_bounds : (n : ℕ) (l : ℤ) → is_literal n l ≡ true → (1 ≤ variable l) × (variable l ≤ n)
literal_bounds n l h = let p = and_true _ _ h in (leb-true 1 (variable l) p.0, leb-true (variable l) n p.1)

-- and a literal on such a variable is one over them
pub literal_between : (n : ℕ) (l : ℤ) → 0 < variable l → variable l ≤ n → is_literal n l ≡ true
literal_between n l first last = and_from _ _ (lt-ltb 0 (variable l) first) (le-leb (variable l) n last)

-- two literals have two ranks
pub rank_apart : (l k : ℤ) → rank_of l ≡ rank_of k → l ≡ k
rank_apart (pos a) (pos b) e = let same : a ≡ b = omega arith in ap pos same
rank_apart (pos a) (negsuc b) e = absurd (omega arith)
rank_apart (negsuc a) (pos b) e = absurd (omega arith)
rank_apart (negsuc a) (negsuc b) e = let same : a ≡ b = omega arith in ap negsuc same

-- the literals over n variables have ranks below 2n + 2
pub rank_small : (n : ℕ) (l : ℤ) → is_literal n l ≡ true → rank_of l < 2 * n + 2
rank_small n (pos a) h = let b = literal_bounds n (pos a) h in omega (arith, b.1)
rank_small n (negsuc a) h = let b = literal_bounds n (negsuc a) h in omega (arith, b.1)

-- they lie between those of the variables 1 and n
pub rank_bounds : (n : ℕ) (l : ℤ) → is_literal n l ≡ true → (1 < rank_of l) × (rank_of l ≤ 2 * n + 1)
rank_bounds n (pos v) e =
    let both = and_true (nat_le 1 v) (nat_le v n) e in
    let least = leb-true 1 v both.0 in let most = leb-true v n both.1 in (omega (arith, least), omega (arith, most))
rank_bounds n (negsuc v) e =
    let both = and_true (nat_le 1 (suc v)) (nat_le (suc v) n) e in
    let most = leb-true (suc v) n both.1 in (omega arith, omega (arith, most))

-- and a literal with such a rank is one over them
pub ranked_literal : (n : ℕ) (l : ℤ) → 1 < rank_of l → rank_of l ≤ 2 * n + 1 → is_literal n l ≡ true
ranked_literal n (pos v) low high = rw (le-leb 1 v (omega (arith, low)), le-leb v n (omega (arith, high))) refl
ranked_literal n (negsuc v) low high = rw (le-leb 1 (suc v) (omega arith), le-leb (suc v) n (omega (arith, high))) refl

-- literals whose variables rise are literals
pub rising_literals : (low n : ℕ) (ls : List ℤ) → rises_within low n (map variable ls) ≡ true → list_all (is_literal n) ls ≡ true
rising_literals low n [] up = refl
rising_literals low n (l ∷ ls) up =
    let r = rises low n (variable l) (map variable ls) up in
    and_from (is_literal n l) (list_all (is_literal n) ls)
    (and_from _ _ (le-leb 1 (variable l) (omega (arith, r.above))) (le-leb (variable l) n r.within))
    (rising_literals (variable l) n ls r.more)

-- and so are those whose ranks rise
pub ranked_literals : (n low : ℕ) (c : List ℤ) → 1 ≤ low → rises_within low (2 * n + 1) (map rank_of c) ≡ true → list_all (is_literal n) c ≡ true
ranked_literals n low [] one h = refl
ranked_literals n low (l ∷ c) one h =
    let r = rises low (2 * n + 1) (rank_of l) (map rank_of c) h in
    let above = r.above in
    and_from (is_literal n l) (list_all (is_literal n) c) (ranked_literal n l (omega (arith, one, above)) r.within)
    (ranked_literals n (rank_of l) c (omega (arith, one, above)) r.more)
