-- The clauses at some positions are no more than all.
use Rattle.std.proofs.Math.Seq.{drop-cons}
use Rattle.std.proofs.Common.{zero, suc, true, drop, ℤ, ◌≡◌, ℕ, ◌+◌, ◌<◌, ◌≤◌, List, [], ◌∷◌, ◌++◌, length, map, take, get_or, sym, ◌∙◌, ap, arith, IsTrue, sum_by}
use Rattle.std.proofs.lemmas.List.{length-map, map-append, take_more, length-take, take-map}
use Rattle.std.proofs.lemmas.List.Sums.{sum_by-append, sum_by-cons, sum_by-take-le, sum_by-take-drop}
use Rattle.lk_model.specs.Formulas.Lean.{are_positions}
use Rattle.lk_model.specs.Formulas.Formula.{Cnf, clause_at, clauses_at, literal_count, with_clause}
use Rattle.lk_model.proofs.Rising.{rises, rising_count}
use Rattle.lk_model.specs.Lists.{rises_within}

-- a later rest has no more literals
rest_le : (low k : ℕ) (cs : List (List ℤ)) → low ≤ k → sum_by length (drop k cs) ≤ sum_by length (drop low cs)
rest_le zero k cs h = omega (arith, sum_by-take-drop length cs k)
rest_le (suc low) zero cs h = absurd (omega (arith, h))
rest_le (suc low) (suc k) [] h = omega arith
rest_le (suc low) (suc k) (c ∷ cs) h = rest_le low k cs (omega (arith, h))

-- the literals of the clauses at rising positions are among those that lie after the first bound
pub kept_le : (F : Cnf) (low : ℕ) (ps : List ℕ) → rises_within low (length F.clauses) ps ≡ true → sum_by length (map (clause_at F) ps) ≤ sum_by length (drop low F.clauses)
kept_le F low [] h = omega arith
kept_le F low (zero ∷ ps) h = let r = rises low (length F.clauses) zero ps h in absurd (omega (arith, r.above))
kept_le F low (suc k ∷ ps) h =
    let r = rises low (length F.clauses) (suc k) ps h in
    let before : low ≤ k = omega (arith, r.above) in
    let inside : k < length F.clauses = omega (arith, r.within) in
    let here : sum_by length (drop k F.clauses) ≡ length (get_or F.clauses k []) + sum_by length (drop (suc k) F.clauses) =
    ap (sum_by length) (drop-cons F.clauses k [] inside) ∙ sum_by-cons length (get_or F.clauses k []) (drop (suc k) F.clauses) in
    omega (arith, rest_le low k F.clauses before, here, kept_le F (suc k) ps r.more, sum_by-cons length (clause_at F (suc k)) (map (clause_at F) ps))

-- one clause more
pub clauses_more : (F : Cnf) (ps : List ℕ) (i : ℕ) → i < length ps → with_clause (clauses_at F (take i ps)) (clause_at F (get_or ps i 0)) ≡ clauses_at F (take (i + 1) ps)
clauses_more F ps i h =
    let parts : map (clause_at F) (take (i + 1) ps) ≡ map (clause_at F) (take i ps) ++ clause_at F (get_or ps i 0) ∷ [] =
    ap (map (clause_at F)) (take_more ps i 0 h) ∙ map-append (clause_at F) (take i ps) (get_or ps i 0 ∷ []) in
    λ j. record { vars = F.vars; clauses = sym parts j }

-- for one clause more there is room
pub few_clauses : (F : Cnf) (ps : List ℕ) (i : ℕ) → IsTrue (are_positions F ps) → i < length ps → length (clauses_at F (take i ps)).clauses < length F.clauses
few_clauses F ps i h lt =
    let low : 0 ≤ length F.clauses = omega arith in
    omega (arith, rising_count 0 (length F.clauses) ps h low, length-map (take i ps) (clause_at F), length-take i ps, lt)

pub few_literals : (F : Cnf) (ps : List ℕ) (i : ℕ) → IsTrue (are_positions F ps) → i < length ps → literal_count (clauses_at F (take i ps)) + length (clause_at F (get_or ps i 0)) ≤ literal_count F
few_literals F ps i h lt =
    let all = kept_le F 0 ps h in
    let more : sum_by length (map (clause_at F) (take (i + 1) ps)) ≡ sum_by length (map (clause_at F) (take i ps)) + sum_by length (clause_at F (get_or ps i 0) ∷ []) =
    ap (sum_by length) (ap (map (clause_at F)) (take_more ps i 0 lt) ∙ map-append (clause_at F) (take i ps) (get_or ps i 0 ∷ [])) ∙ sum_by-append length (map (clause_at F) (take i ps)) (clause_at F (get_or ps i 0) ∷ []) in
    let some = some_le ps (i + 1) in
    omega (arith, all, more, some, sum_by-cons length (clause_at F (get_or ps i 0)) [])
  where
    some_le : (qs : List ℕ) (j : ℕ) → sum_by length (map (clause_at F) (take j qs)) ≤ sum_by length (map (clause_at F) qs)
    some_le qs j = rw (← take-map) (sum_by-take-le length (map (clause_at F) qs) j)
