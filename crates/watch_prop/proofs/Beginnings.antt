-- What a propagator holds at the start.
use Rattle.std.proofs.Common.{◌≡◌, ℕ, ◌+◌, ◌<◌, ◌≤◌, take, get_or, Bool, true, false, not, cond, ◌&&◌, ◌==◌, List, [], ◌∷◌, ◌++◌, ◌∙◌, sym, refl, arith, length, map, filter, ℤ, nat_le, nat_lt, ap, subst, zero, suc}
use Rattle.std.proofs.lemmas.List.{take_more, map-append}
use Rattle.std.proofs.lemmas.List.Elements.{filter-append}
use Rattle.std.proofs.lemmas.Bool.{leb-true, eqb-true}
use Rattle.lk_model.specs.Lists.{among, is_empty, rises_within}
use Rattle.lk_model.specs.Formulas.Literal.{is_clause}
use Rattle.lk_model.specs.Formulas.Formula.{Cnf, clause_at}
use Rattle.lk_model.specs.Formulas.Crossed.{Variables, crossed_out}
use Rattle.lk_model.proofs.Booleans.{and_true}
use Rattle.lk_model.proofs.Crossings.{clause_crossed}
use Rattle.lk_model.proofs.Rising.{rising_bounds}
use Rattle.watch_prop.specs.declared.entry.NumberedClause.{NumberedClause}
use Rattle.watch_prop.specs.Propagation.{numbers_of}

-- CROSSED CLAUSES

-- the crossed clauses at these positions that are not empty
abbrev pub crossed_at : Cnf → Variables → List ℕ → List NumberedClause
crossed_at F blocked ps = filter (λ (c : NumberedClause). not (is_empty c.lits)) (map (λ p. record { number = p; lits = crossed_out blocked (clause_at F p) }) ps)

-- those at one position more
pub crossed_more : (F : Cnf) (blocked : Variables) (ps : List ℕ) (i : ℕ) → i < length ps
    → crossed_at F blocked (take (i + 1) ps) ≡ crossed_at F blocked (take i ps) ++ crossed_at F blocked (get_or ps i 0 ∷ [])
crossed_more F blocked ps i lt =
    ap (crossed_at F blocked) (take_more ps i 0 lt) ∙ ap (filter filled) (map-append crossed (take i ps) (get_or ps i 0 ∷ []))
    ∙ filter-append filled (map crossed (take i ps)) (crossed (get_or ps i 0) ∷ [])
  where
    filled : NumberedClause → Bool
    filled c = not (is_empty c.lits)

    crossed : ℕ → NumberedClause
    crossed p = record { number = p; lits = crossed_out blocked (clause_at F p) }

-- one that is not empty, and one that is
pub crossed_kept : (F : Cnf) (blocked : Variables) (p : ℕ) (lits : List ℤ) → lits ≡ crossed_out blocked (clause_at F p) → 0 < length lits
    → crossed_at F blocked (p ∷ []) ≡ record { number = p; lits = lits } ∷ []
crossed_kept F blocked p [] is some = absurd (omega (arith, some))
crossed_kept F blocked p (l ∷ lits) is some = ap (λ (c : List ℤ). filter (λ (c : NumberedClause). not (is_empty c.lits)) (record { number = p; lits = c } ∷ [])) (sym is)

pub crossed_left : (F : Cnf) (blocked : Variables) (p : ℕ) (lits : List ℤ) → lits ≡ crossed_out blocked (clause_at F p) → length lits ≤ 0
    → crossed_at F blocked (p ∷ []) ≡ []
crossed_left F blocked p [] is none = ap (λ (c : List ℤ). filter (λ (c : NumberedClause). not (is_empty c.lits)) (record { number = p; lits = c } ∷ [])) (sym is)
crossed_left F blocked p (l ∷ lits) is none = absurd (omega (arith, none))

-- the number at a place is not among those before
pub numbers_before : (F : Cnf) (blocked : Variables) (low high : ℕ) (ps : List ℕ) (i : ℕ) → rises_within low high ps ≡ true → i < length ps
    → among (numbers_of (crossed_at F blocked (take i ps))) (get_or ps i 0) ≡ false
numbers_before F blocked low high [] i h lt = absurd (omega (arith, lt))
numbers_before F blocked low high (p ∷ ps) zero h lt = refl
numbers_before F blocked low high (p ∷ ps) (suc i) h lt =
    let a = and_true (nat_lt low p && nat_le p high) (rises_within p high ps) h in
    let up = (rising_bounds p high ps i a.1 (omega (arith, lt))).0 in
    at (not (is_empty (crossed_out blocked (clause_at F p)))) (p == get_or ps i 0) refl up (numbers_before F blocked p high ps i a.1 (omega (arith, lt)))
  where
    at : (b t : Bool) → (p == get_or ps i 0) ≡ t → p < get_or ps i 0 → among (numbers_of (crossed_at F blocked (take i ps))) (get_or ps i 0) ≡ false
        → among (numbers_of (cond b (record { number = p; lits = crossed_out blocked (clause_at F p) } ∷ crossed_at F blocked (take i ps)) (crossed_at F blocked (take i ps)))) (get_or ps i 0) ≡ false
    at true true e lt rest = (let same = eqb-true p (get_or ps i 0) e in absurd (omega (arith, same, lt)))
    at true false e lt rest = rw (e) rest
    at false t e lt rest = rest

-- no number beyond the other bound
pub numbers_below : (F : Cnf) (blocked : Variables) (low high : ℕ) (ps : List ℕ) (m : ℕ) → rises_within low high ps ≡ true → high < m → among (numbers_of (crossed_at F blocked ps)) m ≡ false
numbers_below F blocked low high [] m h lt = refl
numbers_below F blocked low high (p ∷ ps) m h lt =
    let a = and_true (nat_lt low p && nat_le p high) (rises_within p high ps) h in
    let le = leb-true p high (and_true (nat_lt low p) (nat_le p high) a.0).1 in
    at (not (is_empty (crossed_out blocked (clause_at F p)))) (p == m) refl (omega (arith, le, lt)) (numbers_below F blocked p high ps m a.1 lt)
  where
    at : (b t : Bool) → (p == m) ≡ t → p < m → among (numbers_of (crossed_at F blocked ps)) m ≡ false
        → among (numbers_of (cond b (record { number = p; lits = crossed_out blocked (clause_at F p) } ∷ crossed_at F blocked ps) (crossed_at F blocked ps))) m ≡ false
    at true true e lt rest = (let same = eqb-true p m e in absurd (omega (arith, same, lt)))
    at true false e lt rest = rw (e) rest
    at false t e lt rest = rest

-- a crossed clause may be held if it is not empty
pub may_hold : (blocked : Variables) (n vars : ℕ) (c lits : List ℤ) → n ≡ vars → is_clause vars c ≡ true → lits ≡ crossed_out blocked c → 0 < length lits
    → (not (is_empty lits) && is_clause n lits) ≡ true
may_hold blocked n vars c [] e h is some = absurd (omega (arith, some))
may_hold blocked n vars c (l ∷ lits) e h is some =
    subst (λ (k : ℕ). is_clause k (l ∷ lits) ≡ true) (sym e) (subst (λ (d : List ℤ). is_clause vars d ≡ true) (sym is) (clause_crossed blocked vars c h))
