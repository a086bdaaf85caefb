-- Positions that rise between bounds.
use Rattle.std.proofs.Common.{◌≡◌, ℕ, zero, suc, ◌+◌, ◌<◌, ◌≤◌, true, ◌&&◌, List, [], ◌∷◌, length, get_or, refl, arith, ◌==◌, nat_lt, nat_le, inl, inr, Bool, filter, ◌≢◌, zip, ℤ}
use Rattle.std.proofs.lemmas.Bool.{leb-true, le-leb, lt-ltb, ltb-true, eqb-true, cases_Bool, eq-eqb, ne_eqb}
use Rattle.std.specs.Option.{option_map_or}
use Rattle.std.specs.Prelude.{find}
use Rattle.std.specs.List.{range_with_len}
use Rattle.lk_model.specs.Lists.{among, rises_within}
use Rattle.lk_model.proofs.Booleans.{and_true, or_true}
use Rattle.lk_model.specs.Formulas.Parts.{IsPart}
use Rattle.lk_model.specs.Formulas.Lean.{are_positions}
use Rattle.lk_model.specs.Formulas.Formula.{Cnf, positions_of}

-- the first of the positions, and the others
pub record Rises (low high p : ℕ) (ps : List ℕ) : Type 0 where
  pub above : low < p
  pub within : p ≤ high
  pub more : rises_within p high ps ≡ true

pub rises : (low high p : ℕ) (ps : List ℕ) → rises_within low high (p ∷ ps) ≡ true → Rises low high p ps
rises low high p ps e =
    let outer = and_true (nat_lt low p && nat_le p high) (rises_within p high ps) e in
    let inner = and_true (nat_lt low p) (nat_le p high) outer.0 in
    record { above = ltb-true low p inner.0; within = leb-true p high inner.1; more = outer.1 }

-- what stands in a list that rises is within its bounds
pub bounded : (low high : ℕ) (ps : List ℕ) (p : ℕ) → rises_within low high ps ≡ true → among ps p ≡ true → (low < p) × (p ≤ high)
bounded low high [] p r e = absurd (let f : ⊥ = cc in f)
bounded low high (q ∷ qs) p r e =
    let s = rises low high q qs r in
    elim (or_true (q == p) (among qs p) e) [
      | inl here ↦ (let same = eqb-true q p here in (omega (arith, same, s.above), omega (arith, same, s.within)))
      | inr later ↦ (let b = bounded q high qs p s.more later in (omega (arith, s.above, b.0), b.1))
    ]

-- there are at most as many as lie between
pub rising_count : (low high : ℕ) (ps : List ℕ) → rises_within low high ps ≡ true → low ≤ high → length ps + low ≤ high
rising_count low high [] h le = omega (arith, le)
rising_count low high (p ∷ ps) h le =
    let r = rises low high p ps h in
    omega (arith, r.above, rising_count p high ps r.more r.within)

-- each of them lies between
pub rising_bounds : (low high : ℕ) (ps : List ℕ) (i : ℕ) → rises_within low high ps ≡ true → i < length ps → (low < get_or ps i 0) × (get_or ps i 0 ≤ high)
rising_bounds low high [] i h lt = absurd (omega (arith, lt))
rising_bounds low high (p ∷ ps) zero h lt = let r = rises low high p ps h in (r.above, r.within)
rising_bounds low high (p ∷ ps) (suc i) h lt =
    let r = rises low high p ps h in
    let b = rising_bounds p high ps i r.more (omega (arith, lt)) in
    (omega (arith, r.above, b.0), b.1)

-- a later one is not less
pub in_order : (low high : ℕ) (ns : List ℕ) (i j : ℕ) → rises_within low high ns ≡ true → i ≤ j → j < length ns → get_or ns i 0 ≤ get_or ns j 0
in_order low high [] i j h le lt = absurd (omega (arith, lt))
in_order low high (n ∷ ns) zero zero h le lt = omega arith
in_order low high (n ∷ ns) zero (suc j) h le lt =
    let above = (rising_bounds n high ns j (rises low high n ns h).more (omega (arith, lt))).0 in
    omega (arith, above)
in_order low high (n ∷ ns) (suc i) zero h le lt = absurd (omega (arith, le))
in_order low high (n ∷ ns) (suc i) (suc j) h le lt = in_order n high ns i j (rises low high n ns h).more (omega (arith, le)) (omega (arith, lt))

-- a lower bound is one too
pub rises_from : (low mid high : ℕ) (ps : List ℕ) → low ≤ mid → rises_within mid high ps ≡ true → rises_within low high ps ≡ true
rises_from low mid high [] h r = refl
rises_from low mid high (p ∷ ps) h r =
    let s = rises mid high p ps r in
    rw (lt-ltb low p (omega (arith, h, s.above)), le-leb p high s.within, s.more) refl

-- and so is a greater end
pub rises_to : (low high top : ℕ) (ns : List ℕ) → high ≤ top → rises_within low high ns ≡ true → rises_within low top ns ≡ true
rises_to low high top [] le h = refl
rises_to low high top (n ∷ ns) le h =
    let r = rises low high n ns h in
    let within = r.within in
    rw (lt-ltb low n r.above, le-leb n top (omega (arith, within, le)), rises_to n high top ns le r.more) refl

-- what a test leaves of them rises too
pub filter_rises : (low high : ℕ) (t : ℕ → Bool) (ps : List ℕ) → rises_within low high ps ≡ true → rises_within low high (filter t ps) ≡ true
filter_rises low high t [] r = refl
filter_rises low high t (p ∷ ps) r =
    let s = rises low high p ps r in
    let later = filter_rises p high t ps s.more in
    elim (cases_Bool (t p)) [
      | inl y ↦ rw (y, le-leb (suc low) p s.above, le-leb p high s.within) later
      | inr n ↦ rw n (rises_from low p high (filter t ps) (omega (arith, s.above)) later)
    ]

-- a range rises
pub range_rises : (low high a n : ℕ) → low < a → a + n ≤ high + 1 → rises_within low high (range_with_len a n) ≡ true
range_rises low high a zero above within = refl
range_rises low high a (suc n) above within =
    rw (lt-ltb low a above, le-leb a high (omega (arith, within)), range_rises a high (a + 1) n (omega arith) (omega (arith, within))) refl

-- all positions of a formula rise
pub all_rise : (F : Cnf) → are_positions F (positions_of F) ≡ true
all_rise F = range_rises 0 (length F.clauses) 1 (length F.clauses) (omega arith) (omega arith)

-- and so do those of a part
pub part_rises : (F : Cnf) (part : List ℕ) → IsPart F part → are_positions F part ≡ true
part_rises F [] h = absurd h
part_rises F (least ∷ more) h = h.0

-- what stands beside the number at a place, where the numbers rise
pub beside : (low high : ℕ) (ks : List ℕ) (cs : List (List ℤ)) (i : ℕ) → rises_within low high ks ≡ true → length cs ≡ length ks → i < length ks
    → option_map_or (λ (entry : ℕ × List ℤ). entry.1) (find (λ (entry : ℕ × List ℤ). entry.0 == get_or ks i 0) (zip ks cs)) [] ≡ get_or cs i []
beside low high [] cs i up same lt = absurd (omega (arith, lt))
beside low high (k ∷ ks) [] i up same lt = absurd (omega (arith, same))
beside low high (k ∷ ks) (c ∷ cs) zero up same lt = rw (eq-eqb k k refl) refl
beside low high (k ∷ ks) (c ∷ cs) (suc i) up same lt =
    let r = rises low high k ks up in
    let inside : i < length ks = omega (arith, lt) in
    let above = rising_bounds k high ks i r.more inside in
    let other : k ≢ get_or ks i 0 = λ e. absurd (omega (arith, e, above.0)) in
    rw (ne_eqb k (get_or ks i 0) other) (beside k high ks cs i r.more (omega (arith, same)) inside)
