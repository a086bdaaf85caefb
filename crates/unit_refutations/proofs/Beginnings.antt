-- What is kept at the beginning, and where a variable is blocked.
use Rattle.std.proofs.Common.{◌≡◌, ◌∙◌, ◌∷◌, ℕ, zero, suc, ◌+◌, ◌*◌, ◌<◌, ◌≤◌, ◌==◌, ◌||◌, Bool, true, false, List, [], ℤ, pos, negsuc, Option, None, length, take, get_or, replicate, refl, sym, ap, subst, arith}
use Rattle.std.specs.Prelude.{slice_set, slice_index_or}
use Rattle.std.specs.List.{list_all}
use Rattle.std.proofs.lemmas.Bool.{le-leb, leb-true, and_from, eqb-true}
use Rattle.std.proofs.lemmas.List.{length-replicate, length-set}
use Rattle.std.proofs.lemmas.List.Folds.{list_any_more}
use Rattle.lk_model.specs.Lists.{is_between, rises_within}
use Rattle.lk_model.specs.Formulas.Literal.{variable, mentions, contains, is_literal, rank_of}
use Rattle.lk_model.specs.Formulas.Formula.{Cnf, clause_at}
use Rattle.lk_model.specs.Held.VariableSets.{is_in, with_variable}
use Rattle.lk_model.proofs.Booleans.{and_true, or_right}
use Rattle.lk_model.proofs.Founds.{filtered_rise}
use Rattle.lk_model.proofs.VariableLists.{is_in_with}
use Rattle.occurrence_lists.specs.Occurrences.{AreOccurrences}
use Rattle.unit_refutations.specs.Trails.{Came, place_of}
use Rattle.unit_refutations.specs.Standing.{AreKept}
use Rattle.unit_refutations.proofs.Keeping.{never, blocked_reasoned}

of_rank : (n : ℕ) (l : ℤ) → 0 < variable l → rank_of l < 2 * n + 2 → is_literal n l ≡ true
of_rank n (pos a) first small = and_from _ _ (le-leb 1 a (omega (arith, first))) (le-leb a n (omega (arith, small)))
of_rank n (negsuc a) first small = and_from _ _ (le-leb 1 (suc a) (omega (arith, first))) (le-leb (suc a) n (omega (arith, small)))

-- nothing is true yet
pub begun : (F : Cnf) (b : List Bool) (lists : List (List ℕ)) (inside : List Bool) (t : Came) (n : ℕ) → AreOccurrences F lists → length inside ≡ length F.clauses → n ≡ F.vars
    → t.lits ≡ [] → t.reasons ≡ [] → t.places ≡ replicate (2 * n + 2) None → AreKept F b lists inside t
begun F b lists inside t n occur size vars lits reasons places = record {
  occurs = occur;
  size = occur.size ∙ sym long;
  ranges = λ l first small.
      (let lit = of_rank F.vars l first (let s = occur.size in omega (arith, small, s)) in
      subst (λ (k : ℕ). rises_within 0 k (slice_index_or lists (rank_of l) []) ≡ true) (sym size)
      (subst (λ (ps : List ℕ). rises_within 0 (length F.clauses) ps ≡ true) (sym (occur.held l lit)) (filtered_rise (length F.clauses) (λ p. contains (clause_at F p) l))));
  inside = size;
  reasoned = record {
    size = long;
    same = ap (λ (ps : List ℕ). length ps) reasons ∙ ap (λ (ls : List ℤ). length ls) (sym lits);
    each = λ l place lit e. absurd (never (place_of t l) place (ap (λ (ps : List (Option ℕ)). slice_index_or ps (rank_of l) None) places ∙ nothing (2 * n + 2) (rank_of l)) e);
  };
}
  where
    nothing : (n k : ℕ) → get_or (replicate {A = Option ℕ} n None) k None ≡ None
    nothing zero k = refl
    nothing (suc n) zero = refl
    nothing (suc n) (suc k) = nothing n k

    long : length t.places ≡ 2 * F.vars + 2
    long = ap (λ (ps : List (Option ℕ)). length ps) places ∙ length-replicate (2 * n + 2) None ∙ ap (λ (k : ℕ). 2 * k + 2) vars

-- one variable more is blocked
pub block_one : (F : Cnf) (b b' : List Bool) (lists lists' : List (List ℕ)) (inside inside' : List Bool) (t t' : Came) (v : ℕ) → AreKept F b lists inside t
    → 0 < v → v ≤ length b → length b ≡ F.vars → b' ≡ with_variable b v → lists' ≡ lists → inside' ≡ inside → t'.lits ≡ t.lits → t'.reasons ≡ t.reasons
    → t'.places ≡ slice_set (slice_set t.places (2 * v) None) (2 * v + 1) None → AreKept F b' lists' inside' t'
block_one F b b' lists lists' inside inside' t t' v h first last vars blocked e f lits reasons places =
    subst (λ (x : List (List ℕ)). AreKept F b' x inside' t') (sym e) (subst (λ (x : List Bool). AreKept F b' lists x t') (sym f) (record {
      occurs = h.occurs;
      size = h.size ∙ sym (ap (λ (ps : List (Option ℕ)). length ps) places ∙ length-set (slice_set t.places (2 * v) None) (2 * v + 1) None ∙ length-set t.places (2 * v) None);
      ranges = h.ranges;
      inside = h.inside;
      reasoned = blocked_reasoned F (is_in inside) b b' t t' v h.reasoned first last vars blocked lits reasons places;
    }))

either_more : (a b c : Bool) → ((a || b) || c) ≡ (a || (b || c))
either_more true b c = refl
either_more false b c = refl

-- and it is that of the next literal
pub more_blocked : (old now : List Bool) (c : List ℤ) (i v u : ℕ) (l : ℤ) → i < length c → l ≡ get_or c i l → v ≡ variable l → 0 < v → v ≤ length now
    → is_in now u ≡ (is_in old u || mentions (take i c) u) → is_in (with_variable now v) u ≡ (is_in old u || mentions (take (i + 1) c) u)
more_blocked old now c i v u l lt read is first last before =
    is_in_with now v u first last ∙ ap (λ (b : Bool). b || v == u) before ∙ either_more (is_in old u) (mentions (take i c) u) (v == u)
    ∙ ap (λ (b : Bool). is_in old u || b) (ap (λ (k : ℕ). mentions (take i c) u || k == u) (is ∙ ap variable read) ∙ sym (list_any_more (λ k. variable k == u) c i l lt))

-- or it was blocked before
pub still_blocked : (old now : List Bool) (c : List ℤ) (i u : ℕ) (l : ℤ) → i < length c → l ≡ get_or c i l → is_in now (variable l) ≡ true
    → is_in now u ≡ (is_in old u || mentions (take i c) u) → is_in now u ≡ (is_in old u || mentions (take (i + 1) c) u)
still_blocked old now c i u l lt read there before =
    at (variable l == u) refl ∙ either_more (is_in old u) (mentions (take i c) u) (variable l == u)
    ∙ ap (λ (b : Bool). is_in old u || b) (ap (λ (k : ℤ). mentions (take i c) u || variable k == u) read ∙ sym (list_any_more (λ k. variable k == u) c i l lt))
  where
    or_no : (b : Bool) → (b || false) ≡ b
    or_no true = refl
    or_no false = refl

    at : (x : Bool) → (variable l == u) ≡ x → is_in now u ≡ ((is_in old u || mentions (take i c) u) || variable l == u)
    at true e =
        let same = eqb-true (variable l) u e in
        ap (is_in now) (sym same) ∙ there ∙ sym (or_right (is_in old u || mentions (take i c) u) (variable l == u) e)
    at false e = before ∙ sym (ap (λ (b : Bool). (is_in old u || mentions (take i c) u) || b) e ∙ or_no (is_in old u || mentions (take i c) u))

-- what is inside is a position
pub inside_bounds : (flags : List Bool) (p : ℕ) → is_in flags p ≡ true → (0 < p) × (p ≤ length flags)
inside_bounds flags zero e = absurd (let f : ⊥ = cc in f)
inside_bounds flags (suc k) e = (omega arith, let lt = at flags k e in omega (arith, lt))
  where
    at : (fs : List Bool) (k : ℕ) → get_or fs k false ≡ true → k < length fs
    at [] k e = absurd (let f : ⊥ = cc in f)
    at (x ∷ fs) zero e = omega arith
    at (x ∷ fs) (suc k) e = let lt = at fs k e in omega (arith, lt)

-- a number of a list whose numbers lie between
pub between : (m : ℕ) (ps : List ℕ) (i : ℕ) → list_all (is_between 1 m) ps ≡ true → i < length ps → (0 < get_or ps i 0) × (get_or ps i 0 ≤ m)
between m [] i h lt = absurd (omega (arith, lt))
between m (p ∷ ps) zero h lt =
    let both = and_true (is_between 1 m p) (list_all (is_between 1 m) ps) h in
    let bounds = and_true _ _ both.0 in
    (let low = leb-true 1 p bounds.0 in omega (arith, low), leb-true p m bounds.1)
between m (p ∷ ps) (suc i) h lt = between m ps i (and_true (is_between 1 m p) (list_all (is_between 1 m) ps) h).1 (omega (arith, lt))
