-- A refuted set with witnesses for some of its places, and what each decision makes of it.
use Rattle.std.proofs.Common.{◌≡◌, ℕ, zero, suc, ◌-◌, ◌<◌, ◌≤◌, Bool, true, false, if◌then◌else◌, not, ◌&&◌, ◌==◌, List, [], ◌∷◌, refl, sym, ◌∙◌, ap, subst, ℤ, Option, Some, None, IfSome, is_some, map, filter, find, length, replicate, get_or, arith, inl, inr}
use Rattle.std.specs.Prelude.{slice_index_or}
use Rattle.std.specs.List.{list_all}
use Rattle.std.proofs.lemmas.Bool.{both_ways, cases_Bool, eq-eqb, false_from_ne_true, not_from_false, not-true, and_from}
use Rattle.std.proofs.lemmas.List.{length-map, get_or-map}
use Rattle.lk_model.specs.Lists.{among, rises_within}
use Rattle.lk_model.specs.Formulas.Formula.{Cnf, clause_at, clauses_at, positions_of}
use Rattle.lk_model.specs.Formulas.Assignment.{Assignment, assignment_of, satisfies, IsModel}
use Rattle.lk_model.specs.Formulas.Lean.{are_positions}
use Rattle.lk_model.specs.Held.PartialValues.{assignment_by}
use Rattle.lk_model.proofs.Booleans.{and_true}
use Rattle.lk_model.proofs.Counting.{Differ, Differ-filter, Differ-range, fewer, in_filter, from_filter, among-range}
use Rattle.lk_model.proofs.Lists.{among_here, among_later, in_mapped, place_of}
use Rattle.lk_model.proofs.Rising.{bounded, filter_rises}
use Rattle.general_laws.proofs.WitnessLaws.{witness_law}
use Rattle.renaming_laws.specs.Renaming.{nth}
use Rattle.renaming_laws.proofs.Copies.{part_length}
use Rattle.renaming_laws.proofs.Mapped.{rising_same}
use Rattle.renaming_laws.proofs.Told.{told, told_rise, nth_told}
use Rattle.part_copy.specs.Copies.{Copy, IsCopy}
use Rattle.part_copy.specs.Found.{IsPartModel, IsPartRefuted}
use Rattle.part_copy.proofs.SubCopies.{rising_told, told_twice, told_there}
use Rattle.part_formula.specs.declared.deciding.Refuted.{Refuted}
use Rattle.mus_core.specs.Found.{LeavesOneOut}
use Rattle.lk_model.specs.Formulas.Minimal.{all_but}
use Rattle.mus_core.specs.WitnessValues.{witness_at, is_open, IsRotated}
use Rattle.mus_core.specs.Shrinking.{IsRefutedWithin, IsShrunk, left_open, IsNext}

-- LISTS

pub none_all : (t : ℕ → Bool) (ps : List ℕ) → find t ps ≡ None → list_all (λ p. not (t p)) ps ≡ true
none_all t [] e = refl
none_all t (p ∷ ps) e = at_test (t p) e (none_all t ps)
  where
    at_test : (b : Bool) → (if b then Some p else find t ps) ≡ None → (find t ps ≡ None → list_all (λ p. not (t p)) ps ≡ true)
        → (not b && list_all (λ p. not (t p)) ps) ≡ true
    at_test true e rest = absurd (let f : ⊥ = cc in f)
    at_test false e rest = rest e

pub found_at : (t : ℕ → Bool) (ps : List ℕ) (p : ℕ) → find t ps ≡ Some p → (among ps p ≡ true) × (t p ≡ true)
found_at t [] p e = absurd (let f : ⊥ = cc in f)
found_at t (q ∷ ps) p e = at_test (t q) refl e (found_at t ps p)
  where
    at_test : (b : Bool) → t q ≡ b → (if b then Some q else find t ps) ≡ Some p → (find t ps ≡ Some p → (among ps p ≡ true) × (t p ≡ true))
        → (among (q ∷ ps) p ≡ true) × (t p ≡ true)
    at_test true y e rest = let same : q ≡ p = cc in (subst (λ (k : ℕ). among (q ∷ ps) k ≡ true) same (among_here q ps), subst (λ (k : ℕ). t k ≡ true) same y)
    at_test false y e rest = let w = rest e in (among_later q p ps w.0, w.1)

fewer_left : (t u : ℕ → Bool) (ns : List ℕ) (p : ℕ) → Differ ns → ((k : ℕ) → u k ≡ true → t k ≡ true) → among ns p ≡ true → t p ≡ true → u p ≡ false
    → length (filter u ns) < length (filter t ns)
fewer_left t u ns p differ weaker there y n =
    let less = fewer (λ k. k) (filter u ns) (filter t ns) p (Differ-filter u ns differ)
    (record { into = λ k m. (let both = from_filter u ns k m in in_filter t ns k (weaker k both.0) both.1); one = λ k j m l e. e })
    (in_filter t ns p y there)
    (λ k m e. both_ways (u p) n (subst (λ (j : ℕ). u j ≡ true) e (from_filter u ns k m).0)) in
    omega (arith, less)

-- THE BEGIN

none_at : (m k : ℕ) → slice_index_or (replicate m (let n : Option (List (Option Bool)) = None in n)) k None ≡ None
none_at zero k = refl
none_at (suc m) zero = refl
none_at (suc m) (suc k) = none_at m k

pub begins : (c : Copy) (conflicts : ℕ) (r : Refuted) (ws : List (Option (List (Option Bool)))) → IsRefutedWithin c conflicts r → ws ≡ replicate (length c.clauses.clauses) None
    → length ws ≡ length c.clauses.clauses → IsShrunk c conflicts r ws
begins c conflicts r ws refuted is size = record {
  refuted = refuted;
  held = record {
    size = size;
    vars = λ p. subst (λ (o : Option (List (Option Bool))). IfSome o (λ values. length values ≡ c.clauses.vars)) (sym (none p)) tt;
    witnesses = λ p values m e. absurd (let n = none p in let f : ⊥ = cc in f);
  };
}
  where
    none : (p : ℕ) → witness_at ws p ≡ None
    none p = ap (λ (us : List (Option (List (Option Bool)))). witness_at us p) is ∙ none_at (length c.clauses.clauses) (p - 1)

pub next : (c : Copy) (conflicts : ℕ) (r : Refuted) (ws : List (Option (List (Option Bool)))) (p : ℕ) → IsShrunk c conflicts r ws
    → find (λ p. not (is_some (witness_at ws p))) r.used ≡ Some p → IsNext c r ws p
next c conflicts r ws p h e =
    let w = found_at (λ p. not (is_some (witness_at ws p))) r.used p e in
    let b = bounded 0 (length c.clauses.clauses) r.used p h.refuted.places w.0 in
    record { there = w.0; none = not-true (is_some (witness_at ws p)) w.1; first = b.0; last = b.1 }

-- THE OTHER PLACES

pub others_rise : (c : Copy) (conflicts : ℕ) (r : Refuted) (others : List ℕ) (p : ℕ) → IsRefutedWithin c conflicts r → others ≡ filter (λ q. not (q == p)) r.used
    → are_positions c.clauses others ≡ true
others_rise c conflicts r others p h is = subst (λ (ps : List ℕ). are_positions c.clauses ps ≡ true) (sym is)
    (filter_rises 0 (length c.clauses.clauses) (λ q. not (q == p)) r.used h.places)

-- A WITNESS MORE

-- what satisfies the clauses at the others is a witness
pub is_witness : (G T : Cnf) (others places : List ℕ) (p : ℕ) (lits : List ℤ) (values : List (Option Bool)) → T ≡ clauses_at G others
    → others ≡ filter (λ q. not (q == p)) places → IsPartModel T (positions_of T) lits → assignment_by values ≡ assignment_of lits → IsModel G (all_but (among places) p) (assignment_by values)
is_witness G T others places p lits values is rest model by q m =
    let both = and_true (among places q) (not (q == p)) m in
    let there = subst (λ (ps : List ℕ). among ps q ≡ true) (sym rest) (in_filter (λ q. not (q == p)) places q both.1 both.0) in
    let w = place_of others q there in
    let len = ap (λ (H : Cnf). length H.clauses) is ∙ length-map others (clause_at G) in
    let lt = w.1 in
    let same : clause_at T (suc w.0) ≡ clause_at G q =
    ap (λ (H : Cnf). get_or H.clauses w.0 []) is ∙ get_or-map (clause_at G) others w.0 0 [] w.1 ∙ ap (clause_at G) w.2 in
    let inside : among (positions_of T) (suc w.0) ≡ true = among-range 1 (length T.clauses) (suc w.0) (omega arith) (omega (arith, lt, len)) in
    subst (λ (φ : Assignment). satisfies φ (clause_at G q) ≡ true) (sym by)
    (subst (λ (c : List ℤ). satisfies (assignment_of lits) c ≡ true) same (model.satisfied (suc w.0) inside refl))

-- a place that has a witness is no longer open
pub fewer_open : (c : Copy) (r : Refuted) (ws us : List (Option (List (Option Bool)))) (p : ℕ) → IsNext c r ws p
    → IsRotated c.clauses (among r.used) ws us → is_some (witness_at us p) ≡ true → left_open c.clauses r.used us < left_open c.clauses r.used ws
fewer_open c r ws us p n rotated given =
    fewer_left (is_open r.used ws) (is_open r.used us) (positions_of G) p (Differ-range 1 (length G.clauses)) still
    (among-range 1 (length G.clauses) p n.first (let l = n.last in omega (arith, l)))
    (and_from (among r.used p) (not (is_some (witness_at ws p))) n.there (not_from_false (is_some (witness_at ws p)) n.none))
    (closed (among r.used p) (is_some (witness_at us p)) given)
  where
    G : Cnf
    G = c.clauses

    closed : (a b : Bool) → b ≡ true → (a && not b) ≡ false
    closed true true e = refl
    closed true false e = absurd (let f : ⊥ = cc in f)
    closed false b e = refl

    still : (q : ℕ) → is_open r.used us q ≡ true → is_open r.used ws q ≡ true
    still q e =
        let both = and_true (among r.used q) (not (is_some (witness_at us q))) e in
        and_from (among r.used q) (not (is_some (witness_at ws q))) both.0
        (not_from_false (is_some (witness_at ws q)) (false_from_ne_true (is_some (witness_at ws q)) (λ had.
        both_ways (is_some (witness_at us q)) (not-true (is_some (witness_at us q)) both.1) (rotated.kept q had))))

-- A SMALLER SET

pub smaller : (c s : Copy) (conflicts : ℕ) (r q : Refuted) (ws : List (Option (List (Option Bool)))) (others places : List ℕ) (p : ℕ) → IsShrunk c conflicts r ws → IsNext c r ws p
    → others ≡ filter (λ q. not (q == p)) r.used → s.formula ≡ c.formula → s.part ≡ map (nth c.part) others
    → s.clauses ≡ clauses_at c.clauses others → IsRefutedWithin s conflicts q → places ≡ map (nth others) q.used
    → IsShrunk c conflicts (record { round = q.round; used = places }) ws × (left_open c.clauses places ws < left_open c.clauses r.used ws)
smaller c s conflicts r q ws others places p h n rest formula part clauses refuted is = (
  record {
    refuted = record {
      places = subst (λ (ps : List ℕ). are_positions G ps ≡ true) (sym is) (rising_told others m (length others) q.used rise refl more);
      refuted = subst (λ (ps : List ℕ). IsPartRefuted c.formula ps conflicts q.round) (sym told)
          (subst (λ (F : Cnf). IsPartRefuted F (map (nth s.part) q.used) conflicts q.round) formula refuted.refuted);
    };
    held = record {
      size = h.held.size;
      vars = h.held.vars;
      witnesses = λ k values there e.
          witness_law.stays G (among r.used) (among places) k (assignment_by values) inside (h.held.witnesses k values (inside k there) e);
    };
  },
  fewer_left (is_open r.used ws) (is_open places ws) (positions_of G) p (Differ-range 1 m)
      (λ k e. let both = and_true (among places k) (not (is_some (witness_at ws k))) e in and_from (among r.used k) (not (is_some (witness_at ws k))) (inside k both.0) both.1)
      (among-range 1 m p n.first (let l = n.last in omega (arith, l)))
      (and_from (among r.used p) (not (is_some (witness_at ws p))) n.there (not_from_false (is_some (witness_at ws p)) n.none))
      (ap (λ (b : Bool). b && not (is_some (witness_at ws p))) gone),
)
  where
    G : Cnf
    G = c.clauses

    m : ℕ
    m = length c.clauses.clauses

    rise : are_positions c.clauses others ≡ true
    rise = others_rise c conflicts r others p h.refuted rest

    more : rises_within 0 (length others) q.used ≡ true
    more = subst (λ (k : ℕ). rises_within 0 k q.used ≡ true) (ap (λ (H : Cnf). length H.clauses) clauses ∙ length-map others (clause_at c.clauses)) refuted.places

    told : map (nth c.part) places ≡ map (nth s.part) q.used
    told = ap (map (nth c.part)) is ∙ told_twice c.part others q.used more ∙ ap (λ (ps : List ℕ). map (nth ps) q.used) (sym part)

    kept : (k : ℕ) → among places k ≡ true → (not (k == p) ≡ true) × (among r.used k ≡ true)
    kept k there = from_filter (λ q. not (q == p)) r.used k (subst (λ (ps : List ℕ). among ps k ≡ true) rest
        (told_there others q.used k more (subst (λ (ps : List ℕ). among ps k ≡ true) is there)))

    inside : (k : ℕ) → among places k ≡ true → among r.used k ≡ true
    inside k there = (kept k there).1

    gone : among places p ≡ false
    gone = false_from_ne_true (among places p) (λ there. both_ways (p == p) (not-true (p == p) (kept p there).0) (eq-eqb p p refl))

-- ONE LEFT OUT

-- what stands at a place, by the places alone
same_place : (part : List ℕ) (m p q : ℕ) → rises_within 0 m part ≡ true → 1 ≤ p → p ≤ length part → 1 ≤ q → q ≤ length part
    → (nth part q == nth part p) ≡ (q == p)
same_place part m p q rise p_low p_high q_low q_high =
    rw (nth_told part m p p_low p_high, nth_told part m q q_low q_high) (rising_same (told part m) (told_rise part m rise) q p)

-- all places but one, told
others_told : (f : ℕ → ℕ) (p : ℕ) (ps : List ℕ) → ((q : ℕ) → among ps q ≡ true → (f q == f p) ≡ (q == p))
    → map f (filter (λ q. not (q == p)) ps) ≡ filter (λ q. not (q == f p)) (map f ps)
others_told f p [] same = refl
others_told f p (q ∷ ps) same =
    let here = same q (among_here q ps) in
    let more = others_told f p ps (λ k there. same k (among_later q k ps there)) in
    elim (cases_Bool (q == p)) [
      | inl own ↦ rw (own, here ∙ own) more
      | inr other ↦ rw (other, here ∙ other) (λ i. f q ∷ more i)
    ]

-- a search without the clause at the place of a refuted set
pub one_left_out : (c : Copy) (conflicts : ℕ) (r : Refuted) (ws : List (Option (List (Option Bool)))) (others part : List ℕ) (p : ℕ) → IsCopy c → IsShrunk c conflicts r ws → IsNext c r ws p
    → others ≡ filter (λ q. not (q == p)) r.used → part ≡ map (nth c.part) others → LeavesOneOut c.formula conflicts part
one_left_out c conflicts r ws others part p copy h n rest is =
    let F = c.formula in
    let G = c.clauses in
    let whole = map (nth c.part) r.used in
    let len = part_length F G c.part c.names copy.dense in
    record {
      whole = whole;
      positions = rising_told c.part (length F.clauses) (length G.clauses) r.used copy.part len h.refuted.places;
      round = r.round;
      refuted = h.refuted.refuted;
      left_out = nth c.part p;
      there = in_mapped (nth c.part) r.used p n.there;
      others = is ∙ ap (map (nth c.part)) rest ∙ others_told (nth c.part) p r.used (λ q there.
          let b = bounded 0 (length G.clauses) r.used q h.refuted.places there in
          let low = b.0 in let high = b.1 in let first = n.first in let last = n.last in
          same_place c.part (length F.clauses) p q copy.part (omega (arith, first)) (omega (arith, last, len)) (omega (arith, low)) (omega (arith, high, len)));
    }
