-- What is kept of a trail where a literal becomes true, and where a variable is blocked.
use Rattle.std.proofs.Common.{◌≡◌, ◌∙◌, ◌≢◌, ℕ, zero, suc, ◌+◌, ◌*◌, ◌<◌, ◌≤◌, ◌==◌, ◌||◌, ◌++◌, ◌∷◌, [], Bool, true, false, not, List, ℤ, pos, negsuc, Option, Some, None, is_some, length, get_or, get_or-set_same, get_or-set_other, sum_by, refl, sym, ap, subst, arith, inl, inr}
use Rattle.std.specs.Prelude.{slice_set, slice_index, slice_index_or}
use Rattle.std.specs.List.{list_all}
use Rattle.std.specs.Ordering.{int_eq}
use Rattle.std.proofs.lemmas.Bool.{cases_Bool, eqb-true, eq-eqb, and_from, not-true, false_from_ne_true}
use Rattle.std.proofs.lemmas.Bool.Decides.{Decides-int_eq}
use Rattle.std.proofs.lemmas.List.{length_push, length-set, get_or_append_left}
use Rattle.std.proofs.Math.Seq.{get_or-append_seam}
use Rattle.std.proofs.lemmas.List.Sums.{sum_by-set}
use Rattle.lk_model.specs.Formulas.Literal.{variable, complement, contains, is_literal, is_distinct, is_clause, rank_of}
use Rattle.lk_model.specs.Formulas.Formula.{Cnf, clause_at}
use Rattle.lk_model.specs.Formulas.Crossed.{crossed_out}
use Rattle.lk_model.specs.Held.VariableSets.{is_in, with_variable}
use Rattle.lk_model.proofs.Booleans.{and_true, or_true}
use Rattle.lk_model.proofs.Crossings.{contains_crossed}
use Rattle.lk_model.proofs.ListTests.{passes_each}
use Rattle.lk_model.proofs.Literals.{complement_twice, variable_complement}
use Rattle.lk_model.proofs.Ranks.{rank_apart, rank_small, literal_bounds}
use Rattle.lk_model.proofs.VariableLists.{is_in_with}
use Rattle.unit_refutations.specs.declared.looking.Look.TheVariants.{Truth}
use Rattle.unit_refutations.specs.Trails.{Came, place_of, is_true_in, is_false_in, unset_one, unset, CameBefore, IsReason, IsForcedAt, IsReasoned}
use Rattle.unit_refutations.specs.Looks.{IsLook}
use Rattle.unit_refutations.specs.Standing.{AreKept}

-- WHAT STAYS AS IT IS

pub same_kept : (F : Cnf) (b : List Bool) (lists lists' : List (List ℕ)) (inside inside' : List Bool) (t t' : Came) → lists' ≡ lists → inside' ≡ inside → t' ≡ t
    → AreKept F b lists inside t → AreKept F b lists' inside' t'
same_kept F b lists lists' inside inside' t t' e f g h =
    subst (λ (x : List (List ℕ)). AreKept F b x inside' t') (sym e)
    (subst (λ (x : List Bool). AreKept F b lists x t') (sym f) (subst (λ (x : Came). AreKept F b lists inside x) (sym g) h))

-- positions of a greater set
pub wider : (F : Cnf) (inside wide : ℕ → Bool) (b : List Bool) (t : Came) → ((p : ℕ) → inside p ≡ true → wide p ≡ true) → IsReasoned F inside b t → IsReasoned F wide b t
wider F inside wide b t w h = record {
  size = h.size;
  same = h.same;
  each = λ l place lit e.
      (let x = h.each l place lit e in
      record {
        came = x.came;
        lit = x.lit;
        forced = record { within = w (slice_index t.reasons place) x.forced.within; holds = x.forced.holds; others = x.forced.others };
        one_sign = x.one_sign;
      });
}

-- where all true literals stay so
later_before : (t t' : Came) (place : ℕ) (l : ℤ) → ((at : ℕ) → place_of t l ≡ Some at → place_of t' l ≡ Some at) → CameBefore t place l → CameBefore t' place l
later_before t t' place l h c = record { at = c.at; stands = h c.at c.stands; before = c.before }

none_of : (o : Option ℕ) → not (is_some o) ≡ true → o ≡ None
none_of None e = refl
none_of (Some x) e = absurd (let f : ⊥ = cc in f)

pub never : (o : Option ℕ) (x : ℕ) → o ≡ None → o ≡ Some x → ⊥
never o x e f = let g : ⊥ = cc in g

pub same_place : (o : Option ℕ) (x y : ℕ) → o ≡ Some x → o ≡ Some y → x ≡ y
same_place o x y e f = cc

-- A LITERAL BECOMES TRUE

-- what is read of the places with one literal more
record IsPut (t t' : Came) (l : ℤ) : Type 0 where
  pub here : place_of t' l ≡ Some (length t.lits)
  pub elsewhere : (k : ℤ) → k ≢ l → place_of t' k ≡ place_of t k

is_put : (t t' : Came) (l : ℤ) → rank_of l < length t.places → t'.places ≡ slice_set t.places (rank_of l) (Some (length t.lits)) → IsPut t t' l
is_put t t' l small e = record {
  here = ap (λ (ps : List (Option ℕ)). slice_index_or ps (rank_of l) None) e ∙ get_or-set_same t.places (rank_of l) (Some (length t.lits)) None small;
  elsewhere = λ k apart. ap (λ (ps : List (Option ℕ)). slice_index_or ps (rank_of k) None) e
      ∙ get_or-set_other t.places (rank_of l) (rank_of k) (Some (length t.lits)) None (λ same. apart (rank_apart k l same));
}

apart_complement : (n : ℕ) (l : ℤ) → is_literal n l ≡ true → complement l ≢ l
apart_complement n (pos zero) h e = let b = literal_bounds n (pos 0) h in let low = b.0 in omega (arith, low)
apart_complement n (pos (suc k)) h e = let f : ⊥ = cc in f
apart_complement n (negsuc k) h e = let f : ⊥ = cc in f

-- the literal that a clause asks for
pub asked_literal : (F : Cnf) (b : List Bool) (t : Came) (position : ℕ) (l : ℤ) → is_clause F.vars (clause_at F position) ≡ true
    → IsLook t (crossed_out (is_in b) (clause_at F position)) (Truth l) → is_literal F.vars l ≡ true
asked_literal F b t position l clause look =
    let c = clause_at F position in
    let held = and_true (not (is_in b (variable l))) (contains c l) (sym (contains_crossed (is_in b) c l) ∙ look.0) in
    passes_each (is_literal F.vars) c l (and_true (list_all (is_literal F.vars) c) (is_distinct c) clause).0 held.1

-- a literal that is not the asked one is false
false_other : (t : Came) (c : List ℤ) (l k : ℤ) → list_all (λ m. int_eq m l || is_false_in t m) c ≡ true → contains c k ≡ true → k ≢ l → is_false_in t k ≡ true
false_other t c l k all there apart =
    elim (or_true (int_eq k l) (is_false_in t k) (passes_each (λ m. int_eq m l || is_false_in t m) c k all there)) [
      | inl same ↦ absurd (apart ((Decides-int_eq k l).0 same))
      | inr e ↦ e
    ]

pub some_of : (o : Option ℕ) → is_some o ≡ true → (x : ℕ) × (o ≡ Some x)
some_of (Some x) e = (x, refl)
some_of None e = absurd (let f : ⊥ = cc in f)

pub put_reasoned : (F : Cnf) (inside : ℕ → Bool) (b : List Bool) (t t' : Came) (l : ℤ) (position : ℕ) → IsReasoned F inside b t
    → is_clause F.vars (clause_at F position) ≡ true → inside position ≡ true → IsLook t (crossed_out (is_in b) (clause_at F position)) (Truth l)
    → t'.lits ≡ t.lits ++ l ∷ [] → t'.reasons ≡ t.reasons ++ position ∷ [] → t'.places ≡ slice_set t.places (rank_of l) (Some (length t.lits))
    → IsReasoned F inside b t'
put_reasoned F inside b t t' l position h clause within look lits reasons places = record {
  size = ap (λ (ps : List (Option ℕ)). length ps) places ∙ length-set t.places (rank_of l) (Some (length t.lits)) ∙ h.size;
  same =
      let same = h.same in
      let more = ap (λ (ps : List ℕ). length ps) reasons ∙ length_push t.reasons position in
      let longer = ap (λ (ls : List ℤ). length ls) lits ∙ length_push t.lits l in
      omega (arith, same, more, longer);
  each = λ m place lit e. elim (cases_Bool (int_eq m l)) [
    | inl y ↦ (let same : l ≡ m = sym ((Decides-int_eq m l).0 y) in
        subst (λ (k : ℤ). IsForcedAt F inside b t' k place) same
        (subst (λ (p : ℕ). IsForcedAt F inside b t' l p) (same_place (place_of t' l) (length t.lits) place put.here (ap (place_of t') same ∙ e)) new))
    | inr n ↦ old m place lit e (λ same. (let z : int_eq m l ≡ true = (Decides-int_eq m l).1 same in let f : ⊥ = cc in f))
  ];
}
  where
    lit_l : is_literal F.vars l ≡ true
    lit_l = asked_literal F b t position l clause look

    put : IsPut t t' l
    put = is_put t t' l (let small = rank_small F.vars l lit_l in let size = h.size in omega (arith, small, size)) places

    was_unset : place_of t l ≡ None
    was_unset = none_of (place_of t l) look.1

    other_unset : place_of t (complement l) ≡ None
    other_unset = none_of (place_of t (complement l)) look.2

    stays : (k : ℤ) (at : ℕ) → place_of t k ≡ Some at → place_of t' k ≡ Some at
    stays k at e = put.elsewhere k (λ same. never (place_of t l) at was_unset (ap (place_of t) (sym same) ∙ e)) ∙ e

    longer : length t'.lits ≡ length t.lits + 1
    longer = ap (λ (ls : List ℤ). length ls) lits ∙ length_push t.lits l

    crossed : List ℤ
    crossed = crossed_out (is_in b) (clause_at F position)

    reason_new : slice_index t'.reasons (length t.lits) ≡ position
    reason_new =
        ap (λ (ps : List ℕ). slice_index ps (length t.lits)) reasons ∙ ap (λ (k : ℕ). slice_index (t.reasons ++ position ∷ []) k) (sym h.same)
        ∙ get_or-append_seam t.reasons position [] 0

    others_new : (k : ℤ) → contains (crossed_out (is_in b) (clause_at F position)) k ≡ true → k ≢ l → CameBefore t' (length t.lits) (complement k)
    others_new k there apart =
        let w = some_of (place_of t (complement k)) (false_other t (crossed_out (is_in b) (clause_at F position)) l k look.3 there apart) in
        let c = clause_at F position in
        let held = and_true (not (is_in b (variable k))) (contains c k) (sym (contains_crossed (is_in b) c k) ∙ there) in
        let lit_k = passes_each (is_literal F.vars) c k (and_true (list_all (is_literal F.vars) c) (is_distinct c) clause).0 held.1 in
        let lit_other : is_literal F.vars (complement k) ≡ true =
        ap (λ (v : ℕ). is_literal F.vars (pos v)) (variable_complement k) ∙ lit_k in
        record { at = w.0; stands = stays (complement k) w.0 w.1; before = (h.each (complement k) w.0 lit_other w.1).came }

    new : IsForcedAt F inside b t' l (length t.lits)
    new = record {
      came = let e = longer in omega (arith, e);
      lit = λ d. ap (λ (ls : List ℤ). slice_index_or ls (length t.lits) d) lits ∙ get_or-append_seam t.lits l [] d;
      forced = subst (λ (p : ℕ). IsReason F inside b t' (length t.lits) l p) (sym reason_new)
          (record { within = within; holds = look.0; others = others_new });
      one_sign = put.elsewhere (complement l) (apart_complement F.vars l lit_l) ∙ other_unset;
    }

    old : (m : ℤ) (place : ℕ) → is_literal F.vars m ≡ true → place_of t' m ≡ Some place → m ≢ l → IsForcedAt F inside b t' m place
    old m place lit e apart =
        let was : place_of t m ≡ Some place = sym (put.elsewhere m apart) ∙ e in
        let x = h.each m place lit was in
        let came = x.came in
        let same = h.same in
        let reason : slice_index t'.reasons place ≡ slice_index t.reasons place =
        ap (λ (ps : List ℕ). slice_index ps place) reasons ∙ get_or_append_left t.reasons (position ∷ []) 0 place (omega (arith, came, same)) in
        record {
          came = let e = longer in omega (arith, e, came);
          lit = λ d. ap (λ (ls : List ℤ). slice_index_or ls place d) lits ∙ get_or_append_left t.lits (l ∷ []) d place came ∙ x.lit d;
          forced = subst (λ (p : ℕ). IsReason F inside b t' place m p) (sym reason) (record {
            within = x.forced.within;
            holds = x.forced.holds;
            others = λ k there n. later_before t t' place (complement k) (stays (complement k)) (x.forced.others k there n);
          });
          one_sign = put.elsewhere (complement m) (λ is. never (place_of t (complement l)) place other_unset
              (ap (place_of t) (ap complement (sym is) ∙ complement_twice m) ∙ was)) ∙ x.one_sign;
        }

pub put_fewer : (t t' : Came) (l : ℤ) → rank_of l < length t.places → not (is_true_in t l) ≡ true → t'.places ≡ slice_set t.places (rank_of l) (Some (length t.lits))
    → unset t' < unset t
put_fewer t t' l small e places =
    let sum = sum_by-set unset_one t.places (rank_of l) (Some (length t.lits)) None small in
    let one : unset_one (place_of t l) ≡ 1 = ap unset_one (none_of (place_of t l) e) in
    let is : unset t' ≡ sum_by unset_one (slice_set t.places (rank_of l) (Some (length t.lits))) = ap (λ (ps : List (Option ℕ)). sum_by unset_one ps) places in
    omega (arith, sum, one, is)

-- A VARIABLE IS BLOCKED

-- what is read of the places without a variable
record IsTakenBack (t t' : Came) (v : ℕ) : Type 0 where
  pub gone : (k : ℤ) → variable k ≡ v → place_of t' k ≡ None
  pub stays : (k : ℤ) → variable k ≢ v → place_of t' k ≡ place_of t k

taken_back : (t t' : Came) (v : ℕ) → 0 < v → 2 * v + 1 < length t.places → t'.places ≡ slice_set (slice_set t.places (2 * v) None) (2 * v + 1) None → IsTakenBack t t' v
taken_back t t' v first small e = record {
  gone = λ k same. read k ∙ at_own k same;
  stays = λ k apart. read k ∙ get_or-set_other first_set (2 * v + 1) (rank_of k) None None (no_second k apart)
      ∙ get_or-set_other t.places (2 * v) (rank_of k) None None (no_first k apart);
}
  where
    first_set : List (Option ℕ)
    first_set = slice_set t.places (2 * v) None

    read : (k : ℤ) → place_of t' k ≡ slice_index_or (slice_set first_set (2 * v + 1) None) (rank_of k) None
    read k = ap (λ (ps : List (Option ℕ)). slice_index_or ps (rank_of k) None) e

    long : length first_set ≡ length t.places
    long = length-set t.places (2 * v) None

    at_own : (k : ℤ) → variable k ≡ v → slice_index_or (slice_set first_set (2 * v + 1) None) (rank_of k) None ≡ None
    at_own (pos a) same =
        let at : rank_of (pos a) ≡ 2 * v = let is : a ≡ v = same in omega (arith, is) in
        get_or-set_other first_set (2 * v + 1) (rank_of (pos a)) None None (λ x. omega (arith, x, at))
        ∙ ap (λ (n : ℕ). slice_index_or first_set n None) at ∙ get_or-set_same t.places (2 * v) None None (omega (arith, small))
    at_own (negsuc a) same =
        let at : rank_of (negsuc a) ≡ 2 * v + 1 = let is : suc a ≡ v = same in omega (arith, is) in
        let l = long in
        ap (λ (n : ℕ). slice_index_or (slice_set first_set (2 * v + 1) None) n None) at ∙ get_or-set_same first_set (2 * v + 1) None None (omega (arith, small, l))

    no_first : (k : ℤ) → variable k ≢ v → rank_of k ≢ 2 * v
    no_first (pos a) apart x = apart (let is : a ≡ v = omega (arith, x) in is)
    no_first (negsuc a) apart x = omega (arith, x)

    no_second : (k : ℤ) → variable k ≢ v → rank_of k ≢ 2 * v + 1
    no_second (pos a) apart x = omega (arith, x)
    no_second (negsuc a) apart x = apart (let is : suc a ≡ v = omega (arith, x) in is)

pub blocked_reasoned : (F : Cnf) (inside : ℕ → Bool) (b b' : List Bool) (t t' : Came) (v : ℕ) → IsReasoned F inside b t → 0 < v → v ≤ length b → length b ≡ F.vars
    → b' ≡ with_variable b v → t'.lits ≡ t.lits → t'.reasons ≡ t.reasons → t'.places ≡ slice_set (slice_set t.places (2 * v) None) (2 * v + 1) None
    → IsReasoned F inside b' t'
blocked_reasoned F inside b b' t t' v h first last vars blocked lits reasons places = record {
  size = ap (λ (ps : List (Option ℕ)). length ps) places ∙ length-set (slice_set t.places (2 * v) None) (2 * v + 1) None ∙ length-set t.places (2 * v) None ∙ h.size;
  same = ap (λ (ps : List ℕ). length ps) reasons ∙ h.same ∙ ap (λ (ls : List ℤ). length ls) (sym lits);
  each = λ m place lit e. elim (cases_Bool (variable m == v)) [
    | inl y ↦ absurd (never (place_of t' m) place (back.gone m (eqb-true (variable m) v y)) e)
    | inr n ↦ old m place lit e (λ same. not_same (variable m) v same n)
  ];
}
  where
    back : IsTakenBack t t' v
    back = taken_back t t' v first (let size = h.size in omega (arith, size, last, vars)) places

    not_same : (a c : ℕ) → a ≡ c → (a == c) ≡ false → ⊥
    not_same a c same n = let y : (a == c) ≡ true = eq-eqb a c same in let f : ⊥ = cc in f

    more : (u : ℕ) → is_in b' u ≡ (is_in b u || v == u)
    more u = ap (λ (x : List Bool). is_in x u) blocked ∙ is_in_with b v u first last

    -- a literal that is left is one that was left, of another variable
    was_left : (c : List ℤ) (k : ℤ) → contains (crossed_out (is_in b') c) k ≡ true → (contains (crossed_out (is_in b) c) k ≡ true) × (variable k ≢ v)
    was_left c k there =
        let both = and_true (not (is_in b' (variable k))) (contains c k) (sym (contains_crossed (is_in b') c k) ∙ there) in
        let unblocked : (is_in b (variable k) || v == variable k) ≡ false = sym (more (variable k)) ∙ not-true (is_in b' (variable k)) both.0 in
        let parts = neither (is_in b (variable k)) (v == variable k) unblocked in (
          contains_crossed (is_in b) c k ∙ and_from (not (is_in b (variable k))) (contains c k) (ap not parts.0) both.1,
          λ same. not_same v (variable k) (sym same) parts.1,
        )
      where
        neither : (x y : Bool) → (x || y) ≡ false → (x ≡ false) × (y ≡ false)
        neither true y e = absurd (let f : ⊥ = cc in f)
        neither false y e = (refl, e)

    still_left : (c : List ℤ) (k : ℤ) → contains (crossed_out (is_in b) c) k ≡ true → variable k ≢ v → contains (crossed_out (is_in b') c) k ≡ true
    still_left c k there apart =
        let both = and_true (not (is_in b (variable k))) (contains c k) (sym (contains_crossed (is_in b) c k) ∙ there) in
        let other : (v == variable k) ≡ false = false_from_ne_true (v == variable k) (λ y. apart (sym (eqb-true v (variable k) y))) in
        let open_still : is_in b' (variable k) ≡ false = more (variable k) ∙ rw (not-true (is_in b (variable k)) both.0, other) refl in
        contains_crossed (is_in b') c k ∙ and_from (not (is_in b' (variable k))) (contains c k) (ap not open_still) both.1

    old : (m : ℤ) (place : ℕ) → is_literal F.vars m ≡ true → place_of t' m ≡ Some place → variable m ≢ v → IsForcedAt F inside b' t' m place
    old m place lit e apart =
        let x = h.each m place lit (sym (back.stays m apart) ∙ e) in
        let came = x.came in
        let c = clause_at F (slice_index t.reasons place) in
        record {
          came = let l = ap (λ (ls : List ℤ). length ls) lits in omega (arith, came, l);
          lit = λ d. ap (λ (ls : List ℤ). slice_index_or ls place d) lits ∙ x.lit d;
          forced = subst (λ (p : ℕ). IsReason F inside b' t' place m p) (ap (λ (ps : List ℕ). slice_index ps place) (sym reasons)) (record {
            within = x.forced.within;
            holds = still_left c m x.forced.holds apart;
            others = λ k there n.
                (let w = was_left c k there in
                later_before t t' place (complement k) (λ at s. back.stays (complement k) (λ same. w.1 (sym (variable_complement k) ∙ same)) ∙ s) (x.forced.others k w.0 n));
          });
          one_sign = back.stays (complement m) (λ same. apart (sym (variable_complement m) ∙ same)) ∙ x.one_sign;
        }

-- ALL OF IT

pub kept_put : (F : Cnf) (b : List Bool) (lists lists' : List (List ℕ)) (inside inside' : List Bool) (t t' : Came) (l : ℤ) (position : ℕ) → AreKept F b lists inside t
    → is_clause F.vars (clause_at F position) ≡ true → is_in inside position ≡ true → IsLook t (crossed_out (is_in b) (clause_at F position)) (Truth l)
    → lists' ≡ lists → inside' ≡ inside → t'.lits ≡ t.lits ++ l ∷ [] → t'.reasons ≡ t.reasons ++ position ∷ []
    → t'.places ≡ slice_set t.places (rank_of l) (Some (length t.lits)) → AreKept F b lists' inside' t'
kept_put F b lists lists' inside inside' t t' l position h clause within look e f lits reasons places =
    subst (λ (x : List (List ℕ)). AreKept F b x inside' t') (sym e) (subst (λ (x : List Bool). AreKept F b lists x t') (sym f) (record {
      occurs = h.occurs;
      size = h.size ∙ sym (ap (λ (ps : List (Option ℕ)). length ps) places ∙ length-set t.places (rank_of l) (Some (length t.lits)));
      ranges = h.ranges;
      inside = h.inside;
      reasoned = put_reasoned F (is_in inside) b t t' l position h.reasoned clause within look lits reasons places;
    }))

-- the ranks of the asked literal and of its complement are in the table
pub asked_ranks : (F : Cnf) (b : List Bool) (t : Came) (position : ℕ) (l : ℤ) → length t.places ≡ 2 * F.vars + 2 → is_clause F.vars (clause_at F position) ≡ true
    → IsLook t (crossed_out (is_in b) (clause_at F position)) (Truth l) → (rank_of l < length t.places) × (rank_of (complement l) < length t.places)
asked_ranks F b t position l size clause look =
    let lit = asked_literal F b t position l clause look in
    let other : is_literal F.vars (complement l) ≡ true = ap (λ (v : ℕ). is_literal F.vars (pos v)) (variable_complement l) ∙ lit in
    let small = rank_small F.vars l lit in
    let small_other = rank_small F.vars (complement l) other in
    (omega (arith, small, size), omega (arith, small_other, size))
