-- The way back along the trail, and how it ends.
use Rattle.std.proofs.Common.{◌≡◌, ◌∙◌, ◌≢◌, ℕ, ◌+◌, ◌-◌, ◌<◌, ◌≤◌, ◌==◌, ◌&&◌, ◌++◌, ◌∷◌, [], true, false, not, List, ℤ, pos, Option, Some, None, option_and_then, length, get_or, map, refl, sym, ap, subst, arith, inl, inr}
use Rattle.std.specs.Prelude.{slice_index}
use Rattle.std.specs.List.{list_all}
use Rattle.std.specs.Option.{option_map_or}
use Rattle.std.specs.Ordering.{int_eq}
use Rattle.std.proofs.lemmas.Bool.{eqb-true, eq-eqb, le-leb, and_from, false_from_ne_true, not-true}
use Rattle.std.proofs.lemmas.Bool.Decides.{Decides-int_eq}
use Rattle.std.proofs.lemmas.List.{map-append}
use Rattle.std.proofs.lemmas.List.Folds.{list_any-append}
use Rattle.std.proofs.lemmas.Map.Views.{any-filter_same}
use Rattle.lk_model.specs.Lists.{among, is_empty}
use Rattle.lk_model.specs.Formulas.Literal.{complement, contains, is_literal, is_distinct, is_clause}
use Rattle.lk_model.specs.Formulas.Formula.{clause_at}
use Rattle.lk_model.specs.Formulas.Crossed.{crossed_out}
use Rattle.lk_model.specs.Held.VariableSets.{is_in, IsCrossed, premises_of}
use Rattle.lk_model.specs.Chains.Chain.{clause_named, without, after_turns, chain_clause}
use Rattle.lk_model.specs.declared.crossed.Crossed.{Crossed}
use Rattle.lk_model.specs.declared.document.Turn.{Turn}
use Rattle.lk_model.proofs.Booleans.{and_true, or_true, or_left, or_right}
use Rattle.lk_model.proofs.Crossings.{clause_crossed}
use Rattle.lk_model.proofs.ListTests.{passes_one, passes_each, all_more}
use Rattle.lk_model.proofs.Literals.{complement_twice, variable_complement, filled as filled_with}
use Rattle.lk_model.proofs.LongerChains.{chain_more}
use Rattle.lk_model.proofs.Rising.{bounded}
use Rattle.lk_model.proofs.Variables.{literal_passing}
use Rattle.unit_refutations.specs.declared.chain.Chain.{Chain}
use Rattle.unit_refutations.specs.Trails.{Came, place_of, is_false_in, IsReason, IsForcedAt, IsReasoned}
use Rattle.unit_refutations.specs.Chains.{clause_over, meets, HaveMet, IsTakenOut, IsConflict, is_filled, LeadsToEmpty}
use Rattle.unit_refutations.proofs.Keeping.{some_of, same_place, never}

-- one more than the greatest of some places, 0 where there is none
abbrev pub bound_of : List ℕ → ℕ
bound_of [] = 0
bound_of (p ∷ ps) = (p + 1) + (bound_of ps - (p + 1))

-- a literal is true, and its place is among some
pub record HasPlace (vars : ℕ) (t : Came) (places : List ℕ) (l : ℤ) : Type 0 where
  pub literal : is_literal vars l ≡ true
  pub at : ℕ
  pub stands : place_of t l ≡ Some at
  pub there : among places at ≡ true

-- the place is that of a literal whose complement the clause contains
pub record IsOwed (vars : ℕ) (t : Came) (c : List ℤ) (place : ℕ) : Type 0 where
  pub lit : ℤ
  pub literal : is_literal vars lit ≡ true
  pub stands : place_of t lit ≡ Some place
  pub holds : contains c (complement lit) ≡ true

-- The places are those of the complements of the clause's literals.
pub record AreOwed (vars : ℕ) (t : Came) (places : List ℕ) (c : List ℤ) : Type 0 where
  pub literals : (k : ℤ) → contains c k ≡ true → HasPlace vars t places (complement k)
  pub each : (place : ℕ) → among places place ≡ true → IsOwed vars t c place

-- A chain so far, of whose clause the complements' places are left.
pub record IsOnTheWay (over : Crossed) (t : Came) (first : ℕ) (turns : List Turn) (used places : List ℕ) : Type 0 where
  pub clause : List ℤ
  pub chain : chain_clause (premises_of over []) first turns ≡ Some clause
  pub names : used ≡ first ∷ map (λ (t : Turn). t.with) turns
  pub filled : list_all (is_filled over) used ≡ true
  pub owed : AreOwed over.formula.now.vars t places clause

-- CHAINS

-- a position of the part stands for its crossed clause
named_here : (over : Crossed) (k : ℕ) → IsCrossed over → among over.part.now k ≡ true → clause_named (premises_of over []) k ≡ Some (clause_over over k)
named_here over k crossed within =
    let b = bounded 0 (length over.formula.now.clauses) over.part.now k crossed.part within in
    rw (le-leb k (length over.formula.now.clauses) b.1, within) refl

-- WHAT IS MET

met_one : (t : Came) (c : List ℤ) (place : ℕ) (k : ℤ) → contains c k ≡ true → place_of t (complement k) ≡ Some place → meets t c place ≡ true
met_one t c place k there e =
    passes_one (λ m. option_map_or (λ at. at == place) (place_of t (complement m)) false) c k there
    (ap (λ (o : Option ℕ). option_map_or (λ at. at == place) o false) e ∙ eq-eqb place place refl)

met_by : (t : Came) (c : List ℤ) (place : ℕ) → meets t c place ≡ true → (k : ℤ) × (contains c k ≡ true) × (place_of t (complement k) ≡ Some place)
met_by t c place h =
    let w = literal_passing (λ m. option_map_or (λ at. at == place) (place_of t (complement m)) false) c h in
    (w.0, w.1, at (place_of t (complement w.0)) w.2)
  where
    at : (o : Option ℕ) → option_map_or (λ at. at == place) o false ≡ true → o ≡ Some place
    at None e = absurd (let f : ⊥ = cc in f)
    at (Some x) e = ap (λ (n : ℕ). Some n) (eqb-true x place e)

contains_without : (c : List ℤ) (m k : ℤ) → contains (without c m) k ≡ (not (int_eq k m) && contains c k)
contains_without c m k = any-filter_same (int_eq k) (λ j. not (int_eq j m)) (not (int_eq k m)) (λ j e. ap (λ (x : ℤ). not (int_eq x m)) (sym ((Decides-int_eq k j).0 e))) c

in_without : (c : List ℤ) (m k : ℤ) → contains c k ≡ true → k ≢ m → contains (without c m) k ≡ true
in_without c m k there apart =
    contains_without c m k ∙ and_from (not (int_eq k m)) (contains c k) (ap not (false_from_ne_true (int_eq k m) (λ e. apart ((Decides-int_eq k m).0 e)))) there

from_without : (c : List ℤ) (m k : ℤ) → contains (without c m) k ≡ true → (contains c k ≡ true) × (k ≢ m)
from_without c m k h =
    let both = and_true (not (int_eq k m)) (contains c k) (sym (contains_without c m k) ∙ h) in
    (both.1, λ same. (let e : int_eq k m ≡ true = (Decides-int_eq k m).1 same in let n = not-true (int_eq k m) both.0 in let f : ⊥ = cc in f))

-- literals of a crossed clause are literals
literal_over : (over : Crossed) (p : ℕ) (k : ℤ) → is_clause over.formula.now.vars (clause_at over.formula.now p) ≡ true → contains (clause_over over p) k ≡ true
    → is_literal over.formula.now.vars (complement k) ≡ true
literal_over over p k clause there =
    let n = over.formula.now.vars in
    let c = clause_over over p in
    let lit = passes_each (is_literal n) c k (and_true (list_all (is_literal n) c) (is_distinct c) (clause_crossed (is_in over.blocked.now) n (clause_at over.formula.now p) clause)).0 there in
    ap (λ (v : ℕ). is_literal n (pos v)) (variable_complement k) ∙ lit

-- THE START

pub starts : (over : Crossed) (t : Came) (conflict : ℕ) (used places : List ℕ) → IsCrossed over → is_clause over.formula.now.vars (clause_at over.formula.now conflict) ≡ true
    → IsConflict over t conflict → used ≡ conflict ∷ [] → HaveMet t (clause_over over conflict) [] places → IsOnTheWay over t conflict [] used places
starts over t conflict used places crossed clause h is met = record {
  clause = clause_over over conflict;
  chain = ap (λ (o : Option (List ℤ)). option_and_then (λ c. after_turns (premises_of over []) c []) o) (named_here over conflict crossed h.within);
  names = is;
  filled = ap (list_all (is_filled over)) is ∙ and_from (is_filled over conflict) true (and_from (among over.part.now conflict) (not (is_empty (clause_over over conflict))) h.within h.filled) refl;
  owed = record {
    literals = λ k there.
        (let w = some_of (place_of t (complement k)) (passes_each (is_false_in t) (clause_over over conflict) k h.falsified there) in
        record { literal = literal_over over conflict k clause there; at = w.0; stands = w.1; there = met w.0 ∙ met_one t (clause_over over conflict) w.0 k there w.1 });
    each = λ place there.
        (let w = met_by t (clause_over over conflict) place (sym (met place) ∙ there) in
        record {
          lit = complement w.0;
          literal = literal_over over conflict w.0 clause w.1;
          stands = w.2;
          holds = ap (contains (clause_over over conflict)) (complement_twice w.0) ∙ w.1;
        });
  };
}

-- ONE STEP BACK

-- what is left of the clause and of the one that forced its literal
owed_back : (over : Crossed) (t : Came) (c : List ℤ) (l : ℤ) (place reason : ℕ) (places rest places' : List ℕ) → IsReasoned over.formula.now (among over.part.now) over.blocked.now t
    → is_clause over.formula.now.vars (clause_at over.formula.now reason) ≡ true
    → IsReason over.formula.now (among over.part.now) over.blocked.now t place l reason → place_of t (complement l) ≡ None → place_of t l ≡ Some place
    → IsTakenOut places place rest → HaveMet t (clause_over over reason) rest places' → AreOwed over.formula.now.vars t places c
    → AreOwed over.formula.now.vars t places' (without c (complement l) ++ without (clause_over over reason) l)
owed_back over t c l place reason places rest places' h clause r one_sign stands out met owed = record {
  literals = λ k there. elim (or_true (contains (without c (complement l)) k) (contains (without d l) k) (sym (list_any-append (int_eq k) (without c (complement l)) (without d l)) ∙ there)) [
    | inl e ↦
        let w = from_without c (complement l) k e in
        let x = owed.literals k w.0 in
        record { literal = x.literal; at = x.at; stands = x.stands; there = stays k x.at x.literal x.stands w.1 x.there }
    | inr e ↦
        let w = from_without d l k e in
        let x = r.others k w.0 w.1 in
        record {
          literal = literal_over over reason k clause w.0;
          at = x.at;
          stands = x.stands;
          there = met x.at ∙ or_right (among rest x.at) (meets t d x.at) (met_one t d x.at k w.0 x.stands);
        }
  ];
  each = λ p there. elim (or_true (among rest p) (meets t d p) (sym (met p) ∙ there)) [
    | inl e ↦
        let both = and_true (among places p) (not (p == place)) (sym (out.others p) ∙ e) in
        let x = owed.each p both.0 in
        record {
          lit = x.lit;
          literal = x.literal;
          stands = x.stands;
          holds = list_any-append (int_eq (complement x.lit)) (without c (complement l)) (without d l)
              ∙ or_left (contains (without c (complement l)) (complement x.lit)) _
              (in_without c (complement l) (complement x.lit) x.holds
              (λ same. other p both.1 (same_place (place_of t l) p place (ap (place_of t) (sym (complement_twice l) ∙ sym (ap complement same) ∙ complement_twice x.lit) ∙ x.stands) stands)));
        }
    | inr e ↦
        let w = met_by t d p e in
        record {
          lit = complement w.0;
          literal = literal_over over reason w.0 clause w.1;
          stands = w.2;
          holds = ap (contains (without c (complement l) ++ without d l)) (complement_twice w.0)
              ∙ list_any-append (int_eq w.0) (without c (complement l)) (without d l)
              ∙ or_right (contains (without c (complement l)) w.0) (contains (without d l) w.0)
              (in_without d l w.0 w.1 (λ same. never (place_of t (complement l)) p one_sign (ap (λ (m : ℤ). place_of t (complement m)) (sym same) ∙ w.2)));
        }
  ];
}
  where
    d : List ℤ
    d = clause_over over reason

    other : (p : ℕ) → not (p == place) ≡ true → p ≡ place → ⊥
    other p n e = let y : (p == place) ≡ true = eq-eqb p place e in let f : ⊥ = cc in f

    -- the place of another literal is another
    stays : (k : ℤ) (at : ℕ) → is_literal over.formula.now.vars (complement k) ≡ true → place_of t (complement k) ≡ Some at → k ≢ complement l → among places at ≡ true
        → among places' at ≡ true
    stays k at lit e apart there =
        let n : (at == place) ≡ false = false_from_ne_true (at == place) (λ y.
        (let same = eqb-true at place y in
        let mine = (h.each (complement k) at lit e).lit l in
        let its = (h.each l place (its_literal at same lit e) stands).lit l in
        apart (sym (complement_twice k) ∙ ap complement (sym mine ∙ ap (λ (i : ℕ). get_or t.lits i l) same ∙ its)))) in
        met at ∙ or_left (among rest at) (meets t d at) (out.others at ∙ and_from (among places at) (not (at == place)) there (ap not n))
      where
        its_literal : (at : ℕ) → at ≡ place → is_literal over.formula.now.vars (complement k) ≡ true → place_of t (complement k) ≡ Some at → is_literal over.formula.now.vars l ≡ true
        its_literal at same lit e =
            let there = r.holds in
            let both = literal_over over reason l clause there in
            ap (λ (v : ℕ). is_literal over.formula.now.vars (pos v)) (sym (variable_complement l)) ∙ both

-- the greatest place bounds them
bound_least : (n : ℕ) (ps : List ℕ) → ((p : ℕ) → among ps p ≡ true → p < n) → bound_of ps ≤ n
bound_least n [] h = omega arith
bound_least n (p ∷ ps) h =
    let here = h p (or_left (p == p) (among ps p) (eq-eqb p p refl)) in
    let later = bound_least n ps (λ q m. h q (or_right (p == q) (among ps q) m)) in
    omega (arith, here, later)

bound_above : (ps : List ℕ) (p : ℕ) → among ps p ≡ true → p < bound_of ps
bound_above [] p m = absurd (let f : ⊥ = cc in f)
bound_above (q ∷ ps) p m = elim (or_true (q == p) (among ps p) m) [
  | inl here ↦ (let same = eqb-true q p here in omega (arith, same))
  | inr later ↦ (let rest = bound_above ps p later in omega (arith, rest))
]

-- what a resolution leaves
pub record IsStepBack (over : Crossed) (t : Came) (first : ℕ) (turns : List Turn) (used places places' : List ℕ) : Type 0 where
  pub way : IsOnTheWay over t first turns used places'
  pub less : bound_of places' < bound_of places

-- a literal is read at a place that is left
pub record IsLeft (over : Crossed) (t : Came) (place : ℕ) (l : ℤ) : Type 0 where
  pub literal : is_literal over.formula.now.vars l ≡ true
  pub stands : place_of t l ≡ Some place
  pub forced : IsForcedAt over.formula.now (among over.part.now) over.blocked.now t l place

pub is_left : (over : Crossed) (t : Came) (first : ℕ) (turns : List Turn) (used places rest : List ℕ) (place : ℕ) → IsReasoned over.formula.now (among over.part.now) over.blocked.now t
    → IsOnTheWay over t first turns used places → IsTakenOut places place rest → (l : ℤ) × IsLeft over t place l
is_left over t first turns used places rest place h way out =
    let o = way.owed.each place out.there in
    (o.lit, record { literal = o.literal; stands = o.stands; forced = h.each o.lit place o.literal o.stands })

-- the clause that forced it is one of the formula
pub reason_bounds : (over : Crossed) (t : Came) (place : ℕ) (l : ℤ) → IsCrossed over → IsLeft over t place l
    → (0 < slice_index t.reasons place) × (slice_index t.reasons place ≤ length over.formula.now.clauses)
reason_bounds over t place l crossed x = bounded 0 (length over.formula.now.clauses) over.part.now (slice_index t.reasons place) crossed.part x.forced.forced.within

pub goes_back : (over : Crossed) (t : Came) (first : ℕ) (turns : List Turn) (used places rest places' : List ℕ) (place reason : ℕ) (read : ℤ) → IsCrossed over
    → IsReasoned over.formula.now (among over.part.now) over.blocked.now t → is_clause over.formula.now.vars (clause_at over.formula.now reason) ≡ true
    → IsOnTheWay over t first turns used places → IsTakenOut places place rest → read ≡ get_or t.lits place read → reason ≡ slice_index t.reasons place
    → HaveMet t (clause_over over reason) rest places'
    → IsStepBack over t first (turns ++ record { lit = complement read; with = reason } ∷ []) (used ++ reason ∷ []) places places'
goes_back over t first turns used places rest places' place reason read crossed h clause way out lit is met =
    let o = way.owed.each place out.there in
    let f = h.each o.lit place o.literal o.stands in
    let same : o.lit ≡ read = sym (f.lit read) ∙ sym lit in
    let r : IsReason over.formula.now (among over.part.now) over.blocked.now t place o.lit reason =
    subst (λ (p : ℕ). IsReason over.formula.now (among over.part.now) over.blocked.now t place o.lit p) (sym is) f.forced in
    let c = way.clause in
    let d = clause_over over reason in
    let u : Turn = record { lit = complement o.lit; with = reason } in
    let chain : chain_clause (premises_of over []) first (turns ++ u ∷ []) ≡ Some (without c (complement o.lit) ++ without d (complement (complement o.lit))) =
    chain_more (premises_of over []) first turns u c d way.chain (named_here over reason crossed r.within) o.holds
    (ap (contains d) (complement_twice o.lit) ∙ r.holds) in
    let turned : IsOnTheWay over t first (turns ++ u ∷ []) (used ++ reason ∷ []) places' = record {
      clause = without c (complement o.lit) ++ without d o.lit;
      chain = chain ∙ ap (λ (m : ℤ). Some (without c (complement o.lit) ++ without d m)) (complement_twice o.lit);
      names = ap (λ (ns : List ℕ). ns ++ reason ∷ []) way.names ∙ ap (λ (ns : List ℕ). first ∷ ns) (sym (map-append (λ (v : Turn). v.with) turns (u ∷ [])));
      filled = all_more (is_filled over) used reason way.filled
          (and_from (among over.part.now reason) (not (is_empty (clause_over over reason))) r.within (filled_with d o.lit r.holds));
      owed = owed_back over t c o.lit place reason places rest places' h clause r f.one_sign o.stands out met way.owed;
    } in
    let below : (p : ℕ) → among places' p ≡ true → p < place = λ p there. elim (or_true (among rest p) (meets t d p) (sym (met p) ∙ there)) [
      | inl e ↦ out.below p e
      | inr e ↦ earlier d o.lit p r f.one_sign (met_by t d p e)
    ] in
    let least = bound_least place places' below in
    let above = bound_above places place out.there in
    record {
      way = subst (λ (m : ℤ). IsOnTheWay over t first (turns ++ record { lit = complement m; with = reason } ∷ []) (used ++ reason ∷ []) places') same turned;
      less = omega (arith, least, above);
    }
  where
    earlier : (d : List ℤ) (l : ℤ) (p : ℕ) → IsReason over.formula.now (among over.part.now) over.blocked.now t place l reason → place_of t (complement l) ≡ None
        → (k : ℤ) × (contains (clause_over over reason) k ≡ true) × (place_of t (complement k) ≡ Some p) → p < place
    earlier d l p r one_sign w =
        let x = r.others w.0 w.1 (λ same. never (place_of t (complement l)) p one_sign (ap (λ (m : ℤ). place_of t (complement m)) (sym same) ∙ w.2)) in
        let before = x.before in
        let at = same_place (place_of t (complement w.0)) x.at p x.stands w.2 in
        omega (arith, before, at)

-- THE END

pub leads : (over : Crossed) (t : Came) (first : ℕ) (chain : Chain) (places : List ℕ) → places ≡ [] → IsOnTheWay over t first chain.turns.items chain.used places
    → LeadsToEmpty over first chain
leads over t first chain places none way = record {
  empty = way.chain ∙ ap (λ (c : List ℤ). Some c) (no_literal way.clause (λ k there. nowhere k (way.owed.literals k there)));
  names = way.names;
  filled = way.filled;
}
  where
    nowhere : (k : ℤ) → HasPlace over.formula.now.vars t places (complement k) → ⊥
    nowhere k x = let there : among [] x.at ≡ true = subst (λ (ps : List ℕ). among ps x.at ≡ true) none x.there in let f : ⊥ = cc in f

    no_literal : (c : List ℤ) → ((k : ℤ) → contains c k ≡ true → ⊥) → c ≡ []
    no_literal [] h = refl
    no_literal (l ∷ c) h = absurd (h l (or_left (int_eq l l) (contains c l) ((Decides-int_eq l l).1 refl)))

-- WITH WHAT IS READ

pub starts_at : (over : Crossed) (t : Came) (conflict : ℕ) (c : List ℤ) (turns : List Turn) (used none places : List ℕ) → IsCrossed over → c ≡ clause_at over.formula.now conflict
    → is_clause over.formula.now.vars c ≡ true → IsConflict over t conflict → turns ≡ [] → used ≡ conflict ∷ [] → none ≡ []
    → HaveMet t (crossed_out (is_in over.blocked.now) c) none places → IsOnTheWay over t conflict turns used places
starts_at over t conflict c turns used none places crossed at clause h no_turn is no_place met =
    subst (λ (ts : List Turn). IsOnTheWay over t conflict ts used places) (sym no_turn)
    (starts over t conflict used places crossed (subst (λ (x : List ℤ). is_clause over.formula.now.vars x ≡ true) at clause) h is
    (subst (λ (x : List ℤ). HaveMet t (crossed_out (is_in over.blocked.now) x) [] places) at
    (subst (λ (ps : List ℕ). HaveMet t (crossed_out (is_in over.blocked.now) c) ps places) no_place met)))

pub goes_back_at : (over : Crossed) (t : Came) (first : ℕ) (turns turns' : List Turn) (used used' places rest places' : List ℕ) (place reason with : ℕ) (read lit : ℤ) (c : List ℤ) → IsCrossed over
    → IsReasoned over.formula.now (among over.part.now) over.blocked.now t → c ≡ clause_at over.formula.now reason → is_clause over.formula.now.vars c ≡ true
    → IsOnTheWay over t first turns used places → IsTakenOut places place rest → read ≡ get_or t.lits place read → reason ≡ slice_index t.reasons place
    → lit ≡ complement read → with ≡ reason → turns' ≡ turns ++ record { lit = lit; with = with } ∷ [] → used' ≡ used ++ reason ∷ []
    → HaveMet t (crossed_out (is_in over.blocked.now) c) rest places'
    → IsStepBack over t first turns' used' places places'
goes_back_at over t first turns turns' used used' places rest places' place reason with read lit c crossed h at clause way out read_is is lit_is with_is more one met =
    let step = goes_back over t first turns used places rest places' place reason read crossed h (subst (λ (x : List ℤ). is_clause over.formula.now.vars x ≡ true) at clause) way out read_is is
    (subst (λ (x : List ℤ). HaveMet t (crossed_out (is_in over.blocked.now) x) rest places') at met) in
    let same : turns' ≡ turns ++ record { lit = complement read; with = reason } ∷ [] =
    more ∙ ap (λ (m : ℤ). turns ++ record { lit = m; with = with } ∷ []) lit_is ∙ ap (λ (k : ℕ). turns ++ record { lit = complement read; with = k } ∷ []) with_is in
    subst (λ (ts : List Turn). IsStepBack over t first ts used' places places') (sym same)
    (subst (λ (us : List ℕ). IsStepBack over t first (turns ++ record { lit = complement read; with = reason } ∷ []) us places places') (sym one) step)
