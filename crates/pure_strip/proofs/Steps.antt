-- What one touched clause changes.
use Rattle.std.proofs.Common.{◌≡◌, ◌≢◌, ℕ, zero, suc, take, ◌+◌, ◌*◌, ◌-◌, ◌<◌, ◌≤◌, ◌∙◌, Bool, true, false, not, ◌&&◌, ◌||◌, List, [], ◌∷◌, ◌++◌, length, get_or, refl, sym, ap, subst, arith, ℤ, IsTrue, inl, inr, get_or-set_same, get_or-set_other}
use Rattle.std.specs.Prelude.{slice_set, ◌==◌}
use Rattle.std.specs.Ordering.{int_eq}
use Rattle.std.specs.List.{list_all, list_any}
use Rattle.std.proofs.lemmas.Bool.{cases_Bool, eq-eqb, eqb-true}
use Rattle.std.proofs.lemmas.Bool.Decides.{Decides-int_eq}
use Rattle.std.proofs.lemmas.List.{length-set, take_more}
use Rattle.std.proofs.lemmas.List.Folds.{list_any-append}
use Rattle.lk_model.specs.Lists.{among}
use Rattle.lk_model.specs.Formulas.Literal.{contains, is_literal, is_clause, rank_of}
use Rattle.lk_model.specs.Formulas.Formula.{Cnf, clause_at}
use Rattle.lk_model.proofs.Booleans.{and_true, or_true}
use Rattle.lk_model.proofs.Ranks.{rank_apart, rank_small}
use Rattle.pure_strip.specs.Counted.{Counted, count_of, lowered, LowersAll, AreHeld}
use Rattle.pure_strip.specs.Live.{is_live, holder_count, AreCounted, GoDown}
use Rattle.pure_strip.proofs.Selections.{weight, count_by-less}
use Rattle.lk_model.proofs.Flags.{contains-push, or_no}
use Rattle.lk_model.proofs.Literals.{literal_at, new_at}

-- ONE CLAUSE LESS AT SOME LITERALS

-- at one literal more, which is a new one and is counted
Lowers-more : (earlier : List ℤ) (l : ℤ) (before now : Counted) → length before.counts ≡ 2 * before.vars + 2 → is_literal before.vars l ≡ true → contains earlier l ≡ false → 0 < count_of before.counts l
    → LowersAll earlier before now → LowersAll (earlier ++ l ∷ []) before (lowered now l)
Lowers-more earlier l before now width lit out held h =
    let within : rank_of l < length now.counts = omega (arith, h.width, width, rank_small before.vars l lit) in
    let kept : count_of now.counts l + weight (contains earlier l) ≡ count_of before.counts l = h.less l lit in
    let none : weight (contains earlier l) ≡ 0 = ap weight out in
    record {
      vars = h.vars;
      width = length-set now.counts (rank_of l) (count_of now.counts l - 1) ∙ h.width;
      less = λ k kit. elim (cases_Bool (int_eq k l)) [
        | inl e ↦
            let same : k ≡ l = (Decides-int_eq k l).0 e in
            let is : weight (contains (earlier ++ l ∷ []) k) ≡ 1 =
            ap weight (contains-push earlier l k ∙ ap (λ (m : ℤ). contains earlier m || (int_eq k l || false)) same ∙ ap (λ (b : Bool). b || (int_eq k l || false)) out ∙ ap (λ (b : Bool). b || false) e) in
            let now_is : count_of (lowered now l).counts k ≡ count_of now.counts l - 1 =
            ap (λ (m : ℤ). count_of (lowered now l).counts m) same ∙ get_or-set_same now.counts (rank_of l) (count_of now.counts l - 1) 0 within in
            let was : count_of before.counts k ≡ count_of before.counts l = ap (count_of before.counts) same in
            omega (arith, is, now_is, was, kept, none, held)
        | inr e ↦
            let other : rank_of k ≢ rank_of l = λ r. cc (e, (Decides-int_eq k l).1 (rank_apart k l r)) in
            let is : weight (contains (earlier ++ l ∷ []) k) ≡ weight (contains earlier k) =
            ap weight (contains-push earlier l k ∙ ap (λ (b : Bool). contains earlier k || (b || false)) e ∙ or_no (contains earlier k)) in
            let now_is : count_of (lowered now l).counts k ≡ count_of now.counts k = get_or-set_other now.counts (rank_of l) (rank_of k) (count_of now.counts l - 1) 0 other in
            let old : count_of now.counts k + weight (contains earlier k) ≡ count_of before.counts k = h.less k kit in
            omega (arith, is, now_is, old)
      ];
    }

-- a literal at a place of the clause stands in it
contains-at : (c : List ℤ) (i : ℕ) (d : ℤ) → i < length c → contains c (get_or c i d) ≡ true
contains-at [] i d lt = absurd (omega (arith, lt))
contains-at (x ∷ xs) zero d lt = ap (λ (b : Bool). b || list_any (int_eq x) xs) ((Decides-int_eq x x).1 refl)
contains-at (x ∷ xs) (suc i) d lt = or_either (int_eq (get_or xs i d) x) (contains xs (get_or xs i d)) (contains-at xs i d (omega (arith, lt)))
  where
    or_either : (a b : Bool) → b ≡ true → (a || b) ≡ true
    or_either true b e = refl
    or_either false b e = e

-- what holds of the literal at the next place
pub record NextLiteral (c : List ℤ) (i : ℕ) (before now : Counted) (l : ℤ) : Type 0 where
  pub literal : is_literal before.vars l ≡ true
  pub now_literal : is_literal now.vars l ≡ true
  pub new : contains (take i c) l ≡ false
  pub held : 0 < count_of before.counts l
  pub now_held : 0 < count_of now.counts l

pub next_literal : (c : List ℤ) (i : ℕ) (l : ℤ) (before now : Counted) → IsTrue (is_clause before.vars c) → AreHeld before c → i < length c → l ≡ get_or c i l → LowersAll (take i c) before now → NextLiteral c i before now l
next_literal c i l before now clause held lt at h =
    let parts = and_true _ _ clause in
    let lit : is_literal before.vars l ≡ true = ap (is_literal before.vars) at ∙ literal_at before.vars c i l parts.0 lt in
    let out : contains (take i c) l ≡ false = ap (contains (take i c)) at ∙ new_at c i l parts.1 lt in
    let some : 0 < count_of before.counts l = held l (ap (contains c) at ∙ contains-at c i l lt) in
    let kept : count_of now.counts l + weight (contains (take i c) l) ≡ count_of before.counts l = h.less l lit in
    let none : weight (contains (take i c) l) ≡ 0 = ap weight out in
    record {
      literal = lit;
      now_literal = subst (λ (n : ℕ). is_literal n l ≡ true) (sym h.vars) lit;
      new = out;
      held = some;
      now_held = omega (arith, kept, none, some);
    }

pub Lowers-next : (c : List ℤ) (i : ℕ) (l : ℤ) (before now after : Counted) → length before.counts ≡ 2 * before.vars + 2 → IsTrue (is_clause before.vars c) → AreHeld before c → i < length c → l ≡ get_or c i l
    → LowersAll (take i c) before now → after ≡ lowered now l → LowersAll (take (i + 1) c) before after
Lowers-next c i l before now after width clause held lt at h e =
    let next = next_literal c i l before now clause held lt at h in
    let more : take i c ++ l ∷ [] ≡ take (i + 1) c = ap (λ (k : ℤ). take i c ++ k ∷ []) at ∙ sym (take_more c i l lt) in
    subst (λ (s : Counted). LowersAll (take (i + 1) c) before s) (sym e)
    (subst (λ (ls : List ℤ). LowersAll ls before (lowered now l)) more (Lowers-more (take i c) l before now width next.literal next.new next.held h))

-- ONE FLAG LESS

-- a flag that is put down reads as down, and the others as before
pub live-down : (live : List Bool) (p : ℕ) → 0 < p → p ≤ length live → is_live (slice_set live (p - 1) false) p ≡ false
live-down live p low high = get_or-set_same live (p - 1) false false (omega (arith, low, high))

pub live-other : (live : List Bool) (p k : ℕ) → 0 < p → 0 < k → k ≢ p → is_live (slice_set live (p - 1) false) k ≡ is_live live k
live-other live p k low pos other = get_or-set_other live (p - 1) (k - 1) false false (λ e. other (omega (arith, low, pos, e)))

-- once a live clause is touched, one live clause less contains each of its literals
pub holders-less : (F : Cnf) (live : List Bool) (p : ℕ) (l : ℤ) → length live ≡ length F.clauses → 0 < p → p ≤ length F.clauses → is_live live p ≡ true
    → holder_count F live l ≡ holder_count F (slice_set live (p - 1) false) l + weight (contains (clause_at F p) l)
holders-less F live p l size low high up =
    let s : ℕ → Bool = λ k. is_live live k && contains (clause_at F k) l in
    let t : ℕ → Bool = λ k. is_live (slice_set live (p - 1) false) k && contains (clause_at F k) l in
    let down : t p ≡ false = ap (λ (b : Bool). b && contains (clause_at F p) l) (live-down live p low (omega (arith, size, high))) in
    let same : (k : ℕ) → 1 ≤ k → k ≢ p → s k ≡ t k = λ k pos other. ap (λ (b : Bool). b && contains (clause_at F k) l) (sym (live-other live p k low (omega (arith, pos)) other)) in
    count_by-less 1 (length F.clauses) p s t (omega (arith, low)) (omega (arith, high)) down same
    ∙ ap (λ (b : Bool). holder_count F (slice_set live (p - 1) false) l + weight (b && contains (clause_at F p) l)) up

-- a literal of a clause is one over its variables
literal_of : (n : ℕ) (c : List ℤ) (l : ℤ) → list_all (is_literal n) c ≡ true → contains c l ≡ true → is_literal n l ≡ true
literal_of n [] l h e = absurd (let f : ⊥ = cc in f)
literal_of n (x ∷ xs) l h e =
    let parts = and_true _ _ h in
    elim (or_true (int_eq l x) (contains xs l) e) [
      | inl here ↦ ap (is_literal n) ((Decides-int_eq l x).0 here) ∙ parts.0
      | inr later ↦ literal_of n xs l parts.1 later
    ]

-- the literals of a live clause are counted
pub Held-live : (F : Cnf) (live : List Bool) (c : Counted) (p : ℕ) (clause : List ℤ) → AreCounted F live c → 0 < p → p ≤ length F.clauses → is_live live p ≡ true → clause ≡ clause_at F p → IsTrue (is_clause F.vars clause) → AreHeld c clause
Held-live F live c p clause counted low high up is good l e =
    let lit = literal_of F.vars clause l (and_true _ _ good).0 e in
    let there : weight (contains (clause_at F p) l) ≡ 1 = ap weight (ap (λ (d : List ℤ). contains d l) (sym is) ∙ e) in
    omega (arith, counted.counted l lit, holders-less F live p l counted.size low high up, there)

-- the counts after a live clause was touched
pub Counted-touch : (F : Cnf) (live : List Bool) (before after : Counted) (p : ℕ) (clause : List ℤ) → AreCounted F live before → 0 < p → p ≤ length F.clauses → is_live live p ≡ true → clause ≡ clause_at F p
    → LowersAll clause before after → AreCounted F (slice_set live (p - 1) false) after
Counted-touch F live before after p clause counted low high up is lower = record {
  size = length-set live (p - 1) false ∙ counted.size;
  vars = lower.vars ∙ counted.vars;
  width = lower.width ∙ counted.width;
  counted = λ l lit.
      let lower_is : count_of after.counts l + weight (contains clause l) ≡ count_of before.counts l = lower.less l (subst (λ (n : ℕ). IsTrue (is_literal n l)) (sym counted.vars) lit) in
      let same : weight (contains clause l) ≡ weight (contains (clause_at F p) l) = ap (λ (d : List ℤ). weight (contains d l)) is in
      omega (arith, lower_is, same, counted.counted l lit, holders-less F live p l counted.size low high up);
}

-- SOME FLAGS LESS

-- one position more
pub Down-more : (ps : List ℕ) (i p m : ℕ) (before now after : List Bool) → i < length ps → p ≡ get_or ps i 0 → 0 < p → p ≤ m → length before ≡ m → GoDown (take i ps) m before now → after ≡ slice_set now (p - 1) false → GoDown (take (i + 1) ps) m before after
Down-more ps i p m before now after lt at low high size h e =
    let more : take (i + 1) ps ≡ take i ps ++ p ∷ [] = take_more ps i 0 lt ∙ ap (λ (k : ℕ). take i ps ++ k ∷ []) (sym at) in
    record {
      size = ap length e ∙ length-set now (p - 1) false ∙ h.size;
      down = λ k pos within.
          let among_is : among (take (i + 1) ps) k ≡ (among (take i ps) k || ((p == k) || false)) = ap (λ (ns : List ℕ). among ns k) more ∙ list_any-append (λ j. j == k) (take i ps) (p ∷ []) in
          elim (cases_Bool (p == k)) [
            | inl y ↦
                let same : p ≡ k = eqb-true p k y in
                let yes : among (take (i + 1) ps) k ≡ true = among_is ∙ ap (λ (b : Bool). among (take i ps) k || (b || false)) y ∙ or_yes (among (take i ps) k) in
                let down_is : is_live after k ≡ false = ap (λ (s : List Bool). is_live s k) e ∙ ap (is_live (slice_set now (p - 1) false)) (sym same) ∙ live-down now p low (omega (arith, h.size, size, high)) in
                down_is ∙ sym (ap (λ (b : Bool). is_live before k && not b) yes ∙ and_none (is_live before k))
            | inr y ↦
                let other : k ≢ p = λ q. cc (y, eq-eqb p k (sym q)) in
                let same : among (take (i + 1) ps) k ≡ among (take i ps) k = among_is ∙ ap (λ (b : Bool). among (take i ps) k || (b || false)) y ∙ or_no (among (take i ps) k) in
                ap (λ (s : List Bool). is_live s k) e ∙ live-other now p k low (omega (arith, pos)) other ∙ h.down k pos within ∙ sym (ap (λ (b : Bool). is_live before k && not b) same)
          ];
    }
  where
    or_yes : (b : Bool) → (b || (true || false)) ≡ true
    or_yes true = refl
    or_yes false = refl

    and_none : (b : Bool) → (b && false) ≡ false
    and_none true = refl
    and_none false = refl
