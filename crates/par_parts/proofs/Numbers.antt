-- Parts that begin, and the numbers that all positions have at the end.
use Rattle.std.proofs.Common.{◌≡◌, ◌≢◌, ◌∙◌, ℕ, suc, ◌+◌, ◌-◌, ◌<◌, ◌≤◌, true, false, ◌&&◌, ◌==◌, nat_lt, nat_le, List, [], ◌∷◌, ◌++◌, get_or, set, length, refl, sym, ap, subst, arith, inl, inr, length-set, length-append}
use Rattle.std.proofs.lemmas.Bool.{eqb-true, le-leb, leb-true, and_from, cases_lt, lt-ltb}
use Rattle.std.proofs.lemmas.List.{get_or_append_left, get_or_push}
use Rattle.lk_model.specs.Lists.{among, rises_within}
use Rattle.lk_model.specs.Formulas.Formula.{Cnf, clause_at}
use Rattle.lk_model.specs.Formulas.Parts.{InOnePart}
use Rattle.lk_model.proofs.Booleans.{and_true, or_true}
use Rattle.lk_model.proofs.Lists.{among_here}
use Rattle.general_laws.proofs.PartLaws.{shared}
use Rattle.par_parts.specs.Numbering.{Found, part_begun, AreLabels, IsSearching, IsSpread, IsUpTo}
use Rattle.par_parts.proofs.OneMore.{written}

-- A NEW PART

-- the last position of a list that rises
pub rises_push : (low high p : ℕ) (ps : List ℕ) → rises_within low high ps ≡ true → low < p → p ≤ high → ((k : ℕ) → k < length ps → get_or ps k 0 < p)
    → rises_within low high (ps ++ p ∷ []) ≡ true
rises_push low high p [] r a b less = and_from (nat_lt low p && nat_le p high) true (and_from (nat_lt low p) (nat_le p high) (lt-ltb low p a) (le-leb p high b)) refl
rises_push low high p (q ∷ ps) r a b less =
    let w = and_true (nat_lt low q && nat_le q high) (rises_within q high ps) r in
    and_from (nat_lt low q && nat_le q high) _ w.0
    (rises_push q high p ps w.1 (less 0 (omega arith)) b (λ k l. less (suc k) (omega (arith, l))))

-- a new number is written in the place of 0
pub begins : (F : Cnf) (s : Found) (p : ℕ) → IsUpTo F s p → 0 < p → p ≤ length F.clauses → get_or s.labels p 0 ≡ 0 → IsSearching F (part_begun p s) (p ∷ [])
begins F s p u low high z =
    let h = u.searching in
    let long = h.long in
    let n = length s.roots in
    let roots' = s.roots ++ p ∷ [] in
    let lt : p < length s.labels = omega (arith, high, long) in
    let at : (q : ℕ) → _ = λ q. written s.labels p (n + 1) 0 q lt in
    let len : length roots' ≡ n + 1 = length-append s.roots (p ∷ []) in
    let last : get_or roots' n 0 ≡ p = get_or_push s.roots p 0 n refl in
    let mine : get_or (set s.labels p (n + 1)) p 0 ≡ n + 1 = elim (at p) [ inl w ↦ w.is | inr o ↦ absurd (o.away refl) ] in
    let other : (q : ℕ) → get_or s.labels q 0 ≢ 0 → get_or (set s.labels p (n + 1)) q 0 ≡ get_or s.labels q 0 = λ q m. elim (at q) [
      | inl w ↦ absurd (m (subst (λ (k : ℕ). get_or s.labels k 0 ≡ 0) (sym w.here) z))
      | inr o ↦ o.is
    ] in
    let early : (q : ℕ) → get_or s.labels q 0 ≢ 0 → get_or roots' (get_or s.labels q 0 - 1) 0 ≡ get_or s.roots (get_or s.labels q 0 - 1) 0 = λ q m.
    let b = h.numbers q in get_or_append_left s.roots (p ∷ []) 0 (get_or s.labels q 0 - 1) (omega (arith, m, b)) in
    let at_end : (n + 1) - 1 ≡ n = omega arith in
    let root : get_or roots' ((n + 1) - 1) 0 ≡ p = ap (λ (k : ℕ). get_or roots' k 0) at_end ∙ last in
    record {
      long = length-set s.labels p (n + 1) ∙ long;
      vars = h.vars;
      zeroth = elim (at 0) [ inl w ↦ (let e = w.here in absurd (omega (arith, e, low))) | inr o ↦ o.is ∙ h.zeroth ];
      numbers = λ q. elim (at q) [
        | inl w ↦ (let e = w.is in omega (arith, e, len))
        | inr o ↦ (let e = o.is in let b = h.numbers q in omega (arith, e, b, len))
      ];
      linked = λ q m. elim (at q) [
        | inl w ↦ subst (λ (k : ℕ). InOnePart F (get_or roots' (k - 1) 0) q) (sym w.is) ([], root ∙ sym w.here)
        | inr o ↦
            (let m' : get_or s.labels q 0 ≢ 0 = λ e. m (o.is ∙ e) in
            subst (λ (k : ℕ). InOnePart F (get_or roots' (k - 1) 0) q) (sym o.is) (subst (λ (k : ℕ). InOnePart F k q) (sym (early q m')) (h.linked q m')))
      ];
      least = λ q m. elim (at q) [
        | inl w ↦ subst (λ (k : ℕ). get_or roots' (k - 1) 0 ≤ q) (sym w.is) (let e = w.here in omega (arith, e, root))
        | inr o ↦
            (let m' : get_or s.labels q 0 ≢ 0 = λ e. m (o.is ∙ e) in
            subst (λ (k : ℕ). get_or roots' (k - 1) 0 ≤ q) (sym o.is) (subst (λ (k : ℕ). k ≤ q) (sym (early q m')) (h.least q m')))
      ];
      owned = λ v q m i. let e = h.owned v q m i in other q (λ no. m (sym e ∙ no)) ∙ e;
      passed = λ v q m i. elim (at q) [
        | inl w ↦ inl (subst (λ (k : ℕ). among (p ∷ []) k ≡ true) (sym w.here) (among_here p []))
        | inr o ↦ elim (h.passed v q (λ e. m (o.is ∙ e)) i) [
          | inl there ↦ absurd (let f : ⊥ = cc in f)
          | inr done ↦ inr (done ∙ sym o.is)
        ]
      ];
      now = λ q i. elim (or_true (p == q) false i) [
        | inl here ↦ subst (λ (k : ℕ). get_or (set s.labels p (n + 1)) k 0 ≡ length roots') (eqb-true p q here) (mine ∙ sym len)
        | inr never ↦ absurd (let f : ⊥ = cc in f)
      ];
      before = λ q low' less.
          let e : get_or roots' (length roots' - 1) 0 ≡ p = ap (λ (k : ℕ). get_or roots' (k - 1) 0) len ∙ root in
          let m = u.each q low' (omega (arith, less, e)) in
          λ no. m (sym (other q m) ∙ no);
      started = λ k l. elim (cases_lt k n) [
        | inl early' ↦
            (let a = get_or_append_left s.roots (p ∷ []) 0 k early' in
            let e = h.started k early' in
            subst (λ (j : ℕ). get_or (set s.labels p (n + 1)) j 0 ≡ k + 1) (sym a) (other (get_or s.roots k 0) (λ no. omega (arith, no, e)) ∙ e))
        | inr late ↦
            (let e : k ≡ n = omega (arith, late, l, len) in
            subst (λ (j : ℕ). get_or (set s.labels p (n + 1)) (get_or roots' j 0) 0 ≡ j + 1) (sym e)
            (subst (λ (j : ℕ). get_or (set s.labels p (n + 1)) j 0 ≡ n + 1) (sym last) mine))
      ];
      rising = rises_push 0 (length F.clauses) p s.roots h.rising low high u.below;
    }

-- a position whose part was found
pub goes_on_new : (F : Cnf) (s t : Found) (p : ℕ) → IsUpTo F s p → 0 < p → p ≤ length F.clauses → get_or s.labels p 0 ≡ 0 → IsSpread F (part_begun p s) t → IsUpTo F t (p + 1)
goes_on_new F s t p u low high z r =
    let b = begins F s p u low high z in
    let h = u.searching in
    let long = h.long in
    let lt : p < length s.labels = omega (arith, high, long) in
    let n = length s.roots in
    let len : length (s.roots ++ p ∷ []) ≡ n + 1 = length-append s.roots (p ∷ []) in
    record {
      searching = r.searching;
      none = r.none;
      each = λ q low' less. r.keeps q (elim (written s.labels p (n + 1) 0 q lt) [
        | inl w ↦ (λ e. let i = w.is in omega (arith, e, i))
        | inr o ↦
            (let a = o.away in
            let m = u.each q low' (omega (arith, less, a)) in
            λ e. m (sym o.is ∙ e))
      ]);
      below = λ k l.
          let e = r.roots in
          let l' : k < n + 1 = subst (λ (j : ℕ). k < j) (ap (λ (xs : List ℕ). length xs) e ∙ len) l in
          subst (λ (xs : List ℕ). get_or xs k 0 < p + 1) (sym e) (elim (cases_lt k n) [
            | inl early ↦ (let a = get_or_append_left s.roots (p ∷ []) 0 k early in let x = u.below k early in omega (arith, a, x))
            | inr late ↦
                (let i : k ≡ n = omega (arith, late, l') in
                let last : get_or (s.roots ++ p ∷ []) n 0 ≡ p = get_or_push s.roots p 0 n refl in
                subst (λ (j : ℕ). get_or (s.roots ++ p ∷ []) j 0 < p + 1) (sym i) (omega (arith, last)))
          ]);
    }

-- THE NUMBERS OF PARTS

-- after the last position nothing is left open
pub labels_are : (F : Cnf) (s : Found) (p : ℕ) → length F.clauses < p → IsUpTo F s p → AreLabels F s.labels s.roots
labels_are F s p past u =
    let h = u.searching in
    record {
      long = h.long;
      first = h.zeroth;
      each = λ q i.
          let w = and_true (nat_le 1 q) (nat_le q (length F.clauses)) i in
          let low = leb-true 1 q w.0 in let high = leb-true q (length F.clauses) w.1 in
          u.each q (omega (arith, low)) (omega (arith, high, past));
      numbers = h.numbers;
      linked = h.linked;
      least = h.least;
      closed = λ q r n e.
          let w = shared (clause_at F q) (clause_at F r) e in
          elim (h.passed w.0 q n w.1) [
            | inl there ↦ absurd (let f : ⊥ = cc in f)
            | inr done ↦ h.owned w.0 r (λ z. n (sym done ∙ z)) w.2 ∙ done
          ];
      started = h.started;
      rising = h.rising;
    }
