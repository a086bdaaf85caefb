-- The positions of each number are the parts of the formula.
use Rattle.std.proofs.Common.{◌≡◌, ◌≢◌, ◌∙◌, ℕ, suc, ◌+◌, ◌-◌, ◌<◌, ◌≤◌, ◌↔◌, Bool, true, false, cond, ◌==◌, nat_le, List, [], ◌∷◌, ◌++◌, get_or, set, length, sym, ap, subst, arith, inl, inr, map, filter, length-set, replicate}
use Rattle.std.specs.List.{range_with_len}
use Rattle.std.proofs.lemmas.Bool.{eqb-true, eq-eqb, le-leb, leb-true, and_from, false_from_ne_true}
use Rattle.std.proofs.lemmas.List.{append-nil, length-map, ext_get_or, get_or-replicate, length-replicate, get_or_default}
use Rattle.std.proofs.lemmas.List.FromFn.{length-map-range_with_len, get_or-map-range_with_len}
use Rattle.std.proofs.lemmas.List.Folds.{list_any_at}
use Rattle.std.proofs.lemmas.List.Elements.{filter-append, recursion_from_All}
use Rattle.std.proofs.Math.ListN.{get_or-map}
use Rattle.lk_model.specs.Lists.{among, rises_within, up_to}
use Rattle.lk_model.specs.Formulas.Formula.{Cnf}
use Rattle.lk_model.specs.Formulas.Lean.{all_of}
use Rattle.lk_model.specs.Formulas.Parts.{Leads, InOnePart, IsPart, least_of, AreParts}
use Rattle.lk_model.proofs.Booleans.{and_true, or_true, or_left}
use Rattle.lk_model.proofs.Counting.{in_filter, from_filter, among-range, range_more}
use Rattle.lk_model.proofs.Founds.{filtered_rise}
use Rattle.lk_model.proofs.Rising.{rises, bounded, rising_bounds}
use Rattle.par_parts.specs.Numbering.{AreLabels, positions_with, gathered}
use Rattle.par_parts.proofs.OneMore.{written, same_number}

-- GATHERING

-- what the lists contain before a position
pub record AreGathered (labels : List ℕ) (count p : ℕ) (parts : List (List ℕ)) : Type 0 where
  pub long : length parts ≡ count
  pub each : (k : ℕ) → k < count → get_or parts k [] ≡ filter (λ q. get_or labels q 0 == k + 1) (range_with_len 1 (p - 1))

-- empty lists before the first position
pub gathered_none : (labels : List ℕ) (count : ℕ) → AreGathered labels count 1 (replicate count [])
gathered_none labels count = record {
  long = length-replicate count [];
  each = λ k l. get_or-replicate count k [] [] l;
}

-- a position goes to the list of its number
pub gathered_more : (labels : List ℕ) (count p j : ℕ) (parts : List (List ℕ)) → 0 < p → get_or labels p 0 ≡ j + 1 → j < count → AreGathered labels count p parts
    → AreGathered labels count (p + 1) (set parts j (get_or parts j [] ++ p ∷ []))
gathered_more labels count p j parts low is lt h =
    let long = h.long in
    let new = get_or parts j [] ++ p ∷ [] in
    record {
      long = length-set parts j new ∙ long;
      each = λ k l.
          let t : ℕ → Bool = λ q. get_or labels q 0 == k + 1 in
          let range : range_with_len 1 (p + 1 - 1) ≡ range_with_len 1 (p - 1) ++ p ∷ [] =
          (let e : p + 1 - 1 ≡ suc (p - 1) = omega (arith, low) in let i : 1 + (p - 1) ≡ p = omega (arith, low) in
          ap (λ (n : ℕ). range_with_len 1 n) e ∙ (range_more 1 (p - 1) ∙ ap (λ (n : ℕ). range_with_len 1 (p - 1) ++ n ∷ []) i)) in
          let split : filter t (range_with_len 1 (p + 1 - 1)) ≡ filter t (range_with_len 1 (p - 1)) ++ cond (t p) (p ∷ []) [] =
          ap (λ (ks : List ℕ). filter t ks) range ∙ filter-append t (range_with_len 1 (p - 1)) (p ∷ []) in
          elim (written parts j new [] k (omega (arith, lt, long))) [
            | inl w ↦
                (let here = w.here in
                let yes : t p ≡ true = eq-eqb (get_or labels p 0) (k + 1) (omega (arith, is, here)) in
                w.is ∙ (ap (λ (n : ℕ). get_or parts n [] ++ p ∷ []) (sym here) ∙ (ap (λ (ks : List ℕ). ks ++ p ∷ []) (h.each k l)
                ∙ sym (split ∙ ap (λ (b : Bool). filter t (range_with_len 1 (p - 1)) ++ cond b (p ∷ []) []) yes))))
            | inr o ↦
                (let away = o.away in
                let no : t p ≡ false = false_from_ne_true (t p) (λ y. away (let e = eqb-true (get_or labels p 0) (k + 1) y in omega (arith, e, is))) in
                o.is ∙ (h.each k l
                ∙ sym (split ∙ (ap (λ (b : Bool). filter t (range_with_len 1 (p - 1)) ++ cond b (p ∷ []) []) no ∙ append-nil (filter t (range_with_len 1 (p - 1)))))))
          ];
    }

-- and after the last one they are all
pub gathered_all : (labels : List ℕ) (count p : ℕ) (parts : List (List ℕ)) → p ≡ length labels → AreGathered labels count p parts → parts ≡ gathered labels count
gathered_all labels count p parts e h =
    let long = h.long in
    ext_get_or [] parts (gathered labels count) (long ∙ sym (length-map-range_with_len (positions_with labels) 1 count))
    (λ k l.
    let l' : k < count = omega (arith, l, long) in
    h.each k l' ∙ (ap (λ (n : ℕ). filter (λ q. get_or labels q 0 == k + 1) (range_with_len 1 (n - 1))) e
    ∙ sym (get_or-map-range_with_len (positions_with labels) 1 count k (k + 1) [] l' (omega arith))))

-- PARTS

-- A list that rises, contains a number and contains none below it begins with it.
begins_with : (low high root : ℕ) (ps : List ℕ) → rises_within low high ps ≡ true → among ps root ≡ true → ((p : ℕ) → among ps p ≡ true → root ≤ p) → least_of ps ≡ root
begins_with low high root [] r i below = absurd (let f : ⊥ = cc in f)
begins_with low high root (p ∷ ps) r i below =
    let a = below p (or_left (p == p) (among ps p) (same_number p)) in
    elim (or_true (p == root) (among ps root) i) [
      | inl here ↦ eqb-true p root here
      | inr later ↦ (let b = (bounded p high ps root (rises low high p ps r).more later).0 in absurd (omega (arith, a, b)))
    ]

-- a part, by its least position
part_from : (F : Cnf) (root : ℕ) (ps : List ℕ) → rises_within 0 (length F.clauses) ps ≡ true → among ps root ≡ true → least_of ps ≡ root
    → ((p : ℕ) → all_of F p ≡ true → (among ps p ≡ true) ↔ InOnePart F root p) → IsPart F ps
part_from F root [] r i e h = absurd (let f : ⊥ = cc in f)
part_from F root (p ∷ ps) r i e h = (r, subst (λ (q : ℕ). (k : ℕ) → all_of F k ≡ true → (among (p ∷ ps) k ≡ true) ↔ InOnePart F q k) (sym e) h)

module _ (F : Cnf) (labels roots : List ℕ) (a : AreLabels F labels roots) where
  -- a chain stays within the positions of one number
  same_label : (chain : List ℕ) (p q : ℕ) → get_or labels p 0 ≢ 0 → Leads F p chain q → get_or labels q 0 ≡ get_or labels p 0
  same_label [] p q n h = ap (λ (k : ℕ). get_or labels k 0) (sym h)
  same_label (r ∷ chain) p q n h =
      let e = a.closed p r n h.0 in
      same_label chain r q (λ z. n (sym e ∙ z)) h.1 ∙ e

  -- a position stands among all
  among_positions : (p : ℕ) → all_of F p ≡ true → among (up_to (length labels - 1)) p ≡ true
  among_positions p i =
      let w = and_true (nat_le 1 p) (nat_le p (length F.clauses)) i in
      let low = leb-true 1 p w.0 in let high = leb-true p (length F.clauses) w.1 in
      let long = a.long in
      among-range 1 (length labels - 1) p low (omega (arith, high, long))

  -- the positions of a number
  with_number : (k p : ℕ) → among (positions_with labels k) p ≡ true → get_or labels p 0 ≡ k
  with_number k p i = eqb-true (get_or labels p 0) k (from_filter (λ q. get_or labels q 0 == k) (up_to (length labels - 1)) p i).0

  -- a position with the number stands in its list
  has_number : (k p : ℕ) → all_of F p ≡ true → get_or labels p 0 ≡ k → among (positions_with labels k) p ≡ true
  has_number k p i e = in_filter (λ q. get_or labels q 0 == k) (up_to (length labels - 1)) p (eq-eqb (get_or labels p 0) k e) (among_positions p i)

  -- a least position is a position
  root_position : (k : ℕ) → k < length roots → all_of F (get_or roots k 0) ≡ true
  root_position k l =
      let b = rising_bounds 0 (length F.clauses) roots k a.rising l in
      and_from (nat_le 1 (get_or roots k 0)) _ (le-leb 1 (get_or roots k 0) b.0) (le-leb (get_or roots k 0) (length F.clauses) b.1)

  -- the list is ascending
  rise : (k : ℕ) → rises_within 0 (length F.clauses) (positions_with labels k) ≡ true
  rise k =
      let long = a.long in let e : length labels - 1 ≡ length F.clauses = omega (arith, long) in
      subst (λ (n : ℕ). rises_within 0 n (positions_with labels k) ≡ true) e (filtered_rise (length labels - 1) (λ p. get_or labels p 0 == k))

  -- the least position has its number
  root_among : (k : ℕ) → k < length roots → among (positions_with labels (k + 1)) (get_or roots k 0) ≡ true
  root_among k l = has_number (k + 1) (get_or roots k 0) (root_position k l) (a.started k l)

  -- the least position of a number
  root_of : (k p : ℕ) → get_or labels p 0 ≡ k + 1 → get_or roots (get_or labels p 0 - 1) 0 ≡ get_or roots k 0
  root_of k p e = ap (λ (n : ℕ). get_or roots n 0) (omega (arith, e))

  -- it is the first of its list
  least_is : (k : ℕ) → k < length roots → least_of (positions_with labels (k + 1)) ≡ get_or roots k 0
  least_is k l = begins_with 0 (length F.clauses) (get_or roots k 0) (positions_with labels (k + 1)) (rise (k + 1)) (root_among k l)
      (λ p i.
      let e = with_number (k + 1) p i in
      subst (λ (n : ℕ). n ≤ p) (root_of k p e) (a.least p (λ z. omega (arith, z, e))))

  -- the list is a part
  is_part : (k : ℕ) → k < length roots → IsPart F (positions_with labels (k + 1))
  is_part k l = part_from F (get_or roots k 0) (positions_with labels (k + 1)) (rise (k + 1)) (root_among k l) (least_is k l)
      (λ p pos. (
        λ i. (let e = with_number (k + 1) p i in subst (λ (n : ℕ). InOnePart F n p) (root_of k p e) (a.linked p (λ z. omega (arith, z, e)))),
        λ c.
            let s = a.started k l in
            has_number (k + 1) p pos (same_label c.0 (get_or roots k 0) p (λ z. omega (arith, z, s)) c.1 ∙ s),
      ))

  -- the lists by their places
  at : (k : ℕ) → k < length roots → get_or (gathered labels (length roots)) k [] ≡ positions_with labels (k + 1)
  at k l = get_or-map-range_with_len (positions_with labels) 1 (length roots) k (k + 1) [] l (omega arith)

  -- there are as many as numbers
  count : length (gathered labels (length roots)) ≡ length roots
  count = length-map-range_with_len (positions_with labels) 1 (length roots)

  -- they begin with the least positions
  least_positions : map least_of (gathered labels (length roots)) ≡ roots
  least_positions =
      let long = length-map (gathered labels (length roots)) least_of ∙ count in
      ext_get_or 0 (map least_of (gathered labels (length roots))) roots long
      (λ k l.
      let l' : k < length roots = omega (arith, l, long) in
      get_or-map least_of (gathered labels (length roots)) k [] ∙ (ap (λ (ps : List ℕ). least_of ps) (at k l') ∙ least_is k l'))

  -- all of it
  pub parts_are : AreParts F (gathered labels (length roots))
  parts_are = record {
    each = recursion_from_All (λ (ps : List ℕ). IsPart F ps) (gathered labels (length roots)) (λ k d l.
        let l' : k < length roots = omega (arith, l, count) in
        subst (λ (ps : List ℕ). IsPart F ps) (sym (get_or_default (gathered labels (length roots)) k d [] l ∙ at k l')) (is_part k l'));
    whole = λ p pos.
        let n = a.each p pos in
        let most = a.numbers p in
        let k = get_or labels p 0 - 1 in
        let l : k < length roots = omega (arith, n, most) in
        let l' : k < length (gathered labels (length roots)) = omega (arith, l, count) in
        list_any_at (λ part. among part p) (gathered labels (length roots)) k [] l'
        (subst (λ (ps : List ℕ). among ps p ≡ true) (sym (at k l)) (has_number (k + 1) p pos (omega (arith, n))));
    order = subst (λ (ps : List ℕ). rises_within 0 (length F.clauses) ps ≡ true) (sym least_positions) a.rising;
  }
