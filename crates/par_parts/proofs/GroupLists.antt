-- The positions of groups of parts, by numbers that are the same within a part.
use Rattle.std.proofs.Common.{◌≡◌, ◌≢◌, ◌∙◌, ℕ, ◌+◌, ◌-◌, ◌<◌, ◌≤◌, true, ◌==◌, nat_le, List, [], All, get_or, length, sym, ap, subst, arith, inl, inr, map}
use Rattle.std.proofs.lemmas.Bool.{eqb-true, eq-eqb, leb-true, le-leb, cases_lt, and_from}
use Rattle.std.proofs.lemmas.List.{get_or_default, get_or_past, get_or-map, length-map}
use Rattle.std.proofs.lemmas.List.FromFn.{length-map-range_with_len, get_or-map-range_with_len}
use Rattle.std.proofs.lemmas.List.Folds.{list_any_at}
use Rattle.std.proofs.lemmas.List.Elements.{recursion_from_All}
use Rattle.lk_model.specs.Lists.{among, rises_within, up_to}
use Rattle.lk_model.specs.Formulas.Literal.{mentions}
use Rattle.lk_model.specs.Formulas.Formula.{Cnf, clause_at, variable_occurs}
use Rattle.lk_model.specs.Formulas.Lean.{all_of, are_positions}
use Rattle.lk_model.proofs.Booleans.{and_true}
use Rattle.lk_model.proofs.Counting.{in_filter, from_filter, among-range}
use Rattle.lk_model.proofs.Founds.{filtered_rise, is_position}
use Rattle.lk_model.proofs.Rising.{rising_count}
use Rattle.lk_model.proofs.Variables.{position_with}
use Rattle.general_laws.proofs.PartLaws.{shares}
use Rattle.par_parts.specs.Numbering.{AreLabels, positions_with, gathered}
use Rattle.par_parts.specs.Groups.{AreGroupNumbers, IsDisjointCover, IsPartition}

module _ (F : Cnf) (numbers : List ℕ) (count : ℕ) (h : AreGroupNumbers F numbers count) where
  -- the list of a number rises
  rise : (k : ℕ) → are_positions F (positions_with numbers k) ≡ true
  rise k =
      let long = h.long in let e : length numbers - 1 ≡ length F.clauses = omega (arith, long) in
      subst (λ (n : ℕ). rises_within 0 n (positions_with numbers k) ≡ true) e (filtered_rise (length numbers - 1) (λ p. get_or numbers p 0 == k))

  -- the groups by their places
  at : (k : ℕ) → k < count → get_or (gathered numbers count) k [] ≡ positions_with numbers (k + 1)
  at k l = get_or-map-range_with_len (positions_with numbers) 1 count k (k + 1) [] l (omega arith)

  long : length (gathered numbers count) ≡ count
  long = length-map-range_with_len (positions_with numbers) 1 count

  -- a position stands in the list of its number
  listed : (p : ℕ) → all_of F p ≡ true → among (positions_with numbers (get_or numbers p 0)) p ≡ true
  listed p i =
      let b = and_true (nat_le 1 p) (nat_le p (length F.clauses)) i in
      let low = leb-true 1 p b.0 in let high = leb-true p (length F.clauses) b.1 in
      let e = h.long in
      in_filter (λ q. get_or numbers q 0 == get_or numbers p 0) (up_to (length numbers - 1)) p (eq-eqb (get_or numbers p 0) (get_or numbers p 0) (omega arith))
      (among-range 1 (length numbers - 1) p low (omega (arith, high, e)))

  -- where a variable occurs in a group, one of its positions mentions it
  pub record Mention (k v : ℕ) : Type 0 where
    pub place : ℕ
    pub position : all_of F place ≡ true
    pub number : get_or numbers place 0 ≡ k + 1
    pub mentions : mentions (clause_at F place) v ≡ true

  mention : (k v : ℕ) → variable_occurs F (get_or (gathered numbers count) k []) v ≡ true → Mention k v
  mention k v e = elim (cases_lt k count) [
    | inl l ↦
        (let w = position_with F (positions_with numbers (k + 1)) v (subst (λ (ps : List ℕ). variable_occurs F ps v ≡ true) (at k l) e) in
        let f = from_filter (λ q. get_or numbers q 0 == k + 1) (up_to (length numbers - 1)) w.0 w.1 in
        let a = h.long in let b : length numbers - 1 ≡ length F.clauses = omega (arith, a) in
        record {
          place = w.0;
          position = is_position F w.0 (subst (λ (n : ℕ). among (up_to n) w.0 ≡ true) b f.1);
          number = eqb-true (get_or numbers w.0 0) (k + 1) f.0;
          mentions = w.2;
        })
    | inr beyond ↦
        (let nothing = get_or_past (gathered numbers count) k [] (omega (arith, beyond, long)) in
        let none : variable_occurs F [] v ≡ true = subst (λ (ps : List ℕ). variable_occurs F ps v ≡ true) nothing e in
        absurd (let f : ⊥ = cc none in f))
  ]

  pub groups_cover : IsDisjointCover F (gathered numbers count)
  groups_cover = record {
    each = recursion_from_All (λ (ps : List ℕ). are_positions F ps ≡ true) (gathered numbers count) (λ k d l.
        let l' : k < count = omega (arith, l, long) in
        subst (λ (ps : List ℕ). are_positions F ps ≡ true) (sym (get_or_default (gathered numbers count) k d [] l ∙ at k l')) (rise (k + 1)));
    whole = λ p i.
        let k = get_or numbers p 0 - 1 in
        let a = h.least p i in
        let b = h.most p in
        let l : k < count = omega (arith, a, b) in
        let e : get_or numbers p 0 ≡ k + 1 = omega (arith, a) in
        let there = subst (λ (n : ℕ). among (positions_with numbers n) p ≡ true) e (listed p i) in
        list_any_at (λ group. among group p) (gathered numbers count) k [] (omega (arith, l, long))
        (subst (λ (ps : List ℕ). among ps p ≡ true) (sym (at k l)) there);
    apart = λ j k v a b.
        let x = mention j v a in
        let y = mention k v b in
        let e = h.same x.place y.place v x.position y.position x.mentions y.mentions in
        let m = x.number in let n = y.number in
        omega (arith, e, m, n);
  }

  -- a position stands in no group but that of its number
  in_own : (k p : ℕ) → among (get_or (gathered numbers count) k []) p ≡ true → get_or numbers p 0 ≡ k + 1
  in_own k p e = elim (cases_lt k count) [
    | inl l ↦
        eqb-true (get_or numbers p 0) (k + 1)
        (from_filter (λ q. get_or numbers q 0 == k + 1) (up_to (length numbers - 1)) p (subst (λ (ps : List ℕ). among ps p ≡ true) (at k l) e)).0
    | inr beyond ↦
        (let nothing = get_or_past (gathered numbers count) k [] (omega (arith, beyond, long)) in
        let none : among [] p ≡ true = subst (λ (ps : List ℕ). among ps p ≡ true) nothing e in
        absurd (let f : ⊥ = cc none in f))
  ]

  pub groups_partition : IsPartition F (gathered numbers count)
  groups_partition = record {
    cover = groups_cover;
    once = λ j k p a b. let m = in_own j p a in let n = in_own k p b in omega (arith, m, n);
  }

-- numbers from 1 to a count in the place of those of the parts
pub part_numbers : (F : Cnf) (labels roots numbers : List ℕ) (count : ℕ) → AreLabels F labels roots → length numbers ≡ length roots + 1
    → All (λ n. (1 ≤ n) × (n ≤ count)) numbers → AreGroupNumbers F (map (λ l. get_or numbers l 0) labels) count
part_numbers F labels roots numbers count a long within =
    let f : ℕ → ℕ = λ l. get_or numbers l 0 in
    let inside : (p : ℕ) → all_of F p ≡ true → p < length labels = λ p i.
    (let high : p ≤ length F.clauses = leb-true p (length F.clauses) (and_true (nat_le 1 p) (nat_le p (length F.clauses)) i).1 in let e = a.long in omega (arith, high, e)) in
    let mapped : (p : ℕ) → p < length labels → get_or (map f labels) p 0 ≡ f (get_or labels p 0) = λ p l. get_or-map f labels p 0 0 l in
    let bounds : (p : ℕ) → (1 ≤ get_or numbers (get_or labels p 0) 0) × (get_or numbers (get_or labels p 0) 0 ≤ count) = λ p.
    within (get_or labels p 0) 0 (let b = a.numbers p in omega (arith, b, long)) in
    record {
      long = length-map labels f ∙ a.long;
      least = λ p i. let b = (bounds p).0 in let e = mapped p (inside p i) in omega (arith, b, e);
      most = λ p. elim (cases_lt p (length labels)) [
        | inl l ↦ (let b = (bounds p).1 in let e = mapped p l in omega (arith, b, e))
        | inr past ↦ (let e = get_or_past (map f labels) p 0 (let n = length-map labels f in omega (arith, past, n)) in omega (arith, e))
      ];
      same = λ p q v i j m n.
          let e = a.closed p q (a.each p i) (shares (clause_at F p) (clause_at F q) v m n) in
          mapped p (inside p i) ∙ (ap f (sym e) ∙ sym (mapped q (inside q j)));
    }

-- none of them is 0
pub none_zero : (F : Cnf) (numbers : List ℕ) (count p : ℕ) → AreGroupNumbers F numbers count → 0 < p → p < length numbers → get_or numbers p 0 ≢ 0
none_zero F numbers count p h low lt e =
    let long = h.long in
    let some = h.least p (and_from (nat_le 1 p) _ (le-leb 1 p low) (le-leb p (length F.clauses) (omega (arith, lt, long)))) in
    omega (arith, some, e)

-- there are fewer parts than numbers
pub few_roots : (F : Cnf) (labels roots : List ℕ) → AreLabels F labels roots → length roots < length labels
few_roots F labels roots a =
    let n = rising_count 0 (length F.clauses) roots a.rising (omega arith) in
    let e = a.long in
    omega (arith, n, e)
