-- Positions that get the number of a part.
use Rattle.std.proofs.Common.{◌≡◌, ◌≢◌, ◌∙◌, ℕ, ◌+◌, ◌-◌, ◌<◌, ◌≤◌, Bool, true, false, cond, ◌==◌, nat_le, List, [], ◌∷◌, ◌++◌, get_or, set, length, refl, sym, ap, subst, arith, inl, inr, length-set, count_by, length-append}
use Rattle.std.proofs.lemmas.Bool.{eqb-true, eq-eqb, leb-true, false_from_ne_true}
use Rattle.std.proofs.lemmas.List.Sums.{sum_by-set}
use Rattle.lk_model.specs.Lists.{among}
use Rattle.lk_model.specs.Formulas.Literal.{mentions}
use Rattle.lk_model.specs.Formulas.Formula.{Cnf, clause_at}
use Rattle.lk_model.specs.Formulas.Parts.{InOnePart}
use Rattle.lk_model.proofs.Booleans.{and_true, or_true, or_left, or_right}
use Rattle.lk_model.proofs.Lists.{among_here}
use Rattle.general_laws.proofs.PartLaws.{shares, leads_more, is_position}
use Rattle.par_parts.specs.Numbering.{Found, labelled, all_labelled, IsSearching}
use Rattle.par_parts.proofs.OneMore.{written, any_push_left, any_push_here, any_push_cases, same_number}

-- a position whose clause has a variable is one of the formula
pub position_bounds : (F : Cnf) (p v : ℕ) → mentions (clause_at F p) v ≡ true → (0 < p) × (p ≤ length F.clauses)
position_bounds F p v m =
    let w = and_true (nat_le 1 p) (nat_le p (length F.clauses)) (is_position F p v m) in
    let low = leb-true 1 p w.0 in
    (omega (arith, low), leb-true p (length F.clauses) w.1)

-- THE INVARIANT

-- how many positions have no number, and how many wait
abbrev pub weight : Found → ℕ
weight s = count_by (λ n. n == 0) s.labels + length s.pending

-- the same with others in hand
pub rehand : (F : Cnf) (s : Found) (hand hand' rest : List ℕ) → IsSearching F s hand
    → ((p : ℕ) → among hand p ≡ true → among hand' p ≡ true) → ((p : ℕ) → among hand' p ≡ true → among hand p ≡ true) → IsSearching F (record s { pending = rest }) hand'
rehand F s hand hand' rest h there back = record {
  long = h.long;
  vars = h.vars;
  zeroth = h.zeroth;
  numbers = h.numbers;
  linked = h.linked;
  least = h.least;
  owned = h.owned;
  passed = λ v p n m. elim (h.passed v p n m) [ inl i ↦ inl (there p i) | inr o ↦ inr o ];
  now = λ p i. h.now p (back p i);
  before = h.before;
  started = h.started;
  rising = h.rising;
}

-- ONE POSITION

-- what holds when positions have got the number: those of a list, which all mention the variable
pub record AfterLabel (F : Cnf) (s t : Found) (c part : ℕ) (ps : List ℕ) : Type 0 where
  pub searching : IsSearching F t (c ∷ t.pending)
  pub roots : t.roots ≡ s.roots
  pub owners : t.owners ≡ s.owners
  pub each : (p : ℕ) → among ps p ≡ true → get_or t.labels p 0 ≡ part
  pub stays : (p : ℕ) → get_or s.labels p 0 ≢ 0 → get_or t.labels p 0 ≡ get_or s.labels p 0
  pub weight : weight t ≡ weight s

-- what is known before the positions of a variable get the number
pub record IsAtVariable (F : Cnf) (s : Found) (c v part : ℕ) : Type 0 where
  pub searching : IsSearching F s (c ∷ s.pending)
  pub number : part ≡ length s.roots
  pub some : 0 < part
  pub on : mentions (clause_at F c) v ≡ true
  pub free : get_or s.owners v 0 ≡ 0

-- 1 for true
abbrev bit : Bool → ℕ
bit b = cond b 1 0

-- a number that is written in the place of 0 leaves one 0 less
zeros_set : (xs : List ℕ) (k y : ℕ) → k < length xs → get_or xs k 0 ≡ 0 → y ≢ 0 → count_by (λ n. n == 0) (set xs k y) + 1 ≡ count_by (λ n. n == 0) xs
zeros_set xs k y lt z n =
    let e = sum_by-set (λ (m : ℕ). bit (m == 0)) xs k y 0 lt in
    let a : bit (get_or xs k 0 == 0) ≡ 1 = ap bit (eq-eqb (get_or xs k 0) 0 z) in
    let b : bit (y == 0) ≡ 0 = ap bit (false_from_ne_true (y == 0) (λ t. n (eqb-true y 0 t))) in
    omega (arith, e, a, b)

-- a position without a number gets it, and waits
label_new : (F : Cnf) (s : Found) (c v part p : ℕ) → IsAtVariable F s c v part → mentions (clause_at F p) v ≡ true → get_or s.labels p 0 ≡ 0
    → AfterLabel F s (record s { labels = set s.labels p part; pending = s.pending ++ p ∷ [] }) c part (p ∷ [])
label_new F s c v part p a m z =
    let h = a.searching in
    let b = position_bounds F p v m in
    let ps = a.number in let some = a.some in let long = h.long in
    let lt : p < length s.labels = omega (arith, b.1, long) in
    let at : (q : ℕ) → _ = λ q. written s.labels p part 0 q lt in
    let mine : get_or (set s.labels p part) p 0 ≡ part = elim (at p) [ inl w ↦ w.is | inr o ↦ absurd (o.away refl) ] in
    let other : (q : ℕ) → get_or s.labels q 0 ≢ 0 → get_or (set s.labels p part) q 0 ≡ get_or s.labels q 0 = λ q n. elim (at q) [
      | inl w ↦ absurd (n (subst (λ (k : ℕ). get_or s.labels k 0 ≡ 0) (sym w.here) z))
      | inr o ↦ o.is
    ] in
    let chain : InOnePart F (get_or s.roots (part - 1) 0) p =
    let here = h.now c (among_here c s.pending) in
    let n : get_or s.labels c 0 ≢ 0 = λ e. omega (arith, e, here, ps, some) in
    let l = h.linked c n in
    let l' : InOnePart F (get_or s.roots (part - 1) 0) c = subst (λ (k : ℕ). InOnePart F (get_or s.roots (k - 1) 0) c) (here ∙ sym ps) l in
    (l'.0 ++ p ∷ [], leads_more F (get_or s.roots (part - 1) 0) c p l'.0 l'.1 (shares (clause_at F c) (clause_at F p) v a.on m)) in
    let low : get_or s.roots (part - 1) 0 ≤ p =
    let no : ¬ (p < get_or s.roots (length s.roots - 1) 0) = λ less. h.before p b.0 less z in
    let e : get_or s.roots (part - 1) 0 ≡ get_or s.roots (length s.roots - 1) 0 = ap (λ (k : ℕ). get_or s.roots (k - 1) 0) ps in
    omega (arith, no, e) in
    record {
      searching = record {
        long = length-set s.labels p part ∙ long;
        vars = h.vars;
        zeroth = elim (at 0) [ inl w ↦ (let e = w.here in let q = b.0 in absurd (omega (arith, e, q))) | inr o ↦ o.is ∙ h.zeroth ];
        numbers = λ q. elim (at q) [
          | inl w ↦ (let e = w.is in omega (arith, e, ps))
          | inr o ↦ (let e = o.is in let n = h.numbers q in omega (arith, e, n))
        ];
        linked = λ q n. elim (at q) [
          | inl w ↦ subst (λ (k : ℕ). InOnePart F (get_or s.roots (k - 1) 0) q) (sym w.is) (subst (λ (k : ℕ). InOnePart F (get_or s.roots (part - 1) 0) k) (sym w.here) chain)
          | inr o ↦ subst (λ (k : ℕ). InOnePart F (get_or s.roots (k - 1) 0) q) (sym o.is) (h.linked q (λ e. n (o.is ∙ e)))
        ];
        least = λ q n. elim (at q) [
          | inl w ↦ subst (λ (k : ℕ). get_or s.roots (k - 1) 0 ≤ q) (sym w.is) (subst (λ (k : ℕ). get_or s.roots (part - 1) 0 ≤ k) (sym w.here) low)
          | inr o ↦ subst (λ (k : ℕ). get_or s.roots (k - 1) 0 ≤ q) (sym o.is) (h.least q (λ e. n (o.is ∙ e)))
        ];
        owned = λ w q n i. let e = h.owned w q n i in other q (λ no. n (sym e ∙ no)) ∙ e;
        passed = λ w q n i. elim (at q) [
          | inl x ↦ inl (or_right (c == q) _ (subst (λ (k : ℕ). among (s.pending ++ p ∷ []) k ≡ true) (sym x.here) (any_push_here (λ k. k == p) s.pending p (same_number p))))
          | inr o ↦ elim (h.passed w q (λ e. n (o.is ∙ e)) i) [
            | inl there ↦ inl (any_push_left (λ k. k == q) (c ∷ s.pending) p there)
            | inr done ↦ inr (done ∙ sym o.is)
          ]
        ];
        now = λ q i. elim (any_push_cases (λ k. k == q) (c ∷ s.pending) p i) [
          | inl there ↦ (let e = h.now q there in other q (λ no. omega (arith, no, e, ps, some)) ∙ e)
          | inr here ↦ subst (λ (k : ℕ). get_or (set s.labels p part) k 0 ≡ length s.roots) (eqb-true p q here) (mine ∙ ps)
        ];
        before = λ q low' less. let n = h.before q low' less in λ e. n (sym (other q n) ∙ e);
        started = λ k l. let e = h.started k l in other (get_or s.roots k 0) (λ no. omega (arith, no, e)) ∙ e;
        rising = h.rising;
      };
      roots = refl;
      owners = refl;
      each = λ q i. elim (or_true (p == q) false i) [
        | inl here ↦ subst (λ (k : ℕ). get_or (set s.labels p part) k 0 ≡ part) (eqb-true p q here) mine
        | inr never ↦ absurd (let f : ⊥ = cc in f)
      ];
      stays = other;
      weight =
          let e = zeros_set s.labels p part lt z (λ no. omega (arith, no, some)) in
          let l = length-append s.pending (p ∷ []) in
          omega (arith, e, l);
    }

-- a position with a number has this one already
label_old : (F : Cnf) (s : Found) (c v part p : ℕ) → IsAtVariable F s c v part → mentions (clause_at F p) v ≡ true → get_or s.labels p 0 ≢ 0
    → AfterLabel F s s c part (p ∷ [])
label_old F s c v part p a m n = record {
  searching = a.searching;
  roots = refl;
  owners = refl;
  each = λ q i. elim (or_true (p == q) false i) [
    | inl here ↦ subst (λ (k : ℕ). get_or s.labels k 0 ≡ part) (eqb-true p q here) (elim (a.searching.passed v p n m) [
      | inl there ↦ a.searching.now p there ∙ sym a.number
      | inr done ↦ absurd (n (sym done ∙ a.free))
    ])
    | inr never ↦ absurd (let f : ⊥ = cc in f)
  ];
  stays = λ q k. refl;
  weight = refl;
}

-- so each position that mentions the variable has it then
label_more : (F : Cnf) (s : Found) (c v part p : ℕ) → IsAtVariable F s c v part → mentions (clause_at F p) v ≡ true → AfterLabel F s (labelled part p s) c part (p ∷ [])
label_more F s c v part p a m = at_test (get_or s.labels p 0 == 0) refl
  where
    at_test : (b : Bool) → (get_or s.labels p 0 == 0) ≡ b
        → AfterLabel F s (cond b (record s { labels = set s.labels p part; pending = s.pending ++ p ∷ [] }) s) c part (p ∷ [])
    at_test true e = label_new F s c v part p a m (eqb-true (get_or s.labels p 0) 0 e)
    at_test false e = label_old F s c v part p a m (λ z. (let t : true ≡ false = sym (eq-eqb (get_or s.labels p 0) 0 z) ∙ e in let f : ⊥ = cc in f))

-- ALL POSITIONS OF A VARIABLE

-- and all of a list of them
pub label_list : (F : Cnf) (s : Found) (c v part : ℕ) (ps : List ℕ) → IsAtVariable F s c v part → ((p : ℕ) → among ps p ≡ true → mentions (clause_at F p) v ≡ true)
    → AfterLabel F s (all_labelled part ps s) c part ps
label_list F s c v part [] a m = record {
  searching = a.searching;
  roots = refl;
  owners = refl;
  each = λ p i. absurd (let f : ⊥ = cc in f);
  stays = λ p n. refl;
  weight = refl;
}
label_list F s c v part (p ∷ ps) a m =
    let t = labelled part p s in
    let one = label_more F s c v part p a (m p (among_here p ps)) in
    let next : IsAtVariable F t c v part = record {
      searching = one.searching;
      number = a.number ∙ sym (ap (λ (xs : List ℕ). length xs) one.roots);
      some = a.some;
      on = a.on;
      free = ap (λ (xs : List ℕ). get_or xs v 0) one.owners ∙ a.free;
    } in
    let rest = label_list F t c v part ps next (λ q i. m q (or_right (p == q) (among ps q) i)) in
    let some = a.some in
    record {
      searching = rest.searching;
      roots = rest.roots ∙ one.roots;
      owners = rest.owners ∙ one.owners;
      each = λ q i. elim (or_true (p == q) (among ps q) i) [
        | inl here ↦
            (let e = one.each q (or_left (p == q) false here) in
            rest.stays q (λ no. omega (arith, no, e, some)) ∙ e)
        | inr later ↦ rest.each q later
      ];
      stays = λ q n. let e = one.stays q n in rest.stays q (λ no. n (sym e ∙ no)) ∙ e;
      weight = rest.weight ∙ one.weight;
    }
