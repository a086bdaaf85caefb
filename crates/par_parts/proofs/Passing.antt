-- Variables and clauses that are passed.
use Rattle.std.proofs.Common.{◌≡◌, ◌≢◌, ◌∙◌, ℕ, suc, ◌+◌, ◌<◌, ◌≤◌, Bool, true, false, cond, ◌==◌, nat_lt, List, [], ◌∷◌, ◌++◌, get_or, set, length, refl, sym, ap, subst, arith, inl, inr, ℤ, length-set, length-append}
use Rattle.std.specs.List.{list_all}
use Rattle.std.proofs.lemmas.Bool.{eqb-true, eq-eqb, leb-true}
use Rattle.std.proofs.lemmas.List.{get_or_past, get_or_default}
use Rattle.lk_model.specs.Lists.{among}
use Rattle.lk_model.specs.Formulas.Literal.{variable, mentions}
use Rattle.lk_model.specs.Formulas.Formula.{Cnf, clause_at}
use Rattle.lk_model.proofs.Booleans.{and_true, or_true, or_left, or_right}
use Rattle.lk_model.proofs.Lists.{among_at, among_here}
use Rattle.par_parts.specs.Positions.{HavePositions, positions_of_variable}
use Rattle.par_parts.specs.Numbering.{Found, labelled, all_labelled, variable_passed, clause_passed, IsSearching, Keeps}
use Rattle.par_parts.proofs.OneMore.{written, any_push_left, any_push_here, any_push_cases, same_number}
use Rattle.par_parts.proofs.Labelling.{position_bounds, weight, rehand, IsAtVariable, label_list}

-- ONE VARIABLE

-- what holds when a variable was passed
pub record AfterVariable (F : Cnf) (s t : Found) (c v : ℕ) : Type 0 where
  pub searching : IsSearching F t (c ∷ t.pending)
  pub roots : t.roots ≡ s.roots
  pub owner : get_or t.owners v 0 ≢ 0
  pub owners : (w : ℕ) → get_or s.owners w 0 ≢ 0 → get_or t.owners w 0 ≢ 0
  pub keeps : Keeps s t
  pub weight : weight t ≡ weight s

-- a variable is passed when all that mention it have the number
own : (F : Cnf) (s : Found) (c v part : ℕ) (lists : List (List ℕ)) → HavePositions F lists → IsAtVariable F s c v part → v < length s.owners
    → AfterVariable F s (record (all_labelled part (positions_of_variable lists v) s) { owners = set (all_labelled part (positions_of_variable lists v) s).owners v part }) c v
own F s c v part lists lists_are a lt =
    let ps = positions_of_variable lists v in
    let t = all_labelled part ps s in
    let r = label_list F s c v part ps a (λ p i. lists_are.only v p i) in
    let h = r.searching in
    let some = a.some in
    let lt' : v < length t.owners = subst (λ (xs : List ℕ). v < length xs) (sym r.owners) lt in
    let at : (w : ℕ) → _ = λ w. written t.owners v part 0 w lt' in
    let whole : (p : ℕ) → mentions (clause_at F p) v ≡ true → get_or t.labels p 0 ≡ part = λ p m. r.each p (lists_are.told v p m) in
    record {
      searching = record {
        long = h.long;
        vars = length-set t.owners v part ∙ h.vars;
        zeroth = h.zeroth;
        numbers = h.numbers;
        linked = h.linked;
        least = h.least;
        owned = λ w p n m. elim (at w) [
          | inl x ↦ whole p (subst (λ (k : ℕ). mentions (clause_at F p) k ≡ true) x.here m) ∙ sym x.is
          | inr o ↦ h.owned w p (λ e. n (o.is ∙ e)) m ∙ sym o.is
        ];
        passed = λ w p n m. elim (at w) [
          | inl x ↦ inr (x.is ∙ sym (whole p (subst (λ (k : ℕ). mentions (clause_at F p) k ≡ true) x.here m)))
          | inr o ↦ elim (h.passed w p n m) [ inl there ↦ inl there | inr done ↦ inr (o.is ∙ done) ]
        ];
        now = h.now;
        before = h.before;
        started = h.started;
        rising = h.rising;
      };
      roots = r.roots;
      owner = elim (at v) [ inl x ↦ (λ e. let i = x.is in omega (arith, e, i, some)) | inr o ↦ absurd (o.away refl) ];
      owners = λ w n. elim (at w) [
        | inl x ↦ (λ e. let i = x.is in omega (arith, e, i, some))
        | inr o ↦ (λ e. n (sym (o.is ∙ ap (λ (xs : List ℕ). get_or xs w 0) r.owners) ∙ e))
      ];
      keeps = λ p n e. n (sym (r.stays p n) ∙ e);
      weight = r.weight;
    }

-- what is known before a variable of the clause in hand is passed
pub record IsAtClause (F : Cnf) (s : Found) (c part : ℕ) (lists : List (List ℕ)) : Type 0 where
  pub searching : IsSearching F s (c ∷ s.pending)
  pub number : part ≡ length s.roots
  pub some : 0 < part
  pub told : HavePositions F lists

-- a variable that was passed before changes nothing
pass_one : (F : Cnf) (s : Found) (c v part : ℕ) (lists : List (List ℕ)) → IsAtClause F s c part lists → mentions (clause_at F c) v ≡ true → v < F.vars + 1
    → AfterVariable F s (variable_passed part lists v s) c v
pass_one F s c v part lists a m lt = at_test (get_or s.owners v 0 == 0) refl
  where
    at_test : (b : Bool) → (get_or s.owners v 0 == 0) ≡ b
        → AfterVariable F s (cond b (record (all_labelled part (positions_of_variable lists v) s) { owners = set (all_labelled part (positions_of_variable lists v) s).owners v part }) s) c v
    at_test true e =
        own F s c v part lists a.told (record { searching = a.searching; number = a.number; some = a.some; on = m; free = eqb-true (get_or s.owners v 0) 0 e })
        (let o = a.searching.vars in omega (arith, lt, o))
    at_test false e =
        let n : get_or s.owners v 0 ≢ 0 = λ z. (let t : true ≡ false = sym (eq-eqb (get_or s.owners v 0) 0 z) ∙ e in let f : ⊥ = cc in f) in
        record { searching = a.searching; roots = refl; owner = n; owners = λ w k. k; keeps = λ p k. k; weight = refl }

-- ALL VARIABLES OF A CLAUSE

-- what holds when those of some literals were
pub record AfterLiterals (F : Cnf) (s t : Found) (c : ℕ) (lits : List ℤ) : Type 0 where
  pub searching : IsSearching F t (c ∷ t.pending)
  pub roots : t.roots ≡ s.roots
  pub each : (v : ℕ) → mentions lits v ≡ true → get_or t.owners v 0 ≢ 0
  pub owners : (w : ℕ) → get_or s.owners w 0 ≢ 0 → get_or t.owners w 0 ≢ 0
  pub keeps : Keeps s t
  pub weight : weight t ≡ weight s

-- all variables of some literals
pass_literals : (F : Cnf) (s : Found) (c part : ℕ) (lists : List (List ℕ)) (lits : List ℤ) → IsAtClause F s c part lists
    → ((v : ℕ) → mentions lits v ≡ true → mentions (clause_at F c) v ≡ true) → list_all (λ l. nat_lt (variable l) (F.vars + 1)) lits ≡ true
    → AfterLiterals F s (clause_passed part lists lits s) c lits
pass_literals F s c part lists [] a m small = record {
  searching = a.searching;
  roots = refl;
  each = λ v i. absurd (let f : ⊥ = cc in f);
  owners = λ w n. n;
  keeps = λ p n. n;
  weight = refl;
}
pass_literals F s c part lists (l ∷ lits) a m small =
    let w = and_true (nat_lt (variable l) (F.vars + 1)) _ small in
    let t = variable_passed part lists (variable l) s in
    let one = pass_one F s c (variable l) part lists a (m (variable l) (or_left (variable l == variable l) (mentions lits (variable l)) (same_number (variable l)))) (leb-true (suc (variable l)) (F.vars + 1) w.0) in
    let next : IsAtClause F t c part lists = record {
      searching = one.searching;
      number = a.number ∙ sym (ap (λ (xs : List ℕ). length xs) one.roots);
      some = a.some;
      told = a.told;
    } in
    let rest = pass_literals F t c part lists lits next (λ v i. m v (or_right (variable l == v) (mentions lits v) i)) w.1 in
    record {
      searching = rest.searching;
      roots = rest.roots ∙ one.roots;
      each = λ v i. elim (or_true (variable l == v) (mentions lits v) i) [
        | inl here ↦ rest.owners v (subst (λ (k : ℕ). get_or t.owners k 0 ≢ 0) (eqb-true (variable l) v here) one.owner)
        | inr later ↦ rest.each v later
      ];
      owners = λ v n. rest.owners v (one.owners v n);
      keeps = λ p n. rest.keeps p (one.keeps p n);
      weight = rest.weight ∙ one.weight;
    }

-- the clause in hand is done with
pub record AfterClause (F : Cnf) (s t : Found) : Type 0 where
  pub searching : IsSearching F t t.pending
  pub roots : t.roots ≡ s.roots
  pub keeps : Keeps s t
  pub weight : weight t ≡ weight s

-- all variables of the clause in hand
pub pass_whole : (F : Cnf) (s : Found) (c part : ℕ) (lists : List (List ℕ)) → IsAtClause F s c part lists
    → list_all (λ l. nat_lt (variable l) (F.vars + 1)) (clause_at F c) ≡ true
    → AfterClause F s (clause_passed part lists (clause_at F c) s)
pass_whole F s c part lists a small =
    let t = clause_passed part lists (clause_at F c) s in
    let r = pass_literals F s c part lists (clause_at F c) a (λ v m. m) small in
    let h = r.searching in
    record {
      searching = record {
        long = h.long;
        vars = h.vars;
        zeroth = h.zeroth;
        numbers = h.numbers;
        linked = h.linked;
        least = h.least;
        owned = h.owned;
        passed = λ v p n m. elim (h.passed v p n m) [
          | inl there ↦ elim (or_true (c == p) (among t.pending p) there) [
            | inl here ↦
                (let m' = subst (λ (k : ℕ). mentions (clause_at F k) v ≡ true) (sym (eqb-true c p here)) m in
                inr (sym (h.owned v p (r.each v m') m)))
            | inr later ↦ inl later
          ]
          | inr done ↦ inr done
        ];
        now = λ p i. h.now p (or_right (c == p) (among t.pending p) i);
        before = h.before;
        started = h.started;
        rising = h.rising;
      };
      roots = r.roots;
      keeps = r.keeps;
      weight = r.weight;
    }

-- WHAT WAITS

-- a position is taken in hand
pub taken : (F : Cnf) (s : Found) (c : ℕ) (rest : List ℕ) → s.pending ≡ rest ++ c ∷ [] → IsSearching F s s.pending → IsSearching F (record s { pending = rest }) (c ∷ rest)
taken F s c rest e h =
    rehand F s s.pending (c ∷ rest) rest h
    (λ p i. elim (any_push_cases (λ k. k == p) rest c (subst (λ (xs : List ℕ). among xs p ≡ true) e i)) [
      | inl there ↦ or_right (c == p) (among rest p) there
      | inr here ↦ or_left (c == p) (among rest p) here
    ])
    (λ p i. subst (λ (xs : List ℕ). among xs p ≡ true) (sym e) (elim (or_true (c == p) (among rest p) i) [
      | inl here ↦ any_push_here (λ k. k == p) rest c here
      | inr there ↦ any_push_left (λ k. k == p) rest c there
    ]))

-- one fewer waits
pub taken_weight : (s : Found) (c : ℕ) (rest : List ℕ) → s.pending ≡ rest ++ c ∷ [] → weight (record s { pending = rest }) + 1 ≡ weight s
taken_weight s c rest e = let l = ap (λ (xs : List ℕ). length xs) e ∙ length-append rest (c ∷ []) in omega (arith, l)

-- it is one of the formula
pub hand_bounds : (F : Cnf) (s : Found) (c : ℕ) (rest : List ℕ) → 0 < length s.roots → IsSearching F s (c ∷ rest) → (0 < c) × (c ≤ length F.clauses)
hand_bounds F s c rest some h =
    let e = h.now c (among_here c rest) in
    let long = h.long in
    let n : get_or s.labels c 0 ≢ 0 = λ z. omega (arith, z, e, some) in
    let low : c ≢ 0 = λ z. n (ap (λ (k : ℕ). get_or s.labels k 0) z ∙ h.zeroth) in
    let high : ¬ (length s.labels ≤ c) = λ past. n (get_or_past s.labels c 0 past) in
    (omega (arith, low), omega (arith, high, long))

-- LENGTHS

-- labelling keeps the lengths, and what is known of variables
pub all_lengths : (part : ℕ) (ps : List ℕ) (s : Found) → (length (all_labelled part ps s).labels ≡ length s.labels) × ((all_labelled part ps s).owners ≡ s.owners)
all_lengths part [] s = (refl, refl)
all_lengths part (p ∷ ps) s =
    let rest = all_lengths part ps (labelled part p s) in
    let one = at_test (get_or s.labels p 0 == 0) in
    (rest.0 ∙ one.0, rest.1 ∙ one.1)
  where
    at_test : (b : Bool) → (length (cond b (record s { labels = set s.labels p part; pending = s.pending ++ p ∷ [] }) s).labels ≡ length s.labels)
        × ((cond b (record s { labels = set s.labels p part; pending = s.pending ++ p ∷ [] }) s).owners ≡ s.owners)
    at_test true = (length-set s.labels p part, refl)
    at_test false = (refl, refl)

-- so does passing a variable
pub variable_lengths : (part : ℕ) (lists : List (List ℕ)) (v : ℕ) (s : Found)
    → (length (variable_passed part lists v s).labels ≡ length s.labels) × (length (variable_passed part lists v s).owners ≡ length s.owners)
variable_lengths part lists v s = at_test (get_or s.owners v 0 == 0)
  where
    at_test : (b : Bool) → (length (cond b (record (all_labelled part (positions_of_variable lists v) s) { owners = set (all_labelled part (positions_of_variable lists v) s).owners v part }) s).labels ≡ length s.labels)
        × (length (cond b (record (all_labelled part (positions_of_variable lists v) s) { owners = set (all_labelled part (positions_of_variable lists v) s).owners v part }) s).owners ≡ length s.owners)
    at_test true =
        let e = all_lengths part (positions_of_variable lists v) s in
        (e.0, length-set (all_labelled part (positions_of_variable lists v) s).owners v part ∙ ap (λ (xs : List ℕ). length xs) e.1)
    at_test false = (refl, refl)

-- the positions that mention a variable are below the length of the numbers
pub within_labels : (F : Cnf) (lists : List (List ℕ)) (labels : List ℕ) → HavePositions F lists → length labels ≡ length F.clauses + 1
    → (v k d : ℕ) → k < length (positions_of_variable lists v) → get_or (positions_of_variable lists v) k d < length labels
within_labels F lists labels h long v k d l =
    let ps = positions_of_variable lists v in
    let b = (position_bounds F (get_or ps k 0) v (h.only v (get_or ps k 0) (among_at ps k l))).1 in
    let same = get_or_default ps k d 0 l in
    omega (arith, b, long, same)
