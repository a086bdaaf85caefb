-- The document of what the pure reducer finds is in form and passes the checks, and so it reduces the formula.
use Rattle.std.proofs.Common.{◌≡◌, ℕ, suc, ◌+◌, ◌<◌, ◌≤◌, Bool, true, false, cond, List, [], ◌∷◌, length, get_or, map, refl, sym, ap, subst, arith, ℤ, pos, Some, None, inl, inr}
use Rattle.std.specs.Prelude.{◌==◌, count_by, neg_ℤ, nat_le}
use Rattle.std.specs.List.{list_all}
use Rattle.std.specs.List.Sorted.{IsNonDecreasingBy}
use Rattle.std.specs.Ordering.{int_eq}
use Rattle.std.proofs.lemmas.Bool.{cases_Bool, lt-ltb, le-leb, eq-eqb, eqb-true, and_from}
use Rattle.std.proofs.lemmas.List.Sums.{sum_by-cons, AllPass-from_list_all, list_all-from_AllPass}
use Rattle.std.proofs.lemmas.List.Sorted.{All-permutation, list_any-IsPermutation, sum_by-IsPermutation}
use Rattle.lk_model.specs.declared.class.Class.TheVariants as class
use Rattle.lk_model.specs.declared.document.Body.TheVariants.{Pure}
use Rattle.lk_model.specs.declared.document.Pair.{Pair}
use Rattle.lk_model.specs.declared.result.PureResult.{PureResult}
use Rattle.lk_model.specs.Limits.{max_vars, max_clauses}
use Rattle.lk_model.specs.Lists.{is_between, rises_within}
use Rattle.lk_model.specs.Formulas.Literal.{variable, contains, mentions, is_literal}
use Rattle.lk_model.specs.Formulas.Formula.{Cnf, is_formula, variables_to, variable_occurs, variables_at, IsWithinLimits}
use Rattle.lk_model.specs.Formulas.Crossed.{no_variable}
use Rattle.lk_model.specs.Formulas.Assignment.{Assignment, assignment_of}
use Rattle.lk_model.specs.Formulas.Lean.{are_positions}
use Rattle.lk_model.specs.Formulas.PureRun.{IsPureRun, least_pure, least_pairs}
use Rattle.lk_model.specs.Documents.Form.{is_body, is_pair, is_done_in_form}
use Rattle.lk_model.specs.Checks.Checks.{Accepts, first_failure_under}
use Rattle.lk_model.specs.Formulas.Protected.{ReducesBy}
use Rattle.lk_model.proofs.Booleans.{and_true, or_false}
use Rattle.lk_model.proofs.Ranks.{literal_bounds}
use Rattle.lk_model.proofs.Counting.{from_filter}
use Rattle.lk_model.proofs.Founds.{all_pass}
use Rattle.kernel_laws.proofs.Occurrences.{kept_between}
use Rattle.kernel_laws.proofs.KeptLines.{lines_form}
use Rattle.kernel_laws.proofs.FirstChecks.{same_formula, same_lines, none_protected, autarky_passes, removal_passes}
use Rattle.kernel_laws.proofs.ApartLiterals.{AreApart, distinct}
use Rattle.kernel_laws.proofs.Reductions.{kernel_plain, class_satisfies}
use Rattle.pure_laws.specs.PureLaw.{IsOrderOf}
use Rattle.pure_laws.specs.PureResults.{IsPureResult, IsSetLine, pure_document, PureResultLaw}
use Rattle.pure_laws.proofs.Runs.{run_apart, run_literals, run_earlier, run_leaves}
use Rattle.pure_laws.proofs.Orders.{order_passes}
use Rattle.pure_laws.proofs.Pairs.{pair_at, is_held, pairs_rise, pairs_pass}
use Rattle.pure_laws.proofs.PureLaws.{run_reduces}

-- THE SET LINE

-- it contains the same literals
same_literals : (order set : List ℤ) → IsSetLine order set → (l : ℤ) → contains order l ≡ contains set l
same_literals order set h l = list_any-IsPermutation (int_eq l) order set h.same

-- so it is the same assignment
pub same_assignment : (order set : List ℤ) → IsSetLine order set → assignment_of order ≡ assignment_of set
same_assignment order set h =
    let e = same_literals order set h in
    λ i v. cond (e (pos v) i) (Some true) (cond (e (neg_ℤ (pos v)) i) (Some false) None)

-- 1 where the test passes
abbrev weight : Bool → ℕ
weight b = cond b 1 0

-- a count over a list with one more at its front
count_more : (v : ℕ) (l : ℤ) (ls : List ℤ) → count_by (λ k. variable k == v) (l ∷ ls) ≡ weight (variable l == v) + count_by (λ k. variable k == v) ls
count_more v l ls = sum_by-cons (λ k. weight (variable k == v)) l ls

-- a variable that is not mentioned counts 0
count_none : (v : ℕ) (ls : List ℤ) → mentions ls v ≡ false → count_by (λ k. variable k == v) ls ≡ 0
count_none v [] none = refl
count_none v (l ∷ ls) none =
    let both = or_false (variable l == v) (mentions ls v) none in
    let here : weight (variable l == v) ≡ 0 = ap (λ b. weight b) both.0 in
    omega (arith, count_more v l ls, here, count_none v ls both.1)

-- and each at most once where no two literals are on one variable
count_once : (v : ℕ) (ls : List ℤ) → AreApart ls → count_by (λ k. variable k == v) ls ≤ 1
count_once v [] a = omega arith
count_once v (l ∷ ls) a = elim (cases_Bool (variable l == v)) [
  | inl y ↦
      let none : mentions ls v ≡ false = subst (λ (w : ℕ). mentions ls w ≡ false) (eqb-true (variable l) v y) a.0 in
      let here : weight (variable l == v) ≡ 1 = ap (λ b. weight b) y in
      omega (arith, count_more v l ls, here, count_none v ls none)
  | inr n ↦
      let here : weight (variable l == v) ≡ 0 = ap (λ b. weight b) n in
      omega (arith, count_more v l ls, here, count_once v ls a.1)
]

-- literals by their variables, each variable once, rise
strictly : (n low : ℕ) (ls : List ℤ) → IsNonDecreasingBy variable ls → list_all (is_literal n) ls ≡ true → ((v : ℕ) → count_by (λ k. variable k == v) ls ≤ 1)
    → (0 < length ls → low < variable (get_or ls 0 (pos 0))) → rises_within low n (map variable ls) ≡ true
strictly n low [] up lits once above = refl
strictly n low (l ∷ ls) up lits once above =
    let parts = and_true (is_literal n l) (list_all (is_literal n) ls) lits in
    let first : low < variable l = above (omega arith) in
    let bounds = literal_bounds n l parts.0 in
    let rest = strictly n (variable l) ls (λ i j d le lt. up (suc i) (suc j) d (omega (arith, le)) (omega (arith, lt))) parts.1 (λ v. omega (arith, once v, count_more v l ls)) (next l ls up (once (variable l))) in
    rw (lt-ltb low (variable l) first, le-leb (variable l) n bounds.1, rest) refl
  where
    next : (k : ℤ) (ks : List ℤ) → IsNonDecreasingBy variable (k ∷ ks) → count_by (λ j. variable j == variable k) (k ∷ ks) ≤ 1 → 0 < length ks → variable k < variable (get_or ks 0 (pos 0))
    next k [] rise one some = absurd (omega (arith, some))
    next k (j ∷ ks) rise one some =
        let le : variable k ≤ variable j = rise 0 1 (pos 0) (omega arith) (omega arith) in
        let whole = count_more (variable k) k (j ∷ ks) in
        let later = count_more (variable k) j ks in
        let here : weight (variable k == variable k) ≡ 1 = ap (λ b. weight b) (eq-eqb (variable k) (variable k) refl) in
        elim (cases_Bool (variable j == variable k)) [
          | inl y ↦ (let there : weight (variable j == variable k) ≡ 1 = ap (λ b. weight b) y in absurd (omega (arith, whole, later, here, there, one)))
          | inr y ↦ (let other : variable j ≡ variable k → ⊥ = λ e. absurd (cc (y, eq-eqb (variable j) (variable k) e)) in omega (arith, le, other))
        ]

-- so does the set line of a run
set_rises : (F : Cnf) (order set : List ℤ) → IsPureRun F order → IsSetLine order set → rises_within 0 F.vars (map variable set) ≡ true
set_rises F order set run h =
    let lits : list_all (is_literal F.vars) set ≡ true =
    list_all-from_AllPass (is_literal F.vars) set (All-permutation (λ l. is_literal F.vars l ≡ true) order set h.same (AllPass-from_list_all (is_literal F.vars) order (run_literals F order run))) in
    strictly F.vars 0 set h.rises lits
    (λ v. omega (arith, count_once v order (run_apart F order run), sum_by-IsPermutation (λ k. weight (variable k == v)) order set h.same)) (above set lits)
  where
    above : (ls : List ℤ) → list_all (is_literal F.vars) ls ≡ true → 0 < length ls → 0 < variable (get_or ls 0 (pos 0))
    above [] lits some = absurd (omega (arith, some))
    above (l ∷ ls) lits some = let b = literal_bounds F.vars l (and_true (is_literal F.vars l) (list_all (is_literal F.vars) ls) lits).0 in omega (arith, b.0)

-- and the run is an order of it
run_order : (F : Cnf) (order set : List ℤ) → IsPureRun F order → IsSetLine order set → IsOrderOf F set order
run_order F order set run h = record {
  once = distinct order (run_apart F order run);
  literals = same_literals order set h;
  earlier = run_earlier F order run;
}

-- THE FORM

-- the positions of the pairs lie within the formula
pairs_between : (F : Cnf) (kept : List ℕ) → are_positions F kept ≡ true → least_pure F kept ≡ None → list_all (is_pair (length F.clauses)) (least_pairs F kept) ≡ true
pairs_between F kept rise none = all_pass (is_pair (length F.clauses)) (pair_at F kept) (variables_at F kept) (λ v there.
    let o = from_filter (variable_occurs F kept) (variables_to F.vars) v there in
    let h = is_held F kept v none o.1 o.0 in
    and_from (is_between 1 (length F.clauses) (pair_at F kept v).with) (is_between 1 (length F.clauses) (pair_at F kept v).against)
    (kept_between F kept _ rise h.with_it.listed) (kept_between F kept _ rise h.against_it.listed))

-- the body of the run is in form
body_form : (F : Cnf) (order : List ℤ) (kept : List ℕ) (pairs : List Pair) → are_positions F kept ≡ true → least_pure F kept ≡ None → IsPureRun F order → pairs ≡ least_pairs F kept
    → is_body F.vars (length F.clauses) (Pure order pairs) ≡ true
unfolding is_body
body_form F order kept pairs rise none run is =
    and_from _ (list_all (is_pair (length F.clauses)) pairs)
    (and_from (list_all (is_literal F.vars) order) (rises_within 0 F.vars (map (λ (q : Pair). q.var) pairs)) (run_literals F order run)
    (subst (λ (qs : List Pair). rises_within 0 F.vars (map (λ (q : Pair). q.var) qs) ≡ true) (sym is) (pairs_rise F kept)))
    (subst (λ (qs : List Pair). list_all (is_pair (length F.clauses)) qs ≡ true) (sym is) (pairs_between F kept rise none))

-- what the result keeps is what the run leaves, and so the reduction of the run
leaves_none : (F : Cnf) (r : PureResult) → IsPureResult F r → least_pure F r.kept ≡ None
leaves_none F r h = subst (λ (ps : List ℕ). least_pure F ps ≡ None) (sym h.kept) (run_leaves F [] r.order h.run)

result_reduces : (F : Cnf) (r : PureResult) → is_formula F ≡ true → IsPureResult F r → ReducesBy no_variable class.Pure F r.kept (assignment_of r.order)
result_reduces F r form h = subst (λ (ps : List ℕ). ReducesBy no_variable class.Pure F ps (assignment_of r.order)) (sym h.kept) (run_reduces F r.order form h.run)

-- so the document is in form
form_of : (F : Cnf) (r : PureResult) (set : List ℤ) → is_formula F ≡ true → IsWithinLimits F → IsPureResult F r → IsSetLine r.order set
    → is_done_in_form (pure_document F r set) ≡ true
unfolding is_done_in_form
form_of F r set form limits h line =
    let vars : nat_le F.vars max_vars ≡ true = le-leb F.vars max_vars limits.vars in
    let clauses : nat_le (length F.clauses) max_clauses ≡ true = le-leb (length F.clauses) max_clauses limits.clauses in
    let rise = (result_reduces F r form h).kernel.positions in
    rw (vars, clauses, rise, set_rises F r.order set h.run line, body_form F r.order r.kept r.pairs rise (leaves_none F r h) h.run h.pairs, lines_form F r.kept form limits rise) refl

-- THE REDUCTION

-- it is one by the set line too
set_reduces : (F : Cnf) (r : PureResult) (set : List ℤ) → is_formula F ≡ true → IsPureResult F r → IsSetLine r.order set → ReducesBy no_variable class.Pure F r.kept (assignment_of set)
set_reduces F r set form h line = subst (λ (φ : Assignment). ReducesBy no_variable class.Pure F r.kept φ) (same_assignment r.order set line) (result_reduces F r form h)

-- no check fails
accepted : (F : Cnf) (r : PureResult) (set : List ℤ) → is_formula F ≡ true → IsWithinLimits F → IsPureResult F r → IsSetLine r.order set → Accepts F (pure_document F r set)
unfolding first_failure_under
accepted F r set form limits h line =
    let d = pure_document F r set in
    let reduction = set_reduces F r set form h line in
    record {
      form = form_of F r set form limits h line;
      checks = rw (
        same_formula F,
        same_lines F d refl,
        none_protected F d,
        autarky_passes F d (class_satisfies class.Pure F _ (assignment_of set) form reduction.autarky.1),
        removal_passes F d reduction.touched,
        order_passes F d r.order (run_order F r.order set h.run line),
        pairs_pass F d r.pairs (leaves_none F r h) h.pairs,
      ) refl;
    }

-- all of it
pub pure_result_law : PureResultLaw
pure_result_law = record {
  form = form_of;
  kernel = λ F r form h. kernel_plain class.Pure F r.kept (result_reduces F r form h).kernel;
  reduces = λ F pivots r set form limits h line. record {
    class_is = refl;
    accepted = accepted F r set form limits h line;
    reduction = set_reduces F r set form h line;
    stated = (h.run, h.pairs);
  };
}
