-- What the matching reducer finds is the kernel of its part, and its document reduces the formula where the part is all
-- of it.
use Rattle.std.proofs.Common.{◌≡◌, ℕ, ◌^◌, ◌∙◌, Bool, true, false, not, ◌&&◌, List, length, refl, sym, ap, subst, arith, inl, inr}
use Rattle.std.specs.Prelude.{◌==◌, nat_le}
use Rattle.std.specs.List.{list_any, list_all}
use Rattle.std.proofs.lemmas.Bool.{cases_Bool, le-leb, lt-ltb, and_from}
use Rattle.lk_model.specs.declared.class.Class.TheVariants as class
use Rattle.lk_model.specs.declared.document.Own.{Own}
use Rattle.lk_model.specs.declared.result.MatchingResult.{MatchingResult}
use Rattle.lk_model.specs.Limits.{max_vars, max_clauses}
use Rattle.lk_model.specs.Lists.{among, is_between, rises_within}
use Rattle.lk_model.specs.Formulas.Literal.{variable}
use Rattle.lk_model.specs.Formulas.Formula.{Cnf, is_formula, clause_at, positions_of, variable_occurs, IsWithinLimits}
use Rattle.lk_model.specs.Formulas.Assignment.{assignment_of, makes_true, touches}
use Rattle.lk_model.specs.Formulas.Autarky.{IsMatchingAutarky}
use Rattle.lk_model.specs.Formulas.Lean.{IsLean, KernelWithin, are_positions}
use Rattle.lk_model.specs.Checks.CommonChecks.{autarky_fails, removal_fails, not_autarky, not_exactly_removed}
use Rattle.lk_model.specs.Checks.MatchingChecks.{owner_fails, bad_owner}
use Rattle.lk_model.specs.Checks.Checks.{Accepts, first_failure_under}
use Rattle.lk_model.specs.Documents.Form.{is_body, are_own, are_rows, is_match_row, is_done_in_form}
use Rattle.lk_model.proofs.Booleans.{and_true}
use Rattle.lk_model.proofs.Rising.{filter_rises, all_rise}
use Rattle.lk_model.proofs.Founds.{none_found, filtered_rise}
use Rattle.lk_model.proofs.Variables.{variable_bound}
use Rattle.lk_model.proofs.Keys.{each_passes}
use Rattle.kernel_laws.proofs.Autarkies.{untouched_by}
use Rattle.kernel_laws.proofs.Occurrences.{kept_between}
use Rattle.kernel_laws.proofs.KeptLines.{lines_form}
use Rattle.kernel_laws.proofs.FirstChecks.{none_protected}
use Rattle.matching_laws.specs.MatchingResults.{IsMatchingResult, MatchingResultLaw, set_line, matching_document}
use Rattle.matching_laws.proofs.SetLines.{set_rises}
use Rattle.matching_laws.proofs.MatchingLaws.{matching_law, own_var, own_var_is}
use Rattle.matching_laws.proofs.MatchingResults.{HasOwn, own_line, holds_own, touched_within, passes_within}

-- THE KERNEL OF THE PART

-- a touched position of the part is removed
removed_where_touched : (F : Cnf) (part : List ℕ) (r : MatchingResult) (p : ℕ) → is_formula F ≡ true → IsMatchingResult F part r → among part p ≡ true
    → touches (assignment_of (set_line F r.own)) (clause_at F p) ≡ true → among r.kept p ≡ false
removed_where_touched F part r p f h inside t = by_test (among r.kept p) (sym (touched_within F part r p f h inside) ∙ t)
  where
    by_test : (b : Bool) → not b ≡ true → b ≡ false
    by_test true e = absurd (let f : ⊥ = cc in f)
    by_test false e = refl

autarky_within : (F : Cnf) (part : List ℕ) (r : MatchingResult) → is_formula F ≡ true → IsMatchingResult F part r
    → IsMatchingAutarky F (among part) (assignment_of (set_line F r.own))
autarky_within F part r f h = record {
  own = own_var r.own;
  is_true = λ p inside t.
      let w = line p inside t in
      subst (λ v. list_any (λ l. makes_true (assignment_of (set_line F r.own)) l && (variable l == v)) (clause_at F p) ≡ true) (sym (own_var_is r.own p w.line w.is)) (holds_own F part r p w);
  differ = λ p q a b t u e.
      let w = line p a t in let x = line q b u in
      let same = h.owns_differ w.line x.line w.there x.there (sym (own_var_is r.own p w.line w.is) ∙ e ∙ own_var_is r.own q x.line x.is) in
      sym w.pos ∙ same ∙ x.pos;
}
  where
    line : (p : ℕ) → among part p ≡ true → touches (assignment_of (set_line F r.own)) (clause_at F p) ≡ true → HasOwn F r p
    line p inside t = own_line F part r p f h inside (removed_where_touched F part r p f h inside t)

kept_lean : (F : Cnf) (part : List ℕ) (r : MatchingResult) → is_formula F ≡ true → IsMatchingResult F part r → IsLean class.Matching F (among r.kept)
kept_lean F part r f h = matching_law.lean F (matching_document F r) r.rows f h.positions (passes_within F part r f h).rows

kernel_within : (F : Cnf) (part : List ℕ) (r : MatchingResult) → is_formula F ≡ true → IsMatchingResult F part r → KernelWithin class.Matching F part r.kept
kernel_within F part r f h = record {
  positions = h.positions;
  within = h.within;
  lean = kept_lean F part r f h;
  largest = λ S within lean p s. elim (cases_Bool (among r.kept p)) [
    | inl kept ↦ kept
    | inr out ↦ absurd (untouched_by class.Matching F (among part) S (assignment_of (set_line F r.own)) within (autarky_within F part r f h) lean p s
        (touched_within F part r p f h (within p s) ∙ ap not out))
  ];
}

-- THE FORM

own_form : (F : Cnf) (part : List ℕ) (r : MatchingResult) → is_formula F ≡ true → are_positions F part ≡ true → IsMatchingResult F part r
    → are_own F.vars (length F.clauses) r.own ≡ true
own_form F part r f rise h =
    and_from _ (list_all (λ (o : Own). is_between 1 F.vars o.var) r.own)
    (subst (λ ps. rises_within 0 (length F.clauses) ps ≡ true) (sym h.removed) (filter_rises 0 (length F.clauses) (λ p. not (among r.kept p)) part rise))
    (each_passes (λ (o : Own). is_between 1 F.vars o.var) r.own (λ o there. let b = variable_bound F o.pos o.var f (h.owned o there) in and_from (nat_le 1 o.var) (nat_le o.var F.vars) (le-leb 1 o.var (omega (arith, b.0))) (le-leb o.var F.vars b.1)))

rows_form : (F : Cnf) (part : List ℕ) (r : MatchingResult) → IsMatchingResult F part r → are_rows F.vars (length F.clauses) r.rows ≡ true
rows_form F part r h =
    and_from _ (list_all (is_match_row (length F.clauses)) r.rows)
    (subst (λ vs. rises_within 0 F.vars vs ≡ true) (sym h.variables) (filtered_rise F.vars (variable_occurs F r.kept)))
    (each_passes (is_match_row (length F.clauses)) r.rows (λ w there.
    let s = h.rows w there in
    let own = kept_between F r.kept w.own h.positions (and_true (among r.kept w.own) _ s.own).0 in
    let escape = kept_between F r.kept w.escape h.positions (and_true (among r.kept w.escape) _ s.escape).0 in
    let rank = lt-ltb w.rank (2 ^ 32) (h.ranks_fit w there) in
    rw (own, escape, rank) refl))

form_of : (F : Cnf) (part : List ℕ) (r : MatchingResult) → is_formula F ≡ true → IsWithinLimits F → are_positions F part ≡ true → IsMatchingResult F part r
    → is_done_in_form (matching_document F r) ≡ true
unfolding is_done_in_form is_body
form_of F part r f limits rise h =
    let vars : nat_le F.vars max_vars ≡ true = le-leb F.vars max_vars limits.vars in
    let clauses : nat_le (length F.clauses) max_clauses ≡ true = le-leb (length F.clauses) max_clauses limits.clauses in
    rw (vars, clauses, h.positions, set_rises F r.own, own_form F part r f rise h, rows_form F part r h, lines_form F r.kept f limits h.positions) refl

-- THE WHOLE FORMULA

accepted : (F : Cnf) (r : MatchingResult) → is_formula F ≡ true → IsWithinLimits F → IsMatchingResult F (positions_of F) r → Accepts F (matching_document F r)
unfolding first_failure_under not_autarky not_exactly_removed bad_owner
accepted F r f limits h =
    let c = passes_within F (positions_of F) r f h in
    record {
      form = form_of F (positions_of F) r f limits (all_rise F) h;
      checks = rw (
        c.formula,
        c.clauses,
        none_protected F (matching_document F r),
        none_found (λ p. autarky_fails F (matching_document F r) p) (positions_of F) c.autarky,
        none_found (λ p. removal_fails F (matching_document F r) p) (positions_of F) c.removal,
        none_found (λ p. owner_fails F (matching_document F r) r.own p) (positions_of F) c.owners,
        c.rows,
      ) refl;
    }

pub matching_result_law : MatchingResultLaw
matching_result_law = record {
  form = form_of;
  checks = passes_within;
  kernel = kernel_within;
  reduces = λ F pivots r f limits h. let accepts = accepted F r f limits h in record {
    class_is = refl;
    accepted = accepts;
    reduction = matching_law.accepted F (matching_document F r) f refl accepts;
    stated = tt;
  };
}
