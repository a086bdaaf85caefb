-- The document of what the matching reducer finds: it is in form, no check of it fails, and it keeps the kernel.
use Rattle.std.proofs.Common.{◌≡◌, ℕ, ◌∙◌, true, false, not, ◌&&◌, List, refl, sym, ap, subst, arith, ℤ, Some, None, is_some, inl, inr, Contains}
use Rattle.std.specs.Prelude.{◌==◌, nat_lt}
use Rattle.std.specs.List.{list_any}
use Rattle.std.specs.Option.{option_and_then}
use Rattle.std.proofs.lemmas.Bool.{both_ways, cases_Bool, lt-ltb, ltb-true, eqb-true, eq-eqb, false_from_ne_true}
use Rattle.lk_model.specs.declared.document.Own.{Own}
use Rattle.lk_model.specs.declared.document.MatchRow.{MatchRow}
use Rattle.lk_model.specs.declared.result.MatchingResult.{MatchingResult}
use Rattle.lk_model.specs.Lists.{among}
use Rattle.lk_model.specs.Formulas.Literal.{variable, mentions, contains}
use Rattle.lk_model.specs.Formulas.Formula.{Cnf, is_formula, clause_at, variables_to, variable_occurs}
use Rattle.lk_model.specs.Formulas.Assignment.{Assignment, assignment_of, makes_true, touches, satisfies}
use Rattle.lk_model.specs.Formulas.Crossed.{no_variable}
use Rattle.lk_model.specs.Documents.Documents.{own_of}
use Rattle.lk_model.specs.Checks.CommonChecks.{autarky_fails}
use Rattle.lk_model.specs.Checks.MatchingChecks.{owner_fails, bad_row, row_fails}
use Rattle.lk_model.proofs.Booleans.{and_true}
use Rattle.lk_model.proofs.Counting.{in_filter, among-filter}
use Rattle.lk_model.proofs.Founds.{none_found}
use Rattle.lk_model.proofs.Variables.{any_mono, literal_passing, variable_bound}
use Rattle.lk_model.proofs.Keys.{key_found, key_missing, key_among, none_passes}
use Rattle.lk_model.proofs.ListTests.{passes_one}
use Rattle.kernel_laws.proofs.Assignments.{set_where_true}
use Rattle.kernel_laws.proofs.FirstChecks.{same_formula, same_lines, removal_at}
use Rattle.kernel_laws.proofs.Tests.{follows}
use Rattle.matching_laws.specs.MatchingResults.{IsMatchingResult, own_literal, literal_on, set_line, matching_document, PassesWithin}
use Rattle.matching_laws.proofs.SetLines.{HasLiteral, literal_found, literal_true, set_owned}

-- the assignment of the set line
abbrev set_of : Cnf → MatchingResult → Assignment
set_of F r = assignment_of (set_line F r.own)

-- OWN LINES

-- what is known of the own line of a removed position
pub record HasOwn (F : Cnf) (r : MatchingResult) (p : ℕ) : Type 0 where
  pub line : Own
  pub is : own_of r.own p ≡ Some line
  pub there : Contains r.own line
  pub pos : line.pos ≡ p
  pub literal : ℤ
  pub stands : contains (clause_at F p) literal ≡ true
  pub on : variable literal ≡ line.var
  pub is_true : makes_true (assignment_of (set_line F r.own)) literal ≡ true

pub own_line : (F : Cnf) (part : List ℕ) (r : MatchingResult) (p : ℕ) → is_formula F ≡ true → IsMatchingResult F part r
    → among part p ≡ true → among r.kept p ≡ false → HasOwn F r p
own_line F part r p f h inside out =
    let key = λ (o : Own). o.pos in
    let w = key_found key r.own p (subst (λ ps. among ps p ≡ true) (sym h.removed) (in_filter (λ q. not (among r.kept q)) part p (ap not out) inside)) in
    let o = w.value in
    let c = subst (λ q. mentions (clause_at F q) o.var ≡ true) w.at (h.owned o w.there) in
    let l = literal_found (clause_at F p) o.var c in
    let b = variable_bound F p o.var f c in
    record {
      line = o;
      is = w.is;
      there = w.there;
      pos = w.at;
      literal = l.value;
      stands = l.there;
      on = l.on;
      is_true = literal_true F r.own o.var l.value b.0 b.1 (chosen o w.there w.at l);
    }
  where
    -- the first line with the variable has the same position
    chosen : (o : Own) → Contains r.own o → o.pos ≡ p → (l : HasLiteral (clause_at F p) o.var) → own_literal F r.own o.var ≡ Some l.value
    chosen o there at l =
        let w = key_found (λ (u : Own). u.var) r.own o.var (key_among (λ (u : Own). u.var) r.own o there) in
        let same : w.value.pos ≡ p = h.owns_differ w.value o w.there there w.at ∙ at in
        ap (option_and_then (λ (u : Own). literal_on (clause_at F u.pos) o.var)) w.is
        ∙ ap (λ (q : ℕ). literal_on (clause_at F q) o.var) same ∙ l.is

-- a position that is kept has none
no_own : (F : Cnf) (part : List ℕ) (r : MatchingResult) (p : ℕ) → IsMatchingResult F part r → among r.kept p ≡ true → own_of r.own p ≡ None
no_own F part r p h kept = key_missing (λ (o : Own). o.pos) r.own p
    (subst (λ ps. among ps p ≡ false) (sym h.removed) (among-filter (λ q. not (among r.kept q)) part p ∙ rw kept refl))

-- TOUCHED CLAUSES

-- a removed clause has a true literal on its own variable
pub holds_own : (F : Cnf) (part : List ℕ) (r : MatchingResult) (p : ℕ) → (w : HasOwn F r p)
    → list_any (λ l. makes_true (assignment_of (set_line F r.own)) l && (variable l == w.line.var)) (clause_at F p) ≡ true
holds_own F part r p w = passes_one _ (clause_at F p) w.literal w.stands (rw (w.is_true, eq-eqb (variable w.literal) w.line.var w.on) refl)

-- so it is touched and satisfied
removed_satisfied : (F : Cnf) (part : List ℕ) (r : MatchingResult) (p : ℕ) → HasOwn F r p → satisfies (set_of F r) (clause_at F p) ≡ true
removed_satisfied F part r p w = passes_one (makes_true (set_of F r)) (clause_at F p) w.literal w.stands w.is_true

removed_touched : (F : Cnf) (part : List ℕ) (r : MatchingResult) (p : ℕ) → HasOwn F r p → touches (set_of F r) (clause_at F p) ≡ true
removed_touched F part r p w = any_mono (makes_true (set_of F r)) (λ l. is_some (set_of F r (variable l))) (clause_at F p)
    (set_where_true (set_of F r)) (removed_satisfied F part r p w)

-- a kept clause is not touched
kept_untouched : (F : Cnf) (part : List ℕ) (r : MatchingResult) (p : ℕ) → IsMatchingResult F part r → among r.kept p ≡ true
    → touches (set_of F r) (clause_at F p) ≡ false
kept_untouched F part r p h kept = false_from_ne_true (touches (set_of F r) (clause_at F p)) (λ t.
    let l = literal_passing (λ l. is_some (set_of F r (variable l))) (clause_at F p) t in
    let w = key_found (λ (o : Own). o.var) r.own (variable l.0) (set_owned F r.own (variable l.0) l.2) in
    let there : mentions (clause_at F p) w.value.var ≡ true = passes_one (λ k. variable k == w.value.var) (clause_at F p) l.0 l.1 (eq-eqb (variable l.0) w.value.var (sym w.at)) in
    h.owns_removed w.value p w.there kept there)

-- at a position of the part the set line touches exactly what is removed
pub touched_within : (F : Cnf) (part : List ℕ) (r : MatchingResult) (p : ℕ) → is_formula F ≡ true → IsMatchingResult F part r → among part p ≡ true
    → touches (set_of F r) (clause_at F p) ≡ not (among r.kept p)
touched_within F part r p f h inside = elim (cases_Bool (among r.kept p)) [
  | inl kept ↦ kept_untouched F part r p h kept ∙ sym (ap not kept)
  | inr out ↦ removed_touched F part r p (own_line F part r p f h inside out) ∙ sym (ap not out)
]

-- THE CHECKS

autarky_at : (F : Cnf) (part : List ℕ) (r : MatchingResult) (p : ℕ) → is_formula F ≡ true → IsMatchingResult F part r → among part p ≡ true
    → autarky_fails F (matching_document F r) p ≡ false
autarky_at F part r p f h inside = follows (touches (set_of F r) (clause_at F p)) (satisfies (set_of F r) (clause_at F p)) (λ t. elim (cases_Bool (among r.kept p)) [
  | inl kept ↦ absurd (both_ways (touches (set_of F r) (clause_at F p)) (kept_untouched F part r p h kept) t)
  | inr out ↦ removed_satisfied F part r p (own_line F part r p f h inside out)
])

owner_passes : (F : Cnf) (part : List ℕ) (r : MatchingResult) (p : ℕ) → is_formula F ≡ true → IsMatchingResult F part r → among part p ≡ true
    → owner_fails F (matching_document F r) r.own p ≡ false
owner_passes F part r p f h inside = elim (cases_Bool (among r.kept p)) [
  | inl kept ↦ rw (kept, no_own F part r p h kept) refl
  | inr out ↦
      (let w = own_line F part r p f h inside out in
      rw (out, w.is, holds_own F part r p w) (none_passes (λ (earlier : Own). nat_lt earlier.pos p && earlier.var == w.line.var) r.own (λ o there.
      false_from_ne_true _ (λ e.
      let both = and_true (nat_lt o.pos p) (o.var == w.line.var) e in
      let same = h.owns_differ o w.line there w.there (eqb-true o.var w.line.var both.1) in
      let less = ltb-true o.pos p both.0 in
      let at = w.pos in absurd (omega (arith, same, less, at))))))
]

-- the row of a variable of the kept clauses
row_passes : (F : Cnf) (part : List ℕ) (r : MatchingResult) (v : ℕ) → IsMatchingResult F part r → among (variables_to F.vars) v ≡ true
    → row_fails no_variable F (matching_document F r) r.rows v ≡ false
row_passes F part r v h inside = elim (cases_Bool (variable_occurs F r.kept v)) [
  | inl there ↦
      (let w = key_found key r.rows v (subst (λ vs. among vs v ≡ true) (sym h.variables) (in_filter (variable_occurs F r.kept) (variables_to F.vars) v there inside)) in
      let u = w.value in
      let s = h.rows u w.there in
      let own = subst (λ x. (among r.kept u.own && mentions (clause_at F u.own) x) ≡ true) w.at s.own in
      let escape = subst (λ x. (among r.kept u.escape && mentions (clause_at F u.escape) x) ≡ true) w.at s.escape in
      let earlier = none_passes (λ (x : MatchRow). nat_lt x.var v && x.own == u.own) r.rows (λ x c. false_from_ne_true _ (λ e.
      let both = and_true (nat_lt x.var v) (x.own == u.own) e in
      let same = h.rows_differ x u c w.there (eqb-true x.own u.own both.1) in
      let less = ltb-true x.var v both.0 in
      let at = w.at in absurd (omega (arith, same, less, at)))) in
      let lower = none_passes (λ (x : MatchRow). x.own == u.escape && not (nat_lt x.rank u.rank)) r.rows (λ x c. false_from_ne_true _ (λ e.
      let both = and_true (x.own == u.escape) (not (nat_lt x.rank u.rank)) e in
      let less = lt-ltb x.rank u.rank (h.ranks u x w.there c (eqb-true x.own u.escape both.0)) in
      absurd (both_ways (not (nat_lt x.rank u.rank)) (ap not less) both.1))) in
      rw (there, w.is, own, escape, earlier, lower) refl)
  | inr absent ↦ rw (
    absent,
    key_missing key r.rows v
        (subst (λ vs. among vs v ≡ false) (sym h.variables) (among-filter (variable_occurs F r.kept) (variables_to F.vars) v ∙ rw absent refl)),
  ) refl
]
  where
    key : MatchRow → ℕ
    key w = w.var

pub passes_within : (F : Cnf) (part : List ℕ) (r : MatchingResult) → is_formula F ≡ true → IsMatchingResult F part r → PassesWithin F part r
unfolding bad_row
passes_within F part r f h = record {
  formula = same_formula F;
  clauses = same_lines F (matching_document F r) refl;
  autarky = λ p inside. autarky_at F part r p f h inside;
  removal = λ p inside. removal_at F (matching_document F r) p (touched_within F part r p f h inside);
  owners = λ p inside. owner_passes F part r p f h inside;
  rows = none_found _ (variables_to F.vars) (λ v inside. row_passes F part r v h inside);
}
