-- Rows make the kept set of a matching document lean, and own lines make its set line a matching autarky.
use Rattle.std.proofs.Common.{◌≡◌, ℕ, suc, ◌<◌, Bool, true, false, cond, not, ◌&&◌, ◌||◌, ◌==◌, nat_lt, List, [], ◌∷◌, length, refl, sym, ◌∙◌, ap, subst, arith, ◌⊎◌, inl, inr, filter, ℤ, Some, None, is_some}
use Rattle.std.specs.List.{list_any}
use Rattle.std.specs.Option.{option_map_or}
use Rattle.std.proofs.lemmas.Bool.{both_ways, leb-true, le-leb, eqb-true, eq-eqb, not-false}
use Rattle.lk_model.specs.declared.class.Class.TheVariants.{Matching}
use Rattle.lk_model.specs.declared.document.Body.{Body}
use Rattle.lk_model.specs.declared.document.Body.TheVariants as body
use Rattle.lk_model.specs.declared.document.DoneDocument.{DoneDocument}
use Rattle.lk_model.specs.declared.document.MatchRow.{MatchRow}
use Rattle.lk_model.specs.declared.document.Own.{Own}
use Rattle.lk_model.specs.Lists.{among}
use Rattle.lk_model.specs.Formulas.Literal.{variable, mentions}
use Rattle.lk_model.specs.Formulas.Formula.{Cnf, clause_at, is_formula, variable_occurs, variables_to, positions_of}
use Rattle.lk_model.specs.Formulas.Assignment.{Assignment, touches, makes_true, assignment_of}
use Rattle.lk_model.specs.Formulas.Autarky.{IsMatchingAutarky}
use Rattle.lk_model.specs.Formulas.Lean.{IsLean, are_positions, all_of}
use Rattle.lk_model.specs.Formulas.Crossed.{no_variable}
use Rattle.lk_model.specs.Documents.Documents.{class_of, own_of, row_of}
use Rattle.lk_model.specs.Checks.Check.{is_kept_with}
use Rattle.lk_model.specs.Checks.CommonChecks.{not_exactly_removed}
use Rattle.lk_model.specs.Checks.MatchingChecks.{bad_owner, bad_row}
use Rattle.lk_model.specs.Checks.Checks.{class_checks}
use Rattle.lk_model.proofs.Booleans.{and_true, or_true, or_false}
use Rattle.lk_model.proofs.Variables.{any_mono, occurs, variable_bound, in_variables}
use Rattle.lk_model.proofs.Counting.{Differ-filter, Differ-rises, Differ-range, in_filter, from_filter, descends}
use Rattle.kernel_laws.specs.Accepted.{AcceptedReduces}
use Rattle.kernel_laws.proofs.Lines.{none_among, found_passes, found_any, has_line}
use Rattle.kernel_laws.proofs.Occurrences.{occurring, in_positions}
use Rattle.kernel_laws.proofs.Passed.{HaveNoPlace, has_passed, accepted_form, exactly_removed}
use Rattle.kernel_laws.proofs.Reductions.{reduces_by, reduction_of}
use Rattle.kernel_laws.proofs.Kernels.{kernel_by}
use Rattle.kernel_laws.proofs.Assignments.{set_where_true}
use Rattle.matching_laws.specs.MatchingLaw.{MatchingLaw}

-- where a true literal is on it, a variable is set
set_by : (φ : Assignment) (l : ℤ) (v : ℕ) → (makes_true φ l && (variable l == v)) ≡ true → is_some (φ v) ≡ true
set_by φ l v e =
    let both = and_true (makes_true φ l) (variable l == v) e in
    subst (λ k. is_some (φ k) ≡ true) (eqb-true (variable l) v both.1) (set_where_true φ l both.0)

set_in : (φ : Assignment) (c : List ℤ) (v : ℕ) → list_any (λ l. makes_true φ l && (variable l == v)) c ≡ true → is_some (φ v) ≡ true
set_in φ [] v e = absurd (let f : ⊥ = cc in f)
set_in φ (l ∷ c) v e = elim (or_true (makes_true φ l && (variable l == v)) (list_any (λ l. makes_true φ l && (variable l == v)) c) e) [
  | inl this ↦ set_by φ l v this
  | inr later ↦ set_in φ c v later
]

-- a clause with a variable that is set is touched
touched_by : (φ : Assignment) (c : List ℤ) (v : ℕ) → mentions c v ≡ true → is_some (φ v) ≡ true → touches φ c ≡ true
touched_by φ c v m e = any_mono (λ l. variable l == v) (λ l. is_some (φ (variable l))) c
    (λ l s. subst (λ k. is_some (φ k) ≡ true) (sym (eqb-true (variable l) v s)) e) m

-- LEAN BY ROWS

-- for each variable of the kept clauses an own one and an escape
pub record HasRows (F : Cnf) (kept : List ℕ) : Type 0 where
  pub own : ℕ → ℕ
  pub escape : ℕ → ℕ
  pub rank : ℕ → ℕ
  pub own_in : (v : ℕ) → variable_occurs F kept v ≡ true → (among kept (own v) ≡ true) × (mentions (clause_at F (own v)) v ≡ true)
  pub escape_in : (v : ℕ) → variable_occurs F kept v ≡ true → (among kept (escape v) ≡ true) × (mentions (clause_at F (escape v)) v ≡ true)
  pub differ : (v w : ℕ) → variable_occurs F kept v ≡ true → variable_occurs F kept w ≡ true → own v ≡ own w → v ≡ w
  pub lesser : (v w : ℕ) → variable_occurs F kept v ≡ true → variable_occurs F kept w ≡ true → own w ≡ escape v → rank w < rank v

-- Counting both ways, the touched clauses are the own ones of the variables that are set; so the escape of one is the own
-- clause of another with a lesser rank.
pub lean_by_rows : (F : Cnf) (kept : List ℕ) → is_formula F ≡ true → are_positions F kept ≡ true → HasRows F kept → IsLean Matching F (among kept)
lean_by_rows F kept f r rows φ a p s t =
    descends rows.own a.own rows.escape rows.rank set touched
    (Differ-filter _ _ (Differ-range 1 F.vars)) (Differ-filter _ _ (Differ-rises 0 (length F.clauses) kept r))
    (record {
      into = λ v m. let o = occurs_of v m in let w = rows.own_in v o in touch v (rows.own v) m w.0 w.1;
      one = λ v w m n e. rows.differ v w (occurs_of v m) (occurs_of w n) e;
    })
    (record {
      into = owned;
      one = λ q u m n e. let x = from_filter _ kept q m in let y = from_filter _ kept u n in a.differ q u x.1 y.1 x.0 y.0 e;
    })
    (λ v m. let w = rows.escape_in v (occurs_of v m) in touch v (rows.escape v) m w.0 w.1)
    (λ v w m n e. rows.lesser v w (occurs_of v m) (occurs_of w n) e)
    (suc (rows.rank (a.own p))) (a.own p) (owned p (in_filter _ kept p t s)) (omega arith)
  where
    is_set : ℕ → Bool
    is_set v = is_some (φ v) && variable_occurs F kept v

    set : List ℕ
    set = filter is_set (variables_to F.vars)

    touched : List ℕ
    touched = filter (λ q. touches φ (clause_at F q)) kept

    occurs_of : (v : ℕ) → among set v ≡ true → variable_occurs F kept v ≡ true
    occurs_of v m = (and_true (is_some (φ v)) (variable_occurs F kept v) (from_filter is_set (variables_to F.vars) v m).0).1

    touch : (v q : ℕ) → among set v ≡ true → among kept q ≡ true → mentions (clause_at F q) v ≡ true → among touched q ≡ true
    touch v q m k e = in_filter _ kept q
        (touched_by φ (clause_at F q) v e (and_true (is_some (φ v)) (variable_occurs F kept v) (from_filter is_set (variables_to F.vars) v m).0).0) k

    owned : (q : ℕ) → among touched q ≡ true → among set (a.own q) ≡ true
    owned q m =
        let x = from_filter _ kept q m in
        let e = a.is_true q x.1 x.0 in
        let holds = any_mono (λ l. makes_true φ l && (variable l == a.own q)) (λ l. variable l == a.own q) (clause_at F q)
        (λ l g. (and_true (makes_true φ l) (variable l == a.own q) g).1) e in
        in_filter is_set (variables_to F.vars) (a.own q)
        (rw (set_in φ (clause_at F q) (a.own q) e, occurs F kept q (a.own q) x.1 holds) refl)
        (in_variables F.vars (a.own q) (variable_bound F q (a.own q) f holds))

-- what a row line that does not fail says
record GoodRow (F : Cnf) (kept : List ℕ) (rows : List MatchRow) (v : ℕ) (r : MatchRow) : Type 0 where
  is : row_of rows v ≡ Some r
  var : r.var ≡ v
  own : (among kept r.own ≡ true) × (mentions (clause_at F r.own) v ≡ true)
  escape : (among kept r.escape ≡ true) × (mentions (clause_at F r.escape) v ≡ true)
  first : list_any (λ (earlier : MatchRow). nat_lt earlier.var v && earlier.own == r.own) rows ≡ false
  lesser : list_any (λ (w : MatchRow). w.own == r.escape && not (nat_lt w.rank r.rank)) rows ≡ false

good_row : (F : Cnf) (d : DoneDocument) (rows : List MatchRow) → is_formula F ≡ true → (bad_row no_variable F d rows).place ≡ None
    → (v : ℕ) → variable_occurs F d.kept v ≡ true → among (variables_to F.vars) v ≡ true → (r : MatchRow) × GoodRow F d.kept rows v r
unfolding bad_row
good_row F d rows f e v o m =
    let line = has_line (variable_occurs F d.kept v) (row_of rows v) _ (none_among _ (variables_to F.vars) v e m) o in
    let r = line.value in
    let a = or_false (not (is_kept_with F d.kept r.own (λ c. mentions c v)) || not (is_kept_with F d.kept r.escape (λ c. mentions c v))
    || list_any (λ (earlier : MatchRow). nat_lt earlier.var v && earlier.own == r.own) rows) _ line.good in
    let b = or_false (not (is_kept_with F d.kept r.own (λ c. mentions c v)) || not (is_kept_with F d.kept r.escape (λ c. mentions c v))) _ a.0 in
    let k = or_false (not (is_kept_with F d.kept r.own (λ c. mentions c v))) _ b.0 in (
      r,
      record {
        is = line.is;
        var = eqb-true r.var v (found_passes (λ (q : MatchRow). q.var == v) rows r line.is);
        own = and_true (among d.kept r.own) _ (not-false _ k.0);
        escape = and_true (among d.kept r.escape) _ (not-false _ k.1);
        first = b.1;
        lesser = a.1;
      },
    )

-- a number that stands in a line's field, 0 where there is no line
field_of : (MatchRow → ℕ) → List MatchRow → ℕ → ℕ
field_of g rows v = option_map_or g (row_of rows v) 0

field_is : (g : MatchRow → ℕ) (rows : List MatchRow) (v : ℕ) (r : MatchRow) → row_of rows v ≡ Some r → field_of g rows v ≡ g r
unfolding field_of
field_is g rows v r e = ap (λ o. option_map_or g o 0) e

ordered : (v w : ℕ) → (v < w) ⊎ (w < v) ⊎ (v ≡ w)
ordered v w = at_tests (nat_lt v w) refl (nat_lt w v) refl
  where
    at_tests : (b : Bool) → nat_lt v w ≡ b → (c : Bool) → nat_lt w v ≡ c → (v < w) ⊎ (w < v) ⊎ (v ≡ w)
    at_tests true e c f = inl (leb-true (suc v) w e)
    at_tests false e true f = inr (inl (leb-true (suc w) v f))
    at_tests false e false f =
        let n : ¬ (v < w) = λ h. both_ways (nat_lt v w) e (le-leb (suc v) w h) in
        let m : ¬ (w < v) = λ h. both_ways (nat_lt w v) f (le-leb (suc w) v h) in
        inr (inr (omega (arith, n, m)))

rows_by_check : (F : Cnf) (d : DoneDocument) (rows : List MatchRow) → is_formula F ≡ true → (bad_row no_variable F d rows).place ≡ None → HasRows F d.kept
rows_by_check F d rows f e = record {
  own = field_of (λ r. r.own) rows;
  escape = field_of (λ r. r.escape) rows;
  rank = field_of (λ r. r.rank) rows;
  own_in = λ v o. let g = at v o in
      subst (λ k. (among d.kept k ≡ true) × (mentions (clause_at F k) v ≡ true)) (sym (field_is (λ r. r.own) rows v g.0 g.1.is)) g.1.own;
  escape_in = λ v o. let g = at v o in
      subst (λ k. (among d.kept k ≡ true) × (mentions (clause_at F k) v ≡ true)) (sym (field_is (λ r. r.escape) rows v g.0 g.1.is)) g.1.escape;
  differ = λ v w o u s.
      let g = at v o in let h = at w u in
      let same = sym (field_is (λ r. r.own) rows v g.0 g.1.is) ∙ s ∙ field_is (λ r. r.own) rows w h.0 h.1.is in
      elim (ordered v w) [
        | inl less ↦ absurd (twice v w g.0 h.0 g.1 h.1 less same)
        | inr (inl more) ↦ absurd (twice w v h.0 g.0 h.1 g.1 more (sym same))
        | inr (inr equal) ↦ equal
      ];
  lesser = λ v w o u s.
      let g = at v o in let h = at w u in
      let same = sym (field_is (λ r. r.own) rows w h.0 h.1.is) ∙ s ∙ field_is (λ r. r.escape) rows v g.0 g.1.is in
      let less = below v w g.0 h.0 g.1 h.1 same in
      subst (λ k. k < field_of (λ r. r.rank) rows v) (sym (field_is (λ r. r.rank) rows w h.0 h.1.is))
      (subst (λ k. h.0.rank < k) (sym (field_is (λ r. r.rank) rows v g.0 g.1.is)) less);
}
  where
    at : (v : ℕ) → variable_occurs F d.kept v ≡ true → (r : MatchRow) × GoodRow F d.kept rows v r
    at v o = good_row F d rows f e v o (occurring F d.kept v f o)

    twice : (v w : ℕ) (r s : MatchRow) → GoodRow F d.kept rows v r → GoodRow F d.kept rows w s → v < w → r.own ≡ s.own → ⊥
    twice v w r s g h less same =
        let t : (nat_lt r.var w && r.own == s.own) ≡ true = rw (le-leb (suc r.var) w (subst (λ k. k < w) (sym g.var) less), eq-eqb r.own s.own same) refl in
        both_ways _ h.first (found_any (λ (q : MatchRow). q.var == v) (λ (earlier : MatchRow). nat_lt earlier.var w && earlier.own == s.own) rows r g.is t)

    below : (v w : ℕ) (r s : MatchRow) → GoodRow F d.kept rows v r → GoodRow F d.kept rows w s → s.own ≡ r.escape → s.rank < r.rank
    below v w r s g h same = at_test (nat_lt s.rank r.rank) refl
      where
        at_test : (b : Bool) → nat_lt s.rank r.rank ≡ b → s.rank < r.rank
        at_test true t = leb-true (suc s.rank) r.rank t
        at_test false t =
            let u : (s.own == r.escape && not (nat_lt s.rank r.rank)) ≡ true = rw (eq-eqb s.own r.escape same, t) refl in
            absurd (both_ways _ g.lesser (found_any (λ (q : MatchRow). q.var == w) (λ (x : MatchRow). x.own == r.escape && not (nat_lt x.rank r.rank)) rows s h.is u))

-- AUTARKIES BY OWN LINES

record GoodOwn (F : Cnf) (set : List ℤ) (own : List Own) (p : ℕ) (o : Own) : Type 0 where
  is : own_of own p ≡ Some o
  pos : o.pos ≡ p
  holds : list_any (λ l. makes_true (assignment_of set) l && (variable l == o.var)) (clause_at F p) ≡ true
  first : list_any (λ (earlier : Own). nat_lt earlier.pos p && earlier.var == o.var) own ≡ false

good_own : (F : Cnf) (d : DoneDocument) (own : List Own) → (bad_owner F d own).place ≡ None
    → (p : ℕ) → among d.kept p ≡ false → among (positions_of F) p ≡ true → (o : Own) × GoodOwn F d.set own p o
unfolding bad_owner
good_own F d own e p k m =
    let line = has_line (not (among d.kept p)) (own_of own p) _ (none_among _ (positions_of F) p e m) (ap not k) in
    let o = line.value in
    let a = or_false (not (list_any (λ l. makes_true (assignment_of d.set) l && (variable l == o.var)) (clause_at F p))) _ line.good in (
      o,
      record {
        is = line.is;
        pos = eqb-true o.pos p (found_passes (λ (q : Own). q.pos == p) own o line.is);
        holds = not-false _ a.0;
        first = a.1;
      },
    )

-- the variable of a position's own line, 0 where there is none
pub own_var : List Own → ℕ → ℕ
own_var own p = option_map_or (λ (o : Own). o.var) (own_of own p) 0

pub own_var_is : (own : List Own) (p : ℕ) (o : Own) → own_of own p ≡ Some o → own_var own p ≡ o.var
unfolding own_var
own_var_is own p o e = ap (λ x. option_map_or (λ (o : Own). o.var) x 0) e

autarky_by_check : (F : Cnf) (d : DoneDocument) (own : List Own) → (not_exactly_removed F d).place ≡ None
    → (bad_owner F d own).place ≡ None → IsMatchingAutarky F (all_of F) (assignment_of d.set)
unfolding not_exactly_removed
autarky_by_check F d own x e = record {
  own = own_var own;
  is_true = λ p a t. let g = at p a t in
      subst (λ k. list_any (λ l. makes_true (assignment_of d.set) l && (variable l == k)) (clause_at F p) ≡ true)
      (sym (own_var_is own p g.0 g.1.is)) g.1.holds;
  differ = λ p q a b t u s.
      let g = at p a t in let h = at q b u in
      let same = sym (own_var_is own p g.0 g.1.is) ∙ s ∙ own_var_is own q h.0 h.1.is in
      elim (ordered p q) [
        | inl less ↦ absurd (twice p q g.0 h.0 g.1 h.1 less same)
        | inr (inl more) ↦ absurd (twice q p h.0 g.0 h.1 g.1 more (sym same))
        | inr (inr equal) ↦ equal
      ];
}
  where
    removed : (p : ℕ) → all_of F p ≡ true → touches (assignment_of d.set) (clause_at F p) ≡ true → among d.kept p ≡ false
    removed p a t = at_test (among d.kept p) refl (none_among _ (positions_of F) p x (in_positions F p a))
      where
        at_test : (b : Bool) → among d.kept p ≡ b
            → cond b (touches (assignment_of d.set) (clause_at F p)) (not (touches (assignment_of d.set) (clause_at F p))) ≡ false → b ≡ false
        at_test true k f = absurd (both_ways _ f t)
        at_test false k f = refl

    at : (p : ℕ) → all_of F p ≡ true → touches (assignment_of d.set) (clause_at F p) ≡ true → (o : Own) × GoodOwn F d.set own p o
    at p a t = good_own F d own e p (removed p a t) (in_positions F p a)

    twice : (p q : ℕ) (o u : Own) → GoodOwn F d.set own p o → GoodOwn F d.set own q u → p < q → o.var ≡ u.var → ⊥
    twice p q o u g h less same =
        let t : (nat_lt o.pos q && o.var == u.var) ≡ true = rw (le-leb (suc o.pos) q (subst (λ k. k < q) (sym g.pos) less), eq-eqb o.var u.var same) refl in
        both_ways _ h.first (found_any (λ (w : Own). w.pos == p) (λ (earlier : Own). nat_lt earlier.pos q && earlier.var == u.var) own o g.is t)

-- ACCEPTED DOCUMENTS

-- a matching body has own lines and rows
record HasLines (F : Cnf) (d : DoneDocument) : Type 0 where
  own : List Own
  rows : List MatchRow
  owners : (bad_owner F d own).place ≡ None
  good_rows : (bad_row no_variable F d rows).place ≡ None

has_lines : (F : Cnf) (d : DoneDocument) (b : Body) → class_of b ≡ Matching → HaveNoPlace (class_checks no_variable F d b) → HasLines F d
has_lines F d (body.Pure order pairs) c h = absurd (let f : ⊥ = cc in f)
has_lines F d (body.Matching own rows) c h = record { own = own; rows = rows; owners = h.0; good_rows = h.1.0 }
has_lines F d (body.Linear stages dual units) c h = absurd (let f : ⊥ = cc in f)
has_lines F d (body.General rounds) c h = absurd (let f : ⊥ = cc in f)

accepted : AcceptedReduces Matching
accepted F d form is a =
    let passed = has_passed no_variable F d a.checks in
    let shape = accepted_form no_variable F d a in
    let h = has_lines F d d.body is passed.by_class in
    reduction_of Matching F d is
    (reduces_by Matching F d.kept (assignment_of d.set) form shape.kept (lean_by_rows F d.kept form shape.kept (rows_by_check F d h.rows form h.good_rows))
    (autarky_by_check F d h.own passed.removed h.owners) (exactly_removed F d passed.removed))

pub matching_law : MatchingLaw
matching_law = record {
  lean = λ F d rows f k e. lean_by_rows F d.kept f k (rows_by_check F d rows f e);
  autarky = autarky_by_check;
  kernel = λ F d own rows f k x o e. kernel_by Matching F d.kept (assignment_of d.set) k (lean_by_rows F d.kept f k (rows_by_check F d rows f e))
      (autarky_by_check F d own x o) (exactly_removed F d x);
  accepted = accepted;
}
