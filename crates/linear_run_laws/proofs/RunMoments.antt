-- What holds at each moment of a run, and at its end.
use Rattle.std.proofs.Common.{◌≡◌, inl, inr, ℕ, zero, suc, ◌+◌, ◌≤◌, Bool, true, false, cond, not, ◌&&◌, ◌==◌, List, [], ◌∷◌, ◌++◌, map, filter, length, ℤ, pos, ◌≤ℤ◌, refl, sym, ap, ◌∙◌, subst, arith, Option, Some, None, is_some, IsTrue}
use Rattle.std.specs.Prelude.{IfSome}
use Rattle.std.specs.List.{list_any, list_all}
use Rattle.std.specs.Option.{option_or, option_map_or}
use Rattle.std.proofs.lemmas.Bool.{cases_Bool}
use Rattle.lk_model.specs.Lists.{among, is_nonzero}
use Rattle.lk_model.specs.Formulas.Literal.{variable}
use Rattle.lk_model.specs.Formulas.Formula.{Cnf, clause_at, is_formula, IsWithinLimits, positions_of}
use Rattle.lk_model.specs.Formulas.Balance.{Weighting, balance}
use Rattle.lk_model.specs.Formulas.Autarky.{first_balance}
use Rattle.lk_model.specs.Formulas.Lean.{all_of, are_positions}
use Rattle.lk_model.specs.Documents.Documents.{weighting_of}
use Rattle.lk_model.specs.Linear.Arithmetic.{first_wide}
use Rattle.lk_model.specs.Linear.Rows.{TableauRows, start_of}
use Rattle.lk_model.specs.Linear.Pivot.{pivoted, made_in_pivot}
use Rattle.lk_model.specs.Linear.Phases.{NextMove, PivotOn, StageStands, EndsLean, next, stage_of, made_in_stage, unweighted}
use Rattle.lk_model.specs.Linear.Ends.{dual_at_end, units_at_end, made_in_dual, made_in_units}
use Rattle.lk_model.specs.Linear.LinearRun.{LinearEnd, RunDone, RunWide, RunBudget, Moment, Moved, Later, Ended, after_pivot, after_stage, at_end, moved, run_from, linear_run}
use Rattle.lk_model.specs.Documents.Form.{is_stage}
use Rattle.lk_model.specs.declared.wide.Wide.{Wide}
use Rattle.lk_model.specs.declared.document.Stage.{Stage}
use Rattle.lk_model.specs.declared.document.Dual.{Dual}
use Rattle.lk_model.specs.declared.document.Unit.{Unit}
use Rattle.lk_model.proofs.Booleans.{and_true}
use Rattle.lk_model.proofs.Counting.{among-filter}
use Rattle.lk_model.proofs.Founds.{filtered_rise}
use Rattle.kernel_laws.proofs.Occurrences.{in_positions}
use Rattle.lk_model.proofs.Rising.{rising_count}
use Rattle.exact_pivot.specs.Reached.{IsReached, AtStart, ByPivot}
use Rattle.exact_pivot.proofs.ReachedRows.{reached_rows, leaving_rows}
use Rattle.kernel_laws.proofs.LinearAutarkies.{balance_append}
use Rattle.linear_run_laws.proofs.RunRows.{shaped}
use Rattle.linear_run_laws.proofs.RunStages.{stage_law, reached_form}
use Rattle.linear_run_laws.proofs.StageForms.{stage_form}
use Rattle.linear_run_laws.proofs.Ranges.{RowsInRange, pivot_in_range, start_in_range}

-- STAGES SO FAR

-- the weightings of stages
abbrev pub weightings : List Stage → List Weighting
weightings stages = map weighting_of stages

-- no stage so far has a weight on the clause
abbrev pub is_left : Cnf → List Stage → ℕ → Bool
is_left F stages p = not (is_some (first_balance (weightings stages) (clause_at F p)))

-- The stages are in form, no first balance is below 0, and S is what they leave.
pub record Begun (F : Cnf) (stages : List Stage) (S : List ℕ) : Type 0 where
  pub left : S ≡ filter (is_left F stages) (positions_of F)
  pub balances : (p : ℕ) → IsTrue (all_of F p) → IfSome (first_balance (weightings stages) (clause_at F p)) (λ b. pos 0 ≤ℤ b)
  pub form : list_all (is_stage F.vars) stages ≡ true

-- a filter that all pass
filter_all : (xs : List ℕ) → filter (λ p. true) xs ≡ xs
filter_all [] = refl
filter_all (x ∷ xs) = λ i. x ∷ filter_all xs i

-- at first there is no stage, and all positions are left
pub begun_first : (F : Cnf) → Begun F [] (positions_of F)
begun_first F = record { left = sym (filter_all (positions_of F)); balances = λ p there. tt; form = refl }

-- what is left of what was left
filter_twice : (p q r : ℕ → Bool) (xs : List ℕ) → ((x : ℕ) → (q x && p x) ≡ r x) → filter p (filter q xs) ≡ filter r xs
filter_twice p q r [] e = refl
filter_twice p q r (x ∷ xs) e = elim (cases_Bool (q x)) [
  | inl y ↦ (let same : r x ≡ p x = sym (e x) ∙ rw y refl in elim (cases_Bool (p x)) [
    | inl z ↦ rw (y, same, z) (ap (λ ys. x ∷ ys) (filter_twice p q r xs e))
    | inr z ↦ rw (y, same, z) (filter_twice p q r xs e)
  ])
  | inr n ↦ (let same : r x ≡ false = sym (e x) ∙ rw n refl in rw (n, same) (filter_twice p q r xs e))
]

-- one stage more
weightings_more : (stages : List Stage) (s : Stage) → weightings (stages ++ s ∷ []) ≡ weightings stages ++ weighting_of s ∷ []
weightings_more [] s = refl
weightings_more (u ∷ stages) s = λ i. weighting_of u ∷ weightings_more stages s i

-- one stage in form more
forms_more : (n : ℕ) (stages : List Stage) (s : Stage) → list_all (is_stage n) stages ≡ true → is_stage n s ≡ true → list_all (is_stage n) (stages ++ s ∷ []) ≡ true
forms_more n [] s h k = rw k refl
forms_more n (u ∷ stages) s h k = let both = and_true (is_stage n u) (list_all (is_stage n) stages) h in rw (both.0, forms_more n stages s both.1 k) refl

-- a position that the stages leave
left_there : (F : Cnf) (stages : List Stage) (S : List ℕ) → Begun F stages S → (p : ℕ) → IsTrue (all_of F p) → first_balance (weightings stages) (clause_at F p) ≡ None → among S p ≡ true
left_there F stages S b p inside none = ap (λ ps. among ps p) b.left ∙ among-filter (is_left F stages) (positions_of F) p ∙ rw (none, in_positions F p inside) refl

-- one stage more takes its clauses out
pub begun_more : (F : Cnf) (stages : List Stage) (S : List ℕ) (s : Stage) → Begun F stages S → is_stage F.vars s ≡ true
    → ((p : ℕ) → IsTrue (among S p) → pos 0 ≤ℤ balance (weighting_of s) (clause_at F p)) → Begun F (stages ++ s ∷ []) (unweighted F s S)
unfolding unweighted
begun_more F stages S s b form least = record {
  left = ap (filter touched) b.left ∙ filter_twice touched (is_left F stages) (is_left F (stages ++ s ∷ [])) (positions_of F)
      (λ p. both (first_balance (weightings stages) (clause_at F p)) (list_any (λ l. is_nonzero (weighting_of s (variable l))) (clause_at F p)) (balance (weighting_of s) (clause_at F p))
      ∙ ap (λ o. not (is_some o)) (sym (whole p)));
  balances = λ p inside. subst (λ o. IfSome o (λ b. pos 0 ≤ℤ b)) (sym (whole p)) (by_first p inside (first_balance (weightings stages) (clause_at F p)) refl (b.balances p inside));
  form = forms_more F.vars stages s b.form form;
}
  where
    touched : ℕ → Bool
    touched p = not (list_any (λ l. is_nonzero (weighting_of s (variable l))) (clause_at F p))

    later : ℕ → Option ℤ
    later p = cond (list_any (λ l. is_nonzero (weighting_of s (variable l))) (clause_at F p)) (Some (balance (weighting_of s) (clause_at F p))) None

    whole : (p : ℕ) → first_balance (weightings (stages ++ s ∷ [])) (clause_at F p) ≡ option_or (first_balance (weightings stages) (clause_at F p)) (later p)
    whole p = ap (λ ws. first_balance ws (clause_at F p)) (weightings_more stages s) ∙ balance_append (weightings stages) (weighting_of s ∷ []) (clause_at F p)

    both : (o : Option ℤ) (c : Bool) (y : ℤ) → (not (is_some o) && not c) ≡ not (is_some (option_or o (cond c (Some y) None)))
    both None true y = refl
    both None false y = refl
    both (Some x) c y = refl

    of_later : (c : Bool) (y : ℤ) → pos 0 ≤ℤ y → IfSome (cond c (Some y) None) (λ b. pos 0 ≤ℤ b)
    of_later true y h = h
    of_later false y h = tt

    by_first : (p : ℕ) → IsTrue (all_of F p) → (o : Option ℤ) → first_balance (weightings stages) (clause_at F p) ≡ o → IfSome o (λ b. pos 0 ≤ℤ b) → IfSome (option_or o (later p)) (λ b. pos 0 ≤ℤ b)
    by_first p inside None e h = of_later (list_any (λ l. is_nonzero (weighting_of s (variable l))) (clause_at F p)) (balance (weighting_of s) (clause_at F p)) (least p (left_there F stages S b p inside e))
    by_first p inside (Some x) e h = h

-- MOMENTS

-- the rows are reached for what the stages leave, and in range
pub record IsMoment (F : Cnf) (m : Moment) : Type 0 where
  pub S : List ℕ
  pub reached : IsReached F S m.rows
  pub begun : Begun F m.stages S
  pub ranges : RowsInRange m.rows

-- what the run ends with: the numbers of rows for the kept positions at which it ends lean
pub record IsFinal (F : Cnf) (kept : List ℕ) (stages : List Stage) (dual : List Dual) (units : List Unit) : Type 0 where
  pub rows : TableauRows
  pub reached : IsReached F kept rows
  pub ends : next rows ≡ EndsLean
  pub begun : Begun F stages kept
  pub dual_is : dual ≡ dual_at_end rows
  pub units_is : units ≡ units_at_end rows
  pub fits : first_wide (made_in_dual rows ++ made_in_units rows) ≡ None

-- what the stages leave are positions, and no more than there are
pub left_rises : (F : Cnf) (stages : List Stage) (S : List ℕ) → Begun F stages S → are_positions F S ≡ true
left_rises F stages S b = subst (λ ps. are_positions F ps ≡ true) (sym b.left) (filtered_rise (length F.clauses) (is_left F stages))

-- no more than the limit
left_few : (F : Cnf) (stages : List Stage) (S : List ℕ) → IsWithinLimits F → Begun F stages S → length S ≤ 4_000_000
left_few F stages S limits b =
    let most = limits.clauses in
    let count = rising_count 0 (length F.clauses) S (left_rises F stages S b) (omega arith) in
    omega (arith, most, count)

-- the positions of rows are those that they are reached for
pub positions_are : (F : Cnf) (S : List ℕ) (t : TableauRows) → IsReached F S t → t.positions ≡ S
positions_are F S t reached = ap (λ (t : TableauRows). t.positions) (shaped F S t (reached_rows F S t reached))

module _ (F : Cnf) (form : is_formula F ≡ true) (limits : IsWithinLimits F) (budget : ℕ) where
  -- a stage of a moment
  after_stage_is : (m : Moment) → (v : IsMoment F m) → next m.rows ≡ StageStands → first_wide (made_in_stage m.rows) ≡ None
      → IsMoment F (record m { stages = m.stages ++ stage_of m.rows ∷ []; rows = start_of F (unweighted F (stage_of m.rows) m.rows.positions) })
  after_stage_is m v e fits =
      let shape : is_stage F.vars (stage_of m.rows) ≡ true =
      reached_form F v.S (λ t. RowsInRange t → first_wide (made_in_stage t) ≡ None → next t ≡ StageStands → is_stage F.vars (stage_of t) ≡ true)
      (λ rows cost r. stage_form F v.S rows cost) m.rows (reached_rows F v.S m.rows v.reached) v.ranges fits e in
      let more = begun_more F m.stages v.S (stage_of m.rows) v.begun shape (stage_law.balances F v.S m.rows form v.reached e) in
      let next_S = unweighted F (stage_of m.rows) v.S in
      subst (λ S. IsMoment F (record m { stages = m.stages ++ stage_of m.rows ∷ []; rows = start_of F (unweighted F (stage_of m.rows) S) })) (sym (positions_are F v.S m.rows v.reached))
      (record { S = next_S; reached = AtStart; begun = more; ranges = start_in_range F next_S (left_few F (m.stages ++ stage_of m.rows ∷ []) next_S limits more) })

  -- where a move leads
  moment_later : (m later : Moment) → IsMoment F m → moved F budget m ≡ Later later → IsMoment F later
  unfolding moved
  moment_later m later v e = by_next (next m.rows) refl e
    where
      if_fits : (ws : List Wide) (there : Moment) → (first_wide ws ≡ None → IsMoment F there) → (o : Option Wide) → first_wide ws ≡ o
          → option_map_or (λ w. Ended (RunWide m.pivots w)) o (Later there) ≡ Later later → IsMoment F later
      if_fits ws there h None f e = let same : there ≡ later = cc in subst (IsMoment F) same (h f)
      if_fits ws there h (Some w) f e = absurd (let g : ⊥ = cc in g)

      pivot : (i k : ℕ) → next m.rows ≡ PivotOn i k → first_wide (made_in_pivot m.rows i k) ≡ None → IsMoment F (record m { pivots = m.pivots + 1; rows = pivoted m.rows i k })
      pivot i k f fits = record {
        S = v.S;
        reached = ByPivot m.rows i k v.reached f;
        begun = v.begun;
        ranges = pivot_in_range m.rows i k (leaving_rows.pivots F v.S m.rows i k v.reached f).row v.ranges fits;
      }

      at_budget : (b : Bool) (i k : ℕ) → next m.rows ≡ PivotOn i k → (elim b as (λ b. Moved) [ true ↦ Ended RunBudget | false ↦ after_pivot m i k ]) ≡ Later later → IsMoment F later
      at_budget true i k f e = absurd (let g : ⊥ = cc in g)
      at_budget false i k f e = if_fits (made_in_pivot m.rows i k) (record m { pivots = m.pivots + 1; rows = pivoted m.rows i k }) (pivot i k f) (first_wide (made_in_pivot m.rows i k)) refl e

      ends : (o : Option Wide) → option_map_or (λ w. Ended (RunWide m.pivots w)) o (Ended (RunDone m.rows.positions m.stages (dual_at_end m.rows) (units_at_end m.rows) m.pivots)) ≡ Later later → IsMoment F later
      ends None e = absurd (let g : ⊥ = cc in g)
      ends (Some w) e = absurd (let g : ⊥ = cc in g)

      by_next : (x : NextMove) → next m.rows ≡ x
          → (elim x as (λ x. Moved) [ PivotOn i k ↦ elim (m.pivots == budget) [ true ↦ Ended RunBudget | false ↦ after_pivot m i k ] | StageStands ↦ after_stage F m | EndsLean ↦ at_end m ]) ≡ Later later
          → IsMoment F later
      by_next (PivotOn i k) f e = at_budget (m.pivots == budget) i k f e
      by_next StageStands f e = if_fits (made_in_stage m.rows) (record m { stages = m.stages ++ stage_of m.rows ∷ []; rows = start_of F (unweighted F (stage_of m.rows) m.rows.positions) })
          (after_stage_is m v f) (first_wide (made_in_stage m.rows)) refl e
      by_next EndsLean f e = ends (first_wide (made_in_dual m.rows ++ made_in_units m.rows)) e

  module _ (kept : List ℕ) (stages : List Stage) (dual : List Dual) (units : List Unit) (made : ℕ) where
    -- how a move ends the run
    moment_ends : (m : Moment) → IsMoment F m → moved F budget m ≡ Ended (RunDone kept stages dual units made) → IsFinal F kept stages dual units
    unfolding moved
    moment_ends m v e = by_next (next m.rows) refl e
      where
        never : (there : Moment) (o : Option Wide) → option_map_or (λ w. Ended (RunWide m.pivots w)) o (Later there) ≡ Ended (RunDone kept stages dual units made) → IsFinal F kept stages dual units
        never there None e = absurd (let g : ⊥ = cc in g)
        never there (Some w) e = absurd (let g : ⊥ = cc in g)

        at_budget : (b : Bool) (i k : ℕ) → (elim b as (λ b. Moved) [ true ↦ Ended RunBudget | false ↦ after_pivot m i k ]) ≡ Ended (RunDone kept stages dual units made) → IsFinal F kept stages dual units
        at_budget true i k e = absurd (let g : ⊥ = cc in g)
        at_budget false i k e = never (record m { pivots = m.pivots + 1; rows = pivoted m.rows i k }) (first_wide (made_in_pivot m.rows i k)) e

        ends : next m.rows ≡ EndsLean → (o : Option Wide) → first_wide (made_in_dual m.rows ++ made_in_units m.rows) ≡ o
            → option_map_or (λ w. Ended (RunWide m.pivots w)) o (Ended (RunDone m.rows.positions m.stages (dual_at_end m.rows) (units_at_end m.rows) m.pivots)) ≡ Ended (RunDone kept stages dual units made)
            → IsFinal F kept stages dual units
        ends f None g e =
            let positions : m.rows.positions ≡ kept = cc in
            let same : v.S ≡ kept = sym (positions_are F v.S m.rows v.reached) ∙ positions in
            let stages_are : m.stages ≡ stages = cc in
            record {
              rows = m.rows;
              reached = subst (λ S. IsReached F S m.rows) same v.reached;
              ends = f;
              begun = subst (λ S. Begun F stages S) same (subst (λ ss. Begun F ss v.S) stages_are v.begun);
              dual_is = cc;
              units_is = cc;
              fits = g;
            }
        ends f (Some w) g e = absurd (let h : ⊥ = cc in h)

        by_next : (x : NextMove) → next m.rows ≡ x
            → (elim x as (λ x. Moved) [ PivotOn i k ↦ elim (m.pivots == budget) [ true ↦ Ended RunBudget | false ↦ after_pivot m i k ] | StageStands ↦ after_stage F m | EndsLean ↦ at_end m ]) ≡ Ended (RunDone kept stages dual units made)
            → IsFinal F kept stages dual units
        by_next (PivotOn i k) f e = at_budget (m.pivots == budget) i k e
        by_next StageStands f e = never (record m { stages = m.stages ++ stage_of m.rows ∷ []; rows = start_of F (unweighted F (stage_of m.rows) m.rows.positions) }) (first_wide (made_in_stage m.rows)) e
        by_next EndsLean f e = ends f (first_wide (made_in_dual m.rows ++ made_in_units m.rows)) refl e

    run_final : (moves : ℕ) (m : Moment) → IsMoment F m → run_from moves F budget m ≡ RunDone kept stages dual units made → IsFinal F kept stages dual units
    unfolding run_from
    run_final zero m v e = absurd (let g : ⊥ = cc in g)
    run_final (suc moves) m v e = by_move (moved F budget m) refl e (λ l w f. run_final moves l w f)
      where
        by_move : (x : Moved) → moved F budget m ≡ x → (elim x as (λ x. LinearEnd) [ Later m ↦ run_from moves F budget m | Ended end ↦ end ]) ≡ RunDone kept stages dual units made
            → ((l : Moment) → IsMoment F l → run_from moves F budget l ≡ RunDone kept stages dual units made → IsFinal F kept stages dual units) → IsFinal F kept stages dual units
        by_move (Later l) f e rest = rest l (moment_later m l v f) e
        by_move (Ended end) f e rest = moment_ends m v (f ∙ ap Ended e)

    -- THE WHOLE RUN
    pub run_ends : linear_run F budget ≡ RunDone kept stages dual units made → IsFinal F kept stages dual units
    unfolding linear_run
    run_ends e = run_final (budget + length F.clauses + 1) (record { pivots = 0; stages = []; rows = start_of F (positions_of F) })
        (record { S = positions_of F; reached = AtStart; begun = begun_first F; ranges = start_in_range F (positions_of F) (left_few F [] (positions_of F) limits (begun_first F)) }) e
