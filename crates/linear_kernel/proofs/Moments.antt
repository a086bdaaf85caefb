-- The moments of a run: from each of them it ends as the linear run does.
use Rattle.std.proofs.Common.{◌≡◌, ℕ, suc, ◌+◌, ◌-◌, ◌<◌, Bool, true, false, [], ◌∷◌, ◌++◌, ◌==◌, length, sym, ap, ◌∙◌, subst, arith, add-one, Option, Some, None, IsTrue}
use Rattle.std.specs.Option.{option_map_or}
use Rattle.std.proofs.lemmas.List.FromFn.{length-range_with_len}
use Rattle.lk_model.specs.Formulas.Formula.{Cnf, positions_of}
use Rattle.lk_model.specs.Formulas.Lean.{are_positions}
use Rattle.lk_model.specs.Linear.Arithmetic.{first_wide}
use Rattle.lk_model.specs.Linear.Rows.{m_of, start_of}
use Rattle.lk_model.specs.Linear.Pivot.{pivoted, made_in_pivot}
use Rattle.lk_model.specs.Linear.Phases.{NextMove, PivotOn, StageStands, EndsLean, next, stage_of, made_in_stage, unweighted}
use Rattle.lk_model.specs.Linear.Ends.{dual_at_end, units_at_end, made_in_dual, made_in_units}
use Rattle.lk_model.specs.Linear.LinearRun.{LinearEnd, RunDone, RunWide, RunBudget, Moment, Moved, Later, Ended, after_pivot, after_stage, at_end, moved, run_from, linear_run}
use Rattle.lk_model.specs.declared.wide.Wide.{Wide}
use Rattle.lk_model.proofs.Rising.{all_rise}
use Rattle.exact_pivot.specs.Reached.{AtStart}
use Rattle.linear_run_laws.specs.MovesLaw.{room, first_moment, IsWithin}
use Rattle.linear_run_laws.proofs.RunRoom.{moves_law}
use Rattle.linear_kernel.proofs.Weightings.{left_rises}

module _ (F : Cnf) (budget : ℕ) where
  -- positions lead to positions
  moved_rises : (m later : Moment) → are_positions F m.rows.positions ≡ true → moved F budget m ≡ Later later → are_positions F later.rows.positions ≡ true
  unfolding moved pivoted start_of
  moved_rises m later rise e = by_next (next m.rows) e
    where
      if_fits : (there : Moment) → are_positions F there.rows.positions ≡ true → (o : Option Wide) → option_map_or (λ w. Ended (RunWide m.pivots w)) o (Later there) ≡ Later later
          → are_positions F later.rows.positions ≡ true
      if_fits there h None e = let same : there ≡ later = cc in subst (λ (x : Moment). are_positions F x.rows.positions ≡ true) same h
      if_fits there h (Some w) e = absurd (let g : ⊥ = cc in g)

      at_budget : (b : Bool) (i k : ℕ) → (elim b as (λ b. Moved) [ true ↦ Ended RunBudget | false ↦ after_pivot m i k ]) ≡ Later later → are_positions F later.rows.positions ≡ true
      at_budget true i k e = absurd (let g : ⊥ = cc in g)
      at_budget false i k e = if_fits (record m { pivots = m.pivots + 1; rows = pivoted m.rows i k }) rise (first_wide (made_in_pivot m.rows i k)) e

      ends : (o : Option Wide) → option_map_or (λ w. Ended (RunWide m.pivots w)) o (Ended (RunDone m.rows.positions m.stages (dual_at_end m.rows) (units_at_end m.rows) m.pivots)) ≡ Later later
          → are_positions F later.rows.positions ≡ true
      ends None e = absurd (let g : ⊥ = cc in g)
      ends (Some w) e = absurd (let g : ⊥ = cc in g)

      by_next : (x : NextMove)
          → (elim x as (λ x. Moved) [ PivotOn i k ↦ elim (m.pivots == budget) [ true ↦ Ended RunBudget | false ↦ after_pivot m i k ] | StageStands ↦ after_stage F m | EndsLean ↦ at_end m ]) ≡ Later later
          → are_positions F later.rows.positions ≡ true
      by_next (PivotOn i k) e = at_budget (m.pivots == budget) i k e
      by_next StageStands e = if_fits (record m { stages = m.stages ++ stage_of m.rows ∷ []; rows = start_of F (unweighted F (stage_of m.rows) m.rows.positions) })
          (left_rises F (stage_of m.rows) m.rows.positions rise) (first_wide (made_in_stage m.rows)) e
      by_next EndsLean e = ends (first_wide (made_in_dual m.rows ++ made_in_units m.rows)) e

-- the moves from a moment for which there is room lead where the linear run ends
pub record GoesOn (F : Cnf) (budget : ℕ) (m : Moment) : Type 0 where
  pub within : IsWithin F budget m
  pub positions : IsTrue (are_positions F m.rows.positions)
  pub same : run_from (room budget m) F budget m ≡ linear_run F budget

module _ (F : Cnf) (budget : ℕ) where
  -- so it is before the first move
  pub goes_first : GoesOn F budget (first_moment F)
  unfolding start_of linear_run
  goes_first = record {
    within = within;
    positions = all_rise F;
    same = sym (moves_law.enough F budget (budget + length F.clauses + 1) (first_moment F) within (let clauses = length-range_with_len 1 (length F.clauses) in omega (arith, clauses)));
  }
    where
      within : IsWithin F budget (first_moment F)
      within = record { at = positions_of F; reached = AtStart; pivots = omega arith }

  -- one move of several
  move_on : (moves : ℕ) (m later : Moment) → moved F budget m ≡ Later later → run_from (suc moves) F budget m ≡ run_from moves F budget later
  unfolding run_from
  move_on moves m later e = ap (λ x. elim x as (λ x. LinearEnd) [ Later m ↦ run_from moves F budget m | Ended end ↦ end ]) e

  move_last : (moves : ℕ) (m : Moment) (end : LinearEnd) → moved F budget m ≡ Ended end → run_from (suc moves) F budget m ≡ end
  unfolding run_from
  move_last moves m end e = ap (λ x. elim x as (λ x. LinearEnd) [ Later m ↦ run_from moves F budget m | Ended end ↦ end ]) e

  -- and at a later moment, where there is less room
  pub goes_later : (m later : Moment) → GoesOn F budget m → moved F budget m ≡ Later later → GoesOn F budget later
  goes_later m later g e =
      let moves = budget - m.pivots + m_of m.rows in
      let within = moves_law.within F budget m later g.within e in
      let less = moves_law.less F budget m later g.within e in
      let here : room budget m ≡ suc moves = add-one moves in
      record {
        within = within;
        positions = moved_rises F budget m later g.positions e;
        same = sym (moves_law.enough F budget moves later within (omega (arith, less)))
            ∙ sym (move_on moves m later e) ∙ ap (λ n. run_from n F budget m) (sym here) ∙ g.same;
      }

  pub less_room : (m later : Moment) → GoesOn F budget m → moved F budget m ≡ Later later → room budget later < room budget m
  less_room m later g e = moves_law.less F budget m later g.within e

  -- where a move ends it, the linear run ends
  pub ends_as : (m : Moment) (end : LinearEnd) → GoesOn F budget m → moved F budget m ≡ Ended end → linear_run F budget ≡ end
  ends_as m end g e =
      let moves = budget - m.pivots + m_of m.rows in
      let here : room budget m ≡ suc moves = add-one moves in
      sym g.same ∙ ap (λ n. run_from n F budget m) here ∙ move_last moves m end e
