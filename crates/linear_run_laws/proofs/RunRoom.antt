-- A move that leads on leaves less room, and more moves than there is room for change nothing.
use Rattle.std.proofs.Common.{◌≡◌, ◌≢◌, inl, inr, ℕ, zero, suc, ◌+◌, ◌<◌, ◌≤◌, Bool, true, false, cond, not, ◌==◌, List, [], ◌∷◌, ◌++◌, filter, length, refl, sym, ap, ◌∙◌, subst, arith, Option, Some, None}
use Rattle.std.specs.List.{list_any}
use Rattle.std.specs.Option.{option_map_or}
use Rattle.std.proofs.lemmas.Bool.{eqb-true, eq-eqb, both_ways}
use Rattle.std.proofs.lemmas.List.FromFn.{length-range_with_len}
use Rattle.lk_model.specs.Lists.{among, is_nonzero}
use Rattle.lk_model.specs.Formulas.Literal.{variable}
use Rattle.lk_model.specs.Formulas.Formula.{Cnf, clause_at, positions_of}
use Rattle.lk_model.specs.Documents.Documents.{weighting_of}
use Rattle.lk_model.specs.Linear.Arithmetic.{first_wide}
use Rattle.lk_model.specs.Linear.Rows.{m_of, start_of}
use Rattle.lk_model.specs.Linear.Pivot.{pivoted, made_in_pivot}
use Rattle.lk_model.specs.Linear.Phases.{NextMove, PivotOn, StageStands, EndsLean, next, stage_of, made_in_stage, unweighted}
use Rattle.lk_model.specs.Linear.Ends.{dual_at_end, units_at_end, made_in_dual, made_in_units}
use Rattle.lk_model.specs.Linear.LinearRun.{LinearEnd, RunDone, RunWide, RunBudget, Moment, Moved, Later, Ended, after_pivot, after_stage, at_end, moved, run_from, linear_run}
use Rattle.lk_model.specs.declared.wide.Wide.{Wide}
use Rattle.lk_model.proofs.Booleans.{or_true}
use Rattle.lk_model.proofs.Lists.{filter_length}
use Rattle.exact_pivot.specs.Reached.{AtStart, ByPivot}
use Rattle.linear_run_laws.specs.MovesLaw.{room, first_moment, IsWithin, IsPassed, AtFirst, ByMove, MovesLaw}
use Rattle.linear_run_laws.proofs.RunStages.{stage_law}
use Rattle.linear_run_laws.proofs.RunMoments.{positions_are}

-- FILTERS

-- fewer where one that is there is left out
filter_fewer : (q : ℕ → Bool) (xs : List ℕ) (p : ℕ) → among xs p ≡ true → q p ≡ false → length (filter q xs) < length xs
filter_fewer q [] p there out = absurd (let f : ⊥ = cc in f)
filter_fewer q (x ∷ xs) p there out = elim (or_true (x == p) (among xs p) there) [
  | inl here ↦ (let most = filter_length q xs in rw (ap q (eqb-true x p here) ∙ out) (omega (arith, most)))
  | inr later ↦ by_test (q x) (filter_fewer q xs p later out)
]
  where
    by_test : (b : Bool) → length (filter q xs) < length xs → length (cond b (x ∷ filter q xs) (filter q xs)) < suc (length xs)
    by_test true h = omega (arith, h)
    by_test false h = omega (arith, h)

-- ONE MOVE

-- a pivot and a stage leave less room
record LeavesLess (F : Cnf) (budget : ℕ) (m later : Moment) : Type 0 where
  within : IsWithin F budget later
  less : room budget later < room budget m

module _ (F : Cnf) (budget : ℕ) where
  -- the pivot is one more, and the clauses are the same
  pivot_less : (m : Moment) (i k : ℕ) → IsWithin F budget m → next m.rows ≡ PivotOn i k → (m.pivots == budget) ≡ false
      → LeavesLess F budget m (record m { pivots = m.pivots + 1; rows = pivoted m.rows i k })
  pivot_less m i k v e other =
      let reached = ByPivot m.rows i k v.reached e in
      let same : m_of (pivoted m.rows i k) ≡ m_of m.rows = ap length (positions_are F v.at (pivoted m.rows i k) reached) ∙ sym (ap length (positions_are F v.at m.rows v.reached)) in
      let left = v.pivots in
      let apart : m.pivots ≢ budget = λ s. both_ways (m.pivots == budget) other (eq-eqb m.pivots budget s) in
      record {
        within = record { at = v.at; reached = reached; pivots = omega (arith, left, apart) };
        less = omega (arith, left, apart, same);
      }

  -- a clause of the rows has a weight, and is taken out
  stage_less : (m : Moment) → IsWithin F budget m → next m.rows ≡ StageStands
      → LeavesLess F budget m (record m { stages = m.stages ++ stage_of m.rows ∷ []; rows = start_of F (unweighted F (stage_of m.rows) m.rows.positions) })
  unfolding start_of unweighted
  stage_less m v e =
      let w = stage_law.touches F v.at m.rows v.reached e in
      let there : among m.rows.positions w.0 ≡ true = subst (λ ps. among ps w.0 ≡ true) (sym (positions_are F v.at m.rows v.reached)) w.1 in
      let fewer = filter_fewer (λ p. not (list_any (λ l. is_nonzero (weighting_of (stage_of m.rows) (variable l))) (clause_at F p))) m.rows.positions w.0 there (ap not w.2) in
      record {
        within = record { at = unweighted F (stage_of m.rows) m.rows.positions; reached = AtStart; pivots = v.pivots };
        less = omega (arith, fewer);
      }

  -- a move that leads on
  moved_less : (m later : Moment) → IsWithin F budget m → moved F budget m ≡ Later later → LeavesLess F budget m later
  unfolding moved
  moved_less m later v e = by_next (next m.rows) refl e
    where
      if_fits : (there : Moment) → LeavesLess F budget m there → (o : Option Wide) → option_map_or (λ w. Ended (RunWide m.pivots w)) o (Later there) ≡ Later later → LeavesLess F budget m later
      if_fits there h None e = let same : there ≡ later = cc in subst (LeavesLess F budget m) same h
      if_fits there h (Some w) e = absurd (let g : ⊥ = cc in g)

      at_budget : (b : Bool) → (m.pivots == budget) ≡ b → (i k : ℕ) → next m.rows ≡ PivotOn i k
          → (elim b as (λ b. Moved) [ true ↦ Ended RunBudget | false ↦ after_pivot m i k ]) ≡ Later later → LeavesLess F budget m later
      at_budget true s i k f e = absurd (let g : ⊥ = cc in g)
      at_budget false s i k f e = if_fits (record m { pivots = m.pivots + 1; rows = pivoted m.rows i k }) (pivot_less m i k v f s) (first_wide (made_in_pivot m.rows i k)) e

      ends : (o : Option Wide) → option_map_or (λ w. Ended (RunWide m.pivots w)) o (Ended (RunDone m.rows.positions m.stages (dual_at_end m.rows) (units_at_end m.rows) m.pivots)) ≡ Later later
          → LeavesLess F budget m later
      ends None e = absurd (let g : ⊥ = cc in g)
      ends (Some w) e = absurd (let g : ⊥ = cc in g)

      by_next : (x : NextMove) → next m.rows ≡ x
          → (elim x as (λ x. Moved) [ PivotOn i k ↦ elim (m.pivots == budget) [ true ↦ Ended RunBudget | false ↦ after_pivot m i k ] | StageStands ↦ after_stage F m | EndsLean ↦ at_end m ]) ≡ Later later
          → LeavesLess F budget m later
      by_next (PivotOn i k) f e = at_budget (m.pivots == budget) refl i k f e
      by_next StageStands f e = if_fits (record m { stages = m.stages ++ stage_of m.rows ∷ []; rows = start_of F (unweighted F (stage_of m.rows) m.rows.positions) }) (stage_less m v f)
          (first_wide (made_in_stage m.rows)) e
      by_next EndsLean f e = ends (first_wide (made_in_dual m.rows ++ made_in_units m.rows)) e

  -- ALL MOVES

  -- two numbers of moves for which there is no more room end alike
  same_end : (a b : ℕ) (m : Moment) → IsWithin F budget m → room budget m ≤ a → room budget m ≤ b → run_from a F budget m ≡ run_from b F budget m
  unfolding run_from
  same_end zero b m v h k = absurd (omega (arith, h))
  same_end (suc a) zero m v h k = absurd (omega (arith, k))
  same_end (suc a) (suc b) m v h k = by_move (moved F budget m) refl (λ l w g o. same_end a b l w g o)
    where
      by_move : (x : Moved) → moved F budget m ≡ x
          → ((l : Moment) → IsWithin F budget l → room budget l ≤ a → room budget l ≤ b → run_from a F budget l ≡ run_from b F budget l)
          → (elim x as (λ x. LinearEnd) [ Later m ↦ run_from a F budget m | Ended end ↦ end ]) ≡ (elim x as (λ x. LinearEnd) [ Later m ↦ run_from b F budget m | Ended end ↦ end ])
      by_move (Later l) e rest = let s = moved_less m l v e in let less = s.less in rest l s.within (omega (arith, less, h)) (omega (arith, less, k))
      by_move (Ended end) e rest = refl

  -- the end that so many moves reach, where there is no more room, is where a move from a moment of the run leads
  abbrev EndsBy : LinearEnd → Type 0
  EndsBy end = (m : Moment) × IsPassed F budget m × (moved F budget m ≡ Ended end)

  ends_from : (a : ℕ) (m : Moment) → IsWithin F budget m → IsPassed F budget m → room budget m ≤ a → EndsBy (run_from a F budget m)
  unfolding run_from
  ends_from zero m v passed h = absurd (omega (arith, h))
  ends_from (suc a) m v passed h = by_move (moved F budget m) refl (λ l w past o. ends_from a l w past o)
    where
      by_move : (x : Moved) → moved F budget m ≡ x → ((l : Moment) → IsWithin F budget l → IsPassed F budget l → room budget l ≤ a → EndsBy (run_from a F budget l))
          → EndsBy (elim x as (λ x. LinearEnd) [ Later m ↦ run_from a F budget m | Ended end ↦ end ])
      by_move (Later l) e rest = let s = moved_less m l v e in let less = s.less in rest l s.within (ByMove m l passed e) (omega (arith, less, h))
      by_move (Ended end) e rest = (m, passed, e)

  -- THE RUN OF THE FORMULA

  -- before the first move no pivot is made
  first_within : IsWithin F budget (first_moment F)
  first_within = record { at = positions_of F; reached = AtStart; pivots = omega arith }

  -- and there is room for each stated pivot, for each clause and for the end
  first_room : room budget (first_moment F) ≤ budget + length F.clauses + 1
  unfolding start_of
  first_room = let clauses = length-range_with_len 1 (length F.clauses) in omega (arith, clauses)

  -- so more moves change nothing
  never_wants : (moves : ℕ) → budget + length F.clauses + 1 ≤ moves → run_from moves F budget (first_moment F) ≡ linear_run F budget
  unfolding linear_run
  never_wants moves enough = let room = first_room in
      same_end moves (budget + length F.clauses + 1) (first_moment F) first_within (omega (arith, room, enough)) room

  -- and the end is one that a move leads to
  ends : EndsBy (linear_run F budget)
  unfolding linear_run
  ends = ends_from (budget + length F.clauses + 1) (first_moment F) first_within AtFirst first_room

-- THE LAW
pub moves_law : MovesLaw
moves_law = record {
  within = λ F budget m later v e. (moved_less F budget m later v e).within;
  less = λ F budget m later v e. (moved_less F budget m later v e).less;
  enough = λ F budget moves m v h. same_end F budget moves (room budget m) m v h (omega arith);
  never_wants = λ F budget moves enough. never_wants F budget moves enough;
  ends = λ F budget. ends F budget;
}
