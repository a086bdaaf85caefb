-- The stages of the linear run weigh only variables that occur, and so none of P in the run on the formula without P.
use Rattle.std.proofs.Common.{◌≡◌, ℕ, zero, suc, Bool, true, false, ◌==◌, List, [], ◌∷◌, ◌++◌, map, filter, find, zip, refl, ◌∙◌, ap, subst, inl, inr, ℤ, pos, Option, Some, None, length}
use Rattle.std.specs.Prelude.{⊤, ◌+◌, ◌*ℤ◌}
use Rattle.std.specs.Option.{option_map_or}
use Rattle.std.proofs.lemmas.Bool.{cases_Bool, both_ways}
use Rattle.lk_model.specs.Lists.{among, is_nonzero, up_to}
use Rattle.lk_model.specs.Formulas.Formula.{Cnf, positions_of, variables_to, variable_occurs}
use Rattle.lk_model.specs.Formulas.Crossed.{Variables}
use Rattle.lk_model.specs.Formulas.Autarky.{first_sign}
use Rattle.lk_model.specs.Documents.Documents.{weighting_of}
use Rattle.lk_model.specs.Linear.Arithmetic.{primitive, first_wide}
use Rattle.lk_model.specs.Linear.Rows.{TableauRows, sign_at, r_of, start_of}
use Rattle.lk_model.specs.Linear.Pivot.{pivoted, made_in_pivot}
use Rattle.lk_model.specs.Linear.Phases.{NextMove, PivotOn, StageStands, EndsLean, next, stage_entry, stage_of, made_in_stage, unweighted}
use Rattle.lk_model.specs.Linear.Ends.{dual_at_end, units_at_end, made_in_dual, made_in_units}
use Rattle.lk_model.specs.Linear.LinearRun.{LinearEnd, RunDone, RunWide, RunBudget, Moment, Moved, Later, Ended, unless_wide, after_pivot, after_stage, at_end, moved, run_from, linear_run}
use Rattle.lk_model.specs.declared.wide.Wide.{Wide}
use Rattle.lk_model.specs.declared.document.Weight.{Weight}
use Rattle.lk_model.specs.declared.document.Stage.{Stage}
use Rattle.lk_model.specs.declared.document.Dual.{Dual}
use Rattle.lk_model.specs.declared.document.Unit.{Unit}
use Rattle.lk_model.proofs.Booleans.{or_false}
use Rattle.lk_model.proofs.Counting.{from_filter}
use Rattle.document_laws.proofs.Autarkies.{sign_before}

-- a set of variables of which none occurs at any positions
abbrev NoneOccurs : Cnf → Variables → Type 0
NoneOccurs F P = (ps : List ℕ) (v : ℕ) → P v ≡ true → variable_occurs F ps v ≡ false

-- rows of none of these variables, and stages that weigh none of them
abbrev AreOff : Variables → TableauRows → Type 0
AreOff P t = (v : ℕ) → P v ≡ true → among t.vars v ≡ false

abbrev WeighNone : Variables → List Stage → Type 0
WeighNone P [] = ⊤
WeighNone P (s ∷ stages) = ((v : ℕ) → P v ≡ true → weighting_of s v ≡ pos 0) × WeighNone P stages

-- one stage more
weigh_more : (P : Variables) (stages : List Stage) (s : Stage) → WeighNone P stages → ((v : ℕ) → P v ≡ true → weighting_of s v ≡ pos 0) → WeighNone P (stages ++ s ∷ [])
weigh_more P [] s h k = (k, tt)
weigh_more P (r ∷ stages) s h k = (h.0, weigh_more P stages s h.1 k)

-- they give none of these variables a sign
pub no_signs : (P : Variables) (stages : List Stage) → WeighNone P stages → (v : ℕ) → P v ≡ true → first_sign (map weighting_of stages) v ≡ None
no_signs P [] h v y = refl
no_signs P (s ∷ stages) h v y = ap (λ z. sign_before z (first_sign (map weighting_of stages) v)) (h.0 v y) ∙ no_signs P stages h.1 v y

-- THE MOVES

-- the rows for some positions
start_off : (F : Cnf) (P : Variables) (S : List ℕ) → NoneOccurs F P → AreOff P (start_of F S)
unfolding start_of
start_off F P S none v y = elim (cases_Bool (among (filter (variable_occurs F S) (variables_to F.vars)) v)) [
  | inl m ↦ absurd (both_ways (variable_occurs F S v) (none S v y) (from_filter (variable_occurs F S) (variables_to F.vars) v m).0)
  | inr n ↦ n
]

-- a pivot leaves the variables
pivot_off : (P : Variables) (t : TableauRows) (i k : ℕ) → AreOff P t → AreOff P (pivoted t i k)
unfolding pivoted
pivot_off P t i k off = off

-- weights on variables of a list are found for no other one
no_weight : (vs : List ℕ) (xs : List ℤ) (v : ℕ) → among vs v ≡ false
    → find (λ (w : Weight). w.var == v) (filter (λ (w : Weight). is_nonzero w.x) (map (λ (entry : ℕ × ℤ). let w : Weight = record { var = entry.0; x = entry.1 } in w) (zip vs xs))) ≡ None
no_weight [] xs v e = refl
no_weight (u ∷ vs) [] v e = refl
no_weight (u ∷ vs) (x ∷ xs) v e =
    let both = or_false (u == v) (among vs v) e in
    elim (cases_Bool (is_nonzero x)) [
      | inl y ↦ rw (y, both.0) (no_weight vs xs v both.1)
      | inr n ↦ rw n (no_weight vs xs v both.1)
    ]

-- so a stage weighs only variables of its rows
stage_off : (P : Variables) (t : TableauRows) → AreOff P t → (v : ℕ) → P v ≡ true → weighting_of (stage_of t) v ≡ pos 0
unfolding stage_of
stage_off P t off v y =
    ap (λ (o : Option Weight). option_map_or (λ (w : Weight). w.x) o (pos 0))
    (no_weight t.vars (primitive (map (λ j. sign_at t j *ℤ stage_entry t j) (up_to (r_of t)))) v (off v y))

-- THE RUN

-- a moment with such rows and stages
record IsOffAt (P : Variables) (m : Moment) : Type 0 where
  rows : AreOff P m.rows
  stages : WeighNone P m.stages

-- an end with such stages
abbrev EndsOff : Variables → LinearEnd → Type 0
EndsOff P (RunDone ps stages dual units made) = WeighNone P stages
EndsOff P (RunWide pivots w) = ⊤
EndsOff P RunBudget = ⊤

abbrev LeadsOff : Variables → Moved → Type 0
LeadsOff P (Later m) = IsOffAt P m
LeadsOff P (Ended end) = EndsOff P end

-- a result that is too wide ends the run without stages
unless_off : (P : Variables) (results : List Wide) (pivots : ℕ) (there : Moved) → LeadsOff P there → LeadsOff P (unless_wide results pivots there)
unless_off P results pivots there h = at_first (first_wide results)
  where
    at_first : (o : Option Wide) → LeadsOff P (option_map_or (λ w. Ended (RunWide pivots w)) o there)
    at_first None = h
    at_first (Some w) = tt

-- each move keeps to it
move_off : (F : Cnf) (P : Variables) (budget : ℕ) (m : Moment) → NoneOccurs F P → IsOffAt P m → LeadsOff P (moved F budget m)
unfolding moved
move_off F P budget m none off = at_next (next m.rows)
  where
    at_pivot : (i k : ℕ) (b : Bool) → LeadsOff P (elim b [ true ↦ Ended RunBudget | false ↦ after_pivot m i k ])
    at_pivot i k true = tt
    at_pivot i k false = unless_off P (made_in_pivot m.rows i k) m.pivots (Later (record m { pivots = m.pivots + 1; rows = pivoted m.rows i k }))
        (record { rows = pivot_off P m.rows i k off.rows; stages = off.stages })

    at_next : (n : NextMove) → LeadsOff P (elim n [
      | PivotOn i k ↦ elim (m.pivots == budget) [ true ↦ Ended RunBudget | false ↦ after_pivot m i k ]
      | StageStands ↦ after_stage F m
      | EndsLean ↦ at_end m
    ])
    at_next (PivotOn i k) = at_pivot i k (m.pivots == budget)
    at_next StageStands = unless_off P (made_in_stage m.rows) m.pivots
        (Later (record m { stages = m.stages ++ stage_of m.rows ∷ []; rows = start_of F (unweighted F (stage_of m.rows) m.rows.positions) }))
        (record { rows = start_off F P (unweighted F (stage_of m.rows) m.rows.positions) none; stages = weigh_more P m.stages (stage_of m.rows) off.stages (stage_off P m.rows off.rows) })
    at_next EndsLean = unless_off P (made_in_dual m.rows ++ made_in_units m.rows) m.pivots
        (Ended (RunDone m.rows.positions m.stages (dual_at_end m.rows) (units_at_end m.rows) m.pivots)) off.stages

-- so does the run
run_off : (moves : ℕ) (F : Cnf) (P : Variables) (budget : ℕ) (m : Moment) → NoneOccurs F P → IsOffAt P m → EndsOff P (run_from moves F budget m)
unfolding run_from
run_off zero F P budget m none off = tt
run_off (suc moves) F P budget m none off = at_move (moved F budget m) (move_off F P budget m none off) (λ m off. run_off moves F P budget m none off)
  where
    at_move : (x : Moved) → LeadsOff P x → ((m : Moment) → IsOffAt P m → EndsOff P (run_from moves F budget m))
        → EndsOff P (elim x [ Later m ↦ run_from moves F budget m | Ended end ↦ end ])
    at_move (Later m) off rest = rest m off
    at_move (Ended end) off rest = off

-- the stages of a whole run weigh none of the variables
pub stages_off : (F : Cnf) (P : Variables) (pivots : ℕ) (kept : List ℕ) (stages : List Stage) (dual : List Dual) (units : List Unit) (made : ℕ) → NoneOccurs F P
    → linear_run F pivots ≡ RunDone kept stages dual units made → WeighNone P stages
unfolding linear_run
stages_off F P pivots kept stages dual units made none e =
    subst (λ (end : LinearEnd). EndsOff P end) e
    (run_off (pivots + length F.clauses + 1) F P pivots (record { pivots = 0; stages = []; rows = start_of F (positions_of F) }) none
    (record { rows = start_off F P (positions_of F) none; stages = tt }))
