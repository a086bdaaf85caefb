-- The stages of a run that is not too wide are in form.
use Rattle.std.proofs.Common.{◌≡◌, inl, inr, ℕ, suc, ◌+◌, ◌-◌, ◌<◌, ◌≤◌, true, List, [], ◌∷◌, map, length, ℤ, pos, ◌*ℤ◌, refl, sym, subst, arith, None}
use Rattle.std.specs.List.{list_all}
use Rattle.std.proofs.lemmas.Bool.{cases_Bool, lt-ltb, le-leb}
use Rattle.std.proofs.lemmas.List.FromFn.{get_or-map-range_with_len, length-map-range_with_len}
use Rattle.lk_model.specs.Lists.{up_to, is_nonzero, rises_within}
use Rattle.lk_model.specs.Limits.{is_in_range}
use Rattle.lk_model.specs.Formulas.Formula.{Cnf, variables_at, variable_occurs}
use Rattle.lk_model.specs.Linear.Arithmetic.{primitive, first_wide, made}
use Rattle.lk_model.specs.Linear.Rows.{Row, TableauRows, entry, sign_at, unit_column, artificial}
use Rattle.lk_model.specs.Linear.Phases.{StageStands, next, stage_entry, stage_of, made_in_stage}
use Rattle.lk_model.specs.Documents.Form.{is_stage, is_weight}
use Rattle.lk_model.specs.declared.wide.Op.TheVariants.{Difference}
use Rattle.lk_model.specs.declared.document.Weight.{Weight}
use Rattle.lk_model.proofs.Rising.{rises, rises_from}
use Rattle.lk_model.proofs.Founds.{filtered_rise}
use Rattle.kernel_laws.proofs.Lines.{map_in}
use Rattle.linear_run_laws.proofs.StartRows.{sign, sign_one, sign_entry, var_at}
use Rattle.linear_run_laws.proofs.RunRows.{rows_with}
use Rattle.linear_run_laws.proofs.RunStages.{numbers, stands, second_entry}
use Rattle.linear_run_laws.proofs.Weights.{weights_by}
use Rattle.linear_run_laws.proofs.Ranges.{range_in, result_in_range, signed_in_range, InRange, RowsInRange, primitive_in_range, all_in_range}

-- the variables of weights rise where the variables beside the numbers do
weights_rise : (low high : ℕ) (vs : List ℕ) (xs : List ℤ) → rises_within low high vs ≡ true → rises_within low high (map (λ (w : Weight). w.var) (weights_by vs xs)) ≡ true
weights_rise low high [] xs r = refl
weights_rise low high (v ∷ vs) [] r = refl
weights_rise low high (v ∷ vs) (x ∷ xs) r =
    let s = rises low high v vs r in
    let rest = weights_rise v high vs xs s.more in
    elim (cases_Bool (is_nonzero x)) [
      | inl y ↦ rw (y, lt-ltb low v s.above, le-leb v high s.within, rest) refl
      | inr n ↦ (let above = s.above in rw n (rises_from low v high (map (λ (w : Weight). w.var) (weights_by vs xs)) (omega (arith, above)) rest))
    ]

-- they are weights where the numbers are in range
are_weights : (vs : List ℕ) (xs : List ℤ) → InRange xs → list_all (λ (w : Weight). is_weight w.x) (weights_by vs xs) ≡ true
are_weights [] xs h = refl
are_weights (v ∷ vs) [] h = refl
are_weights (v ∷ vs) (x ∷ xs) h =
    let rest = are_weights vs xs (λ i. h (suc i)) in
    elim (cases_Bool (is_nonzero x)) [
      | inl y ↦ rw y (rw (y, h 0, rest) refl)
      | inr n ↦ rw n rest
    ]

module _ (F : Cnf) (S : List ℕ) (rows : List Row) (cost : List ℤ) where
  abbrev t : TableauRows
  t = rows_with F S rows cost

  abbrev n : ℕ
  n = length (variables_at F S)

  -- the numbers of a stage that is not too wide are in range
  entry_in_range : RowsInRange t → first_wide (made_in_stage t) ≡ None → next t ≡ StageStands → (j : ℕ) → 0 < j → j ≤ n → is_in_range (stage_entry t j) ≡ true
  unfolding made_in_stage
  entry_in_range ranges fits e j h l = elim (stands F S rows cost e) [
    | inl s ↦ (let fits_first : first_wide (map (λ j. made Difference (entry cost (artificial t j)) (entry cost (unit_column t))) (up_to n)) ≡ None = rw (s.0) at fits in
        rw s.0 (result_in_range (map (λ j. made Difference (entry cost (artificial t j)) (entry cost (unit_column t))) (up_to n)) (made Difference (entry cost (artificial t j)) (entry cost (unit_column t)))
        fits_first (map_in (λ j. made Difference (entry cost (artificial t j)) (entry cost (unit_column t))) (up_to n) j (range_in 1 n j h (omega (arith, l))))))
    | inr s ↦ subst (λ z. is_in_range z ≡ true) (sym (second_entry F S rows cost s j)) (ranges s.row s.within (artificial t j - 1))
  ]

  -- also with the signs of the variables
  numbers_in_range : RowsInRange t → first_wide (made_in_stage t) ≡ None → next t ≡ StageStands → InRange (numbers F S rows cost)
  numbers_in_range ranges fits e = all_in_range (numbers F S rows cost) (λ i h.
      let long = length-map-range_with_len (λ j. sign_at t j *ℤ stage_entry t j) 1 n in
      let inside : i < n = omega (arith, h, long) in
      subst (λ z. is_in_range z ≡ true) (sym (get_or-map-range_with_len (λ j. sign_at t j *ℤ stage_entry t j) 1 n i (i + 1) (pos 0) inside (omega arith)))
      (subst (λ z. is_in_range (z *ℤ stage_entry t (i + 1)) ≡ true) (sym (sign_entry F S (i + 1) (omega arith) (omega (arith, inside))))
      (signed_in_range (sign F S (i + 1)) (stage_entry t (i + 1)) (sign_one F S (var_at F S (i + 1))) (entry_in_range ranges fits e (i + 1) (omega arith) (omega (arith, inside))))))

  -- so the stage is in form
  pub stage_form : RowsInRange t → first_wide (made_in_stage t) ≡ None → next t ≡ StageStands → is_stage F.vars (stage_of t) ≡ true
  unfolding stage_of
  stage_form ranges fits e =
      let rising = weights_rise 0 F.vars (variables_at F S) (primitive (numbers F S rows cost)) (filtered_rise F.vars (variable_occurs F S)) in
      let fine = are_weights (variables_at F S) (primitive (numbers F S rows cost)) (primitive_in_range (numbers F S rows cost) (numbers_in_range ranges fits e)) in
      rw (rising, fine) refl
