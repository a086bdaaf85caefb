-- The numbers of a run that ends lean and is not too wide are in range.
use Rattle.std.proofs.Common.{◌≡◌, ℕ, ◌<◌, ◌≤◌, true, ◌==◌, List, [], ◌∷◌, ◌++◌, map, length, ℤ, pos, ◌+ℤ◌, ◌*ℤ◌, refl, sym, subst, arith, Option, Some, None, Contains}
use Rattle.std.specs.Prelude.{find}
use Rattle.std.specs.List.{flat_map}
use Rattle.std.specs.Option.{option_map_or}
use Rattle.std.proofs.lemmas.List.Elements.{Contains-append_left, Contains-append_right}
use Rattle.lk_model.specs.Lists.{up_to}
use Rattle.lk_model.specs.Limits.{is_in_range}
use Rattle.lk_model.specs.Formulas.Formula.{Cnf, variables_at}
use Rattle.lk_model.specs.Linear.Arithmetic.{reduced, first_wide, made}
use Rattle.lk_model.specs.Linear.Rows.{Row, TableauRows, sign_at, artificial, right_column}
use Rattle.lk_model.specs.Linear.Ends.{numerator, denominator, lcm_from, made_in_lcm, common, factor, multiple, dual_number, share_number, made_in_dual, made_in_units}
use Rattle.lk_model.specs.declared.wide.Op.TheVariants.{Product, Sum}
use Rattle.lk_model.specs.declared.wide.Wide.{Wide}
use Rattle.lk_model.proofs.Keys.{first_in, later_in}
use Rattle.kernel_laws.proofs.Lines.{found_in, map_in}
use Rattle.linear_run_laws.proofs.StartRows.{sign, sign_one, sign_entry, var_at}
use Rattle.linear_run_laws.proofs.RunRows.{rows_with}
use Rattle.linear_run_laws.proofs.Ranges.{flat_in, range_in, result_in_range, part_in_range, signed_in_range}

-- the least common multiple is in range where none of its products is too wide
lcm_in_range : (l : ℤ) (qs : List ℤ) → is_in_range l ≡ true → first_wide (made_in_lcm l qs) ≡ None → is_in_range (lcm_from l qs) ≡ true
lcm_in_range l [] h e = h
lcm_in_range l (q ∷ qs) h e =
    lcm_in_range (reduced l q *ℤ q) qs
    (result_in_range (made_in_lcm l (q ∷ qs)) (made Product (reduced l q) q) e (first_in (made Product (reduced l q) q) (made_in_lcm (reduced l q *ℤ q) qs)))
    (part_in_range (made_in_lcm l (q ∷ qs)) (made_in_lcm (reduced l q *ℤ q) qs) e (λ w i. later_in (made Product (reduced l q) q) (made_in_lcm (reduced l q *ℤ q) qs) w i))

module _ (F : Cnf) (S : List ℕ) (rows : List Row) (cost : List ℤ) (fits : first_wide (made_in_dual (rows_with F S rows cost) ++ made_in_units (rows_with F S rows cost)) ≡ None) where
  abbrev t : TableauRows
  t = rows_with F S rows cost

  abbrev m : ℕ
  m = length S

  abbrev n : ℕ
  n = length (variables_at F S)

  -- DUALS

  -- what is made for the duals: products, and for each row a product and a sum
  abbrev dual_products : List Wide
  dual_products = made_in_lcm (pos 1) (map (denominator (right_column t)) rows)

  -- what is made for the dual of a row
  abbrev dual_sums : Row → List Wide
  dual_sums row = made Product (factor t (right_column t) row) (numerator (right_column t) row) ∷ made Sum (common t (right_column t)) (multiple t (right_column t) row) ∷ []

  -- it is among what is made at the end
  in_dual : (w : Wide) → Contains (dual_products ++ flat_map dual_sums rows) w → Contains (made_in_dual t ++ made_in_units t) w
  unfolding made_in_dual
  in_dual w i = Contains-append_left (dual_products ++ flat_map dual_sums rows) (made_in_units t) w i

  -- so each dual is in range
  pub dual_in_range : (c : ℕ) → is_in_range (dual_number t c) ≡ true
  dual_in_range c = by_line (find (λ (row : Row). row.basic == c) rows) refl
    where
      by_line : (o : Option Row) → find (λ (row : Row). row.basic == c) rows ≡ o → is_in_range (option_map_or (λ row. common t (right_column t) +ℤ multiple t (right_column t) row) o (common t (right_column t))) ≡ true
      by_line None e = lcm_in_range (pos 1) (map (denominator (right_column t)) rows) refl
          (part_in_range (made_in_dual t ++ made_in_units t) dual_products fits (λ w i. in_dual w (Contains-append_left dual_products (flat_map dual_sums rows) w i)))
      by_line (Some row) e =
          let sum : Wide = made Sum (common t (right_column t)) (multiple t (right_column t) row) in
          result_in_range (made_in_dual t ++ made_in_units t) sum fits
          (in_dual sum (Contains-append_right dual_products (flat_map dual_sums rows) sum (flat_in dual_sums rows row sum (found_in (λ (row : Row). row.basic == c) rows row e)
          (later_in (made Product (factor t (right_column t) row) (numerator (right_column t) row)) (sum ∷ []) sum (first_in sum [])))))

  -- UNITS

  -- what is made for the unit of a variable
  abbrev unit_products : ℕ → List Wide
  unit_products j = made_in_lcm (pos 1) (map (denominator (artificial t j)) rows)

  -- what is made for its shares
  abbrev unit_multiples : ℕ → List Wide
  unit_multiples j = map (λ (row : Row). made Product (factor t (artificial t j) row) (numerator (artificial t j) row)) rows

  -- it is among what is made at the end
  in_unit : (j : ℕ) (w : Wide) → 0 < j → j ≤ n → Contains (unit_products j ++ unit_multiples j) w → Contains (made_in_dual t ++ made_in_units t) w
  unfolding made_in_units
  in_unit j w h l i = Contains-append_right (made_in_dual t) (flat_map (λ j. unit_products j ++ unit_multiples j) (up_to n)) w (flat_in (λ j. unit_products j ++ unit_multiples j) (up_to n) j w (range_in 1 n j h (omega (arith, l))) i)

  -- so its common denominator is in range
  pub common_in_range : (j : ℕ) → 0 < j → j ≤ n → is_in_range (common t (artificial t j)) ≡ true
  common_in_range j h l = lcm_in_range (pos 1) (map (denominator (artificial t j)) rows) refl
      (part_in_range (made_in_dual t ++ made_in_units t) (unit_products j) fits (λ w i. in_unit j w h l (Contains-append_left (unit_products j) (unit_multiples j) w i)))

  -- and so is each share
  pub share_in_range : (j c : ℕ) → 0 < j → j ≤ n → is_in_range (share_number t j c) ≡ true
  share_in_range j c h l = by_line (find (λ (row : Row). row.basic == c) rows) refl
    where
      by_line : (o : Option Row) → find (λ (row : Row). row.basic == c) rows ≡ o → is_in_range (option_map_or (λ row. sign_at t j *ℤ multiple t (artificial t j) row) o (pos 0)) ≡ true
      by_line None e = refl
      by_line (Some row) e = subst (λ s. is_in_range (s *ℤ multiple t (artificial t j) row) ≡ true) (sym (sign_entry F S j h l))
          (signed_in_range (sign F S j) (multiple t (artificial t j) row) (sign_one F S (var_at F S j))
          (result_in_range (made_in_dual t ++ made_in_units t) (made Product (factor t (artificial t j) row) (numerator (artificial t j) row)) fits
          (in_unit j (made Product (factor t (artificial t j) row) (numerator (artificial t j) row)) h l
          (Contains-append_right (unit_products j) (unit_multiples j) (made Product (factor t (artificial t j) row) (numerator (artificial t j) row)) (map_in (λ (row : Row). made Product (factor t (artificial t j) row) (numerator (artificial t j) row)) rows row
          (found_in (λ (row : Row). row.basic == c) rows row e))))))
