-- The duals of a run that ends lean are positive and balance to 0.
use Rattle.std.proofs.Common.{◌≡◌, inl, inr, ◌⊎◌, ℕ, ◌-◌, ◌<◌, ◌≤◌, ◌==◌, List, map, zip, length, get_or, ℤ, pos, negsuc, neg_ℤ, ◌+ℤ◌, ◌*ℤ◌, ◌<ℤ◌, ◌≤ℤ◌, refl, sym, ap, ◌∙◌, subst, arith, Option, Some, None, Contains}
use Rattle.std.specs.Prelude.{find}
use Rattle.std.specs.Option.{option_map_or}
use Rattle.std.proofs.Math.IntN.{*ℤ_comm, *ℤ-zero}
use Rattle.std.proofs.lemmas.Int.{ints}
use Rattle.lk_model.specs.Lists.{up_to, sum_of}
use Rattle.lk_model.specs.Formulas.Formula.{Cnf, clause_at, variables_at}
use Rattle.lk_model.specs.Formulas.Balance.{incidence, balance_in}
use Rattle.lk_model.specs.Documents.Documents.{duals_at}
use Rattle.lk_model.specs.Linear.Rows.{Row, TableauRows, entry, start_of, lack, right_column}
use Rattle.lk_model.specs.Linear.Phases.{EndsLean, next}
use Rattle.lk_model.specs.Linear.Ends.{common, multiple, dual_number, dual_at_end}
use Rattle.lk_model.specs.declared.document.Dual.{Dual}
use Rattle.lk_model.proofs.Products.{mul_add, mul_assoc, times_least}
use Rattle.exact_pivot.specs.Reached.{ReachedRows}
use Rattle.exact_pivot.proofs.Wholes.{cancel_least}
use Rattle.exact_pivot.proofs.Starts.{sum_places, range_same}
use Rattle.kernel_laws.proofs.Lines.{found_in}
use Rattle.linear_laws.proofs.Sums.{add_mul, sum_times, sum_plus}
use Rattle.linear_run_laws.proofs.Places.{sum_numbered, sum_images, placed}
use Rattle.linear_run_laws.proofs.StartRows.{sign, sign_one, var_at, right_entry}
use Rattle.linear_run_laws.proofs.RunRows.{rows_with, at_clause}
use Rattle.linear_run_laws.proofs.Multiples.{common_some, multiple_is}
use Rattle.linear_run_laws.proofs.RunEnds.{row_numbered, are_basic, column_solved}

-- a sign that is 1 or -1 is not 0, so it cancels
pub cancel_sign : (e x y : ℤ) → (e ≡ pos 1) ⊎ (e ≡ negsuc 0) → e *ℤ x ≡ e *ℤ y → x ≡ y
cancel_sign e x y (inl s) f = sym (ones x) ∙ ap (λ z. z *ℤ x) (sym s) ∙ f ∙ ap (λ z. z *ℤ y) s ∙ ones y
  where
    ones : (x : ℤ) → pos 1 *ℤ x ≡ x
    ones x = omega (arith, ints)
cancel_sign e x y (inr s) f = back x y (ap (λ z. z *ℤ x) (sym s) ∙ f ∙ ap (λ z. z *ℤ y) s)
  where
    back : (x y : ℤ) → negsuc 0 *ℤ x ≡ negsuc 0 *ℤ y → x ≡ y
    back x y f = omega (arith, ints, f)

module _ (F : Cnf) (S : List ℕ) (rows : List Row) (cost : List ℤ) (r : ReachedRows (start_of F S) (rows_with F S rows cost)) where
  abbrev t : TableauRows
  t = rows_with F S rows cost

  abbrev m : ℕ
  m = length S

  abbrev n : ℕ
  n = length (variables_at F S)

  -- the common denominator of the right side, and the multiple at a column
  abbrev whole : ℤ
  whole = common t (right_column t)

  abbrev num : ℕ → ℤ
  num c = placed (multiple t (right_column t)) (pos 0) rows c

  -- a dual is the common denominator and the multiple of its row
  dual_is : (c : ℕ) → dual_number t c ≡ whole +ℤ num c
  dual_is c = by_line (find (λ (row : Row). row.basic == c) rows)
    where
      plus_none : (x : ℤ) → x ≡ x +ℤ pos 0
      plus_none x = omega (arith, ints)

      by_line : (o : Option Row) → option_map_or (λ row. whole +ℤ multiple t (right_column t) row) o whole ≡ whole +ℤ option_map_or (multiple t (right_column t)) o (pos 0)
      by_line None = plus_none whole
      by_line (Some row) = refl

  -- THE DUALS balance to 0 in each variable of the clauses
  pub duals_balance : next t ≡ EndsLean → (j : ℕ) → 0 < j → j ≤ n → sum_of (map (λ c. dual_number t c *ℤ at_clause F S j c) (up_to m)) ≡ pos 0
  duals_balance e j h l =
      let line : ℕ → ℤ = λ c. at_clause F S j c in
      let all : sum_of (map line (up_to m)) ≡ sum_of (map (λ p. incidence (clause_at F p) (var_at F S j)) S) = sum_places (λ p. incidence (clause_at F p) (var_at F S j)) S 0 1 in
      let solved = column_solved F S rows cost r e (right_column t) j h l in
      let balanced : lack F S (var_at F S j) *ℤ whole ≡ sum_of (map (λ c. num c *ℤ line c) (up_to m)) =
      cancel_sign (sign F S j) _ _ (sign_one F S (var_at F S j)) (sym (mul_assoc (sign F S j) (lack F S (var_at F S j)) whole) ∙ ap (λ z. z *ℤ whole) (sym (right_entry F S j h l)) ∙ solved) in
      range_same (λ c. dual_number t c *ℤ line c) (λ c. whole *ℤ line c +ℤ num c *ℤ line c) 1 m (λ c a b. ap (λ z. z *ℤ line c) (dual_is c) ∙ add_mul whole (num c) (line c))
      ∙ sum_plus (λ c. whole *ℤ line c) (λ c. num c *ℤ line c) (up_to m)
      ∙ ap (λ z. z +ℤ sum_of (map (λ c. num c *ℤ line c) (up_to m))) (sum_times whole line (up_to m))
      ∙ ap (λ z. whole *ℤ sum_of (map line (up_to m)) +ℤ z) (sym balanced)
      ∙ ap (λ z. whole *ℤ z +ℤ lack F S (var_at F S j) *ℤ whole) all
      ∙ opposite whole (sum_of (map (λ p. incidence (clause_at F p) (var_at F S j)) S))
    where
      opposite : (x y : ℤ) → x *ℤ y +ℤ neg_ℤ y *ℤ x ≡ pos 0
      opposite x y = ap (λ z. x *ℤ y +ℤ z) (*ℤ_comm (neg_ℤ y) x) ∙ sym (mul_add x y (neg_ℤ y)) ∙ ap (λ z. x *ℤ z) (none y) ∙ *ℤ-zero x
        where
          none : (y : ℤ) → y +ℤ neg_ℤ y ≡ pos 0
          none y = omega (arith, ints)

  -- they are positive
  pub duals_some : (c : ℕ) → pos 0 <ℤ dual_number t c
  duals_some c = subst (λ z. pos 0 <ℤ z) (sym (dual_is c)) (plus whole (num c) (common_some t (right_column t) (are_basic F S rows cost r)) (by_line (find (λ (row : Row). row.basic == c) rows) refl))
    where
      plus : (x y : ℤ) → pos 0 <ℤ x → pos 0 ≤ℤ y → pos 0 <ℤ (x +ℤ y)
      plus x y h k = omega (arith, ints, h, k)

      weak : (x : ℤ) → pos 0 <ℤ x → pos 0 ≤ℤ x
      weak x h = omega (arith, ints, h)

      multiple_least : (row : Row) → Contains rows row → pos 0 ≤ℤ multiple t (right_column t) row
      multiple_least row there =
          let w = row_numbered F S rows cost r row there in
          let basic = are_basic F S rows cost r row there in
          let right = subst (λ (x : Row). pos 0 ≤ℤ entry x.entries (right_column t)) w.2 (r.right_least w.0 w.1) in
          cancel_least (entry row.entries row.basic) (multiple t (right_column t) row) basic
          (subst (λ z. pos 0 ≤ℤ z) (sym (multiple_is t (right_column t) row (are_basic F S rows cost r) there))
          (times_least whole (entry row.entries (right_column t)) (weak whole (common_some t (right_column t) (are_basic F S rows cost r))) right))

      by_line : (o : Option Row) → find (λ (row : Row). row.basic == c) rows ≡ o → pos 0 ≤ℤ option_map_or (multiple t (right_column t)) o (pos 0)
      by_line None e = omega (arith, ints)
      by_line (Some row) e = multiple_least row (found_in (λ (row : Row). row.basic == c) rows row e)

  -- in the words of documents
  pub balance_of_duals : (v : ℕ) → balance_in F (duals_at (dual_at_end t)) v ≡ sum_of (map (λ c. dual_number t c *ℤ incidence (clause_at F (get_or S (c - 1) 0)) v) (up_to m))
  unfolding dual_at_end
  balance_of_duals v =
      sum_images (λ (e : ℕ × ℤ). e.1 *ℤ incidence (clause_at F e.0) v) (λ (y : Dual). (let e : ℕ × ℤ = (y.pos, y.y) in e)) (dual_at_end t)
      ∙ sum_images (λ (y : Dual). y.y *ℤ incidence (clause_at F y.pos) v) (λ (e : ℕ × ℕ). (let y : Dual = record { pos = e.1; y = dual_number t e.0 } in y)) (zip (up_to m) S)
      ∙ sum_numbered (λ c p. dual_number t c *ℤ incidence (clause_at F p) v) S 0 1
