-- The units of a run that ends lean.
use Rattle.std.proofs.Common.{◌≡◌, ◌≢◌, ℕ, ◌+◌, ◌-◌, ◌<◌, ◌≤◌, ◌==◌, List, map, zip, length, get_or, ℤ, pos, ◌*ℤ◌, ◌<ℤ◌, refl, sym, ap, ◌∙◌, arith, eq-eqb, Option, Some, None}
use Rattle.std.specs.Prelude.{find}
use Rattle.std.specs.Option.{option_map_or}
use Rattle.std.proofs.Math.IntN.{*ℤ-zero, zero-*ℤ}
use Rattle.std.proofs.lemmas.Bool.{ne_eqb}
use Rattle.std.proofs.lemmas.Int.{ints}
use Rattle.lk_model.specs.Lists.{up_to, sum_of, is_nonzero}
use Rattle.lk_model.specs.Formulas.Formula.{Cnf, clause_at, variables_at}
use Rattle.lk_model.specs.Formulas.Balance.{incidence, balance_in}
use Rattle.lk_model.specs.Documents.Documents.{shares_at}
use Rattle.lk_model.specs.Linear.Rows.{Row, TableauRows, entry, sign_at, start_of, artificial}
use Rattle.lk_model.specs.Linear.Phases.{EndsLean, next}
use Rattle.lk_model.specs.Linear.Ends.{common, multiple, share_number, shares_of}
use Rattle.lk_model.specs.declared.document.Share.{Share}
use Rattle.lk_model.specs.declared.document.Unit.{Unit}
use Rattle.lk_model.proofs.Products.{mul_assoc}
use Rattle.lk_model.proofs.ListTests.{zero_is}
use Rattle.exact_pivot.specs.Reached.{ReachedRows}
use Rattle.exact_pivot.proofs.Starts.{range_same}
use Rattle.linear_laws.proofs.Sums.{sum_times}
use Rattle.linear_run_laws.proofs.Places.{sum_filtered, sum_numbered, sum_images, placed}
use Rattle.linear_run_laws.proofs.StartRows.{at, sign, sign_one, sign_entry, var_at, unit_entry}
use Rattle.linear_run_laws.proofs.RunRows.{rows_with, at_clause}
use Rattle.linear_run_laws.proofs.Multiples.{common_some}
use Rattle.linear_run_laws.proofs.RunEnds.{are_basic, column_solved}
use Rattle.linear_run_laws.proofs.RunDuals.{cancel_sign}

module _ (F : Cnf) (S : List ℕ) (rows : List Row) (cost : List ℤ) (r : ReachedRows (start_of F S) (rows_with F S rows cost)) where
  abbrev t : TableauRows
  t = rows_with F S rows cost

  abbrev m : ℕ
  m = length S

  abbrev n : ℕ
  n = length (variables_at F S)

  -- the multiple of the i-th variable at a column
  abbrev num : ℕ → ℕ → ℤ
  num i c = placed (multiple t (m + i)) (pos 0) rows c

  -- a share is the multiple of its row with the sign of the variable
  share_is : (i c : ℕ) → 0 < i → i ≤ n → share_number t i c ≡ sign F S i *ℤ num i c
  share_is i c h l = by_line (find (λ (row : Row). row.basic == c) rows) ∙ ap (λ z. z *ℤ num i c) (sign_entry F S i h l)
    where
      by_line : (o : Option Row) → option_map_or (λ row. sign_at t i *ℤ multiple t (m + i) row) o (pos 0) ≡ sign_at t i *ℤ option_map_or (multiple t (m + i)) o (pos 0)
      by_line None = sym (*ℤ-zero (sign_at t i))
      by_line (Some row) = refl

  -- so the shares sum to the sign times the sum of the multiples
  shares_sum : (i j : ℕ) → 0 < i → i ≤ n → sum_of (map (λ c. share_number t i c *ℤ at_clause F S j c) (up_to m)) ≡ sign F S i *ℤ sum_of (map (λ c. num i c *ℤ at_clause F S j c) (up_to m))
  shares_sum i j h l =
      range_same (λ c. share_number t i c *ℤ at_clause F S j c) (λ c. sign F S i *ℤ (num i c *ℤ at_clause F S j c)) 1 m
      (λ c a b. ap (λ z. z *ℤ at_clause F S j c) (share_is i c h l) ∙ mul_assoc (sign F S i) (num i c) (at_clause F S j c))
      ∙ sum_times (sign F S i) (λ c. num i c *ℤ at_clause F S j c) (up_to m)

  -- THE SHARES of a variable balance to the common denominator in it
  pub shares_itself : next t ≡ EndsLean → (i : ℕ) → 0 < i → i ≤ n → sum_of (map (λ c. share_number t i c *ℤ at_clause F S i c) (up_to m)) ≡ common t (m + i)
  shares_itself e i h l =
      let solved = column_solved F S rows cost r e (m + i) i h l in
      let one : entry (at F S i).entries (m + i) ≡ pos 1 = unit_entry F S i i h l h l ∙ rw (eq-eqb i i refl) refl in
      shares_sum i i h l ∙ sym solved ∙ ap (λ z. z *ℤ common t (m + i)) one ∙ one_times (common t (m + i))
    where
      one_times : (x : ℤ) → pos 1 *ℤ x ≡ x
      one_times x = omega (arith, ints)

  -- and to 0 in each other one
  pub shares_other : next t ≡ EndsLean → (i j : ℕ) → 0 < i → i ≤ n → 0 < j → j ≤ n → i ≢ j → sum_of (map (λ c. share_number t i c *ℤ at_clause F S j c) (up_to m)) ≡ pos 0
  shares_other e i j h l g k apart =
      let solved = column_solved F S rows cost r e (m + i) j g k in
      let nothing : entry (at F S j).entries (m + i) ≡ pos 0 = unit_entry F S j i g k h l ∙ rw (ne_eqb i j apart) refl in
      let none : sum_of (map (λ c. num i c *ℤ at_clause F S j c) (up_to m)) ≡ pos 0 =
      cancel_sign (sign F S j) _ (pos 0) (sign_one F S (var_at F S j))
      (sym solved ∙ ap (λ z. z *ℤ common t (m + i)) nothing ∙ zero-*ℤ (common t (m + i)) ∙ sym (*ℤ-zero (sign F S j))) in
      shares_sum i j h l ∙ ap (λ z. sign F S i *ℤ z) none ∙ *ℤ-zero (sign F S i)

  -- the common denominator is positive
  pub unit_some : (i : ℕ) → pos 0 <ℤ common t (m + i)
  unit_some i = common_some t (m + i) (are_basic F S rows cost r)

  -- the unit of the i-th variable
  abbrev pub unit_at : ℕ → ℕ → Unit
  unit_at i v = record { var = v; d = common t (artificial t i); shares = shares_of t i }

  -- in the words of documents
  pub balance_of_shares : (i v w : ℕ) → balance_in F (shares_at (unit_at i v)) w ≡ sum_of (map (λ c. share_number t i c *ℤ incidence (clause_at F (get_or S (c - 1) 0)) w) (up_to m))
  balance_of_shares i v w =
      sum_images (λ (e : ℕ × ℤ). e.1 *ℤ incidence (clause_at F e.0) w) (λ (s : Share). (let e : ℕ × ℤ = (s.pos, s.z) in e)) (shares_of t i)
      ∙ sum_filtered (λ (s : Share). s.z *ℤ incidence (clause_at F s.pos) w) (λ (s : Share). is_nonzero s.z)
      (map (λ (e : ℕ × ℕ). (let s : Share = record { pos = e.1; z = share_number t i e.0 } in s)) (zip (up_to m) S))
      (λ s none. ap (λ z. z *ℤ incidence (clause_at F s.pos) w) (zero_is s.z none) ∙ zero-*ℤ (incidence (clause_at F s.pos) w))
      ∙ sum_images (λ (s : Share). s.z *ℤ incidence (clause_at F s.pos) w) (λ (e : ℕ × ℕ). (let s : Share = record { pos = e.1; z = share_number t i e.0 } in s)) (zip (up_to m) S)
      ∙ sum_numbered (λ c p. share_number t i c *ℤ incidence (clause_at F p) w) S 0 1
