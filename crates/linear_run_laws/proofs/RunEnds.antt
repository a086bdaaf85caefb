-- A run that ends lean: what the multiples of a column sum to against the clauses.
use Rattle.std.proofs.Common.{◌≡◌, inl, inr, ℕ, suc, ◌+◌, ◌-◌, ◌<◌, ◌≤◌, Bool, true, false, cond, nat_lt, List, [], ◌∷◌, map, length, get_or, ℤ, pos, neg_ℤ, ◌+ℤ◌, ◌-ℤ◌, ◌*ℤ◌, ◌<ℤ◌, refl, sym, ap, ◌∙◌, subst, arith, Option, Some, None, unwrap_or, Contains}
use Rattle.std.specs.Option.{option_map_or}
use Rattle.std.proofs.Math.IntN.{*ℤ_comm, *ℤ-zero}
use Rattle.std.proofs.Math.ListN.{get_or-map}
use Rattle.std.proofs.lemmas.Bool.{cases_eq}
use Rattle.std.proofs.lemmas.Bool.Decides.{nat_tests}
use Rattle.std.proofs.lemmas.Int.{ints}
use Rattle.std.proofs.lemmas.List.{length-map, get_or_default}
use Rattle.lk_model.specs.Lists.{up_to, sum_of, among}
use Rattle.lk_model.specs.Formulas.Formula.{Cnf, variables_at}
use Rattle.lk_model.specs.Linear.Rows.{Row, TableauRows, entry, row_at, start_of}
use Rattle.lk_model.specs.Linear.Pivot.{in_first_phase}
use Rattle.lk_model.specs.Linear.Phases.{PivotOn, StageStands, EndsLean, next, entering, leaving, artificial_row, replacing}
use Rattle.lk_model.specs.Linear.Ends.{common, multiple}
use Rattle.lk_model.proofs.Counting.{Differ, none, more}
use Rattle.lk_model.proofs.Founds.{none_to}
use Rattle.lk_model.proofs.Products.{mul_assoc}
use Rattle.lk_model.proofs.Lists.{place_of}
use Rattle.exact_pivot.specs.Reached.{IsRowOf, ReachedRows}
use Rattle.exact_pivot.proofs.Wholes.{mul_sub}
use Rattle.exact_pivot.proofs.Starts.{sum_places, range_same}
use Rattle.linear_laws.proofs.Sums.{sum_times}
use Rattle.linear_run_laws.proofs.Places.{placed, sum_placed}
use Rattle.linear_run_laws.proofs.StartRows.{at, sign, clause_entry}
use Rattle.linear_run_laws.proofs.RunRows.{rows_with, at_clause, start_solved}
use Rattle.linear_run_laws.proofs.Multiples.{AreBasic, multiple_is}

-- numbers at different places that are not the same differ
differ_by_places : (xs : List ℕ) → ((i j : ℕ) → i < length xs → j < length xs → get_or xs i 0 ≡ get_or xs j 0 → i ≡ j) → Differ xs
differ_by_places [] h = none
differ_by_places (x ∷ xs) h = more x xs (absent (among xs x) refl)
    (differ_by_places xs (λ i j a b e. (let s = h (suc i) (suc j) (omega (arith, a)) (omega (arith, b)) e in omega (arith, s))))
  where
    absent : (b : Bool) → among xs x ≡ b → b ≡ false
    absent false e = refl
    absent true e =
        let w = place_of xs x e in
        let inside = w.1 in
        let s = h 0 (suc w.0) (omega arith) (omega (arith, inside)) (sym w.2) in
        absurd (omega (arith, s))

module _ (F : Cnf) (S : List ℕ) (rows : List Row) (cost : List ℤ) (r : ReachedRows (start_of F S) (rows_with F S rows cost)) where
  abbrev t : TableauRows
  t = rows_with F S rows cost

  abbrev m : ℕ
  m = length S

  abbrev n : ℕ
  n = length (variables_at F S)

  -- a row of the list is one of the rows by its number
  pub row_numbered : (row : Row) → Contains rows row → (i : ℕ) × IsRowOf t i × (row_at t i ≡ row)
  row_numbered row (k, lt, e) =
      let count = r.rows in
      let step : k + 1 - 1 ≡ k = omega arith in
      (k + 1, (omega arith, omega (arith, lt, count)), ap (λ i. get_or rows i (record { entries = []; basic = 0 })) step ∙ get_or_default rows k _ row lt ∙ e)

  -- and one of the rows by its number is one of the list
  pub row_there : (i : ℕ) → IsRowOf t i → Contains rows (row_at t i)
  row_there i h = let count = r.rows in (i - 1, omega (arith, h, count), get_or_default rows (i - 1) _ _ (omega (arith, h, count)))

  -- each row is positive in its basic column
  pub are_basic : AreBasic rows
  are_basic row there = let w = row_numbered row there in subst (λ (x : Row). pos 0 <ℤ entry x.entries x.basic) w.2 (r.basic_positive w.0 w.1)

  -- THE END: no basic column is artificial
  no_artificial : next t ≡ EndsLean → artificial_row t ≡ None
  unfolding next
  no_artificial e = by_phase (in_first_phase t) e
    where
      by_column : (o : Option ℕ) → option_map_or (λ k. PivotOn (unwrap_or (leaving t k) 0) k) o StageStands ≡ EndsLean → artificial_row t ≡ None
      by_column None e = absurd (let g : ⊥ = cc in g)
      by_column (Some k) e = absurd (let g : ⊥ = cc in g)

      at_row : (i : ℕ) (o : Option ℕ) → option_map_or (PivotOn i) o StageStands ≡ EndsLean → artificial_row t ≡ None
      at_row i None e = absurd (let g : ⊥ = cc in g)
      at_row i (Some k) e = absurd (let g : ⊥ = cc in g)

      by_row : (o : Option ℕ) → artificial_row t ≡ o → option_map_or (λ i. option_map_or (PivotOn i) (replacing t i) StageStands) o EndsLean ≡ EndsLean → artificial_row t ≡ None
      by_row None f e = f
      by_row (Some i) f e = at_row i (replacing t i) e

      by_phase : (b : Bool) → cond b (option_map_or (λ k. PivotOn (unwrap_or (leaving t k) 0) k) (entering t) StageStands)
          (option_map_or (λ i. option_map_or (PivotOn i) (replacing t i) StageStands) (artificial_row t) EndsLean) ≡ EndsLean → artificial_row t ≡ None
      by_phase true e = by_column (entering t) e
      by_phase false e = by_row (artificial_row t) refl e

  -- so each basic column is that of a clause
  basic_most : next t ≡ EndsLean → (i : ℕ) → IsRowOf t i → (row_at t i).basic ≤ m
  basic_most e i h = by_test (row_at t i).basic (none_to (λ i. nat_lt m (row_at t i).basic) n i (no_artificial e) h.0 h.1)
    where
      by_test : (b : ℕ) → nat_lt m b ≡ false → b ≤ m
      by_test b f = grind (arith, nat_tests)

  -- the basic columns
  abbrev basics : List ℕ
  basics = map (λ (row : Row). row.basic) rows

  -- the basic column at a place
  basic_at : (i : ℕ) → get_or basics i 0 ≡ (row_at t (i + 1)).basic
  basic_at i = get_or-map (λ (row : Row). row.basic) rows i (record { entries = []; basic = 0 })
      ∙ ap (λ k. (get_or rows k (record { entries = []; basic = 0 })).basic) (let step : i ≡ i + 1 - 1 = omega arith in step)

  -- there is one for each row
  basics_long : length basics ≡ n
  basics_long = length-map rows (λ (row : Row). row.basic) ∙ r.rows

  -- the basic columns differ
  pub basics_differ : Differ basics
  basics_differ = differ_by_places basics (λ i j a b e. same i j (omega (arith, a, basics_long)) (omega (arith, b, basics_long)) e)
    where
      same : (i j : ℕ) → i < n → j < n → get_or basics i 0 ≡ get_or basics j 0 → i ≡ j
      same i j a b e = elim (cases_eq i j) [
        | inl y ↦ y
        | inr other ↦
            (let one : (row_at t (i + 1)).basic ≡ (row_at t (j + 1)).basic = sym (basic_at i) ∙ e ∙ basic_at j in
            let apart = r.basic_apart (i + 1) (j + 1) (omega arith, omega (arith, a)) (omega arith, omega (arith, b)) (λ s. other (omega (arith, s))) in
            let some = r.basic_positive (j + 1) (omega arith, omega (arith, b)) in
            absurd (not_some (entry (row_at t (j + 1)).entries (row_at t (j + 1)).basic) some (ap (λ c. entry (row_at t (j + 1)).entries c) (sym one) ∙ apart)))
      ]
        where
          not_some : (z : ℤ) → pos 0 <ℤ z → z ≡ pos 0 → ⊥
          not_some z h e = omega (arith, ints, h, e)

  -- each is that of a clause
  pub basics_within : next t ≡ EndsLean → (b : ℕ) → among basics b ≡ true → (0 < b) × (b ≤ m)
  basics_within e b there =
      let w = place_of basics b there in
      let inside = w.1 in
      let row : IsRowOf t (w.0 + 1) = (omega arith, omega (arith, inside, basics_long)) in
      let is : (row_at t (w.0 + 1)).basic ≡ b = sym (basic_at w.0) ∙ w.2 in
      let least = r.basic_least (w.0 + 1) row in
      let most = basic_most e (w.0 + 1) row in
      (omega (arith, is, least), omega (arith, is, most))

  -- THE MULTIPLES OF A COLUMN: at their basic clauses they sum to the starting entry times the common denominator
  abbrev pub number : ℕ → ℕ → ℤ
  number k c = placed (multiple t k) (pos 0) rows c

  pub column_solved : next t ≡ EndsLean → (k j : ℕ) → 0 < j → j ≤ n
      → entry (at F S j).entries k *ℤ common t k ≡ sign F S j *ℤ sum_of (map (λ c. number k c *ℤ at_clause F S j c) (up_to m))
  column_solved e k j h l =
      let line : ℕ → ℤ = λ c. at_clause F S j c in
      let solved = start_solved F S rows cost r k (pos 0 -ℤ common t k) (λ i. multiple t k (row_at t i))
      (λ i g. row_zero (entry (row_at t i).entries k) (common t k) _ (multiple_is t k (row_at t i) are_basic (row_there i g))) j h l in
      let terms : sum_of (map (λ i. entry (at F S j).entries (row_at t i).basic *ℤ multiple t k (row_at t i)) (up_to n))
      ≡ sum_of (map (λ i. sign F S j *ℤ (multiple t k (row_at t i) *ℤ line (row_at t i).basic)) (up_to n)) =
      range_same _ _ 1 n (λ i a b. (let g : IsRowOf t i = (a, omega (arith, b)) in
      ap (λ z. z *ℤ multiple t k (row_at t i)) (clause_entry F S j (row_at t i).basic h l (r.basic_least i g) (basic_most e i g))
      ∙ mul_assoc (sign F S j) (line (row_at t i).basic) (multiple t k (row_at t i)) ∙ ap (λ z. sign F S j *ℤ z) (*ℤ_comm (line (row_at t i).basic) (multiple t k (row_at t i))))) in
      let by_rows : sum_of (map (λ i. multiple t k (row_at t i) *ℤ line (row_at t i).basic) (up_to n)) ≡ sum_of (map (λ (row : Row). multiple t k row *ℤ line row.basic) rows) =
      ap (λ q. sum_of (map (λ i. multiple t k (row_at t i) *ℤ line (row_at t i).basic) (up_to q))) (sym r.rows)
      ∙ sum_places (λ (row : Row). multiple t k row *ℤ line row.basic) rows (record { entries = []; basic = 0 }) 1 in
      moved (entry (at F S j).entries k) (common t k) _ solved ∙ terms ∙ sum_times (sign F S j) (λ i. multiple t k (row_at t i) *ℤ line (row_at t i).basic) (up_to n)
      ∙ ap (λ z. sign F S j *ℤ z) (by_rows ∙ sym (sum_placed (multiple t k) line m rows basics_differ (basics_within e)))
    where
      less : (x l : ℤ) → x *ℤ (pos 0 -ℤ l) ≡ neg_ℤ (l *ℤ x)
      less x l = mul_sub x (pos 0) l ∙ zero_less (x *ℤ pos 0) (x *ℤ l) (*ℤ-zero x) ∙ ap neg_ℤ (*ℤ_comm x l)
        where
          zero_less : (a b : ℤ) → a ≡ pos 0 → a -ℤ b ≡ neg_ℤ b
          zero_less a b e = omega (arith, ints, e)

      row_zero : (x l y : ℤ) → y ≡ l *ℤ x → x *ℤ (pos 0 -ℤ l) +ℤ y ≡ pos 0
      row_zero x l y e = sum_zero (x *ℤ (pos 0 -ℤ l)) (l *ℤ x) y (less x l) e
        where
          sum_zero : (a b y : ℤ) → a ≡ neg_ℤ b → y ≡ b → a +ℤ y ≡ pos 0
          sum_zero a b y e f = omega (arith, ints, e, f)

      moved : (x l y : ℤ) → x *ℤ (pos 0 -ℤ l) +ℤ y ≡ pos 0 → x *ℤ l ≡ y
      moved x l y e = *ℤ_comm x l ∙ back (x *ℤ (pos 0 -ℤ l)) (l *ℤ x) y (less x l) e
        where
          back : (a b y : ℤ) → a ≡ neg_ℤ b → a +ℤ y ≡ pos 0 → b ≡ y
          back a b y e f = omega (arith, ints, e, f)
