-- A pivot on a row and a column: the column becomes 0 in every other row, and basic in this one. Each other row is
-- divided by its content.
use Rattle.std.specs.Prelude.{ℕ, Bool, not, if◌then◌else◌, ◌==◌, List, [], ◌∷◌, ◌++◌, map, filter, zip, ℤ, pos, neg_ℤ, int_lt, ◌-ℤ◌, ◌*ℤ◌}
use Rattle.std.specs.List.{flat_map}
use Rattle.lk_model.specs.Lists.{up_to, is_zero, is_nonzero}
use Rattle.lk_model.specs.Linear.Arithmetic.{reduced, primitive, made}
use Rattle.lk_model.specs.Linear.Rows.{Row, TableauRows, entry, row_at, r_of, right_column}
use Rattle.lk_model.specs.declared.wide.Op.TheVariants.{Product, Difference}
use Rattle.lk_model.specs.declared.wide.Wide.{Wide}

-- (p/g) times the row less (f/g) times the other, where g is the gcd of p and f, divided by its content
unfoldable pub combined : ℤ → ℤ → List ℤ → List ℤ → List ℤ
combined p f row other = primitive (map (λ (x, y). reduced p f *ℤ x -ℤ reduced f p *ℤ y) (zip row other))

-- the results that this makes: for each column the two products and their difference
unfoldable pub made_in_row : ℤ → ℤ → List ℤ → List ℤ → List Wide
made_in_row p f row other = flat_map (λ (x, y). made Product (reduced p f) x ∷ made Product (reduced f p) y
    ∷ made Difference (reduced p f *ℤ x) (reduced f p *ℤ y) ∷ []) (zip row other)

-- the first phase lasts while the right side of the cost row is not 0
abbrev pub in_first_phase : TableauRows → Bool
in_first_phase t = is_nonzero (entry t.cost (right_column t))

-- row i, multiplied by -1 where its entry in column k is negative
abbrev pub turned : TableauRows → ℕ → ℕ → List ℤ
turned t i k = let row = (row_at t i).entries in if int_lt (entry row k) (pos 0) then map neg_ℤ row else row

-- a row without its entry in column k, by the row with which this is done
abbrev pub cleared : List ℤ → ℕ → List ℤ → List ℤ
cleared by k row = if is_zero (entry row k) then row else combined (entry by k) (entry row k) row by

abbrev pub made_to_clear : List ℤ → ℕ → List ℤ → List Wide
made_to_clear by k row = if is_zero (entry row k) then [] else made_in_row (entry by k) (entry row k) row by

abbrev pub row_after : TableauRows → ℕ → ℕ → ℕ → Row
row_after t i k j = if j == i
    then record { entries = turned t i k; basic = k }
    else record (row_at t j) { entries = cleared (turned t i k) k (row_at t j).entries }

unfoldable pub pivoted : TableauRows → ℕ → ℕ → TableauRows
pivoted t i k = record t {
  rows = map (row_after t i k) (up_to (r_of t));
  cost = (if in_first_phase t then cleared (turned t i k) k t.cost else t.cost);
}

-- the results of a pivot: the other rows in order, and last the cost row, in the first phase
unfoldable pub made_in_pivot : TableauRows → ℕ → ℕ → List Wide
made_in_pivot t i k = let by = turned t i k in
    flat_map (λ j. made_to_clear by k (row_at t j).entries) (filter (λ j. not (j == i)) (up_to (r_of t)))
    ++ (if in_first_phase t then made_to_clear by k t.cost else [])
