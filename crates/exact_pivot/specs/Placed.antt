-- Numbers of rows, and where they are placed by the rows' basic columns.
use Rattle.std.specs.Prelude.{ℕ, ◌<◌, ◌==◌, if◌then◌else◌, List, [], ◌∷◌, map, ℤ, pos, int_div, ◌+ℤ◌, ◌*ℤ◌, ◌<ℤ◌, ◌+◌, ◌++◌, length, filter, zip}
use Rattle.std.specs.List.{flat_map}
use Rattle.lk_model.specs.Lists.{up_to, is_nonzero}
use Rattle.lk_model.specs.Linear.Arithmetic.{made}
use Rattle.lk_model.specs.Linear.Rows.{Row, entry}
use Rattle.lk_model.specs.Linear.Ends.{numerator, denominator, lcm_from, made_in_lcm}
use Rattle.lk_model.specs.declared.wide.Op.TheVariants.{Product, Sum}
use Rattle.lk_model.specs.declared.wide.Wide.{Wide}
use Rattle.lk_model.specs.declared.document.Dual.{Dual}
use Rattle.lk_model.specs.declared.document.Share.{Share}
use Rattle.lk_model.specs.declared.document.Unit.{Unit}

-- a row with a basic column, in which it is positive
abbrev pub IsBasic : Row → Type 0
IsBasic row = (0 < row.basic) × (pos 0 <ℤ entry row.entries row.basic)

-- a row's quotient in column k, as a multiple of the inverse of l, and what this makes
abbrev pub multiple_of : ℤ → ℕ → Row → ℤ
multiple_of l k row = int_div l (denominator k row) *ℤ numerator k row

abbrev pub made_in_multiple : ℤ → ℕ → Row → List Wide
made_in_multiple l k row = made Product (int_div l (denominator k row)) (numerator k row) ∷ []

-- the multiple times a sign
abbrev pub signed_of : ℤ → ℤ → ℕ → Row → ℤ
signed_of sign l k row = sign *ℤ multiple_of l k row

-- the multiple with l added, and what this makes
abbrev pub sum_with : ℤ → ℕ → Row → ℤ
sum_with l k row = l +ℤ multiple_of l k row

abbrev pub made_in_sum : ℤ → ℕ → Row → List Wide
made_in_sum l k row = made Product (int_div l (denominator k row)) (numerator k row) ∷ made Sum l (multiple_of l k row) ∷ []

-- of numbers beside rows, that of the first row with this basic column, or another number if there is none
abbrev pub placed_at : ℤ → List Row → List ℤ → ℕ → ℤ
placed_at d [] zs c = d
placed_at d (row ∷ rows) [] c = d
placed_at d (row ∷ rows) (z ∷ zs) c = if row.basic == c then z else placed_at d rows zs c

abbrev pub placed : ℤ → ℕ → List Row → List ℤ → List ℤ
placed d m rows zs = map (placed_at d rows zs) (up_to m)

-- the common denominator of column k, and what it makes
abbrev pub common_of : ℕ → List Row → ℤ
common_of k rows = lcm_from (pos 1) (map (denominator k) rows)

abbrev pub made_in_common : ℕ → List Row → List Wide
made_in_common k rows = made_in_lcm (pos 1) (map (denominator k) rows)

-- numbers beside positions
abbrev pub duals_with : List ℕ → List ℤ → List Dual
duals_with ps ys = map (λ (p, y). record { pos = p; y = y }) (zip ps ys)

abbrev pub shares_with : List ℕ → List ℤ → List Share
shares_with ps zs = filter (λ (s : Share). is_nonzero s.z) (map (λ (p, z). record { pos = p; z = z }) (zip ps zs))

-- the duals of rows with the right side in column k, and what they make
abbrev pub duals_in : ℕ → List ℕ → List Row → List Dual
duals_in k ps rows = duals_with ps (placed (common_of k rows) (length ps) rows (map (sum_with (common_of k rows) k) rows))

abbrev pub made_in_duals : ℕ → List Row → List Wide
made_in_duals k rows = made_in_common k rows ++ flat_map (made_in_sum (common_of k rows) k) rows

-- the unit of a variable with its sign and its artificial column k, and what it makes
abbrev pub unit_in : List ℕ → List Row → ℕ → ℤ → ℕ → Unit
unit_in ps rows k sign v = record { var = v; d = common_of k rows; shares = shares_with ps (placed (pos 0) (length ps) rows (map (signed_of sign (common_of k rows) k) rows)) }

abbrev pub made_in_unit : ℕ → List Row → List Wide
made_in_unit k rows = made_in_common k rows ++ flat_map (made_in_multiple (common_of k rows) k) rows

-- the units of all variables, in order, and what they make
abbrev pub units_in : List ℕ → List ℕ → List ℤ → List Row → List Unit
units_in ps vars signs rows = map (λ (j, v). unit_in ps rows (length ps + j) (entry signs j) v) (zip (up_to (length vars)) vars)

abbrev pub made_in_unit_at : ℕ → List Row → ℕ → List Wide
made_in_unit_at m rows j = made_in_unit (m + j) rows

abbrev pub made_in_all : ℕ → ℕ → List Row → List Wide
made_in_all m r rows = flat_map (made_in_unit_at m rows) (up_to r)
