-- The numbers of a stage, in the words of the rows and the cost row.
use Rattle.std.specs.Prelude.{ℕ, ◌+◌, ◌-◌, Bool, if◌then◌else◌, nat_lt, List, [], ◌∷◌, map, filter, find, zip, ℤ, ◌-ℤ◌, ◌*ℤ◌, Option, unwrap_or, slice_index_or}
use Rattle.std.specs.List.{flat_map}
use Rattle.lk_model.specs.Lists.{up_to, is_nonzero}
use Rattle.lk_model.specs.Linear.Arithmetic.{made}
use Rattle.lk_model.specs.Linear.Rows.{Row, entry}
use Rattle.lk_model.specs.declared.wide.Op.TheVariants.{Difference}
use Rattle.lk_model.specs.declared.wide.Wide.{Wide}
use Rattle.lk_model.specs.declared.document.Weight.{Weight}

-- the i-th of some rows, from 1 on, and an empty one past the end
abbrev pub row_in : List Row → ℕ → Row
row_in rows i = slice_index_or rows (i - 1) (record { entries = []; basic = 0 })

-- the first row whose basic column lies behind m
abbrev pub artificial_in : ℕ → ℕ → List Row → Option ℕ
artificial_in m r rows = find (λ i. nat_lt m (row_in rows i).basic) (up_to r)

-- what the j-th variable has in the cost row less the cost unit, and what this makes
abbrev pub difference_at : ℕ → ℕ → List ℤ → ℕ → ℤ
difference_at m r cost j = entry cost (m + j) -ℤ entry cost (m + r + 1)

abbrev pub made_in_difference : ℕ → ℕ → List ℤ → ℕ → List Wide
made_in_difference m r cost j = made Difference (entry cost (m + j)) (entry cost (m + r + 1)) ∷ []

-- what it has in a row, and in the row that can't be pivoted on
abbrev pub number_in_row : ℕ → List Row → ℕ → ℕ → ℤ
number_in_row m rows i j = entry (row_in rows i).entries (m + j)

abbrev pub row_number : ℕ → ℕ → List Row → ℕ → ℤ
row_number m r rows j = number_in_row m rows (unwrap_or (artificial_in m r rows) 0) j

-- the one in the first phase, the other in the second, times the sign of the variable
abbrev pub signed_number : List ℤ → (ℕ → ℤ) → ℕ → ℤ
signed_number signs f j = entry signs j *ℤ f j

abbrev pub stage_numbers : Bool → ℕ → ℕ → List ℤ → List Row → List ℤ → List ℤ
stage_numbers first m r signs rows cost = map (signed_number signs (λ j. if first then difference_at m r cost j else row_number m r rows j)) (up_to r)

abbrev pub made_in_numbers : Bool → ℕ → ℕ → List ℤ → List Wide
made_in_numbers first m r cost = if first then flat_map (made_in_difference m r cost) (up_to r) else []

-- the first phase lasts while the right side of the cost row is not 0
abbrev pub lasts : ℕ → ℕ → List ℤ → Bool
lasts m r cost = is_nonzero (entry cost (m + r + 2))

-- numbers beside variables, without those that are 0
abbrev pub weights_with : List ℕ → List ℤ → List Weight
weights_with vars xs = filter (λ (w : Weight). is_nonzero w.x) (map (λ (v, x). record { var = v; x = x }) (zip vars xs))
