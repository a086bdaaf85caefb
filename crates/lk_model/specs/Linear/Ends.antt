-- The numbers of a linear run that ends lean: a dual for each clause, and a unit for each variable.
use Rattle.std.specs.Prelude.{ℕ, ◌==◌, List, [], ◌∷◌, ◌++◌, map, filter, find, zip, ℤ, pos, int_div, ◌+ℤ◌, ◌*ℤ◌, Option}
use Rattle.std.specs.List.{flat_map}
use Rattle.std.specs.Option.{option_map_or}
use Rattle.lk_model.specs.Lists.{up_to, is_nonzero}
use Rattle.lk_model.specs.Linear.Arithmetic.{reduced, made}
use Rattle.lk_model.specs.Linear.Rows.{Row, TableauRows, entry, sign_at, m_of, r_of, artificial, right_column}
use Rattle.lk_model.specs.declared.wide.Op.TheVariants.{Product, Sum}
use Rattle.lk_model.specs.declared.wide.Wide.{Wide}
use Rattle.lk_model.specs.declared.document.Dual.{Dual}
use Rattle.lk_model.specs.declared.document.Share.{Share}
use Rattle.lk_model.specs.declared.document.Unit.{Unit}

-- the quotient of a row's entry in column k by its basic entry, in lowest terms
abbrev pub numerator : ℕ → Row → ℤ
numerator k row = reduced (entry row.entries k) (entry row.entries row.basic)

abbrev pub denominator : ℕ → Row → ℤ
denominator k row = reduced (entry row.entries row.basic) (entry row.entries k)

-- the least common multiple of these, from one on, with the products that it makes
abbrev pub lcm_from : ℤ → List ℤ → ℤ
lcm_from l [] = l
lcm_from l (q ∷ qs) = lcm_from (reduced l q *ℤ q) qs

abbrev pub made_in_lcm : ℤ → List ℤ → List Wide
made_in_lcm l [] = []
made_in_lcm l (q ∷ qs) = made Product (reduced l q) q ∷ made_in_lcm (reduced l q *ℤ q) qs

-- the common denominator of column k, and the row's quotient as a multiple of its inverse
abbrev pub common : TableauRows → ℕ → ℤ
common t k = lcm_from (pos 1) (map (denominator k) t.rows)

abbrev pub factor : TableauRows → ℕ → Row → ℤ
factor t k row = int_div (common t k) (denominator k row)

abbrev pub multiple : TableauRows → ℕ → Row → ℤ
multiple t k row = factor t k row *ℤ numerator k row

-- the row whose basic column is this one
abbrev pub row_with_basic : TableauRows → ℕ → Option Row
row_with_basic t c = find (λ (row : Row). row.basic == c) t.rows

-- at the basic clause of a row the common denominator and the row's multiple, at each other clause the common denominator
abbrev pub dual_number : TableauRows → ℕ → ℤ
dual_number t c = option_map_or (λ row. common t (right_column t) +ℤ multiple t (right_column t) row) (row_with_basic t c) (common t (right_column t))

unfoldable pub dual_at_end : TableauRows → List Dual
dual_at_end t = map (λ (c, p). record { pos = p; y = dual_number t c }) (zip (up_to (m_of t)) t.positions)

-- the share of the clause in column c for the j-th variable
abbrev pub share_number : TableauRows → ℕ → ℕ → ℤ
share_number t j c = option_map_or (λ row. sign_at t j *ℤ multiple t (artificial t j) row) (row_with_basic t c) (pos 0)

abbrev pub shares_of : TableauRows → ℕ → List Share
shares_of t j = filter (λ (s : Share). is_nonzero s.z) (map (λ (c, p). record { pos = p; z = share_number t j c }) (zip (up_to (m_of t)) t.positions))

unfoldable pub units_at_end : TableauRows → List Unit
units_at_end t = map (λ (j, v). record { var = v; d = common t (artificial t j); shares = shares_of t j }) (zip (up_to (r_of t)) t.vars)

-- the results that they make, in order
unfoldable pub made_in_dual : TableauRows → List Wide
made_in_dual t = made_in_lcm (pos 1) (map (denominator (right_column t)) t.rows)
    ++ flat_map (λ (row : Row). made Product (factor t (right_column t) row) (numerator (right_column t) row)
    ∷ made Sum (common t (right_column t)) (multiple t (right_column t) row) ∷ []) t.rows

unfoldable pub made_in_units : TableauRows → List Wide
made_in_units t = flat_map (λ j. made_in_lcm (pos 1) (map (denominator (artificial t j)) t.rows)
    ++ map (λ (row : Row). made Product (factor t (artificial t j) row) (numerator (artificial t j) row)) t.rows) (up_to (r_of t))
