use Rattle.std.proofs.Common.{◌≡◌, ◌∙◌, ◌<◌, ◌≤◌, ap, arith, FitsSigned, w32, ℤ, pos, negsuc}
use Rattle.std.proofs.lemmas.Int.{to_z-of_z}
use Rattle.lk_model.specs.Formulas.Literal.{variable}
use Rattle.lk_model.specs.Limits.{max_vars}
use Rattle.lk_model.proofs.Ranks.{literal_bounds}
use Rattle.lk_model.proofs.lit.Lit.var.Goals as goal

-- as a 32-bit number it is itself
small_fits : (l : ℤ) → variable l ≤ 1000000 → FitsSigned w32 l
small_fits (pos v) h = record { sfits = omega (arith, h) }
small_fits (negsuc k) h = record { sfits = omega (arith, h) }

bounds : (c : goal.After-unsigned_abs) → (0 < c.unsigned_abs.result) × (c.unsigned_abs.result ≤ max_vars)
bounds c =
    let l = c.self.inside.number in
    let literal = literal_bounds max_vars l c.self.invariant in
    let value : c.unsigned_abs.result ≡ variable l = c.unsigned_abs.ensures.value ∙ ap variable (to_z-of_z w32 l (small_fits l literal.1)) in
    (omega (arith, value, literal.0), omega (arith, value, literal.1))

pub returns-clause-least : goal.returns-clause-least
returns-clause-least c = (bounds c).0

pub returns-clause-greatest : goal.returns-clause-greatest
returns-clause-greatest c = (bounds c).1
