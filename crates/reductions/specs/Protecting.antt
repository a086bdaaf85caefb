-- A formula with protected variables, as the code holds it.
use Rattle.std.specs.Prelude.{◌≡◌, ℕ, List, Option, option_map}
use Rattle.std.specs.Option.{option_map_or}
use Rattle.lk_model.specs.Formulas.Formula.{Cnf}
use Rattle.lk_model.specs.Formulas.Crossed.{protect_line_of}
use Rattle.document_laws.specs.FoundLaw.{rest_of}
use Rattle.reductions.specs.declared.protect.Protection.{Protection}
use Rattle.reductions.specs.declared.problem.Problem.{Problem}

-- the line of the protected variables, where there is one
abbrev pub line_of : Problem → Option (List ℕ)
line_of p = option_map (λ (q : Protection). q.line) p.protection

-- what is left of the formula without them
abbrev pub left_of : Problem → Cnf
left_of p = option_map_or (λ (q : Protection). q.left) p.protection p.formula

-- the formula, in which those of the listed numbers are protected that are variables of it
pub record IsProblem (F : Cnf) (listed : Option (List ℕ)) (p : Problem) : Type 0 where
  pub formula : p.formula ≡ F
  pub line : line_of p ≡ protect_line_of F listed
  pub left : left_of p ≡ rest_of F (line_of p)
