-- The checks of a linear document: the stages, a positive dual for each kept clause, and a unit for each variable of the
-- kept ones that is not protected.
use Rattle.std.specs.Prelude.{Bool, true, false, not, if◌then◌else◌, ◌&&◌, ◌||◌, ◌==◌, List, pos, map, int_lt, Option, Some, None}
use Rattle.std.specs.List.{list_any}
use Rattle.std.specs.Option.{option_map_or}
use Rattle.std.specs.Ordering.{int_eq}
use Rattle.lk_model.specs.Lists.{among, is_zero, is_nonzero}
use Rattle.lk_model.specs.Formulas.Formula.{Cnf, positions_of, variables_to, clause_at}
use Rattle.lk_model.specs.Formulas.Crossed.{Variables}
use Rattle.lk_model.specs.Formulas.PureRun.{occurs_outside}
use Rattle.lk_model.specs.Formulas.Assignment.{assignment_of}
use Rattle.lk_model.specs.Formulas.Balance.{balance_in}
use Rattle.lk_model.specs.Formulas.Autarky.{first_sign, first_balance}
use Rattle.lk_model.specs.Documents.Documents.{weighting_of, dual_of, unit_of, duals_at, shares_at}
use Rattle.lk_model.specs.Checks.Check.{Check, fails, line_fails}
use Rattle.lk_model.specs.declared.document.Stage.{Stage}
use Rattle.lk_model.specs.declared.document.Dual.{Dual}
use Rattle.lk_model.specs.declared.document.Share.{Share}
use Rattle.lk_model.specs.declared.document.Unit.{Unit}
use Rattle.lk_model.specs.declared.document.DoneDocument.{DoneDocument}
use Rattle.lk_model.specs.declared.verdict.Kind.TheVariants.{BadSign, BadStage, BadDual, BadBalance, BadUnit}

abbrev pub is_same_value : Option Bool → Option Bool → Bool
is_same_value None None = true
is_same_value (Some true) (Some true) = true
is_same_value (Some false) (Some false) = true
is_same_value _ _ = false

-- the variable has not the sign of the first stage that is not 0 on it, or is set where all are 0
unfoldable pub bad_sign : Cnf → DoneDocument → List Stage → Check
bad_sign F d stages = fails BadSign (variables_to F.vars)
    (λ v. not (is_same_value (assignment_of d.set v) (first_sign (map weighting_of stages) v)))

-- the first stage that is not 0 on at least one variable of the clause has a balance below 0 there
unfoldable pub bad_stage : Cnf → DoneDocument → List Stage → Check
bad_stage F d stages = fails BadStage (positions_of F)
    (λ p. option_map_or (λ b. int_lt b (pos 0)) (first_balance (map weighting_of stages) (clause_at F p)) false)

-- the dual is below 1
unfoldable pub bad_dual : Cnf → DoneDocument → List Dual → Check
bad_dual F d dual = fails BadDual (positions_of F) (λ p. line_fails (among d.kept p) (dual_of dual p) (λ y. int_lt y.y (pos 1)))

-- the balance of all duals in a variable of the kept clauses, outside P, is not 0
unfoldable pub bad_balance : Variables → Cnf → DoneDocument → List Dual → Check
bad_balance P F d dual = fails BadBalance (variables_to F.vars)
    (λ v. occurs_outside P F d.kept v && is_nonzero (balance_in F (duals_at dual) v))

-- d is 0, or a share is of no kept clause, or the balance of the shares in a variable of the kept clauses, outside P, is
-- not d in the variable itself, or not 0 in another one
unfoldable pub bad_unit : Variables → Cnf → DoneDocument → List Unit → Check
bad_unit P F d units = fails BadUnit (variables_to F.vars) (λ v. line_fails (occurs_outside P F d.kept v) (unit_of units v) (λ u.
    is_zero u.d
    || list_any (λ (s : Share). not (among d.kept s.pos)) u.shares
    || list_any (λ w. occurs_outside P F d.kept w && not (int_eq (balance_in F (shares_at u) w) (if w == v then u.d else pos 0))) (variables_to F.vars)))
