-- What is said where a run of `reduce linear` or a search ends without a result.
use Rattle.std.specs.Prelude.{ℕ, List, ◌++◌, codes, decimal}
use Rattle.std.specs.Fmt.{signed_decimal}
use Rattle.lk_model.specs.declared.wide.Op.{Op}
use Rattle.lk_model.specs.declared.wide.Op.TheVariants.{Product, Sum, Difference}
use Rattle.lk_model.specs.declared.wide.Wide.{Wide}

-- the rows are too large, for these numbers of variables and clauses
abbrev pub too_large_line : ℕ → ℕ → List ℕ
too_large_line vars clauses = codes "leank: too large: " ++ decimal vars ++ codes " variables, " ++ decimal clauses ++ codes " clauses\n"

-- one pivot more than these is wanted
abbrev pub budget_line : ℕ → List ℕ
budget_line pivots = codes "leank: budget of " ++ decimal pivots ++ codes " pivots used\n"

abbrev pub op_word : Op → List ℕ
op_word Product = codes "product"
op_word Sum = codes "sum"
op_word Difference = codes "difference"

-- the operation, and its operands in the order in which they are written
abbrev pub operands : Wide → List ℕ
operands w = op_word w.op ++ codes " of " ++ signed_decimal w.left ++ codes " and " ++ signed_decimal w.right

-- a result after `made` pivots has no room
abbrev pub too_wide_line : ℕ → Wide → List ℕ
too_wide_line made wide = codes "leank: too wide after " ++ decimal made ++ codes " pivots: " ++ operands wide ++ codes "\n"

-- this many clauses were learned, and no more may be
abbrev pub conflicts_line : ℕ → List ℕ
conflicts_line conflicts = codes "leank: budget of " ++ decimal conflicts ++ codes " conflicts used\n"
