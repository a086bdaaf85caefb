-- Refutations under another budget.
use Rattle.std.proofs.Common.{ℕ, ◌≤◌, List, arith}
use Rattle.lk_model.specs.Formulas.Formula.{Cnf}
use Rattle.lk_model.specs.declared.document.Round.{Round}
use Rattle.part_copy.specs.Found.{IsPartRefuted}

-- a greater budget allows it too
pub more_allowed : {F : Cnf} {part : List ℕ} {less conflicts : ℕ} {r : Round} → less ≤ conflicts → IsPartRefuted F part less r → IsPartRefuted F part conflicts r
more_allowed fewer h = record { refutation = h.refutation; needed = h.needed; most = let most = h.most in omega (arith, fewer, most) }
