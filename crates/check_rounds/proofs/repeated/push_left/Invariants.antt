use Rattle.std.proofs.Common.{◌≡◌, ◌++◌, take}
use Rattle.lk_model.specs.Formulas.Crossed.{crossed_out}
use Rattle.check_rounds.specs.Blocking.{is_before}
use Rattle.check_rounds.proofs.repeated.push_left.Given as goal

-- the literals so far are appended
abbrev pub invariant-loop-l : goal.invariant-loop-l
invariant-loop-l l = l.literals.items ≡ l.fn.literals.items ++ crossed_out (is_before l.k l.blocks) (take l.l-index l.clause)
