use Rattle.std.proofs.Common.{refl}
use Rattle.lk_model.specs.Linear.Arithmetic.{first_wide}
use Rattle.exact_pivot.proofs.numbers.Numbers.clear_if.Goals as goal

pub returns-else-wanted-clause-ends : goal.returns-else-wanted-clause-ends
unfolding first_wide
returns-else-wanted-clause-ends c = rw c.if-wanted.false refl
