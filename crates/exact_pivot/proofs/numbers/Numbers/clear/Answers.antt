use Rattle.std.proofs.Common.{◌≡◌, pos, refl, arith}
use Rattle.std.proofs.lemmas.Int.{ints}
use Rattle.lk_model.specs.Linear.Arithmetic.{first_wide}
use Rattle.lk_model.specs.Linear.Rows.{entry}
use Rattle.exact_pivot.proofs.numbers.Numbers.clear.Goals as goal

pub returns-then-here-eq0-clause-ends : goal.returns-then-here-eq0-clause-ends
unfolding first_wide
returns-then-here-eq0-clause-ends c =
    let none : entry c.args.self.now c.args.k ≡ pos 0 = omega (arith, ints, c.entry-here.ensures.value, c.if-here-eq0.true, c.entry-here.type_inv) in
    rw none refl
