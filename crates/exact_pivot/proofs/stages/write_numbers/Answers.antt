use Rattle.std.proofs.Common.{◌≡◌, false, length, refl, sym, ◌∙◌}
use Rattle.lk_model.specs.Linear.Arithmetic.{first_wide}
use Rattle.exact_pivot.specs.Staged.{lasts}
use Rattle.exact_pivot.proofs.stages.write_numbers.Goals as goal

pub returns-else-lasts-clause-wide : goal.returns-else-lasts-clause-wide
unfolding first_wide
returns-else-lasts-clause-wide c =
    let over : lasts c.args.clause_count (length c.args.signs.now) c.args.cost.now ≡ false = sym c.lasts.ensures ∙ c.if-lasts.false in
    rw over refl
