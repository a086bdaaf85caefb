use Rattle.std.proofs.Common.{◌≡◌, [], find, refl, sym, ap, ◌∙◌, rules}
use Rattle.lk_model.specs.Lists.{up_to, is_nonzero}
use Rattle.lk_model.specs.Linear.Rows.{Row, entry}
use Rattle.exact_pivot.specs.Staged.{row_in}
use Rattle.exact_pivot.proofs.FirstColumns.{none_found}
use Rattle.exact_pivot.proofs.stages.first_nonzero_of.Goals as goal

pub returns-in-None : goal.returns-in-None
returns-in-None c =
    let gone : row_in c.args.rows.now c.args.i ≡ record { entries = []; basic = 0 } = search rules in
    none_found is_nonzero c.args.last refl ∙ ap (λ (row : Row). find (λ k. is_nonzero (entry row.entries k)) (up_to c.args.last)) (sym gone)
