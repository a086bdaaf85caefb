use Rattle.std.proofs.Common.{List, ℤ, int_lt, pos, length, refl, ap, subst, ◌∙◌}
use Rattle.exact_rows.specs.Sparse.{AreEntries, entries_of}
use Rattle.exact_pivot.proofs.FirstColumns.{first_found}
use Rattle.exact_pivot.proofs.numbers.Numbers.first_negative.Goals as goal

pub returns : goal.returns
returns c =
    let same = c.entries.ensures.value ∙ ap entries_of c.self.view_is in
    let kept = subst (λ (row : List ℤ). AreEntries (length row) c.entries.result.now) c.self.view_is c.entries.ensures.kept in
    c.within.ensures ∙ first_found (λ x. int_lt x (pos 0)) refl c.args.self.now c.entries.result.now c.args.last c.first_negative.result same kept c.first_negative.ensures
