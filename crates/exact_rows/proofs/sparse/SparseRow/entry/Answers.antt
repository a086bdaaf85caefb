use Rattle.std.proofs.Common.{◌∙◌, ap}
use Rattle.std.specs.Int.RustNames.{FitsSigned}
use mir.Syntax.{w128}
use Rattle.std.proofs.lemmas.Int.{to_z-of_z}
use Rattle.lk_model.specs.Linear.Rows.{entry}
use Rattle.exact_rows.specs.Sparse.{value_in_column}
use Rattle.exact_rows.proofs.Entries.{number_is}
use Rattle.exact_rows.proofs.sparse.SparseRow.entry.Goals as goal

pub returns-clause-value : goal.returns-clause-value
returns-clause-value c =
    let z : FitsSigned w128 c.value_in_column.result = record { sfits = c.value_in_column.type_inv } in
    simp to_z-of_z (c.value_in_column.ensures.value ∙ ap (λ es. value_in_column es c.args.k) c.as_slice.ensures.value
    ∙ number_is c.self.inside.columns c.self.inside.kept.items c.args.k c.self.invariant c.requires ∙ ap (λ r. entry r c.args.k) c.self.view_is)
