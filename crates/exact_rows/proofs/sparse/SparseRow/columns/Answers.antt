use Rattle.std.proofs.Common.{◌∙◌, sym, ap, length}
use Rattle.std.proofs.lemmas.List.FromFn.{length-map-range_with_len}
use Rattle.exact_rows.specs.Sparse.{value_in_column}
use Rattle.exact_rows.proofs.sparse.SparseRow.columns.Goals as goal

pub returns : goal.returns
returns c = sym (length-map-range_with_len (value_in_column c.self.inside.kept.items) 1 c.self.inside.columns) ∙ ap (λ xs. length xs) c.self.view_is
