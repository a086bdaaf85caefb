use Rattle.std.proofs.Common.{◌∙◌, sym, ap, subst, length, ℕ}
use Rattle.std.proofs.lemmas.List.FromFn.{length-map-range_with_len}
use Rattle.exact_rows.specs.Sparse.{AreEntries, entries_of, value_in_column}
use Rattle.exact_rows.proofs.Entries.{entries_of_row}
use Rattle.exact_rows.proofs.sparse.SparseRow.entries.Goals as goal

pub returns-clause-value : goal.returns-clause-value
returns-clause-value c = c.as_slice.ensures.value ∙ sym (entries_of_row c.self.inside.columns c.self.inside.kept.items c.self.invariant) ∙ ap entries_of c.self.view_is

pub returns-clause-kept : goal.returns-clause-kept
returns-clause-kept c =
    let size = sym (length-map-range_with_len (value_in_column c.self.inside.kept.items) 1 c.self.inside.columns) ∙ ap (λ xs. length xs) c.self.view_is in
    rw c.as_slice.ensures.value (subst (λ (n : ℕ). AreEntries n c.self.inside.kept.items) size c.self.invariant)
