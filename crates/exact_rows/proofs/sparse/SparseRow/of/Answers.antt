use Rattle.std.proofs.Common.{◌∙◌, ap, subst, sym, length}
use Rattle.exact_rows.specs.Sparse.{AreEntries, row_of}
use Rattle.exact_rows.proofs.Entries.{are_entries, row_of_entries}
use Rattle.exact_rows.proofs.sparse.SparseRow.of.Goals as goal

pub with_entries-requires : goal.with_entries-requires
with_entries-requires c = subst (AreEntries (length c.args.row.now)) (sym c.in_ok-entries_of.ensures) (are_entries c.args.row.now c.requires)

pub returns : goal.returns
returns c = c.with_entries.ensures ∙ ap (row_of (length c.args.row.now)) c.in_ok-entries_of.ensures ∙ row_of_entries c.args.row.now
