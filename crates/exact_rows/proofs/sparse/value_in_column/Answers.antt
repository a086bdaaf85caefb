use Rattle.std.proofs.Common.{rules, pos, ℤ, sym, subst, ◌∙◌}
use Rattle.std.specs.Int.RustNames.{FitsSigned}
use mir.Syntax.{w128}
use Rattle.exact_rows.specs.Sparse.{value_in_column}
use Rattle.std.proofs.lemmas.Int.{to_z-of_z}
use Rattle.std.proofs.lemmas.List.Sorted.{answers_always}
use Rattle.exact_rows.specs.declared.sparse.Entry.{Entry}
use Rattle.exact_rows.proofs.Searches.{number_found, number_not_found}
use Rattle.exact_rows.proofs.Entries.{number_in_range}
use Rattle.exact_rows.proofs.Wides.{fits_in_range}
use Rattle.exact_rows.proofs.sparse.value_in_column.Goals as goal

abbrev none : Entry
none = record { column = 0; value = pos 0 }

pub returns-in-Ok-clause-value : goal.returns-in-Ok-clause-value
returns-in-Ok-clause-value c =
    let by_column = c.binary_search_by_key.ensures.position (λ (e : Entry). e.column) (answers_always _ _ _ (λ f a r g called. search rules)) in
    let value = number_found c.requires.0 c.args.entries.now c.args.column c.in-Ok.at none c.requires.1.rise (search rules) (rw c.in-Ok.is at by_column) in
    let fits = fits_in_range (value_in_column c.args.entries.now c.args.column) (number_in_range c.args.entries.now c.args.column c.requires.1.each) in
    to_z-of_z w128 _ (subst (λ (z : ℤ). FitsSigned w128 z) (sym value) fits) ∙ value

pub returns-in-Err-clause-value : goal.returns-in-Err-clause-value
returns-in-Err-clause-value c =
    let by_column = c.binary_search_by_key.ensures.position (λ (e : Entry). e.column) (answers_always _ _ _ (λ f a r g called. search rules)) in
    number_not_found c.requires.0 c.args.entries.now c.args.column _ none c.requires.1.rise (rw c.in-Err.is at (c.binary_search_by_key.ensures.bound)) (rw c.in-Err.is at by_column)
