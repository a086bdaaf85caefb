-- How the code counts clauses of a kind, and holds the rows that state their numbers.
use Rattle.std.specs.Prelude.{◌+◌, List, length, count_by, sum_by, ℤ}
use Rattle.std.specs.Int.{from_bool}
use Rattle.lk_model.specs.Lists.{is_empty}
use Rattle.lk_model.specs.Formulas.Literal.{is_tautology}
use Rattle.command_endings.specs.Commands.Report.{is_unit_clause, Row, row}
use Rattle.command_endings.specs.declared.counts.Counts.{Counts}
use Rattle.command_endings.specs.declared.rows.Row.{Row as AnyRow}

-- how many literals these clauses contain together, and how many of them are empty, units and tautologies
abbrev pub counts_of : List (List ℤ) → Counts
counts_of cs = record {
  literals = sum_by length cs;
  empty = count_by is_empty cs;
  units = count_by is_unit_clause cs;
  tautologies = count_by is_tautology cs;
}

-- the counts with one clause more
abbrev pub with_clause : Counts → List ℤ → Counts
with_clause counts c = record {
  literals = counts.literals + length c;
  empty = counts.empty + from_bool (is_empty c);
  units = counts.units + from_bool (is_unit_clause c);
  tautologies = counts.tautologies + from_bool (is_tautology c);
}

-- a row as the code holds it
abbrev pub seen : AnyRow → Row
seen r = row r.word.now r.number
