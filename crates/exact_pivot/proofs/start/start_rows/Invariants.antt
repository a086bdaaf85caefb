use Rattle.std.proofs.Common.{◌≡◌, length, map, take, zip}
use Rattle.lk_model.specs.Lists.{up_to}
use Rattle.lk_model.specs.Linear.Rows.{sign_of, start_row}
use Rattle.exact_pivot.proofs.start.start_rows.Given as goal

abbrev pub invariant-loop-j : goal.invariant-loop-j
invariant-loop-j l = record {
  signs : l.signs.items ≡ map (sign_of l.f l.kept) (take l.j l.vars);
  rows : l.rows.items ≡ map (start_row l.f l.kept) (take l.j (zip (up_to (length l.vars)) l.vars));
}
