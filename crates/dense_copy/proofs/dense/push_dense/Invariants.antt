use Rattle.std.proofs.Common.{◌≡◌, true, length, map, take}
use Rattle.std.specs.List.{list_all}
use Rattle.lk_model.specs.Formulas.Literal.{is_literal}
use Rattle.renaming_laws.specs.Renaming.{named}
use Rattle.dense_copy.proofs.dense.push_dense.Given as goal

abbrev pub invariant-loop-l : goal.invariant-loop-l
invariant-loop-l l = record {
  literals : list_all (is_literal (length l.names)) l.dense.items ≡ true;
  clause : map (named l.names) l.dense.items ≡ take l.l-index l.clause;
}
