-- What the matching reducer finds in a copy, in the formula's numbers.
use Rattle.std.specs.Prelude.{ℕ, List, map}
use Rattle.lk_model.specs.declared.document.Own.{Own}
use Rattle.lk_model.specs.declared.document.MatchRow.{MatchRow}
use Rattle.lk_model.specs.declared.result.MatchingResult.{MatchingResult}
use Rattle.renaming_laws.specs.Renaming.{nth}

abbrev pub renamed_own : List ℕ → List ℕ → Own → Own
renamed_own part names o = record { pos = nth part o.pos; var = nth names o.var }

-- the rank is no position and no variable
abbrev pub renamed_row : List ℕ → List ℕ → MatchRow → MatchRow
renamed_row part names w = record { var = nth names w.var; own = nth part w.own; escape = nth part w.escape; rank = w.rank }

abbrev pub renamed_matching : List ℕ → List ℕ → MatchingResult → MatchingResult
renamed_matching part names r = record {
  kept = map (nth part) r.kept;
  own = map (renamed_own part names) r.own;
  rows = map (renamed_row part names) r.rows;
}
