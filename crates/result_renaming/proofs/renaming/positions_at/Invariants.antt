use Rattle.std.proofs.Common.{◌≡◌, ◌++◌, map, take, drop}
use Rattle.renaming_laws.specs.Renaming.{nth}
use Rattle.result_renaming.proofs.renaming.positions_at.Given as goal

abbrev pub invariant-loop-place : goal.invariant-loop-place
invariant-loop-place l = l.place-items ≡ map (nth l.part) (take l.place-index l.fn.places) ++ drop l.place-index l.fn.places
