use Rattle.std.proofs.Common.{◌≡◌, drop}
use Rattle.lk_outside.specs.ShelfState.{bytes_under}
use Rattle.lk_outside.proofs.files.place_of.Given as goal

-- no text before this one has the name
abbrev pub invariant-loop-file : goal.invariant-loop-file
invariant-loop-file l = bytes_under l.files l.name ≡ bytes_under (drop l.file l.files) l.name
