use Rattle.std.proofs.Common.{◌≡◌, None, take}
use Rattle.std.specs.Prelude.{find}
use Rattle.pure_strip.specs.Live.{is_live}
use Rattle.pure_strip.proofs.pairs.first_live.Given as goal

-- none of the positions so far
abbrev pub invariant-loop-p : goal.invariant-loop-p
invariant-loop-p l = find (is_live l.live) (take l.p-index l.positions) ≡ None
