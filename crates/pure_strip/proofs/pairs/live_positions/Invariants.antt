use Rattle.std.proofs.Common.{◌≡◌}
use Rattle.std.specs.Prelude.{filter}
use Rattle.lk_model.specs.Lists.{up_to}
use Rattle.pure_strip.specs.Live.{is_live}
use Rattle.pure_strip.proofs.pairs.live_positions.Given as goal

-- the positions so far whose flags are up
abbrev pub invariant-loop-i : goal.invariant-loop-i
invariant-loop-i l = l.kept ≡ filter (is_live l.live) (up_to l.i)
