use Rattle.std.proofs.Common.{◌≡◌}
use Rattle.std.specs.Prelude.{filter}
use Rattle.lk_model.specs.Formulas.Formula.{positions_of}
use Rattle.pure_strip.specs.Live.{is_live}
use Rattle.pure_strip.proofs.PairLemmas.{pairs_to}
use Rattle.pure_strip.proofs.pairs.pairs_of.Given as goal

-- the pairs of the variables so far
abbrev pub invariant-loop-i : goal.invariant-loop-i
invariant-loop-i l = l.pairs ≡ pairs_to l.f (filter (is_live l.live) (positions_of l.f)) l.i
