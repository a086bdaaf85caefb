use Rattle.std.proofs.Common.{arith, refl}
use Rattle.check_tables.proofs.Spans.{cut_more}
use Rattle.check_tables.proofs.places.cut.Goals as goal

pub loop-done-preserved : goal.loop-done-preserved
loop-done-preserved c = record {
  within = omega (arith, c.min-count.ensures, c.loop-done-test.true);
  cut = rw c.in_ok-push.ensures.items (cut_more 1 c.loop-done.done c.args.n c.min-count.result c.loop-done.spans.items _ c.loop-done.invariant.cut refl refl);
}
