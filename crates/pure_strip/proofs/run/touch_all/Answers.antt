use Rattle.std.proofs.Common.{length, get_or, refl, arith}
use Rattle.pure_strip.proofs.Steps.{Down-more}
use Rattle.pure_strip.proofs.run.touch_all.Goals as goal

pub loop-p-preserved : goal.loop-p-preserved
loop-p-preserved c =
    let i = c.loop-p.p-index in
    let within = c.requires.within i 0 (omega (arith, c.loop-p-test.true)) in
    record {
      down = Down-more c.args.positions.now i (get_or c.args.positions.now i 0) (length c.args.f.now.clauses) c.args.live.now.items c.loop-p.live.items c.touch.new.live.items
          c.loop-p-test.true refl within.0 within.1 c.requires.counted.size c.loop-p.invariant.down c.touch.ensures.down;
      counted = c.in_ok-touch.ensures.counted;
    }
