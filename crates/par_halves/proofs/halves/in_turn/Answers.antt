use Rattle.std.proofs.Common.{arith}
use Rattle.par_halves.proofs.HalfResults.{gives_more}
use Rattle.par_halves.proofs.halves.in_turn.Goals as goal

pub loop-k-preserved : goal.loop-k-preserved
loop-k-preserved g c =
    let xs = c.args.items.now in
    let k = c.loop-k.k in
    rw c.in_ok-push.ensures.items
    (gives_more g.F.Fn c.args.f.now c.args.from xs c.loop-k.answers.items k _ c.f.result (omega arith) c.index-items-k.is (record { met = c.f.ensures }) c.loop-k.invariant)
