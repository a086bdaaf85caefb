use Rattle.std.proofs.Common.{arith}
use Rattle.check_tables.proofs.KeptFlags.{kept_bounds, flags_next}
use Rattle.check_tables.proofs.tables.kept_flags.Goals as goal

pub overflow_sub-p : goal.overflow_sub-p
overflow_sub-p c = (kept_bounds c.args.m c.args.kept.now c.loop-p.p-index c.requires c.loop-p-test.true).0

pub index_mut-requires : goal.index_mut-requires
index_mut-requires c =
    let b = kept_bounds c.args.m c.args.kept.now c.loop-p.p-index c.requires c.loop-p-test.true in
    omega (arith, b.0, b.1, c.loop-p.invariant.size, c.loop-p.flags.ok.0)

pub loop-p-preserved : goal.loop-p-preserved
loop-p-preserved c = flags_next c.args.m c.args.kept.now c.loop-p.p-index c.loop-p.flags.items c.requires c.loop-p-test.true c.loop-p.invariant
