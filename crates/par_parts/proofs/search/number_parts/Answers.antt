use Rattle.std.proofs.Common.{arith}
use Rattle.par_parts.specs.Numbering.{found_of}
use Rattle.par_parts.proofs.Numbers.{labels_are}
use Rattle.par_parts.proofs.Occurring.{have_positions}
use Rattle.par_parts.proofs.search.number_parts.Goals as goal

pub pass_position-requires-clause-lists : goal.pass_position-requires-clause-lists
pass_position-requires-clause-lists c = have_positions c.args.f.now c.args.lists.now c.len-p-end.ensures.formula c.requires

pub returns-clause-labels : goal.returns-clause-labels
returns-clause-labels c =
    let end = c.loop-p-test.false in
    let len = c.len-p-end.ensures.value in
    labels_are c.args.f.now (found_of c.loop-p.search) c.loop-p.p (omega (arith, end, len)) c.loop-p.invariant
