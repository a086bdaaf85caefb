use Rattle.std.proofs.Common.{◌≤◌, ◌+◌, get_or, arith}
use Rattle.lk_model.specs.Held.Flat.{begin_of}
use Rattle.occurrence_lists.proofs.Parts.{cut_two}
use Rattle.occurrence_lists.proofs.lists.two_lists_at.Goals as goal

pub returns : goal.returns
returns c =
    let ends = c.args.ends.now in
    let low : begin_of 0 ends c.args.k ≤ get_or ends c.args.k 0 = omega (arith, c.begin_at-begin.ensures.order, c.begin_at-begin.ensures.value) in
    let high : get_or ends c.args.k 0 ≤ get_or ends (c.args.k + 1) 0 = omega (arith, c.next_end-end.ensures.order, c.next_end-end.ensures.value) in
    rw (c.begin_at-begin.ensures.value, c.next_end-end.ensures.value) (cut_two c.args.positions.now ends c.args.k c.requires.ends c.requires.place low high)
