use Rattle.check_pure_matching.proofs.order.sound_count.Goals as goal

pub returns : goal.returns
returns c = c.sound_front.ensures c.args.set.now c.in_ok-set.ensures
