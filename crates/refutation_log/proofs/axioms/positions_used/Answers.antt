use Rattle.refutation_log.proofs.axioms.positions_used.Goals as goal

pub returns : goal.returns
returns g c = c.marked_positions.ensures (g.S.Chains.steps c.args.steps.now) c.in_ok-marks.ensures.marks
